-- What ties the claim to the functions: the contract of each, as generated from its text, asks nothing and ensures just the link that a
-- trace is made of. A change of a contract breaks this file.
use mathlib.Core.Path.{◌≡◌, refl}
use mathlib.Core.List.{List}
use Prim.Native.Nat.{ℕ}
use seplogic.Ra.Ura.{Ura}
use base.Logic.{SProp}
use base.Fml.{Lft}
use prog.Memory.{Memory}
use prog.Routine.{Routine}
use types.Logic.{Logic}
use contract.Monad.{Fun, fact}
use contract.Notation.{connectives}
use denote.Ref.{Bor, MutBor}
use denote.Triple.Clauses.{AtExit}
use lib.ListN.{length}
use Rattle.std.specs.Prelude.{Result}
use Rattle.model.specs.Outcome.{length_in, buffer_after}
use Rattle.model.specs.Refusals.{written_of}
use Rattle.model.specs.Buffers.{reads_into}
use Rattle.model.specs.Chunks.{appended, finished, Link}
use Rattle.model.specs.declared.Refusal.{Refusal}
use Rattle.reader.specs.contracts.read as read
use Rattle.chunk_store.specs.contracts.append as append
use Rattle.chunked_text.specs.contracts.finish as finish

module _ {M : Type 1} {𝓤 : Ura M} (𝓛 : Logic 𝓤) (at_mem : Memory → SProp 𝓤) (run : Routine → Fun 𝓤) (κ κ' κ'' : Lft) where
  abbrev AsksNothing : SProp 𝓤 → Type 2
  AsksNothing p = p ≡ (connectives 𝓤).⊤ₛ

  -- `chunk_store::append`: a link with the lent store and number, as they come and as they are left
  append_links : (d : Bor (List ℕ)) (store : MutBor (List ℕ)) (count : MutBor ℕ) (r : Result (Unit {0}) Refusal) (e : AtExit append.ended (κ, (κ', (κ'', tt))))
      → let c = append.clauses 𝓛 at_mem run (κ, (κ', (κ'', tt))) (d, (store, (count, tt))) in
      AsksNothing (c.requires tt)
      × (c.ensures tt r e ≡ fact 𝓤 (Link (record { store = store.now; count = count.now })
      (appended d.now r (record { store = e.1.0.now; count = e.1.1.0.now }))))
  append_links d store count r e = (refl, refl)

  -- `chunked_text::finish`: the store is lent to be read only
  finish_links : (store : Bor (List ℕ)) (count : MutBor ℕ) (out : MutBor (List ℕ)) (r : Result ℕ Refusal) (e : AtExit finish.ended (κ, (κ', (κ'', tt))))
      → let c = finish.clauses 𝓛 at_mem run (κ, (κ', (κ'', tt))) (store, (count, (out, tt))) in
      AsksNothing (c.requires tt)
      × (c.ensures tt r e ≡ fact 𝓤 (Link (record { store = store.now; count = count.now })
      (finished out.now r e.1.1.0.now (record { store = store.now; count = e.1.0.now }))))
  finish_links store count out r e = (refl, refl)

  -- `reader::read`: what reading at once is, to which the claim holds the end
  reads_at_once : (s : Bor (List ℕ)) (out : MutBor (List ℕ)) (r : Result ℕ Refusal) (e : AtExit read.ended (κ, (κ', tt)))
      → let c = read.clauses 𝓛 at_mem run (κ, (κ', tt)) (s, (out, tt)) in
      let o = reads_into (length out.now) s.now in
      AsksNothing (c.requires tt)
      × (c.ensures tt r e ≡ (connectives 𝓤).◌∗◌ (fact 𝓤 (written_of r ≡ length_in o)) (fact 𝓤 (e.1.0.now ≡ buffer_after out.now o)))
  reads_at_once s out r e = (refl, refl)
