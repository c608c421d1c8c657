-- What ties the claim to the functions: the contract of each, as generated from its text, asks nothing and ensures just the link that a
-- trace is made of, or what `Texts.reads_to_iff` has of a text that reads to an image. A change of a contract breaks this file.
use mathlib.Core.Path.{◌≡◌, refl}
use mathlib.Core.List.{List}
use Prim.Native.Nat.{ℕ}
use seplogic.Ra.Ura.{Ura}
use base.Logic.{SProp, sep}
use base.Fml.{Lft}
use prog.Memory.{Memory}
use prog.Routine.{Routine}
use types.Logic.{Logic}
use contract.Monad.{Fun, fact}
use contract.Notation.{connectives}
use denote.Ref.{Bor}
use denote.MutBor.{MutBor}
use denote.Triple.Clauses.{AtExit}
use lib.ListN.{length}
use Rattle.std.specs.Prelude.{Result}
use Rattle.model.specs.Outcome.{verdict_in, length_in, buffer_after}
use Rattle.model.specs.Refusals.{written_of, verdict_of}
use Rattle.model.specs.Buffers.{reads_into}
use Rattle.model.specs.Image.{loads}
use Rattle.model.specs.Evaluation.{fresh, record_in}
use Rattle.model.specs.declared.Evaluation.{Evaluation}
use Rattle.model.specs.declared.Held.{Held}
use Rattle.model.specs.declared.Reading.{Reading}
use Rattle.model.specs.declared.Reply.{Reply}
use Rattle.model.specs.declared.Refusal.{Refusal}
use Rattle.evaluation.specs.declared.Fresh.{Fresh}
use Rattle.reader.specs.contracts.read as read-text
use Rattle.load.specs.contracts.check as load-check
use Rattle.evaluation.specs.contracts.fresh_of as fresh-of
use Rattle.evaluation.specs.contracts.evaluate as evaluate-by-value
use Rattle.daily.specs.contracts.evaluate_held as evaluate-held
use Rattle.daily.specs.contracts.evaluate_lending as evaluate-lending
use Rattle.demand_3.specs.Calls.{evaluated, daily, Link}

module _ {M : Type 1} {𝓤 : Ura M} (𝓛 : Logic 𝓤) (at_mem : Memory → SProp 𝓤) (run : Routine → Fun 𝓤) (κ : Lft) where
  abbrev AsksNothing : SProp 𝓤 → Type 2
  AsksNothing p = p ≡ (connectives 𝓤).⊤ₛ

  -- `reader::read`: its answer, and the buffer then
  read_tells : (κ' : Lft) (s : Bor (List ℕ)) (out : MutBor (List ℕ)) (r : Result ℕ Refusal) (e : AtExit read-text.ended (κ, (κ', tt)))
      → let c = read-text.clauses 𝓛 at_mem run (κ, (κ', tt)) (s, (out, tt)) in
      let o = reads_into (length out.now) s.now in
      AsksNothing (c.requires tt)
      × (c.ensures tt r e ≡ sep 𝓤 (fact 𝓤 (written_of r ≡ length_in o)) (fact 𝓤 (e.1.0.now ≡ buffer_after out.now o)))
  read_tells κ' s out r e = (refl, refl)

  -- `load::check`: the verdict is that of the load check
  check_tells : (img : Bor (List ℕ)) (r : Result (Unit {0}) Refusal) (e : AtExit load-check.ended (κ, tt))
      → let c = load-check.clauses 𝓛 at_mem run (κ, tt) (img, tt) in
      AsksNothing (c.requires tt) × (c.ensures tt r e ≡ fact 𝓤 (verdict_of r ≡ verdict_in (loads img.now)))
  check_tells img r e = (refl, refl)

  -- `evaluation::fresh_of`: the record that the first call of a trace gets
  fresh_begins : (img : Bor (List ℕ)) (r : Fresh) (e : AtExit fresh-of.ended (κ, tt))
      → let c = fresh-of.clauses 𝓛 at_mem run (κ, tt) (img, tt) in
      AsksNothing (c.requires tt)
      × (c.ensures tt r e ≡ fact 𝓤 ((verdict_of r.verdict ≡ verdict_in (fresh img.now)) × (r.held ≡ record_in (fresh img.now))))
  fresh_begins img r e = (refl, refl)

  -- `evaluation::evaluate`: a link by value
  evaluate_links : (img : Bor (List ℕ)) (rs : List Reading) (n : ℕ) (before : Held) (r : Evaluation) (e : AtExit evaluate-by-value.ended (κ, tt))
      → let c = evaluate-by-value.clauses 𝓛 at_mem run (κ, tt) (img, (rs, (n, (before, tt)))) in
      AsksNothing (c.requires tt)
      × (c.ensures tt r e ≡ fact 𝓤 (Link img.now before (evaluated (record { readings = rs; count = n }) r)))
  evaluate_links img rs n before r e = (refl, refl)

  -- `daily::evaluate_held`: a link with the lent record, as it comes and as it is left
  held_links : (κ' : Lft) (img : Bor (List ℕ)) (rs : List Reading) (n : ℕ) (held : MutBor Held) (r : Reply) (e : AtExit evaluate-held.ended (κ, (κ', tt)))
      → let c = evaluate-held.clauses 𝓛 at_mem run (κ, (κ', tt)) (img, (rs, (n, (held, tt)))) in
      AsksNothing (c.requires tt)
      × (c.ensures tt r e ≡ fact 𝓤 (Link img.now held.now (daily (record { readings = rs; count = n }) r e.1.1.1.0.now)))
  held_links κ' img rs n held r e = (refl, refl)

  -- `daily::evaluate_lending`: a link by value
  lending_links : (img : Bor (List ℕ)) (rs : List Reading) (n : ℕ) (before : Held) (r : Evaluation) (e : AtExit evaluate-lending.ended (κ, tt))
      → let c = evaluate-lending.clauses 𝓛 at_mem run (κ, tt) (img, (rs, (n, (before, tt)))) in
      AsksNothing (c.requires tt)
      × (c.ensures tt r e ≡ fact 𝓤 (Link img.now before (evaluated (record { readings = rs; count = n }) r)))
  lending_links img rs n before r e = (refl, refl)
