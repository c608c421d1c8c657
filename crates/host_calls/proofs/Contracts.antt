-- What ties the claim to the functions that are exported: the contract of each, as generated from its text, asks nothing and ensures just what the claim
-- supposes of it. A change of a contract breaks this file.
use mathlib.Core.Path.{◌≡◌, refl}
use mathlib.Core.List.{List}
use Prim.Native.Nat.{ℕ}
use lib.ListN.{length}
use seplogic.Ra.Ura.{Ura}
use base.Logic.{SProp, sep}
use base.Fml.{Lft}
use prog.Memory.{Memory}
use prog.Routine.{Routine}
use types.Logic.{Logic}
use contract.Monad.{Fun, fact}
use contract.Notation.{connectives}
use denote.MutBor.{MutBor}
use denote.Ref.{Bor}
use denote.Triple.Clauses.{AtExit}
use Rattle.model.specs.Outcome.{buffer_after}
use Rattle.model.specs.Image.{loads}
use Rattle.model.specs.Buffers.{reads_into}
use Rattle.model.specs.Evaluation.{fresh}
use Rattle.model.specs.declared.Held.{Held}
use Rattle.outcome_crossing.specs.Outcomes.{outcome_of, bare_outcome}
use Rattle.crossing.specs.Crossing.{fresh_in, leaving}
use Rattle.crossing.specs.declared.GrillenhelmEvaluation.{GrillenhelmEvaluation}
use Rattle.crossing.specs.declared.GrillenhelmFresh.{GrillenhelmFresh}
use Rattle.outcome_crossing.specs.declared.GrillenhelmOutcome.{GrillenhelmOutcome}
use Rattle.call_crossing.specs.declared.GrillenhelmReadings.{GrillenhelmReadings}
use Rattle.crossing.specs.declared.GrillenhelmReply.{GrillenhelmReply}
use Rattle.grillenhelm.specs.contracts.grillenhelm_read as read
use Rattle.grillenhelm.specs.contracts.grillenhelm_check as check
use Rattle.grillenhelm.specs.contracts.grillenhelm_fresh as begin
use Rattle.grillenhelm.specs.contracts.grillenhelm_evaluate as by_value
use Rattle.grillenhelm.specs.contracts.grillenhelm_evaluate_held as lent
use Rattle.host_calls.specs.HostCalls.{HostLink}

module _ {M : Type 1} {𝓤 : Ura M} (𝓛 : Logic 𝓤) (at_mem : Memory → SProp 𝓤) (run : Routine → Fun 𝓤) (κ : Lft) where
  abbrev AsksNothing : SProp 𝓤 → Type 2
  AsksNothing p = p ≡ (connectives 𝓤).⊤ₛ

  -- `grillenhelm_read`: what `Texts.host_reads_iff` has of a text that reads to an image
  read_tells : (κ' : Lft) (text : Bor (List ℕ)) (image : MutBor (List ℕ)) (r : GrillenhelmOutcome) (e : AtExit read.ended (κ, (κ', tt)))
      → let c = read.clauses 𝓛 at_mem run (κ, (κ', tt)) (text, (image, tt)) in
      let o = reads_into (length image.now) text.now in
      AsksNothing (c.requires tt)
      × (c.ensures tt r e ≡ sep 𝓤 (fact 𝓤 (r ≡ outcome_of length o)) (fact 𝓤 (e.1.0.now ≡ buffer_after image.now o)))
  read_tells κ' text image r e = (refl, refl)

  check_tells : (image : Bor (List ℕ)) (r : GrillenhelmOutcome) (e : AtExit check.ended (κ, tt))
      → let c = check.clauses 𝓛 at_mem run (κ, tt) (image, tt) in
      AsksNothing (c.requires tt) × (c.ensures tt r e ≡ fact 𝓤 (r ≡ bare_outcome (loads image.now)))
  check_tells image r e = (refl, refl)

  fresh_begins : (image : Bor (List ℕ)) (r : GrillenhelmFresh) (e : AtExit begin.ended (κ, tt))
      → let c = begin.clauses 𝓛 at_mem run (κ, tt) (image, tt) in
      AsksNothing (c.requires tt) × (c.ensures tt r e ≡ fact 𝓤 (r ≡ fresh_in (fresh image.now)))
  fresh_begins image r e = (refl, refl)

  evaluate_links : (image : Bor (List ℕ)) (rs : GrillenhelmReadings) (held : Held) (r : GrillenhelmEvaluation) (e : AtExit by_value.ended (κ, tt))
      → let c = by_value.clauses 𝓛 at_mem run (κ, tt) (image, (rs, (held, tt))) in
      AsksNothing (c.requires tt) × (c.ensures tt r e ≡ fact 𝓤 (HostLink image.now held rs r))
  evaluate_links image rs held r e = (refl, refl)

  held_links : (κ' : Lft) (image : Bor (List ℕ)) (rs : GrillenhelmReadings) (held : MutBor Held) (r : GrillenhelmReply) (e : AtExit lent.ended (κ, (κ', tt)))
      → let c = lent.clauses 𝓛 at_mem run (κ, (κ', tt)) (image, (rs, (held, tt))) in
      AsksNothing (c.requires tt) × (c.ensures tt r e ≡ fact 𝓤 (HostLink image.now held.now rs (leaving r e.1.1.0.now)))
  held_links κ' image rs held r e = (refl, refl)
