-- A text reads to an image exactly when `grillenhelm_read`, given room, tells a host 0 and its length and leaves it at the front of the buffer.
use Rattle.std.specs.Prelude.{if◌then◌else◌}
use mathlib.Core.Path.{◌≡◌, refl, sym, ap, ◌∙◌}
use mathlib.Core.Bool.{Bool, true, false}
use mathlib.Core.List.{List}
use mathlib.Core.Logic.{◌↔◌}
use mathlib.Core.Option.{none, some}
use Prim.Native.Nat.{ℕ, ◌≤◌}
use native.Mathlib.Omega.{arith}
use borrow.Author.Tests.{eqb-false}
use lib.Dec.{ltb, eqb}
use lib.ListN.{length, take}
use Rattle.model.specs.Basic.{all}
use Rattle.model.specs.Bounds.{text_limit}
use Rattle.model.specs.Outcome.{Outcome, accepted, refused, and_then, into, length_in, buffer_after}
use Rattle.model.specs.Reader.{function_block, start, reads}
use Rattle.model.specs.Reader.{outcome_of as parsed}
use Rattle.model.specs.Parse.{Parse}
use Rattle.model.specs.Image.{image}
use Rattle.model.specs.Buffers.{reads_into, ReadsTo}
use Rattle.calls.proofs.Texts.{reads_to_iff}
use Rattle.outcome_crossing.specs.Outcomes.{outcome_of}
use Rattle.outcome_crossing.specs.declared.GrillenhelmOutcome.{GrillenhelmOutcome}

-- no refusal of the reader has the number 0
abbrev Numbered : {A : Type 0} → Outcome A → Type 0
Numbered (accepted a) = Unit {0}
Numbered (refused n p) = n ≡ 0 → ⊥

numbered_then : {A B : Type 0} (o : Outcome A) (f : A → Outcome B) → Numbered o → ((a : A) → Numbered (f a)) → Numbered (and_then o f)
numbered_then (accepted a) f x y = y a
numbered_then (refused n p) f x y = x

numbered_parse : (r : Parse) (t : Bool) → eqb r.why 0 ≡ t → Numbered (if t then accepted r.block else refused r.why (some r.place))
numbered_parse r true e = tt
numbered_parse r false e = eqb-false r.why 0 e

numbered_if : {A : Type 0} (t : Bool) (n : ℕ) (place : ℕ) (o : Outcome A) → (n ≡ 0 → ⊥) → Numbered o → Numbered (if t then refused n (some place) else o)
numbered_if true n place o x y = x
numbered_if false n place o x y = y

numbered_reads : (s : List ℕ) → Numbered (reads s)
unfolding reads
numbered_reads s =
    let r = function_block (start s) in
    numbered_if (ltb text_limit (length s)) 1 0 (parsed r) (λ z. omega (arith, z)) (numbered_parse r (eqb r.why 0) refl)

numbered_into : (room : ℕ) (s : List ℕ) → Numbered (into room s)
unfolding into
numbered_into room s = numbered_if (ltb room (length s)) 10 (length s) (accepted s) (λ z. omega (arith, z)) tt

numbered : (room : ℕ) (s : List ℕ) → Numbered (reads_into room s)
unfolding reads_into
numbered room s = numbered_then (reads s) (λ b. into room (image b)) (numbered_reads s) (λ b. numbered_into room (image b))

-- what a host is told of an outcome: whether bytes were written, and how many
told_iff : (o : Outcome (List ℕ)) (n : ℕ) → Numbered o → length_in o ≡ accepted n ↔ (((outcome_of length o).refusal ≡ 0) × ((outcome_of length o).length ≡ n))
told_iff (accepted s) n k = (λ e. (refl, cc), λ h. ap accepted h.1)
told_iff (refused m none) n k = (λ e. let z : ◌≡◌ {A = ℕ} 0 1 = cc in absurd (omega arith), λ h. absurd (k h.0))
told_iff (refused m (some p)) n k = (λ e. let z : ◌≡◌ {A = ℕ} 0 1 = cc in absurd (omega arith), λ h. absurd (k h.0))

pub host_reads_iff : (s img old : List ℕ) (r : GrillenhelmOutcome) (after : List ℕ)
    → r ≡ outcome_of length (reads_into (length old) s) → after ≡ buffer_after old (reads_into (length old) s)
    → all (λ c. ltb c 256) s ≡ true → length img ≤ length old
    → ReadsTo s img ↔ ((r.refusal ≡ 0) × (r.length ≡ length img) × (take (length img) after ≡ img))
host_reads_iff s img old r after told left bytes enough =
    let o = reads_into (length old) s in
    let reads-to = reads_to_iff s img old bytes enough in
    let number = told_iff o (length img) (numbered (length old) s) in
    let why : r.refusal ≡ (outcome_of length o).refusal = ap (λ (x : GrillenhelmOutcome). x.refusal) told in
    let long : r.length ≡ (outcome_of length o).length = ap (λ (x : GrillenhelmOutcome). x.length) told in
    let front : take (length img) after ≡ take (length img) (buffer_after old o) = ap (λ (l : List ℕ). take (length img) l) left in (
      λ t. let h = reads-to.0 t in let n = number.0 h.0 in (why ∙ n.0, long ∙ n.1, front ∙ h.1),
      λ h. reads-to.1 (number.1 (sym why ∙ h.0, sym long ∙ h.1), sym front ∙ h.2),
    )
