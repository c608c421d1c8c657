-- A text reads to an image exactly when the reader, given room, answers its length and leaves it at the front of the buffer.
use Rattle.std.specs.Prelude.{if◌then◌else◌}
use mathlib.Core.Path.{◌≡◌, refl, sym, ap, ◌∙◌, subst}
use mathlib.Core.Bool.{Bool, true, false}
use mathlib.Core.List.{List}
use mathlib.Core.Logic.{◌↔◌}
use mathlib.Core.Option.{Option}
use Prim.Native.Nat.{ℕ, ◌≤◌}
use native.Mathlib.Omega.{arith}
use lib.Dec.{ltb}
use lib.ListN.{length, take, drop}
use lib.Seq.{take_at}
use Rattle.model.specs.Basic.{all}
use Rattle.model.specs.Block.{Block}
use Rattle.model.specs.Outcome.{Outcome, accepted, refused, and_then, into, length_in, buffer_after}
use Rattle.model.specs.Reader.{reads}
use Rattle.model.specs.Image.{image}
use Rattle.model.specs.Buffers.{reads_into, ReadsTo}
use Rattle.laws.proofs.Buffers.{fits}

-- what a caller sees of an outcome o whose bytes went to the front of a buffer: whether they are img
pub front_iff : (old img : List ℕ) (o : Outcome (List ℕ)) → o ≡ accepted img
    ↔ ((length_in o ≡ accepted (length img)) × (take (length img) (buffer_after old o) ≡ img))
front_iff old img o = (λ e. rw e (refl, take_at img (drop (length img) old) (length img) refl), back o)
  where
    back : (o : Outcome (List ℕ)) → (length_in o ≡ accepted (length img)) × (take (length img) (buffer_after old o) ≡ img) → o ≡ accepted img
    back (accepted s) h =
        let long : length s ≡ length img = cc in
        ap accepted (sym (take_at s (drop (length s) old) (length img) long) ∙ h.1)
    back (refused n p) h = let z : ◌≡◌ {A = ℕ} 0 1 = cc in absurd (omega arith)

-- with room for the image, the reader's rules lay it out just where the reader does
pub room_iff : (room : ℕ) (s img : List ℕ) → length img ≤ room
    → and_then (reads s) (λ b. accepted (image b)) ≡ accepted img ↔ reads_into room s ≡ accepted img
unfolding reads_into into
room_iff room s img enough = (forth (reads s), back (reads s))
  where
    forth : (o : Outcome Block) → and_then o (λ b. accepted (image b)) ≡ accepted img → and_then o (λ b. into room (image b)) ≡ accepted img
    forth (accepted b) h =
        let e : image b ≡ img = cc in
        fits (image b) room (subst (λ (i : List ℕ). length i ≤ room) (sym e) enough) ∙ ap accepted e
    forth (refused n p) h = let z : ◌≡◌ {A = ℕ} 0 1 = cc in absurd (omega arith)

    given : (t : Bool) (i : List ℕ) (n : ℕ) (p : Option ℕ) → (if t then refused n p else accepted i) ≡ accepted img → i ≡ img
    given false i n p h = cc
    given true i n p h = let z : ◌≡◌ {A = ℕ} 0 1 = cc in absurd (omega arith)

    back : (o : Outcome Block) → and_then o (λ b. into room (image b)) ≡ accepted img → and_then o (λ b. accepted (image b)) ≡ accepted img
    back (accepted b) h = ap accepted (given (ltb room (length (image b))) (image b) _ _ h)
    back (refused n p) h = let z : ◌≡◌ {A = ℕ} 0 1 = cc in absurd (omega arith)

-- of a text of bytes, by what the reader answered and the buffer then
pub reads_to_iff : (s img old : List ℕ) → all (λ c. ltb c 256) s ≡ true → length img ≤ length old
    → ReadsTo s img
    ↔ ((length_in (reads_into (length old) s) ≡ accepted (length img)) × (take (length img) (buffer_after old (reads_into (length old) s)) ≡ img))
reads_to_iff s img old bytes enough =
    let laid = room_iff (length old) s img enough in
    let seen = front_iff old img (reads_into (length old) s) in
    (λ r. seen.0 (laid.0 r.1), λ h. (bytes, laid.1 (seen.1 h)))
