-- What the claim says of an image, and what is no list of calls on one: an accepted image has a text, a refused one has
-- none; a call that answers what it must not; a record that is not handed on.
use mathlib.Core.List.{List, [], ◌∷◌}
use mathlib.Core.Path.{◌≡◌, refl, ap}
use native.Mathlib.Omega.{arith}
use Prim.Native.Nat.{ℕ}
use lib.IntN.{pos}
use Rattle.model.specs.Block.{Block}
use Rattle.model.specs.Outcome.{accepted}
use Rattle.model.specs.Image.{image, loads}
use Rattle.model.specs.Buffers.{ReadsTo}
use Rattle.model.specs.Evaluation.{held_of, no_answer, leaving, starting, fresh, record_in}
use Rattle.model.specs.declared.Held.{Held}
use Rattle.model.specs.declared.Mark.TheVariants.{Fired}
use Rattle.model.specs.declared.Refusal.TheVariants.{ImageNotAccepted, WrongReading}
use Rattle.model.specs.declared.Reply.{Reply}
use Rattle.model.proofs.Example.{trust}
use Rattle.demand_3.specs.Calls.{Made, evaluated, daily, Trace, CallsHold, Demand3}
use Rattle.demand_3.proofs.Opened.{opened}
use Rattle.demand_3.proofs.Calls.{calling, whole, answer, given, not_given}
use Rattle.demand_3.proofs.Broken.{refusal_number, figure_number}

-- THE IMAGE: the worked example's has a text that reads to it, no bytes at all have none
text_of_accepted : Demand3 (image trust) → (s : List ℕ) × ReadsTo s (image trust)
unfolding opened
text_of_accepted d = d.passes.0 refl

no_text_of_refused : Demand3 [] → (s : List ℕ) → ReadsTo s [] → ⊥
unfolding opened
no_text_of_refused d s r = let z : ◌≡◌ {A = ℕ} 11 0 = ap refusal_number (d.passes.1 (s, r)) in omega (arith, z)

-- EVERY LIST OF CALLS on it from its fresh record on
each_list : (img : List ℕ) → Demand3 img → (b : Block) → loads img ≡ accepted b → (ms : List Made) → Trace img (record_in (fresh img)) ms
    → CallsHold b (record_in (fresh img)) (starting b) ms
each_list img d = d.calls

-- LISTS OF CALLS on no bytes at all: each call is refused by 11 and leaves the record
abbrev valued : Reply → Held → Made
valued r h = evaluated (calling [] 0) (leaving r h)

abbrev lent : Reply → Held → Made
lent r h = daily (calling [] 0) r h

abbrev not_loaded : Reply
not_loaded = not_given ImageNotAccepted

traced : (h : Held) → Trace [] h (valued not_loaded h ∷ lent not_loaded h ∷ [])
unfolding opened
traced h = (record { verdict = refl; answers = refl; held = refl }, (record { verdict = refl; answers = refl; held = refl }, tt))

accepted_not_traced : (h : Held) → Trace [] h (valued not_loaded h ∷ lent (given no_answer no_answer) h ∷ []) → ⊥
unfolding opened
accepted_not_traced h t = let z : ◌≡◌ {A = ℕ} 0 11 = ap refusal_number t.1.0.verdict in omega (arith, z)

moved_not_traced : Trace [] (held_of (pos 1 ∷ [])) (valued not_loaded (held_of (pos 2 ∷ [])) ∷ []) → ⊥
unfolding opened
moved_not_traced t = let z : ◌≡◌ {A = ℕ} 2 1 = ap (figure_number 0) t.0.held in omega (arith, z)

-- on the worked example's image: sharp 30 answers 25 and leaves it; a call without readings, refused, has to leave it too
abbrev graded : Held → Made
graded h = daily (calling (whole (pos 30) ∷ []) 1) (given (answer Fired (pos 25000) 1000000 0x4039000000000000) no_answer) h

abbrev unread : Held → Made
unread h = daily (calling [] 1) (not_given (WrongReading 0)) h

abbrev of25 : Held
of25 = held_of (pos 25000 ∷ [])

handed_on : Trace (image trust) (held_of []) (graded of25 ∷ unread of25 ∷ [])
unfolding opened
handed_on = (record { verdict = refl; answers = refl; held = refl }, (record { verdict = refl; answers = refl; held = refl }, tt))

lost_not_traced : Trace (image trust) (held_of []) (graded of25 ∷ unread (held_of []) ∷ []) → ⊥
unfolding opened
lost_not_traced t = let z : ◌≡◌ {A = ℕ} 0 25000 = ap (figure_number 0) t.1.0.held in omega (arith, z)

-- a record that is refused by 13 stays so, whatever record the call leaves
wrong_record_not_traced : Trace (image trust) (held_of (pos 1000000001 ∷ [])) (graded of25 ∷ []) → ⊥
unfolding opened
wrong_record_not_traced t = let z : ◌≡◌ {A = ℕ} 0 13 = ap refusal_number t.0.verdict in omega (arith, z)
