-- What the claim rules out: for each of its sentences a list of calls, or a block, that breaks it.
use mathlib.Core.Bool.{Bool, true, false}
use mathlib.Core.List.{List, [], ◌∷◌, map}
use mathlib.Core.Option.{Option, none, some}
use mathlib.Core.Path.{◌≡◌, refl, ap}
use native.Mathlib.Omega.{arith}
use Prim.Native.Nat.{ℕ, ◌≤◌}
use lib.IntN.{ℤ, pos, negsuc, nat_abs}
use lib.ListN.{get_or}
use Rattle.std.specs.Prelude.{Err}
use Rattle.model.specs.Bounds.{M}
use Rattle.model.specs.Block.{or, Condition, term, neg, two, Rule, Block, with_inputs, with_accu, with_rules}
use Rattle.model.specs.Outcome.{Outcome, accepted, refused}
use Rattle.model.specs.Evaluation.{no_answer, padded, starting, fresh_of}
use Rattle.model.specs.declared.InputType.TheVariants.{Int as int}
use Rattle.model.specs.declared.Accumulation.TheVariants.{Max as by-max}
use Rattle.model.specs.declared.Answer.{Answer}
use Rattle.model.specs.declared.Held.{Held}
use Rattle.model.specs.declared.Mark.{Mark}
use Rattle.model.specs.declared.Mark.TheVariants.{None, Fired, Default, Held as HeldMark}
use Rattle.model.specs.declared.Reading.TheVariants.{Int}
use Rattle.model.specs.declared.Refusal.TheVariants.{WrongCount, WrongReading}
use Rattle.model.specs.declared.Reply.{Reply}
use Rattle.demand_3.specs.Calls.{Made, CallsHold}
use Rattle.demand_3.proofs.Opened.{opened}
use Rattle.demand_3.proofs.Calls.{block, whole, answer, given, not_given, lent}

-- the claim of a list of calls on a block from its fresh record on
abbrev ClaimedOf : Block → List Made → Type 0
ClaimedOf b ms = CallsHold b (fresh_of b) (starting b) ms

abbrev Claimed : List Made → Type 0
Claimed ms = ClaimedOf block ms

-- as numbers, which differ where the things do
abbrev bool_number : Bool → ℕ
bool_number true = 1
bool_number false = 0

abbrev mark_number : Mark → ℕ
mark_number None = 0
mark_number Fired = 1
mark_number Default = 2
mark_number HeldMark = 3

abbrev pub refusal_number : Outcome (Unit {0}) → ℕ
refusal_number (accepted a) = 0
refusal_number (refused n p) = n

abbrev place_number : Outcome (Unit {0}) → ℕ
place_number (accepted a) = 0
place_number (refused n none) = 0
place_number (refused n (some p)) = p

abbrev default_number : Option ℤ → ℕ
default_number none = 0
default_number (some x) = nat_abs x

abbrev pub figure_number : ℕ → Held → ℕ
figure_number i h = get_or (map (λ c. nat_abs c.0) h.figures) i 0

-- of the first call's first answer
abbrev first_sum : List (List Answer) → ℕ
first_sum given = (get_or (get_or given 0 []) 0 no_answer).sum

-- nothing fires: y is to hold 10, z is to answer its default -3
abbrev idle : Reply → ℤ → ℤ → Made
idle r x y = lent (whole (pos 0) ∷ Int (negsuc 4) ∷ []) 2 r x y

-- both are to fire: y between 10 and 20, z at -4.5
abbrev busy : Reply → ℤ → ℤ → Made
busy r x y = lent (whole (pos 1) ∷ Int (pos 2) ∷ []) 2 r x y

abbrev holding : Answer
holding = answer HeldMark (pos 10000) 0 0x4024000000000000

abbrev defaulting : Answer
defaulting = answer Default (negsuc 2999) 0 0xc008000000000000

abbrev firing : Answer
firing = answer Fired (negsuc 4499) 500000 0xc012000000000000

-- ACCEPTED EXACTLY WHEN RIGHT
right_not_refused : Claimed (idle (not_given WrongCount) (pos 10000) (negsuc 1999) ∷ []) → ⊥
unfolding opened
right_not_refused h = let z : ◌≡◌ {A = ℕ} 0 1 = ap bool_number h.accepted_right.0 in omega (arith, z)

wrong_not_accepted : Claimed (lent (whole (pos 0) ∷ Int (negsuc 4) ∷ []) 1 (given holding defaulting) (pos 10000) (negsuc 2999) ∷ []) → ⊥
unfolding opened
wrong_not_accepted h = let z : ◌≡◌ {A = ℕ} 1 0 = ap bool_number h.accepted_right.0 in omega (arith, z)

-- REFUSED BY 12, OR BY 14 AT THE FIRST WRONG ONE
number_not_other : Claimed (lent (whole (pos 0) ∷ Int (negsuc 4) ∷ []) 1 (not_given (WrongReading 0)) (pos 10000) (negsuc 1999) ∷ []) → ⊥
unfolding opened
number_not_other h = let z : ◌≡◌ {A = ℕ} 14 12 = ap refusal_number h.verdicts.0 in omega (arith, z)

place_not_other : Claimed (lent (Int (pos 1) ∷ whole (pos 0) ∷ []) 2 (not_given (WrongReading 1)) (pos 10000) (negsuc 1999) ∷ []) → ⊥
unfolding opened
place_not_other h = let z : ◌≡◌ {A = ℕ} 1 0 = ap place_number h.verdicts.0 in omega (arith, z)

-- DEGREES BETWEEN 0 AND 1
-- a block whose one input, an INT, has a point of a millionth above 1, and whose one rule is r
abbrev pointed : Rule → Block
pointed r =
    with_inputs (λ vs. record { name = []; type = int; terms = record { name = []; points = record { at = pos 0; degree = 1000001 } ∷ [] } ∷ [] } ∷ [])
    (with_rules (λ rs. r ∷ []) (with_accu by-max block))

-- concluding its first output term
abbrev ruled : Condition → ℕ → Rule
ruled c w = record { number = 1; condition = c; conclusions = record { output = 0; term = 1 } ∷ []; weight = w }

too_high : 1000001 ≤ 1000000 → ⊥
too_high z = omega (arith, z)

point_not_above : ClaimedOf (pointed (ruled (term 0) M)) [] → ⊥
unfolding opened
point_not_above h = too_high h.block_degrees.0

-- behind the six points of the inputs and the three singletons
weight_not_above : ClaimedOf (with_rules (λ rs. ruled (term 0) 1000001 ∷ []) block) [] → ⊥
unfolding opened
weight_not_above h = too_high h.block_degrees.1.1.1.1.1.1.1.1.1.0

-- one accepted call on such a block
abbrev called : List Made
called = lent (Int (pos 0) ∷ []) 1 (given no_answer no_answer) (pos 0) (pos 0) ∷ []

-- of the input term, the condition, the rule, the subconclusion and the height
module _ (h : ClaimedOf (pointed (ruled (term 0) M)) called) where
  term_not_above : ⊥
  unfolding opened
  term_not_above = too_high (h.call_degrees.0 refl).0

  condition_not_above : ⊥
  unfolding opened
  condition_not_above = too_high (h.call_degrees.0 refl).1.0

  rule_not_above : ⊥
  unfolding opened
  rule_not_above = too_high (h.call_degrees.0 refl).1.1.0

  subconclusion_not_above : ⊥
  unfolding opened
  subconclusion_not_above = too_high (h.call_degrees.0 refl).1.1.1.0

  height_not_above : ⊥
  unfolding opened
  height_not_above = too_high (h.call_degrees.0 refl).1.1.1.1.0

-- NOT (NOT t OR t): behind the first NOT, behind the second, and on the right of OR
module _ (h : ClaimedOf (pointed (ruled (neg (two or (neg (term 0)) (term 0))) M)) called) where
  negated_not_above : ⊥
  unfolding opened
  negated_not_above = too_high (h.call_degrees.0 refl).1.1.0

  left_not_above : ⊥
  unfolding opened
  left_not_above = too_high (h.call_degrees.0 refl).1.1.1.1.0

  right_not_above : ⊥
  unfolding opened
  right_not_above = too_high (h.call_degrees.0 refl).1.1.1.1.1.0

-- THE DEFINED ANSWERS
-- the mark and the figure are right, the sum of the heights is not
sum_not_other : Claimed (busy (given (answer Fired (pos 13333) 1500001 0x402aaa7ef9db22d1) firing) (pos 13333) (negsuc 4499) ∷ []) → ⊥
unfolding opened
sum_not_other h = let z : ◌≡◌ {A = ℕ} 1500001 1500000 = ap first_sum h.answers_defined in omega (arith, z)

abbrev refused_answering : Reply
refused_answering = record { verdict = Err WrongCount; answers = padded no_answer (firing ∷ []) }

refused_not_answered : Claimed (lent (whole (pos 0) ∷ Int (negsuc 4) ∷ []) 1 refused_answering (pos 10000) (negsuc 1999) ∷ []) → ⊥
unfolding opened
refused_not_answered h = let z : ◌≡◌ {A = ℕ} 500000 0 = ap first_sum h.answers_defined in omega (arith, z)

-- MARKS
none_not_marked : Claimed (idle (given no_answer defaulting) (pos 10000) (negsuc 2999) ∷ []) → ⊥
unfolding opened
none_not_marked h = let z : ◌≡◌ {A = ℕ} 0 1 = ap bool_number h.marked.0 in omega (arith, z)

raised_not_default : Claimed (busy (given (answer Default (pos 13333) 0 0) firing) (pos 13333) (negsuc 4499) ∷ []) → ⊥
unfolding opened
raised_not_default h = let z : ◌≡◌ {A = ℕ} 2 1 = ap mark_number (h.fired_raised.0.1 refl) in omega (arith, z)

none_raised_not_fired : Claimed (idle (given (answer Fired (pos 10000) 0 0) defaulting) (pos 10000) (negsuc 2999) ∷ []) → ⊥
unfolding opened
none_raised_not_fired h = let z : ◌≡◌ {A = ℕ} 1 0 = ap bool_number (h.fired_raised.0.0 refl) in omega (arith, z)

-- FIGURES
fired_not_above : Claimed (busy (given (answer Fired (pos 20001) 1500000 0) firing) (pos 20001) (negsuc 4499) ∷ []) → ⊥
unfolding opened
fired_not_above h = (h.fired_between.0 refl).1.le

fired_not_below : Claimed (busy (given (answer Fired (pos 9999) 1500000 0) firing) (pos 9999) (negsuc 4499) ∷ []) → ⊥
unfolding opened
fired_not_below h = (h.fired_between.0 refl).0.le

-- where nothing is raised no figure lies between
fired_not_from_none : Claimed (idle (given (answer Fired (pos 10000) 0 0) defaulting) (pos 10000) (negsuc 2999) ∷ []) → ⊥
unfolding opened
fired_not_from_none h = h.fired_between.0 refl

default_not_other : Claimed (idle (given holding (answer Default (negsuc 3999) 0 0)) (pos 10000) (negsuc 3999) ∷ []) → ⊥
unfolding opened
default_not_other h = let z : ◌≡◌ {A = ℕ} 3000 4000 = ap default_number (h.default_declared.1.0 refl) in omega (arith, z)

held_not_moved : Claimed (idle (given (answer HeldMark (pos 10001) 0 0) defaulting) (pos 10000) (negsuc 2999) ∷ []) → ⊥
unfolding opened
held_not_moved h = let z : ◌≡◌ {A = ℕ} 10001 10000 = ap nat_abs (h.held_before.0 refl).1 in omega (arith, z)

held_not_for_default : Claimed (idle (given holding (answer HeldMark (negsuc 1999) 0 0)) (pos 10000) (negsuc 1999) ∷ []) → ⊥
unfolding opened
held_not_for_default h = let z : ◌≡◌ {A = ℕ} 3000 0 = ap default_number (h.held_before.1.0 refl).0 in omega (arith, z)

-- THE RECORD: another figure than the last accepted call answered; one that a refused call moved
record_not_other : Claimed (idle (given holding defaulting) (pos 10000) (negsuc 1999) ∷ []) → ⊥
unfolding opened
record_not_other h = let z : ◌≡◌ {A = ℕ} 2000 3000 = ap (figure_number 1) h.record_holds in omega (arith, z)

record_not_moved : Claimed (lent (whole (pos 0) ∷ Int (negsuc 4) ∷ []) 1 (not_given WrongCount) (pos 10001) (negsuc 1999) ∷ []) → ⊥
unfolding opened
record_not_moved h = let z : ◌≡◌ {A = ℕ} 10001 10000 = ap (figure_number 0) h.record_holds in omega (arith, z)
