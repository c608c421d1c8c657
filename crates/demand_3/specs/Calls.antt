-- Demand 3: lists of evaluation calls on one image, and what holds of them, sentence by sentence.
use Rattle.std.specs.Prelude.{Bool, true, false, ◌&&◌, not, ◌↔◌, ◌≡◌, ℕ, suc, ◌≤◌, ltb, eqb, Float, ℤ, pos, length, take, drop, get_or, ◌≤ℤ◌, if◌then◌else◌}
use mathlib.Core.List.{List, [], ◌∷◌, ◌++◌, map, foldl}
use Rattle.std.proofs.Math.Option.{none, some}
use Rattle.std.specs.Float.{nan, inf, fin}
use Rattle.std.specs.Int.Signed.{le_z}
use Rattle.model.specs.Basic.{is_empty, gather, Each, tab}
use Rattle.model.specs.Bounds.{M}
use Rattle.model.specs.Block.{Input, Singleton, Output, Condition, term, neg, two, Block, input_terms, output_terms, output_first}
use Rattle.model.specs.declared.InputType.{InputType}
use Rattle.model.specs.declared.InputType.TheVariants.{Real as real, Int as int}
use Rattle.model.specs.Outcome.{Outcome, accepted, refused, verdict_in}
use Rattle.model.specs.Refusals.{verdict_of}
use Rattle.model.specs.Image.{points, loads}
use Rattle.model.specs.Buffers.{ReadsTo}
use Rattle.model.specs.Degrees.{condition_degree}
use Rattle.model.specs.Evaluation.{term_degrees, rule_degree, subconclusions, height, block_answers, no_answer, padded, figures, held_of, starting, values_of, evaluate, Tells, leaving, fresh, record_in}
use Rattle.model.specs.declared.Reading.{Reading}
use Rattle.model.specs.declared.Reading.TheVariants.{Real, Int, Absent}
use Rattle.model.specs.declared.Mark.{Mark}
use Rattle.model.specs.declared.Mark.TheVariants.{None, Fired, Default, Held as HeldMark}
use Rattle.model.specs.declared.Answer.{Answer}
use Rattle.model.specs.declared.Held.{Held}
use Rattle.model.specs.declared.Evaluation.{Evaluation}
use Rattle.model.specs.declared.Reply.{Reply}

-- RIGHT CALLS
pub record Call : Type 0 where
  pub readings : List Reading
  pub count : ℕ

abbrev pub is_finite : Float → Bool
is_finite nan = false
is_finite (inf s) = false
is_finite (fin s m e) = true

-- finite and of the declared kind; every INT is finite
abbrev pub fits : InputType → Reading → Bool
fits real (Real x) = is_finite x
fits real (Int n) = false
fits real Absent = false
fits int (Real x) = false
fits int (Int n) = true
fits int Absent = false

-- a missing place fits nothing
unfoldable pub all_fit : List Input → List Reading → Bool
all_fit [] rs = true
all_fit (v ∷ vs) [] = false
all_fit (v ∷ vs) (r ∷ rs) = fits v.type r && all_fit vs rs

-- the number is the image's count of inputs, and each reading fits
unfoldable pub right_call : Block → Call → Bool
right_call b c = eqb c.count (length b.inputs) && all_fit b.inputs c.readings

-- 12 for another number, 14 at the first reading that does not fit
unfoldable pub ruling : Block → Call → Outcome (Unit {0})
ruling b c =
    if not (eqb c.count (length b.inputs)) then refused 12 none
    else verdict_in (values_of 0 b.inputs c.readings)

-- THE DEFINED ANSWERS, from the block and the readings alone
abbrev pub given : Outcome (List ℤ) → List ℤ
given (accepted xs) = xs
given (refused n p) = []

-- the degrees of the input terms, by the readings of a right call
unfoldable pub input_degrees : Block → Call → List ℕ
input_degrees b c = term_degrees b.inputs (given (values_of 0 b.inputs c.readings))

-- of a right call, where xs are the held figures
unfoldable pub answers_of : Block → List ℤ → Call → List Answer
answers_of b xs c = block_answers b (given (values_of 0 b.inputs c.readings)) xs

-- the figures after a call: its own where it is right, and those before it where not
unfoldable pub figures_after : Block → List ℤ → Call → List ℤ
figures_after b xs c = if right_call b c then figures (answers_of b xs c) else xs

-- all places of a call; xs are the figures of the last right call before, or the starting ones
unfoldable pub answered : Block → List ℤ → Call → List Answer
answered b xs c = padded no_answer (if right_call b c then answers_of b xs c else [])

-- of a list of calls
unfoldable pub defined : Block → List ℤ → List Call → List (List Answer)
defined b xs [] = []
defined b xs (c ∷ cs) = answered b xs c ∷ defined b (figures_after b xs c) cs

-- DEGREES
-- a condition and every condition in it
unfoldable pub parts : Condition → List Condition
parts (term t) = term t ∷ []
parts (neg c) = neg c ∷ parts c
parts (two o a b) = two o a b ∷ (parts a ++ parts b)

-- points and weights
unfoldable pub degrees_of : Block → List ℕ
degrees_of b = map (λ p. p.degree) (points b) ++ map (λ r. r.weight) b.rules

-- the output terms, counted over all terms
abbrev pub output_term_places : Block → List ℕ
output_term_places b = tab (λ t. t) (length (output_terms b)) (length (input_terms b))

-- of input terms, all parts of conditions, rules, subconclusions and heights, by the input terms' degrees ds
unfoldable pub degrees_in : Block → List ℕ → List ℕ
degrees_in b ds =
    ds
    ++ (map (condition_degree b.pair ds) (gather (λ r. parts r.condition) b.rules)
    ++ (map (rule_degree b ds) b.rules
    ++ (gather (subconclusions b ds) (output_term_places b)
    ++ map (height b ds) (output_term_places b))))

-- A LIST OF CALLS AS A HOST MAKES IT
-- a call and what came of it: what the evaluator returned; for daily use, the reply and the lent record then
pub data Made : Type 0 where
  evaluated : Call → Evaluation → Made
  daily : Call → Reply → Held → Made

abbrev pub call_of : Made → Call
call_of (evaluated c r) = c
call_of (daily c r h) = c

-- verdict, answers, and the record returned or left
abbrev pub result_of : Made → Evaluation
result_of (evaluated c r) = r
result_of (daily c r h) = leaving r h

-- what the contracts of `evaluation::evaluate` and `daily::evaluate_held` say of a call on the record h
-- (`calls/proofs/Contracts`)
abbrev pub Link : List ℕ → Held → Made → Type 0
Link img h m = Tells (result_of m) h (evaluate img (call_of m).readings (call_of m).count h)

-- each later call gets the record that the call before returned or left; nothing else writes it, and nothing the image
abbrev pub Trace : List ℕ → Held → List Made → Type 0
Trace img h [] = Unit {0}
Trace img h (m ∷ ms) = Link img h m × Trace img (result_of m).held ms

abbrev pub record_after : Held → List Made → Held
record_after h ms = foldl (λ g m. (result_of m).held) h ms

-- WHAT WAS ANSWERED
abbrev pub is_accepted : {A : Type 0} → Outcome A → Bool
is_accepted (accepted a) = true
is_accepted (refused n p) = false

abbrev pub accepted_in : Made → Bool
accepted_in m = is_accepted (verdict_of (result_of m).verdict)

-- the outputs' figures after a call: those that it answered where it was accepted, and those before it where not
unfoldable pub last_figures : Block → List ℤ → Made → List ℤ
last_figures b xs m = if accepted_in m then figures (take (length b.outputs) (result_of m).answers) else xs

-- an output in an accepted call: its heights by the readings, the figure that the last accepted call before answered
-- for it, or the starting one, and its answer
pub record Seen : Type 0 where
  pub output : Output
  pub heights : List ℕ
  pub before : ℤ
  pub answer : Answer

-- output i is the next
unfoldable pub outputs_seen : Block → List ℕ → ℕ → List Output → List ℤ → List Answer → List Seen
outputs_seen b ds i [] xs gs = []
outputs_seen b ds i (v ∷ vs) xs gs =
    record {
      output = v;
      heights = tab (height b ds) (length v.terms) (output_first i b);
      before = get_or xs 0 (pos 0);
      answer = get_or gs 0 no_answer;
    }
    ∷ outputs_seen b ds (suc i) vs (drop 1 xs) (drop 1 gs)

-- every output of every accepted call
unfoldable pub seen : Block → List ℤ → List Made → List Seen
seen b xs [] = []
seen b xs (m ∷ ms) =
    (if accepted_in m then outputs_seen b (input_degrees b (call_of m)) 0 b.outputs xs (result_of m).answers else [])
    ++ seen b (last_figures b xs m) ms

abbrev pub mark_of : Seen → Mark
mark_of o = o.answer.mark

abbrev pub figure_of : Seen → ℤ
figure_of o = o.answer.thousandths.0

-- the singletons whose height is above zero
unfoldable pub raised : List Singleton → List ℕ → List ℤ
raised [] hs = []
raised (s ∷ ss) [] = []
raised (s ∷ ss) (h ∷ hs) = if ltb 0 h then s.at ∷ raised ss hs else raised ss hs

abbrev pub raised_in : Seen → List ℤ
raised_in o = raised o.output.terms o.heights

-- of x and xs the one that is before all others
abbrev pub foremost : (ℤ → ℤ → Bool) → ℤ → List ℤ → ℤ
foremost before x [] = x
foremost before x (y ∷ ys) = if before x y then foremost before x ys else foremost before y ys

abbrev pub lowest : ℤ → List ℤ → ℤ
lowest x xs = foremost le_z x xs

abbrev pub highest : ℤ → List ℤ → ℤ
highest x xs = foremost (λ y z. le_z z y) x xs

abbrev pub Between : List ℤ → ℤ → Type 0
Between [] z = ⊥
Between (x ∷ xs) z = (lowest x xs ≤ℤ z) × (z ≤ℤ highest x xs)

abbrev pub is_marked : Mark → Bool
is_marked None = false
is_marked Fired = true
is_marked Default = true
is_marked HeldMark = true

-- DEMAND 3
-- of the list of calls ms on an image of block b, from the record h on; xs are the figures before it
pub record CallsHold (b : Block) (h : Held) (xs : List ℤ) (ms : List Made) : Type 0 where
  -- a call is accepted exactly when their number is right and each is finite and of its declared kind
  pub accepted_right : Each (λ m. accepted_in m ≡ right_call b (call_of m)) ms
  -- and refused by 12, or by 14 at the first wrong one
  pub verdicts : Each (λ m. verdict_of (result_of m).verdict ≡ ruling b (call_of m)) ms
  -- every degree lies between 0 and 1
  pub block_degrees : Each (λ d. d ≤ M) (degrees_of b)
  pub call_degrees : Each (λ m. accepted_in m ≡ true → Each (λ d. d ≤ M) (degrees_in b (input_degrees b (call_of m)))) ms
  -- in each accepted call the answer is the one that document 01 defines; a refused one answers all as none, zero
  pub answers_defined : map (λ m. (result_of m).answers) ms ≡ defined b xs (map call_of ms)
  -- every output is marked fired, default or held
  pub marked : Each (λ o. is_marked (mark_of o) ≡ true) (seen b xs ms)
  -- and is fired exactly when one of its singletons has a height above zero
  pub fired_raised : Each (λ o. mark_of o ≡ Fired ↔ is_empty (raised_in o) ≡ false) (seen b xs ms)
  -- a fired figure lies between the lowest and highest singleton whose height is above zero
  pub fired_between : Each (λ o. mark_of o ≡ Fired → Between (raised_in o) (figure_of o)) (seen b xs ms)
  -- a default is the declared one
  pub default_declared : Each (λ o. mark_of o ≡ Default → o.output.default ≡ some (figure_of o)) (seen b xs ms)
  -- a held figure equals the one the last accepted call before answered, or the starting one if there was none
  pub held_before : Each (λ o. mark_of o ≡ HeldMark → (o.output.default ≡ none) × (figure_of o ≡ o.before)) (seen b xs ms)
  -- after the list the record holds the figures of its last accepted call, or the starting ones
  pub record_holds : record_after h ms ≡ held_of (foldl (last_figures b) xs ms)

pub record Demand3 (img : List ℕ) : Type 0 where
  -- a stored image passes the load check exactly when some text reads to it
  pub passes : verdict_in (loads img) ≡ accepted tt ↔ ((s : List ℕ) × ReadsTo s img)
  -- the rest holds for every passed image and every list of evaluation calls on it, refused ones included; the first
  -- call gets the image's fresh held record
  pub calls : (b : Block) → loads img ≡ accepted b → (ms : List Made) → Trace img (record_in (fresh img)) ms
      → CallsHold b (record_in (fresh img)) (starting b) ms
