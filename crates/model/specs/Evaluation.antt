-- Evaluation: rules, heights, the answer of each output; the held record; one call with its checks.
use Rattle.std.specs.Prelude.{Bool, false, ◌&&◌, not, List, [], ◌∷◌, ◌++◌, map, ◌≡◌, ℕ, suc, ◌-◌, max, ltb, eqb, ℤ, pos, nat_abs, ◌+ℤ◌, ◌*ℤ◌, length, replicate, if◌then◌else◌}
use Rattle.std.proofs.Math.Option.{Option, none, some}
use Rattle.std.specs.Float.{fin}
use Rattle.std.specs.Int.Signed.{lt_z}
use Rattle.model.specs.Basic.{all, total, gather, tab}
use Rattle.model.specs.Bounds.{output_limit}
use Rattle.model.specs.Tokens.{in_crisp}
use Rattle.model.specs.Block.{Input, Range, Output, Rule, Accumulation, by-max, by-bsum, Block, output_first, in_range}
use Rattle.model.specs.Outcome.{Outcome, accepted, refused, and_then, verdict_in}
use Rattle.model.specs.Refusals.{verdict_of}
use Rattle.model.specs.Image.{loads}
use Rattle.model.specs.Degrees.{nearestℤ, prod_of, bsum_of, term_degree, condition_degree}
use Rattle.model.specs.Readings.{taken, value_in, float_of}
use Rattle.model.specs.declared.Reading.{Reading}
use Rattle.model.specs.declared.Mark.{Mark}
use Rattle.model.specs.declared.Mark.TheVariants.{None, Fired, Default, Held as HeldMark}
use Rattle.model.specs.declared.Answer.{Answer}
use Rattle.model.specs.declared.Held.{Held}
use Rattle.model.specs.declared.Evaluation.{Evaluation}
use Rattle.model.specs.declared.Reply.{Reply}

-- THE RULES
-- the degree of every input term, by the inputs' values
unfoldable pub term_degrees : List Input → List ℤ → List ℕ
term_degrees [] xs = []
term_degrees (v ∷ vs) [] = []
term_degrees (v ∷ vs) (x ∷ xs) = map (λ t. term_degree t.points x) v.terms ++ term_degrees vs xs

unfoldable pub rule_degree : Block → List ℕ → Rule → ℕ
rule_degree b ds r = prod_of (condition_degree b.pair ds r.condition) r.weight

abbrev pub accumulated : Accumulation → ℕ → ℕ → ℕ
accumulated by-max h d = max h d
accumulated by-bsum h d = bsum_of h d

unfoldable pub accumulate_all : Accumulation → ℕ → List ℕ → ℕ
accumulate_all a h [] = h
accumulate_all a h (d ∷ ds) = accumulate_all a (accumulated a h d) ds

-- the degrees that the rules give a term, a repeated subconclusion again
unfoldable pub subconclusions : Block → List ℕ → ℕ → List ℕ
subconclusions b ds t =
    gather (λ r. gather (λ k. if eqb k.term t then rule_degree b ds r ∷ [] else []) r.conclusions) b.rules

unfoldable pub height : Block → List ℕ → ℕ → ℕ
height b ds t = accumulate_all b.accu 0 (subconclusions b ds t)

-- THE ANSWER OF AN OUTPUT
-- the sum of position times height
unfoldable pub moment : List ℤ → List ℕ → ℤ
moment [] hs = pos 0
moment (x ∷ xs) [] = pos 0
moment (x ∷ xs) (h ∷ hs) = x *ℤ pos h +ℤ moment xs hs

abbrev pub sum_of : List ℕ → ℕ
sum_of hs = total (λ h. h) hs

abbrev pub answer_with : Mark → ℤ → ℕ → Answer
answer_with m t s = record { mark = m; thousandths = record { 0 = t }; sum = s; value = float_of t }

abbrev pub unfired : Option ℤ → ℤ → Answer
unfired none held = answer_with HeldMark held 0
unfired (some x) held = answer_with Default x 0

-- by its heights and its held figure
unfoldable pub output_answer : Output → List ℕ → ℤ → Answer
output_answer v hs held =
    if ltb 0 (sum_of hs) then answer_with Fired (nearestℤ (moment (map (λ t. t.at) v.terms) hs) (sum_of hs)) (sum_of hs)
    else unfired v.default held

-- by the heights h of all terms of block b; output i is the next
unfoldable pub output_answers : Block → (ℕ → ℕ) → ℕ → List Output → List ℤ → List Answer
output_answers b h i [] held = []
output_answers b h i (v ∷ vs) [] = []
output_answers b h i (v ∷ vs) (x ∷ held) =
    output_answer v (tab h (length v.terms) (output_first i b)) x ∷ output_answers b h (suc i) vs held

abbrev pub no_answer : Answer
no_answer = record { mark = None; thousandths = record { 0 = pos 0 }; sum = 0; value = fin false 0 (pos 0) }

-- the places past the last are filled
abbrev pub padded : {A : Type 0} → A → List A → List A
padded a xs = xs ++ replicate (output_limit - length xs) a

-- THE HELD RECORD
abbrev pub held_of : List ℤ → Held
held_of xs = record { figures = map (λ x. record { 0 = x }) (padded (pos 0) xs) }

abbrev pub figures_of : Held → List ℤ
figures_of h = map (λ c. c.0) h.figures

-- 0, or where RANGE leaves 0 out, its end nearest 0
abbrev pub start_of : Option Range → ℤ
start_of none = pos 0
start_of (some g) = if lt_z (pos 0) g.least then g.least else if lt_z g.most (pos 0) then g.most else pos 0

abbrev pub starting : Block → List ℤ
starting b = map (λ v. start_of v.range) b.outputs

unfoldable pub fresh_of : Block → Held
fresh_of b = held_of (starting b)

-- a value for each output, in the crisp bounds and in its RANGE, and 0 in the places past the last
unfoldable pub held_ok : List Output → List ℤ → Bool
held_ok [] xs = all (λ x. eqb (nat_abs x) 0) xs
held_ok (v ∷ vs) [] = false
held_ok (v ∷ vs) (x ∷ xs) = (in_crisp x && in_range v.range x) && held_ok vs xs

-- ONE CALL
-- the crisp values of the inputs, or 14 at the first whose reading is absent, not finite or of the wrong kind;
-- input i is the next, and a missing reading counts as absent
unfoldable pub values_of : ℕ → List Input → List Reading → Outcome (List ℤ)
values_of i [] rs = accepted []
values_of i (v ∷ vs) [] = refused 14 (some i)
values_of i (v ∷ vs) (r ∷ rs) =
    elim (value_in (taken v.type r)) [
      | none ↦ refused 14 (some i)
      | some x ↦ and_then (values_of (suc i) vs rs) (λ xs. accepted (x ∷ xs))
    ]

pub record CallResult : Type 0 where
  pub answers : List Answer
  pub held : Held

unfoldable pub block_answers : Block → List ℤ → List ℤ → List Answer
block_answers b xs held = output_answers b (height b (term_degrees b.inputs xs)) 0 b.outputs held

-- the outputs' thousandths
abbrev pub figures : List Answer → List ℤ
figures given = map (λ a. a.thousandths.0) given

-- an accepted call stores every output's thousandths
abbrev pub call_result : List Answer → CallResult
call_result given = record { answers = padded no_answer given; held = held_of (figures given) }

unfoldable pub evaluate_block : Block → List Reading → ℕ → Held → Outcome CallResult
evaluate_block b rs n h =
    if not (eqb n (length b.inputs)) then refused 12 none else
    if not (held_ok b.outputs (figures_of h)) then refused 13 none else
    and_then (values_of 0 b.inputs rs) (λ xs. accepted (call_result (block_answers b xs (figures_of h))))

-- image, readings and their count, held record
unfoldable pub evaluate : List ℕ → List Reading → ℕ → Held → Outcome CallResult
evaluate img rs n h = and_then (loads img) (λ b. evaluate_block b rs n h)

-- a refused call answers all places as none and leaves the record
abbrev pub answers_after : Outcome CallResult → List Answer
answers_after (accepted e) = e.answers
answers_after (refused n p) = padded no_answer []

abbrev pub held_after : Held → Outcome CallResult → Held
held_after h (accepted e) = e.held
held_after h (refused n p) = h

-- what a call on the record h hands back is what the outcome says
pub record Tells (r : Evaluation) (h : Held) (o : Outcome CallResult) : Type 0 where
  pub verdict : verdict_of r.verdict ≡ verdict_in o
  pub answers : r.answers ≡ answers_after o
  pub held : r.held ≡ held_after h o

-- a call for daily use as an evaluation: its reply, with the record that it leaves
abbrev pub leaving : Reply → Held → Evaluation
leaving r after = record { verdict = r.verdict; answers = r.answers; held = after }

unfoldable pub fresh : List ℕ → Outcome Held
fresh img = and_then (loads img) (λ b. accepted (fresh_of b))

-- all zero where the image is refused
abbrev pub record_in : Outcome Held → Held
record_in (accepted h) = h
record_in (refused n p) = held_of []
