-- The starred values of document 01, in one table, and the one claim that the definitions give them.
use mathlib.Core.Bool.{true, false}
use mathlib.Core.List.{List, [], ◌∷◌, ◌++◌, map}
use mathlib.Core.Option.{Option, none, some}
use mathlib.Core.Path.{◌≡◌, refl}
use Prim.Native.Nat.{ℕ}
use lib.Ieee.{fin, binary32, of_int}
use lib.IntN.{ℤ, pos, negsuc}
use lib.ListN.{get_or}
use Rattle.model.specs.declared.Answer.{Answer}
use Rattle.model.specs.declared.Mark.TheVariants.{Fired}
use Rattle.model.specs.declared.Reading.TheVariants.{Real}
use Rattle.model.specs.Basic.{bytes}
use Rattle.model.specs.Block.{Point, prod-asum, bdif-bsum, and, or, term, Rule, Block}
use Rattle.model.specs.Outcome.{Outcome, accepted, refused}
use Rattle.model.specs.Reader.{reads}
use Rattle.model.specs.Degrees.{pairs, term_degree}
use Rattle.model.specs.Image.{image}
use Rattle.model.specs.Readings.{real_of, value_in}
use Rattle.model.specs.Evaluation.{rule_degree, output_answer, fresh_of, no_answer, answers_after, evaluate}
use Rattle.model.proofs.Opened.{opened}
use Rattle.model.proofs.Example.{clear, trust}

-- what document 01 prints, and what the definitions give
pub record Row : Type 1 where
  pub Value : Type 0
  pub printed : Value
  pub defined : Value

abbrev number : ℕ → ℕ → Row
number n d = record { Value = ℕ; printed = n; defined = d }

abbrev pub AsPrinted : List Row → Type 0
AsPrinted [] = Unit {0}
AsPrinted (r ∷ rs) = (r.defined ≡ r.printed) × AsPrinted rs

abbrev at : ℤ → ℕ → Point
at x d = record { at = x; degree = d }

abbrev third : List Point
third = at (pos 0) 0 ∷ at (pos 3000) 1000000 ∷ []

-- what an output with singletons at xs of equal heights answers
abbrev centre : List ℤ → ℤ
centre xs =
    (output_answer (record { name = []; terms = map (λ x. record { name = []; at = x }) xs; range = none; default = none }) (map (λ x. 1) xs) (pos 0)
    ).thousandths.0

precedence : List ℕ
precedence =
    bytes "FUNCTION_BLOCK f VAR_INPUT a, b, c: REAL; END_VAR VAR_OUTPUT y: REAL; END_VAR"
    ++ (bytes " FUZZIFY a TERM t := (0,0),(1,1); END_FUZZIFY FUZZIFY b TERM t := (0,0),(1,1); END_FUZZIFY"
    ++ (bytes " FUZZIFY c TERM t := (0,0),(1,1); END_FUZZIFY"
    ++ (bytes " DEFUZZIFY y TERM u := 1; METHOD : CoGS; DEFAULT := NC; END_DEFUZZIFY"
    ++ bytes " RULEBLOCK r ACCU : MAX; RULE 1: IF a IS t OR b IS t AND c IS t THEN y IS u; END_RULEBLOCK END_FUNCTION_BLOCK")))

-- the degree of the first rule, by the degrees of the input terms
first_of : Block → List ℕ → List Rule → ℕ
first_of b ds [] = 0
first_of b ds (r ∷ rs) = rule_degree b ds r

first_degree : List ℕ → Outcome Block → ℕ
unfolding first_of
first_degree ds (accepted b) = first_of b ds b.rules
first_degree ds (refused n p) = 0

pub table : List Row
table =
    -- sharp 30: degree 250,000, grade fired 25,000, S 1,000,000, float 25.0
    number 250000 (term_degree clear (pos 30000))
    ∷ record {
      Value = Answer;
      printed = record { mark = Fired; thousandths = record { 0 = pos 25000 }; sum = 1000000; value = fin false 25 (pos 0) };
      defined = get_or (answers_after (evaluate (image trust) (Real (of_int binary32 (pos 30)) ∷ []) 1 (fresh_of trust))) 0 no_answer;
    }
    -- points (0, 0), (3, 1): at 1 and at 2
    ∷ number 333333 (term_degree third (pos 1000))
    ∷ number 666667 (term_degree third (pos 2000))
    ∷ number 1 (pairs prod-asum and 500 1000)
    ∷ number 0 (pairs prod-asum and 499 1000)
    ∷ number 750000 (pairs prod-asum or 500000 500000)
    ∷ number 100000 (pairs bdif-bsum and 600000 500000)
    -- REAL 0.0625 and -0.0625, one by 2 ^ 4
    ∷ record { Value = Option ℤ; printed = some (pos 63); defined = value_in (real_of (fin false 1 (negsuc 3))) }
    ∷ record { Value = Option ℤ; printed = some (negsuc 61); defined = value_in (real_of (fin true 1 (negsuc 3))) }
    -- equal heights at -0.003 and 0; at -0.003, -0.002 and 0
    ∷ record { Value = ℤ; printed = negsuc 0; defined = centre (negsuc 2 ∷ pos 0 ∷ []) }
    ∷ record { Value = ℤ; printed = negsuc 1; defined = centre (negsuc 2 ∷ negsuc 1 ∷ pos 0 ∷ []) }
    -- degree 250,000 WITH 0.5
    ∷ number 125000 (rule_degree trust (250000 ∷ []) (record { number = 1; condition = term 0; conclusions = []; weight = 500000 }))
    -- a OR b AND c at 0.2, 0.9, 0.1 under MIN/MAX
    ∷ number 200000 (first_degree (200000 ∷ 900000 ∷ 100000 ∷ []) (reads precedence))
    ∷ []

starred : AsPrinted table
unfolding opened precedence first_degree table
starred = (refl, (refl, (refl, (refl, (refl, (refl, (refl, (refl, (refl, (refl, (refl, (refl, (refl, (refl, tt))))))))))))))
