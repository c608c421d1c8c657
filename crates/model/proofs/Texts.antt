-- Texts that the examples share: one text up to each of its sections, and what to put behind it.
use mathlib.Core.Bool.{Bool, true, false}
use mathlib.Core.List.{List, [], ◌∷◌, ◌++◌, map}
use mathlib.Core.Option.{some}
use mathlib.Core.Path.{◌≡◌}
use Prim.Native.Nat.{ℕ, zero, suc, ◌≤◌}
use Prim.Native.String.{String}
use borrow.Author.Tests.{le-ltb}
use lib.ListN.{length}
use Rattle.model.specs.Basic.{bytes}
use Rattle.model.specs.Block.{Block}
use Rattle.model.specs.Outcome.{Outcome, accepted, refused}
use Rattle.model.specs.Reader.{start, function_block, outcome_of, reads}
use Rattle.model.specs.Listing.{digits}

-- a text up to its declarations, up to and behind each section
abbrev pub opening : List ℕ
opening = bytes "FUNCTION_BLOCK f VAR_INPUT "

abbrev pub declared : List ℕ
declared = opening ++ bytes "a: REAL; n: INT; END_VAR VAR_OUTPUT y: REAL; END_VAR "

abbrev pub fuzzified : List ℕ
fuzzified = declared ++ bytes "FUZZIFY a TERM t := (0,0),(1,1); TERM u := (0,1),(1,0); END_FUZZIFY FUZZIFY n TERM v := (0,0),(1,1); END_FUZZIFY "

abbrev pub defuzzified : List ℕ
defuzzified = fuzzified ++ bytes "DEFUZZIFY y RANGE(-1..2); TERM k := 1; METHOD : CoGS; DEFAULT := NC; END_DEFUZZIFY "

abbrev pub ruled : List ℕ
ruled = defuzzified ++ bytes "RULEBLOCK r ACCU : MAX; "

-- brought to its end
abbrev pub ended : List ℕ → List ℕ
ended s = s ++ bytes "END_RULEBLOCK END_FUNCTION_BLOCK "

abbrev pub rule_ended : List ℕ → List ℕ
rule_ended s = ended (s ++ bytes "RULE 1: IF a IS t THEN y IS k; ")

abbrev pub whole : List ℕ
whole = rule_ended ruled

-- with one rule of this condition
abbrev pub one_rule : List ℕ → List ℕ
one_rule c = ended (ruled ++ (bytes "RULE 1: IF " ++ (c ++ bytes " THEN y IS k; ")))

-- seven terms, one of four points
abbrev pub seven_terms : List ℕ
seven_terms =
    bytes "TERM t := (0,0),(1,1); TERM b := (0,0),(1,1),(2,0.5),(3,1); TERM c := (0,0),(1,1); TERM d := (0,0),(1,1); "
    ++ bytes "TERM e := (0,0),(1,1); TERM a := (0,0),(1,1); TERM f := (0,0),(1,1); "

-- s, n times
abbrev pub times : ℕ → List ℕ → List ℕ
times zero s = []
times (suc n) s = s ++ times n s

-- k rules, numbered from n on
abbrev pub rules_from : ℕ → ℕ → List ℕ
rules_from zero n = []
rules_from (suc k) n = bytes "RULE " ++ (digits n ++ (bytes ": IF a IS t THEN y IS k; " ++ rules_from k (suc n)))

-- A text cut where its refusal stands, so that the place is the length of what stands before.
pub record Cut : Type 0 where
  pub before : List ℕ
  pub from : List ℕ

abbrev pub cut : List ℕ → List ℕ → Cut
cut s t = record { before = s; from = t }

-- behind s, cut between t and u
abbrev pub behind : List ℕ → String → String → Cut
behind s t u = cut (s ++ bytes t) (bytes u)

abbrev pub answers : List Cut → List (Outcome Block)
answers cs = map (λ c. reads (c.before ++ c.from)) cs

abbrev pub refused_by : ℕ → List Cut → List (Outcome Block)
refused_by n cs = map (λ c. refused n (some (length c.before))) cs

abbrev pub is_accepted : Outcome Block → Bool
is_accepted (accepted b) = true
is_accepted (refused n p) = false

-- each text is accepted
abbrev pub accepted_all : List (List ℕ) → List Bool
accepted_all ss = map (λ s. is_accepted (reads s)) ss

abbrev pub true_all : {A : Type 0} → List A → List Bool
true_all xs = map (λ x. true) xs

abbrev pub false_all : {A : Type 0} → List A → List Bool
false_all xs = map (λ x. false) xs

-- k numbers from n on
abbrev pub numbers_from : ℕ → ℕ → List ℕ
numbers_from zero n = []
numbers_from (suc k) n = n ∷ numbers_from k (suc n)

-- a text of 65,536 bytes and fewer is read token by token
pub text_not_too_long : (s : List ℕ) → length s ≤ 65536 → reads s ≡ outcome_of (function_block (start s))
unfolding reads
text_not_too_long s h = simp (le-ltb 65536 (length s) h)
