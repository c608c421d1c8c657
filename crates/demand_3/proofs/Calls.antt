-- A block of two inputs and two outputs, a list of calls on it with every mark and the refusals 12 and 14, and what the
-- definitions say of each call.
use mathlib.Core.Bool.{true, false}
use mathlib.Core.List.{List, [], ◌∷◌, ◌++◌, map, foldl}
use mathlib.Core.Option.{none, some}
use mathlib.Core.Path.{◌≡◌, refl}
use Prim.Native.Nat.{ℕ, ◌-◌}
use Prim.Native.String.{String}
use lib.Ieee.{nan, inf, binary32, binary64, of_int, of_bits}
use lib.IntN.{ℤ, pos, negsuc}
use lib.ListN.{length, replicate}
use Rattle.std.specs.Prelude.{Ok, Err}
use Rattle.model.specs.Basic.{bytes}
use Rattle.model.specs.Bounds.{M, input_limit}
use Rattle.model.specs.Block.{Point, Singleton, and, or, Condition, term, neg, two, Conclusion, Rule, Block}
use Rattle.model.specs.Outcome.{accepted, refused}
use Rattle.model.specs.Evaluation.{held_of, no_answer, padded, leaving, starting, fresh_of}
use Rattle.model.specs.declared.InputType.TheVariants.{Real as real, Int as int}
use Rattle.model.specs.declared.Pair.TheVariants.{ProdAsum as prod-asum}
use Rattle.model.specs.declared.Accumulation.TheVariants.{Bsum as by-bsum}
use Rattle.model.specs.declared.Activation.TheVariants.{Min as by-min}
use Rattle.model.specs.declared.Answer.{Answer}
use Rattle.model.specs.declared.Mark.{Mark}
use Rattle.model.specs.declared.Mark.TheVariants.{None, Fired, Default, Held as HeldMark}
use Rattle.model.specs.declared.Reading.{Reading}
use Rattle.model.specs.declared.Reading.TheVariants.{Real, Int, Absent}
use Rattle.model.specs.declared.Refusal.{Refusal}
use Rattle.model.specs.declared.Refusal.TheVariants.{WrongCount, WrongReading}
use Rattle.model.specs.declared.Reply.{Reply}
use Rattle.demand_3.specs.Calls.{Call, right_call, ruling, input_degrees, defined, degrees_of, degrees_in, Made, evaluated, daily, call_of, result_of, record_after, accepted_in, last_figures, Seen, seen, mark_of, figure_of, raised, raised_in, lowest, highest, is_marked}
use Rattle.demand_3.proofs.Opened.{opened}

-- THE BLOCK: a REAL and an INT; y of 10 and 20 holds its figure, z of -4.5 has the default -3
abbrev point : ℤ → ℕ → Point
point x d = record { at = x; degree = d }

abbrev singleton : String → ℤ → Singleton
singleton w x = record { name = bytes w; at = x }

abbrev concluding : ℕ → ℕ → Conclusion
concluding o t = record { output = o; term = t }

abbrev pub ruled : ℕ → Condition → List Conclusion → ℕ → Rule
ruled n c ks w = record { number = n; condition = c; conclusions = ks; weight = w }

abbrev pub block : Block
block = record {
  name = bytes "f";
  inputs =
      record { name = bytes "a"; type = real; terms = record { name = bytes "t"; points = point (pos 0) 0 ∷ point (pos 1000) M ∷ [] } ∷ [] }
      ∷ record {
        name = bytes "n";
        type = int;
        terms =
            record {
              name = bytes "v";
              points = point (negsuc 999) 0 ∷ point (pos 1000) 500000 ∷ point (pos 2000) M ∷ point (pos 3000) 0 ∷ [];
            } ∷ [];
      } ∷ [];
  outputs =
      record {
        name = bytes "y";
        terms = singleton "k" (pos 10000) ∷ singleton "m" (pos 20000) ∷ [];
        range = some (record { least = pos 10000; most = pos 20000 });
        default = none;
      }
      ∷ record {
        name = bytes "z";
        terms = singleton "k" (negsuc 4499) ∷ [];
        range = some (record { least = negsuc 4999; most = negsuc 1999 });
        default = some (negsuc 2999);
      } ∷ [];
  rule_block = bytes "r";
  pair = prod-asum;
  act = by-min;
  accu = by-bsum;
  rules =
      ruled 1 (two and (term 0) (term 1)) (concluding 0 3 ∷ concluding 1 4 ∷ []) 500000
      ∷ ruled 2 (term 1) (concluding 0 2 ∷ concluding 0 2 ∷ []) M ∷ [];
}

-- CALLS of both kinds, and what came of each
abbrev pub calling : List Reading → ℕ → Call
calling rs n = record { readings = rs ++ replicate (input_limit - length rs) Absent; count = n }

abbrev pub whole : ℤ → Reading
whole z = Real (of_int binary32 z)

abbrev pub answer : Mark → ℤ → ℕ → ℕ → Answer
answer m t s f = record { mark = m; thousandths = record { 0 = t }; sum = s; value = of_bits binary64 f }

abbrev pub given : Answer → Answer → Reply
given a c = record { verdict = Ok tt; answers = padded no_answer (a ∷ c ∷ []) }

abbrev pub not_given : Refusal → Reply
not_given r = record { verdict = Err r; answers = padded no_answer [] }

-- of the evaluator, and for daily use, each with the record that it returned or left
abbrev pub valued : List Reading → ℕ → Reply → ℤ → ℤ → Made
valued rs n r x y = evaluated (calling rs n) (leaving r (held_of (x ∷ y ∷ [])))

abbrev pub lent : List Reading → ℕ → Reply → ℤ → ℤ → Made
lent rs n r x y = daily (calling rs n) r (held_of (x ∷ y ∷ []))

-- nothing fires: y holds its fresh figure, z answers its default; then y has heights 1 at 10 and 0.5 at 20, z 0.5 at -4.5;
-- then a wrong count, a wrong kind, an absent and an infinite reading; then nothing fires again;
-- then y has 0.5 at 10 twice
abbrev pub list : List Made
list =
    lent (whole (pos 0) ∷ Int (negsuc 4) ∷ []) 2
    (given (answer HeldMark (pos 10000) 0 0x4024000000000000) (answer Default (negsuc 2999) 0 0xc008000000000000)) (pos 10000) (negsuc 2999)
    ∷ valued (whole (pos 1) ∷ Int (pos 2) ∷ Absent ∷ []) 2
    (given (answer Fired (pos 13333) 1500000 0x402aaa7ef9db22d1) (answer Fired (negsuc 4499) 500000 0xc012000000000000)) (pos 13333) (negsuc 4499)
    ∷ lent (whole (pos 1) ∷ Int (pos 2) ∷ []) 1 (not_given WrongCount) (pos 13333) (negsuc 4499)
    ∷ valued (Int (pos 1) ∷ Int (pos 2) ∷ []) 2 (not_given (WrongReading 0)) (pos 13333) (negsuc 4499)
    ∷ lent (whole (pos 1) ∷ Absent ∷ []) 2 (not_given (WrongReading 1)) (pos 13333) (negsuc 4499)
    ∷ valued (Real (inf false) ∷ Int (pos 2) ∷ []) 3 (not_given WrongCount) (pos 13333) (negsuc 4499)
    ∷ valued (Real (inf false) ∷ Int (pos 2) ∷ []) 2 (not_given (WrongReading 0)) (pos 13333) (negsuc 4499)
    ∷ valued (whole (negsuc 6) ∷ Int (pos 3) ∷ []) 2
    (given (answer HeldMark (pos 13333) 0 0x402aaa7ef9db22d1) (answer Default (negsuc 2999) 0 0xc008000000000000)) (pos 13333) (negsuc 2999)
    ∷ lent (whole (pos 0) ∷ Int (pos 1) ∷ []) 2
    (given (answer Fired (pos 10000) 1000000 0x4024000000000000) (answer Default (negsuc 2999) 0 0xc008000000000000)) (pos 10000) (negsuc 2999)
    ∷ []

-- by the block and the readings alone
right_calls : map (λ m. right_call block (call_of m)) list ≡ true ∷ true ∷ false ∷ false ∷ false ∷ false ∷ false ∷ true ∷ true ∷ []
unfolding opened
right_calls = refl

-- by what came of them
accepted_calls : map accepted_in list ≡ true ∷ true ∷ false ∷ false ∷ false ∷ false ∷ false ∷ true ∷ true ∷ []
unfolding opened
accepted_calls = refl

defined_answers : defined block (starting block) (map call_of list) ≡ map (λ m. (result_of m).answers) list
unfolding opened
defined_answers = refl

-- each output of each accepted call: its mark, the singletons with a height above zero, the figure before, its own
abbrev Shown : Type 0
Shown = Mark × List ℤ × ℤ × ℤ

abbrev show : Seen → Shown
show o = (mark_of o, raised_in o, o.before, figure_of o)

shown : ◌≡◌ {A = List Shown} (map show (seen block (starting block) list)) (
    (HeldMark, [], pos 10000, pos 10000) ∷ (Default, [], negsuc 1999, negsuc 2999)
    ∷ (Fired, pos 10000 ∷ pos 20000 ∷ [], pos 10000, pos 13333) ∷ (Fired, negsuc 4499 ∷ [], negsuc 2999, negsuc 4499)
    ∷ (HeldMark, [], pos 13333, pos 13333) ∷ (Default, [], negsuc 4499, negsuc 2999)
    ∷ (Fired, pos 10000 ∷ [], pos 13333, pos 10000) ∷ (Default, [], negsuc 2999, negsuc 2999) ∷ [])
unfolding opened
shown = refl

-- the figures that the list leaves, and the record
figures_after : foldl (last_figures block) (starting block) list ≡ pos 10000 ∷ negsuc 2999 ∷ []
unfolding opened
figures_after = refl

record_after_lem : record_after (fresh_of block) list ≡ held_of (pos 10000 ∷ negsuc 2999 ∷ [])
record_after_lem = refl

-- READINGS that are NaN, infinite, an INT and absent for the REAL; a REAL and absent for the INT; missing; another number, first
abbrev wrong_calls : List Call
wrong_calls =
    calling (Real nan ∷ Int (pos 2) ∷ []) 2 ∷ calling (Real (inf true) ∷ Int (pos 2) ∷ []) 2 ∷ calling (Int (pos 1) ∷ Int (pos 2) ∷ []) 2
    ∷ calling (Absent ∷ Int (pos 2) ∷ []) 2 ∷ calling (whole (pos 1) ∷ whole (pos 2) ∷ []) 2 ∷ calling (whole (pos 1) ∷ []) 2
    ∷ record { readings = whole (pos 1) ∷ []; count = 2 } ∷ record { readings = []; count = 2 }
    ∷ calling (whole (pos 1) ∷ Int (pos 2) ∷ []) 1 ∷ calling (whole (pos 1) ∷ Int (pos 2) ∷ []) 3 ∷ calling (Real nan ∷ []) 0 ∷ []

wrong_calls_lem : map (right_call block) wrong_calls ≡ replicate 11 false
unfolding opened
wrong_calls_lem = refl

rulings : ruling block (calling (whole (pos 1) ∷ Int (pos 2) ∷ []) 2) ∷ map (ruling block) wrong_calls
    ≡ accepted tt ∷ refused 14 (some 0) ∷ refused 14 (some 0) ∷ refused 14 (some 0)
    ∷ refused 14 (some 0) ∷ refused 14 (some 1) ∷ refused 14 (some 1)
    ∷ refused 14 (some 1) ∷ refused 14 (some 0)
    ∷ refused 12 none ∷ refused 12 none ∷ refused 12 none ∷ []
unfolding opened
rulings = refl

-- DEGREES of points and weights; of the second call's input terms, conditions and their parts, rules, subconclusions, heights
degrees_shown : degrees_of block ∷ degrees_in block (input_degrees block (calling (whole (pos 1) ∷ Int (pos 2) ∷ []) 2)) ∷ []
    ≡ (0 ∷ 1000000 ∷ 0 ∷ 500000 ∷ 1000000 ∷ 0 ∷ 1000000 ∷ 1000000 ∷ 1000000 ∷ 500000 ∷ 1000000 ∷ [])
    ∷ (1000000 ∷ 1000000 ∷ 1000000 ∷ 1000000 ∷ 1000000 ∷ 1000000 ∷ 500000 ∷ 1000000
    ∷ 1000000 ∷ 1000000 ∷ 500000 ∷ 500000 ∷ 1000000 ∷ 500000 ∷ 500000 ∷ [])
    ∷ []
unfolding opened
degrees_shown = refl

-- the same block with one rule
abbrev pub ruled_by : Rule → Block
ruled_by r = record {
  name = block.name;
  inputs = block.inputs;
  outputs = block.outputs;
  rule_block = block.rule_block;
  pair = block.pair;
  act = block.act;
  accu = block.accu;
  rules = r ∷ [];
}

-- 0.2 OR NOT (NOT 0.9 AND 0.4), each part of it, by half its weight: 0.484 at the second term of y, twice
abbrev mixed : Condition
mixed = two or (term 0) (neg (two and (neg (term 1)) (term 2)))

parts_shown : degrees_in (ruled_by (ruled 1 mixed (concluding 0 3 ∷ concluding 0 3 ∷ []) 500000)) (200000 ∷ 900000 ∷ 400000 ∷ [])
    ≡ 200000 ∷ 900000 ∷ 400000
    ∷ 968000 ∷ 200000 ∷ 960000 ∷ 40000 ∷ 100000 ∷ 900000 ∷ 400000
    ∷ 484000 ∷ 484000 ∷ 484000 ∷ 0 ∷ 968000 ∷ 0 ∷ []
unfolding opened
parts_shown = refl

-- MARKS AND FIGURES
marks : map is_marked (None ∷ Fired ∷ Default ∷ HeldMark ∷ []) ≡ false ∷ true ∷ true ∷ true ∷ []
marks = refl

-- a height of one millionth counts; a missing one does not
heights_of_one :
    map (raised (singleton "k" (pos 1) ∷ singleton "m" (pos 2) ∷ []))
    ((1 ∷ 0 ∷ []) ∷ (0 ∷ 1 ∷ []) ∷ (1 ∷ 1 ∷ []) ∷ (1 ∷ []) ∷ (0 ∷ 0 ∷ []) ∷ [])
    ≡ (pos 1 ∷ []) ∷ (pos 2 ∷ []) ∷ (pos 1 ∷ pos 2 ∷ []) ∷ (pos 1 ∷ []) ∷ [] ∷ []
unfolding opened
heights_of_one = refl

-- of singletons in any order
ends : lowest (pos 10) (pos 30 ∷ negsuc 4 ∷ pos 20 ∷ []) ∷ highest (pos 10) (pos 30 ∷ negsuc 4 ∷ pos 20 ∷ []) ∷ lowest (pos 7) [] ∷ highest (pos 7) [] ∷ []
    ≡ negsuc 4 ∷ pos 30 ∷ pos 7 ∷ pos 7 ∷ []
ends = refl
