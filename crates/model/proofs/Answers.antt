-- Answers: readings as values, one output by its heights, the held record, what a refused call hands back, one call on a
-- block, and what an evaluation tells of its outcome.
use mathlib.Core.Bool.{Bool, true, false}
use mathlib.Core.List.{List, [], ◌∷◌, map}
use mathlib.Core.Option.{Option, none, some}
use mathlib.Core.Path.{◌≡◌, refl, ap}
use native.Mathlib.Omega.{arith}
use Prim.Native.Nat.{ℕ}
use lib.Ieee.{Float, nan, inf, fin, binary32, binary64, of_int, of_bits, to_bits}
use lib.IntN.{ℤ, pos, negsuc, nat_abs}
use lib.ListN.{get_or}
use Rattle.std.specs.Prelude.{Result, Ok, Err}
use Rattle.model.specs.Block.{Term, Range, Output, term, Block, real, int, min-max, by-max, by-min, by-prod, block_of, with_act}
use Rattle.model.specs.Outcome.{Outcome, accepted, refused}
use Rattle.model.specs.Readings.{real_of, taken, value_in, float_of}
use Rattle.model.specs.Evaluation.{term_degrees, output_answer, start_of, held_of, no_answer, padded, fresh_of, held_ok, CallResult, call_result, evaluate_block, answers_after, held_after, Tells, leaving, fresh, record_in}
use Rattle.model.specs.declared.Answer.{Answer}
use Rattle.model.specs.declared.Mark.{Mark}
use Rattle.model.specs.declared.Mark.TheVariants.{None, Fired, Default, Held as HeldMark}
use Rattle.model.specs.declared.Held.{Held}
use Rattle.model.specs.declared.Evaluation.{Evaluation}
use Rattle.model.specs.declared.Refusal.{Refusal}
use Rattle.model.specs.declared.Refusal.TheVariants.{WrongCount, WrongHeld}
use Rattle.model.specs.declared.Crisp.{Crisp}
use Rattle.model.specs.declared.NotTaken.{NotTaken}
use Rattle.model.specs.declared.NotTaken.TheVariants.{Absent as Missing, NotFinite, WrongKind}
use Rattle.model.specs.declared.Reading.{Reading}
use Rattle.model.specs.declared.Reading.TheVariants.{Real, Int, Absent}
use Rattle.model.proofs.Opened.{opened}
use Rattle.model.proofs.Example.{trust}

-- READINGS
-- REAL: 3e38 and what lies past a million are clamped, halves go toward plus
abbrev sixteenths : Bool → ℕ → Float
sixteenths s m = fin s m (negsuc 3)

real_values :
    map (λ x. value_in (real_of x))
    (of_bits binary32 0x7f61b1e6 ∷ of_bits binary32 0xff61b1e6 ∷ fin true 1 (negsuc 10) ∷ fin false 3 (negsuc 11) ∷ fin true 3 (negsuc 11)
    ∷ sixteenths false 16000001 ∷ sixteenths true 16000001 ∷ sixteenths false 15999999 ∷ sixteenths true 15999999 ∷ sixteenths true 3
    ∷ fin true 0 (pos 0) ∷ [])
    ≡ some (pos 1000000000) ∷ some (negsuc 999999999) ∷ some (pos 0) ∷ some (pos 1) ∷ some (negsuc 0)
    ∷ some (pos 1000000000) ∷ some (negsuc 999999999) ∷ some (pos 999999938) ∷ some (negsuc 999999936) ∷ some (negsuc 186)
    ∷ some (pos 0) ∷ []
unfolding opened
real_values = refl

abbrev crisp : ℤ → Result Crisp NotTaken
crisp x = Ok (record { 0 = x })

-- what each kind of reading is to a REAL and to an INT
real_readings : map (taken real) (Real (fin true 5 (pos 0)) ∷ Real (inf false) ∷ Real (inf true) ∷ Real nan ∷ Int (pos 5) ∷ Absent ∷ [])
    ≡ crisp (negsuc 4999) ∷ Err NotFinite ∷ Err NotFinite ∷ Err NotFinite ∷ Err WrongKind ∷ Err Missing ∷ []
unfolding opened
real_readings = refl

int_readings : map (taken int) (Int (pos 32767) ∷ Int (negsuc 32767) ∷ Int (pos 0) ∷ Real (fin false 5 (pos 0)) ∷ Real nan ∷ Absent ∷ [])
    ≡ crisp (pos 32767000) ∷ crisp (negsuc 32767999) ∷ crisp (pos 0) ∷ Err WrongKind ∷ Err WrongKind ∷ Err Missing ∷ []
unfolding opened
int_readings = refl

no_values : map value_in (Err Missing ∷ Err NotFinite ∷ Err WrongKind ∷ []) ≡ none ∷ none ∷ none ∷ []
no_values = refl

-- thousandths / 1000 as a 64-bit float
float_values : map (λ t. to_bits binary64 (float_of t)) (pos 0 ∷ pos 1 ∷ negsuc 0 ∷ pos 25000 ∷ pos 333 ∷ pos 1000000000 ∷ negsuc 999999999 ∷ [])
    ≡ 0 ∷ 0x3f50624dd2f1a9fc ∷ 0xbf50624dd2f1a9fc ∷ 0x4039000000000000 ∷ 0x3fd54fdf3b645a1d ∷ 0x412e848000000000 ∷ 0xc12e848000000000 ∷ []
unfolding opened
float_values = refl

-- ONE OUTPUT, by its heights and its held figure 7
abbrev one_output : Option ℤ → List ℕ → Answer
one_output d hs =
    output_answer
    (record { name = []; terms = record { name = []; at = pos 10000 } ∷ record { name = []; at = negsuc 1999 } ∷ []; range = none; default = d })
    hs (pos 7)

abbrev pub answer : Mark → ℤ → ℕ → ℕ → Answer
answer m t s f = record { mark = m; thousandths = record { 0 = t }; sum = s; value = of_bits binary64 f }

output_answers :
    one_output none (0 ∷ 0 ∷ []) ∷ one_output (some (negsuc 499)) (0 ∷ 0 ∷ []) ∷ one_output none (0 ∷ 1 ∷ []) ∷ one_output (some (pos 0)) (1000000 ∷ 1000000 ∷ [])
    ∷ one_output none (1 ∷ 3 ∷ []) ∷ []
    ≡ answer HeldMark (pos 7) 0 0x3f7cac083126e979 ∷ answer Default (negsuc 499) 0 0xbfe0000000000000 ∷ answer Fired (negsuc 1999) 1 0xc000000000000000
    ∷ answer Fired (pos 4000) 2000000 0x4010000000000000 ∷ answer Fired (pos 1000) 4 0x3ff0000000000000 ∷ []
unfolding opened
output_answers = refl

-- THE HELD RECORD: six figures, 0 in the places past the last
abbrev figures : ℤ → ℤ → ℤ → ℤ → ℤ → ℤ → Held
figures a b c d e f =
    record { figures = record { 0 = a } ∷ record { 0 = b } ∷ record { 0 = c } ∷ record { 0 = d } ∷ record { 0 = e } ∷ record { 0 = f } ∷ [] }

held_places : held_of (pos 1 ∷ negsuc 1 ∷ []) ≡ figures (pos 1) (negsuc 1) (pos 0) (pos 0) (pos 0) (pos 0)
held_places = refl

abbrev between : ℤ → ℤ → Option Range
between x y = some (record { least = x; most = y })

-- no RANGE, 0 below, above, at either end and inside
starts :
    map start_of
    (none ∷ between (pos 1) (pos 5) ∷ between (negsuc 4) (negsuc 0) ∷ between (pos 0) (pos 5) ∷ between (negsuc 4) (pos 0) ∷ between (negsuc 4) (pos 5) ∷ [])
    ≡ pos 0 ∷ pos 1 ∷ negsuc 0 ∷ pos 0 ∷ pos 0 ∷ pos 0 ∷ []
starts = refl

-- REFUSED: no answer in any place, the record as it was passed; a fresh record of zeros
abbrev nothing : Answer
nothing = record { mark = None; thousandths = record { 0 = pos 0 }; sum = 0; value = fin false 0 (pos 0) }

refused_answers : answers_after (refused 12 none) ≡ nothing ∷ nothing ∷ nothing ∷ nothing ∷ nothing ∷ nothing ∷ []
refused_answers = refl

refused_record : held_after (held_of (pos 5 ∷ pos 6 ∷ [])) (refused 14 (some 0)) ≡ figures (pos 5) (pos 6) (pos 0) (pos 0) (pos 0) (pos 0)
refused_record = refl

refused_fresh : record_in (fresh (1 ∷ [])) ≡ figures (pos 0) (pos 0) (pos 0) (pos 0) (pos 0) (pos 0)
unfolding opened
refused_fresh = refl

-- ACT has no effect on singletons
act_no_effect : map (λ a. evaluate_block (with_act a trust) (Real (of_int binary32 (pos 30)) ∷ []) 1 (held_of [])) (by-min ∷ by-prod ∷ [])
    ≡ map (λ a. accepted (call_result (answer Fired (pos 25000) 1000000 0x4039000000000000 ∷ []))) (by-min ∷ by-prod ∷ [])
unfolding opened
act_no_effect = refl

-- ONE CALL on a block of a REAL and an INT, whose outputs y in 10..20 and z in -5..-2 hold; its rule concludes z from n
abbrev rising : List Term
rising = record { name = []; points = record { at = pos 0; degree = 0 } ∷ record { at = pos 2000; degree = 1000000 } ∷ [] } ∷ []

abbrev output : ℤ → ℤ → ℤ → Output
output x y z =
    record { name = []; terms = record { name = []; at = x } ∷ []; range = some (record { least = y; most = z }); default = none }

abbrev called : Block
called =
    block_of [] (record { name = []; type = real; terms = rising } ∷ record { name = []; type = int; terms = rising } ∷ [])
    (output (pos 15000) (pos 10000) (pos 20000) ∷ output (negsuc 4499) (negsuc 4999) (negsuc 1999) ∷ []) [] min-max by-min by-max
    (record { number = 1; condition = term 1; conclusions = record { output = 1; term = 3 } ∷ []; weight = 500000 } ∷ [])

abbrev calling : List Reading → ℕ → List ℤ → Outcome CallResult
calling rs n xs = evaluate_block called rs n (held_of xs)

abbrev five : Reading
five = Real (of_int binary32 (pos 5))

-- the degrees by each input's own value
called_degrees : term_degrees called.inputs (pos 500 ∷ pos 1000 ∷ []) ≡ 250000 ∷ 500000 ∷ []
unfolding opened
called_degrees = refl

-- nothing fires, and each output holds its own figure; z alone fires
called_answers : calling (five ∷ Int (pos 0) ∷ []) 2 (pos 11000 ∷ negsuc 2499 ∷ []) ∷ calling (five ∷ Int (pos 2) ∷ []) 2 (pos 11000 ∷ negsuc 2499 ∷ []) ∷ []
    ≡ accepted (call_result (answer HeldMark (pos 11000) 0 0x4026000000000000 ∷ answer HeldMark (negsuc 2499) 0 0xc004000000000000 ∷ []))
    ∷ accepted (call_result (answer HeldMark (pos 11000) 0 0x4026000000000000 ∷ answer Fired (negsuc 4499) 500000 0xc012000000000000 ∷ [])) ∷ []
unfolding opened
called_answers = refl

-- 12 before 13; a figure below RANGE, above it, an unused place, a missing reading's place behind 13
called_refused :
    calling [] 1 [] ∷ calling [] 3 (pos 11000 ∷ negsuc 2499 ∷ []) ∷ calling [] 2 (pos 9999 ∷ negsuc 2499 ∷ []) ∷ calling [] 2 (pos 11000 ∷ negsuc 1998 ∷ [])
    ∷ calling [] 2 (pos 11000 ∷ negsuc 2499 ∷ pos 1 ∷ []) ∷ calling [] 2 (pos 11000 ∷ negsuc 2499 ∷ [])
    ∷ calling (five ∷ []) 2 (pos 10000 ∷ negsuc 4999 ∷ []) ∷ calling (five ∷ five ∷ []) 2 (pos 20000 ∷ negsuc 1999 ∷ []) ∷ []
    ≡ refused 12 none ∷ refused 12 none ∷ refused 13 none ∷ refused 13 none ∷ refused 13 none ∷ refused 14 (some 0) ∷ refused 14 (some 1)
    ∷ refused 14 (some 1) ∷ []
unfolding opened
called_refused = refl

-- without RANGE a held figure has the crisp bounds
bounds_held : map (λ x. held_ok trust.outputs (x ∷ [])) (pos 1000000000 ∷ pos 1000000001 ∷ negsuc 999999999 ∷ negsuc 1000000000 ∷ [])
    ≡ true ∷ false ∷ true ∷ false ∷ []
unfolding opened
bounds_held = refl

-- the end of each RANGE that is nearest 0
called_fresh : fresh_of called ∷ record_in (accepted (fresh_of called)) ∷ [] ≡ held_of (pos 10000 ∷ negsuc 1999 ∷ []) ∷ held_of (pos 10000 ∷ negsuc 1999 ∷ []) ∷ []
unfolding opened
called_fresh = refl

-- WHAT AN EVALUATION TELLS of an accepted call and of a refused one on the record of 5, and in which parts it must not differ
abbrev one : Answer
one = answer HeldMark (pos 7) 0 0x3f7cac083126e979

abbrev before : Held
before = held_of (pos 5 ∷ [])

abbrev evaluation : Result (Unit {0}) Refusal → List Answer → Held → Evaluation
evaluation v given h = record { verdict = v; answers = padded no_answer given; held = h }

abbrev TellsOne : Evaluation → Type 0
TellsOne r = Tells r before (accepted (call_result (one ∷ [])))

abbrev TellsRefused : Evaluation → Type 0
TellsRefused r = Tells r before (refused 12 none)

daily_call : leaving (record { verdict = Err WrongCount; answers = padded no_answer (one ∷ []) }) before ≡ evaluation (Err WrongCount) (one ∷ []) before
daily_call = refl

told : TellsOne (evaluation (Ok tt) (one ∷ []) (held_of (pos 7 ∷ [])))
told = record { verdict = refl; answers = refl; held = refl }

told_refused : TellsRefused (evaluation (Err WrongCount) [] before)
told_refused = record { verdict = refl; answers = refl; held = refl }

abbrev number_in : Outcome (Unit {0}) → ℕ
number_in (accepted a) = 0
number_in (refused n p) = n

abbrev first_answer : List Answer → ℕ
first_answer given = get_or (map (λ a. nat_abs a.thousandths.0) given) 0 0

abbrev first_figure : Held → ℕ
first_figure h = get_or (map (λ c. nat_abs c.0) h.figures) 0 0

verdict_not_told : TellsOne (evaluation (Err WrongCount) (one ∷ []) (held_of (pos 7 ∷ []))) → ⊥
verdict_not_told t = let z : ◌≡◌ {A = ℕ} 12 0 = ap number_in t.verdict in omega (arith, z)

number_not_told : TellsRefused (evaluation (Err WrongHeld) [] before) → ⊥
number_not_told t = let z : ◌≡◌ {A = ℕ} 13 12 = ap number_in t.verdict in omega (arith, z)

answers_not_told : TellsOne (evaluation (Ok tt) [] (held_of (pos 7 ∷ []))) → ⊥
answers_not_told t = let z : ◌≡◌ {A = ℕ} 0 7 = ap first_answer t.answers in omega (arith, z)

refused_not_answered : TellsRefused (evaluation (Err WrongCount) (one ∷ []) before) → ⊥
refused_not_answered t = let z : ◌≡◌ {A = ℕ} 7 0 = ap first_answer t.answers in omega (arith, z)

held_not_told : TellsOne (evaluation (Ok tt) (one ∷ []) before) → ⊥
held_not_told t = let z : ◌≡◌ {A = ℕ} 5 7 = ap first_figure t.held in omega (arith, z)

refused_not_moved : TellsRefused (evaluation (Err WrongCount) [] (held_of (pos 7 ∷ []))) → ⊥
refused_not_moved t = let z : ◌≡◌ {A = ℕ} 7 5 = ap first_figure t.held in omega (arith, z)
