use mathlib.Core.Path.{◌≡◌}
use Prim.Native.Nat.{◌*◌, ◌-◌, ◌≤◌}
use lib.IntN.{pos}
use lib.ListN.{get_or, replicate}
use lib.Seq.{sets}
use Rattle.model.specs.Bounds.{input_limit, term_limit, input_term_limit}
use Rattle.model.specs.Basic.{tab}
use Rattle.model.specs.Evaluation.{term_degrees}
use Rattle.model.specs.Image.{word_at, term_at, input_at}
use Rattle.layout.specs.Tables.{sums, input_count}
use Rattle.degrees.specs.Tables.{numbers}
use Rattle.input_values.specs.Filled.{figures}
use Rattle.fuzzification.proofs.Degrees.{degrees_at}
use Rattle.fuzzification.proofs.term_degrees.Given as goal

-- the terms of input i before term t, and those of the first i inputs
abbrev pub invariant-loop-t : goal.invariant-loop-t
invariant-loop-t l =
    numbers l.ds.at ≡ sets (numbers l.initial.ds.at) l.first
    (degrees_at (get_or (figures l.xs) l.i (pos 0)) (tab (term_at (word_at l.stored.bytes.now)) (l.t - l.first) l.first))

abbrev pub invariant-loop-i : goal.invariant-loop-i
invariant-loop-i l =
    let w = word_at l.stored.bytes.now in record {
      few : l.i-end ≤ input_limit;
      before : l.first ≡ sums (input_count w) l.i 0;
      small : l.first ≤ term_limit * l.i;
      placed : numbers l.ds.at ≡ sets (replicate input_term_limit 0) 0 (term_degrees (tab (input_at w) l.i 0) (figures l.xs));
    }
