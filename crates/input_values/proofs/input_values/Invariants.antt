use mathlib.Core.Path.{◌≡◌}
use Prim.Native.Nat.{◌≤◌}
use lib.IntN.{pos}
use lib.ListN.{length, take, replicate}
use lib.Seq.{sets}
use Rattle.model.specs.Bounds.{input_limit}
use Rattle.model.specs.Image.{word_at}
use Rattle.input_values.specs.Filled.{figures, AllCrisp}
use Rattle.input_values.proofs.Wrong.{found}
use Rattle.input_values.proofs.input_values.Given as goal

abbrev pub invariant-loop-i : goal.invariant-loop-i
invariant-loop-i l =
    let xs = found (word_at l.stored.bytes.now) l.rs in record {
      few : l.i-end ≤ input_limit;
      long : length l.at ≡ input_limit;
      read : l.i ≤ length xs;
      values : figures l.at ≡ sets (replicate input_limit (pos 0)) 0 (take l.i xs);
      crisp : AllCrisp (figures l.at);
    }
