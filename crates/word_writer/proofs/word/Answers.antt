use mathlib.Core.Path.{◌≡◌, ◌∙◌}
use Prim.Native.Nat.{◌/◌, ◌%◌}
use native.Mathlib.Omega.{arith}
use Rattle.word_writer.proofs.Over.{one_word}
use Rattle.word_writer.proofs.word.Goals as goal

pub returns : goal.returns
returns c =
    let top : c.args.w / 16777216 % 256 ≡ c.args.w / 16777216 = omega arith in
    one_word _ _ _ _ c.requires (c.copy_from_slice.ensures.after ∙ rw top at c.to_le_bytes.ensures)
