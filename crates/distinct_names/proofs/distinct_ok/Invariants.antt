use mathlib.Core.Path.{◌≡◌}
use Prim.Native.Nat.{◌-◌}
use Rattle.model.specs.Basic.{distinct, same, tab}
use Rattle.model.specs.Image.{word_at}
use Rattle.name_letters.specs.Letters.{letters_at, words_in}
use Rattle.distinct_names.proofs.distinct_ok.Given as goal

abbrev pub invariant-loop-i : goal.invariant-loop-i
invariant-loop-i g l =
    let f = words_in (letters_at (word_at l.img)) l.table.start g.row.WIDTH in
    distinct same (tab f (l.table.rows - l.i) l.i) ≡ distinct same (tab f l.table.rows 0)
