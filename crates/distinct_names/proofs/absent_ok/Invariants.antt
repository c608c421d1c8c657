use mathlib.Core.Path.{◌≡◌}
use Prim.Native.Nat.{◌-◌}
use Rattle.model.specs.Basic.{same, tab}
use Rattle.model.specs.Image.{word_at}
use Rattle.name_letters.specs.Letters.{letters_at, words_in, absent}
use Rattle.distinct_names.proofs.absent_ok.Given as goal

abbrev pub invariant-loop-j : goal.invariant-loop-j
invariant-loop-j g l =
    let w = letters_at (word_at l.img) in
    let f = words_in w l.table.start g.row.WIDTH in
    absent same (tab w 4 l.o) (tab f (l.table.rows - l.j) l.j) ≡ absent same (tab w 4 l.o) (tab f (l.table.rows - l.i) l.i)
