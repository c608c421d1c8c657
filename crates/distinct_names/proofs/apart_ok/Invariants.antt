use mathlib.Core.Path.{◌≡◌}
use Prim.Native.Nat.{◌-◌}
use Rattle.model.specs.Basic.{same, tab}
use Rattle.model.specs.Image.{word_at}
use Rattle.name_letters.specs.Letters.{letters_at, words_in, apart}
use Rattle.distinct_names.proofs.apart_ok.Given as goal

abbrev pub invariant-loop-i : goal.invariant-loop-i
invariant-loop-i g l =
    let f = words_in (letters_at (word_at l.img)) l.first.start g.row.A in
    let names = tab (words_in (letters_at (word_at l.img)) l.second.start g.row.B) l.second.rows 0 in
    apart same (tab f (l.first.rows - l.i) l.i) names ≡ apart same (tab f l.first.rows 0) names
