use mathlib.Core.Path.{sym, ap, ◌∙◌}
use Prim.Native.Nat.{ℕ, ◌-◌, ◌+◌}
use native.Mathlib.Nat.{sub-zero}
use borrow.Author.Rules.{rules}
use Rattle.model.specs.Basic.{same, tab}
use Rattle.model.specs.Image.{word_at}
use Rattle.laws.proofs.Places.{distinct_more, distinct_stop, distinct_end}
use Rattle.name_letters.specs.Letters.{letters_at, words_in, absent}
use Rattle.distinct_names.proofs.Entries.{entry}
use Rattle.distinct_names.proofs.distinct_ok.Goals as goal

pub loop-i-init : goal.loop-i-init
loop-i-init g c = rw sub-zero

pub row-requires : goal.row-requires
row-requires g c = search (rules, entry c.loop-i.i c.args.table.now.rows g.row.WIDTH c.loop-i-test.true)

pub absent_ok-requires : goal.absent_ok-requires
absent_ok-requires g c = search (rules, entry c.loop-i.i c.args.table.now.rows g.row.WIDTH c.loop-i-test.true)

pub returns-then-not-absent_ok : goal.returns-then-not-absent_ok
returns-then-not-absent_ok g c =
    let a = c.args in
    let l = c.loop-i in
    let w = letters_at (word_at a.img.now) in
    let f = words_in w a.table.now.start g.row.WIDTH in
    let e = ap (λ (k : ℕ). absent same (tab w 4 k) (tab f (a.table.now.rows - (l.i + 1)) (l.i + 1))) (sym c.row.ensures) in
    sym (distinct_stop same f _ _ c.loop-i-test.true (e ∙ sym c.absent_ok.ensures ∙ c.if-not-absent_ok.true)) ∙ l.invariant

pub loop-i-preserved : goal.loop-i-preserved
loop-i-preserved g c =
    let a = c.args in
    let l = c.loop-i in
    let w = letters_at (word_at a.img.now) in
    let f = words_in w a.table.now.start g.row.WIDTH in
    let e = ap (λ (k : ℕ). absent same (tab w 4 k) (tab f (a.table.now.rows - (l.i + 1)) (l.i + 1))) (sym c.row.ensures) in
    sym (distinct_more same f _ _ c.loop-i-test.true (e ∙ sym c.absent_ok.ensures ∙ c.if-not-absent_ok.false)) ∙ l.invariant

pub returns : goal.returns
returns g c =
    let a = c.args in
    sym (distinct_end same (words_in (letters_at (word_at a.img.now)) a.table.now.start g.row.WIDTH) _ _ c.loop-i-test.false) ∙ c.loop-i.invariant
