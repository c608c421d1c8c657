use mathlib.Core.Path.{refl, sym, ap, ◌∙◌}
use mathlib.Core.Bool.{not}
use Prim.Native.Nat.{ℕ}
use borrow.Author.Rules.{rules}
use Rattle.model.specs.Basic.{same, tab}
use Rattle.model.specs.Image.{word_at}
use Rattle.laws.proofs.Places.{all_more, all_stop, all_end}
use Rattle.name_letters.specs.Letters.{letters_at, words_in}
use Rattle.distinct_names.proofs.Entries.{entry}
use Rattle.distinct_names.proofs.absent_ok.Goals as goal

pub loop-j-init : goal.loop-j-init
loop-j-init g c = refl

pub row-requires : goal.row-requires
row-requires g c = search (rules, entry c.loop-j.j c.args.table.now.rows g.row.WIDTH c.loop-j-test.true)

pub same_name-requires : goal.same_name-requires
same_name-requires g c = search (rules, entry c.loop-j.j c.args.table.now.rows g.row.WIDTH c.loop-j-test.true)

pub returns-then-same_name : goal.returns-then-same_name
returns-then-same_name g c =
    let a = c.args in
    let w = letters_at (word_at a.img.now) in
    let t = ap not (sym c.same_name.ensures ∙ c.if-same_name.true) in
    let e = ap (λ (k : ℕ). not (same (tab w 4 a.o) (tab w 4 k))) (sym c.row.ensures) in
    sym (all_stop (λ y. not (same (tab w 4 a.o) y)) (words_in w a.table.now.start g.row.WIDTH) _ _ c.loop-j-test.true (e ∙ t)) ∙ c.loop-j.invariant

pub loop-j-preserved : goal.loop-j-preserved
loop-j-preserved g c =
    let a = c.args in
    let w = letters_at (word_at a.img.now) in
    let t = ap not (sym c.same_name.ensures ∙ c.if-same_name.false) in
    let e = ap (λ (k : ℕ). not (same (tab w 4 a.o) (tab w 4 k))) (sym c.row.ensures) in
    sym (all_more (λ y. not (same (tab w 4 a.o) y)) (words_in w a.table.now.start g.row.WIDTH) _ _ c.loop-j-test.true (e ∙ t)) ∙ c.loop-j.invariant

pub returns : goal.returns
returns g c =
    let a = c.args in
    let w = letters_at (word_at a.img.now) in
    sym (all_end (λ y. not (same (tab w 4 a.o) y)) (words_in w a.table.now.start g.row.WIDTH) _ _ c.loop-j-test.false) ∙ c.loop-j.invariant
