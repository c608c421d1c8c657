use mathlib.Core.Path.{sym, ap, ◌∙◌}
use Prim.Native.Nat.{ℕ}
use native.Mathlib.Nat.{sub-zero}
use borrow.Author.Rules.{rules}
use Rattle.model.specs.Basic.{same, tab}
use Rattle.model.specs.Image.{word_at}
use Rattle.laws.proofs.Places.{all_more, all_stop, all_end}
use Rattle.name_letters.specs.Letters.{letters_at, words_in, absent}
use Rattle.distinct_names.proofs.Entries.{entry}
use Rattle.distinct_names.proofs.apart_ok.Goals as goal

pub loop-i-init : goal.loop-i-init
loop-i-init g c = rw sub-zero

pub row-requires : goal.row-requires
row-requires g c = search (rules, entry c.loop-i.i c.args.first.now.rows g.row.A c.loop-i-test.true)

pub absent_ok-requires : goal.absent_ok-requires
absent_ok-requires g c = search (rules, entry c.loop-i.i c.args.first.now.rows g.row.A c.loop-i-test.true)

pub returns-then-not-absent_ok : goal.returns-then-not-absent_ok
returns-then-not-absent_ok g c =
    let a = c.args in
    let w = letters_at (word_at a.img.now) in
    let names = tab (words_in w a.second.now.start g.row.B) a.second.now.rows 0 in
    let e = ap (λ (k : ℕ). absent same (tab w 4 k) names) (sym c.row.ensures) in
    let t = sym (rw sub-zero at c.absent_ok.ensures) ∙ c.if-not-absent_ok.true in
    sym (all_stop (λ x. absent same x names) (words_in w a.first.now.start g.row.A) _ _ c.loop-i-test.true (e ∙ t)) ∙ c.loop-i.invariant

pub loop-i-preserved : goal.loop-i-preserved
loop-i-preserved g c =
    let a = c.args in
    let w = letters_at (word_at a.img.now) in
    let names = tab (words_in w a.second.now.start g.row.B) a.second.now.rows 0 in
    let e = ap (λ (k : ℕ). absent same (tab w 4 k) names) (sym c.row.ensures) in
    let t = sym (rw sub-zero at c.absent_ok.ensures) ∙ c.if-not-absent_ok.false in
    sym (all_more (λ x. absent same x names) (words_in w a.first.now.start g.row.A) _ _ c.loop-i-test.true (e ∙ t)) ∙ c.loop-i.invariant

pub returns : goal.returns
returns g c =
    let a = c.args in
    let w = letters_at (word_at a.img.now) in
    let names = tab (words_in w a.second.now.start g.row.B) a.second.now.rows 0 in
    sym (all_end (λ x. absent same x names) (words_in w a.first.now.start g.row.A) _ _ c.loop-i-test.false) ∙ c.loop-i.invariant
