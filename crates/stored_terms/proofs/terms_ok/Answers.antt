use mathlib.Core.Path.{sym, ◌∙◌}
use Prim.Native.Nat.{◌+◌}
use borrow.Author.Rules.{rules}
use Rattle.model.specs.WellFormed.{term_ok}
use Rattle.model.specs.Image.{word_at, term_at}
use Rattle.laws.proofs.Places.{all_more, all_stop, all_end, all_start}
use Rattle.stored_terms.proofs.Named.{input_term_within}
use Rattle.stored_terms.proofs.Spelt.{term_spelt}
use Rattle.stored_terms.proofs.terms_ok.Goals as goal

pub overflow_add-t-end : goal.overflow_add-t-end
overflow_add-t-end c = let l = input_term_within c.args.image.now in search rules

pub loop-t-init : goal.loop-t-init
loop-t-init c = all_start _ _ _ _

pub returns-then-not-term_ok : goal.returns-then-not-term_ok
returns-then-not-term_ok c =
    let a = c.args in
    let f = term_at (word_at a.image.now.stored.bytes.now) in
    sym (all_stop term_ok f (a.s + a.k) c.loop-t.t c.loop-t-test.true (sym (term_spelt _ _) ∙ sym c.term_ok.ensures ∙ c.if-not-term_ok.true)) ∙ c.loop-t.invariant

pub loop-t-preserved : goal.loop-t-preserved
loop-t-preserved c =
    let a = c.args in
    let f = term_at (word_at a.image.now.stored.bytes.now) in
    sym (all_more term_ok f (a.s + a.k) c.loop-t.t c.loop-t-test.true (sym (term_spelt _ _) ∙ sym c.term_ok.ensures ∙ c.if-not-term_ok.false)) ∙ c.loop-t.invariant

pub returns : goal.returns
returns c =
    let a = c.args in
    let f = term_at (word_at a.image.now.stored.bytes.now) in
    sym (all_end term_ok f (a.s + a.k) c.loop-t.t c.loop-t-test.false) ∙ c.loop-t.invariant
