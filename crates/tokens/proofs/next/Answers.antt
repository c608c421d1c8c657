use borrow.Author.Rules.{rules}
use native.Mathlib.Omega.{arith}
use mathlib.Core.Path.{refl, sym, ◌∙◌}
use lib.ListN.{length-drop}
use Rattle.model.specs.Tokens.{tokens}
use Rattle.tokens.specs.Tokens.{tokens_from}
use Rattle.laws.proofs.Slices.{rest as part}
use Rattle.tokens.proofs.Laws.{pass, answer, last}
use Rattle.tokens.proofs.next.Goals as goal

pub loop-i-init : goal.loop-i-init
unfolding tokens_from tokens
loop-i-init c = (search rules, refl)

pub returns-then-p-ne-BLANK : goal.returns-then-p-ne-BLANK
returns-then-p-ne-BLANK c =
    let l = c.loop-i in
    let p = c.first_piece-p in
    let h = simp part at p.ensures.within.1 in
    record {
      rest_value = sym l.invariant.1 ∙ answer c.args.rest.now l.i p.result.kind p.result.more h (simp part at p.ensures.result_value) c.if-p-ne-BLANK.true
          p.ensures.within.0;
      within = omega (arith, h, length-drop l.i c.args.rest.now);
    }

pub loop-i-preserved : goal.loop-i-preserved
loop-i-preserved c =
    let l = c.loop-i in
    let p = c.first_piece-p in
    let h = simp part at p.ensures.within.1 in (
      omega (arith, h, length-drop l.i c.args.rest.now),
      sym (pass c.args.rest.now l.i p.result.kind p.result.more h (simp part at p.ensures.result_value) c.if-p-ne-BLANK.false) ∙ l.invariant.1,
    )

pub returns : goal.returns
returns c =
    let l = c.loop-i in
    record {
      rest_value = sym l.invariant.1 ∙ last c.args.rest.now l.i (search rules);
      within = search rules;
    }
