use mathlib.Core.Path.{sym, ap, ◌∙◌}
use native.Mathlib.Omega.{arith}
use Rattle.model.specs.Rules.{rule_from}
use Rattle.rule_text.proofs.Laws as laws
use Rattle.rule_text.proofs.rule.Goals as goal

pub returns-then-p-ne-RULE : goal.returns-then-p-ne-RULE
returns-then-p-ne-RULE c = let s = c.args.d.now.text.now in
    let g = c.requires in
    let x = c.refused.ensures.by_index s g.0 in
    let z = c.refused.ensures.totals in
    record {
      goes = (λ b d k. laws.goes_none 2 x.0 z.0 z.1 (laws.rule_none s b _ _ c.if-p-ne-RULE.true));
      within = laws.within_none 2 x.0 z.0 g.1;
      moves = x.1;
    }

pub returns-then-p-ge-RULES : goal.returns-then-p-ge-RULES
returns-then-p-ge-RULES c =
    let s = c.args.d.now.text.now in
    let g = c.requires in
    let x = c.refused-then-p-ge-RULES.ensures.by_index s g.0 in
    let z = c.refused-then-p-ge-RULES.ensures.totals in
    record {
      goes = (λ b d k. laws.goes_none 6 x.0 z.0 z.1 (laws.rule_full s b _ _ c.if-p-ne-RULE.false _ k.rules_count c.if-p-ge-RULES.true));
      within = laws.within_none 6 x.0 z.0 g.1;
      moves = x.1;
    }

pub returns : goal.returns
returns c =
    let s = c.args.d.now.text.now in
    let p = c.args.p in
    let a = c.advance.ensures in
    let f = c.rule_from.ensures in
    record {
      goes = (λ b d k.
          let y = f.goes b d k in
          record {
            rules = y.rules;
            reads = y.reads ∙ ap rule_from (a.step.reads b p.totals.words)
                ∙ sym (laws.rule_room s b _ _ c.if-p-ne-RULE.false _ k.rules_count c.if-p-ge-RULES.false);
            kept = y.kept;
          });
      within = record { fewer = omega (arith, f.within.fewer, a.step.fewer); fits = f.within.fits; few = f.within.few };
      moves = λ h. omega (arith, f.within.fewer, a.moves.0);
    }
