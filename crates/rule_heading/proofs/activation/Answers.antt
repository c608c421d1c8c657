use borrow.Author.Rules.{rules}
use native.Mathlib.Omega.{arith}
use Rattle.rule_heading.proofs.Laws as laws
use Rattle.rule_heading.proofs.activation.Goals.{in-152, in-158}
use Rattle.rule_heading.proofs.activation.Goals as goal

pub returns-in_default : goal.returns-in_default
returns-in_default c =
    let s = c.args.s.now in
    laws.opens_as (λ b n. laws.act_none s c.args.p b n (search rules) (search rules)) (c.refused.ensures s c.requires.0 c.requires.1)

pub returns : goal.returns
returns c =
    let s = c.args.s.now in
    let p = c.args.p in
    elim c.match-p.branch [
      | in-152 w ↦ rw w.act-is (laws.passed p _ c.advance.ensures.step (laws.act_headed s p _ c.requires.1)
          (λ b n. laws.act_min s p b n w.in-152.is (c.requires.0.halted (λ e. omega (arith, w.in-152.is)))))
      | in-158 w ↦ rw w.act-is (laws.passed p _ c.advance.ensures.step (laws.act_headed s p _ c.requires.1)
          (λ b n. laws.act_prod s p b n w.in-158.is (c.requires.0.halted (λ e. omega (arith, w.in-158.is)))))
    ]
