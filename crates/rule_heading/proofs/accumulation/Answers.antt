use borrow.Author.Rules.{rules}
use native.Mathlib.Omega.{arith}
use Rattle.rule_heading.proofs.Laws as laws
use Rattle.rule_heading.proofs.accumulation.Goals.{in-150, in-133}
use Rattle.rule_heading.proofs.accumulation.Goals as goal

pub returns-in_default : goal.returns-in_default
returns-in_default c =
    let s = c.args.s.now in
    laws.opens_as (λ b n. laws.accu_none s c.args.p b n (search rules) (search rules)) (c.refused.ensures s c.requires.0 c.requires.1)

pub returns : goal.returns
returns c =
    let s = c.args.s.now in
    let p = c.args.p in
    elim c.match-p.branch [
      | in-150 w ↦ rw w.accu-is (laws.passed p _ c.advance.ensures.step (laws.accu_headed s p _ c.requires.1)
          (λ b n. laws.accu_max s p b n w.in-150.is (c.requires.0.halted (λ e. omega (arith, w.in-150.is)))))
      | in-133 w ↦ rw w.accu-is (laws.passed p _ c.advance.ensures.step (laws.accu_headed s p _ c.requires.1)
          (λ b n. laws.accu_bsum s p b n w.in-133.is (c.requires.0.halted (λ e. omega (arith, w.in-133.is)))))
    ]
