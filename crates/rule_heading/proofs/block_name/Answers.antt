use native.Mathlib.Omega.{arith}
use Rattle.rule_heading.specs.Opening.{headed}
use Rattle.cursor.proofs.Laws.{never_zero}
use Rattle.rule_heading.proofs.Laws as laws
use Rattle.rule_heading.proofs.block_name.Goals as goal

pub returns-in-Err : goal.returns-in-Err
returns-in-Err c =
    let s = c.args.s.now in
    let p = c.args.p in
    laws.opens_as (λ b n. laws.name_fault s p _ b n (c.in-Err.ensures.by_index s c.requires.0 (headed s p.heading b) n)
    (never_zero c.in-Err.fault)) (c.refused.ensures s c.requires.0 c.requires.1)

pub returns : goal.returns
returns c =
    let s = c.args.s.now in
    let p = c.args.p in
    let k = c.in_default.ensures.kind in
    laws.passed p _ c.advance.ensures.step (laws.name_headed s p c.requires.0)
    (λ b n. laws.name_given s p b n (c.in_default.ensures.by_index s c.requires.0 (headed s p.heading b) n) (c.requires.0.halted (λ z. omega (arith, k))))
