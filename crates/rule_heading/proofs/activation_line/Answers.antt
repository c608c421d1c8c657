use Rattle.rule_heading.proofs.Laws as laws
use Rattle.rule_heading.proofs.activation_line.Goals as goal

pub returns-then-p-ne-ACT : goal.returns-then-p-ne-ACT
returns-then-p-ne-ACT c =
    laws.stays _ c.requires.0 c.requires.1 (λ b n. laws.act_absent c.args.s.now c.args.p b n c.if-p-ne-ACT.true)

pub returns : goal.returns
returns c =
    laws.opens_as (λ b n. laws.act_line c.args.s.now c.args.p b n c.if-p-ne-ACT.false)
    (laws.opens_then (laws.opens_then (laws.opens_then c.expected-p.ensures c.expected-p-2.ensures)
    c.activation-p.ensures) c.expected.ensures)
