use Rattle.model.specs.Rules.{algorithm_line}
use Rattle.rule_heading.proofs.Laws as laws
use Rattle.rule_heading.proofs.algorithm_line.Goals as goal

pub returns : goal.returns
unfolding algorithm_line
returns c =
    let s = c.args.s.now in
    let q = c.expected-p-2.result in
    laws.opens_then (laws.opens_then (laws.opens_then c.expected-p.ensures c.expected-p-2.ensures) c.algorithm-p.ensures) c.expected.ensures
