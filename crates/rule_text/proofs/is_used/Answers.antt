use borrow.Author.Rules.{rules}
use Rattle.rule_text.proofs.Laws as laws
use Rattle.rule_text.proofs.is_used.Goals as goal

pub returns-then-rules-k : goal.returns-then-rules-k
returns-then-rules-k c = λ rs w. laws.used_here rs _ _ _ w c.loop-k.k (search rules) c.if-rules-k.true (c.loop-k.invariant.1 rs w)

pub loop-k-preserved : goal.loop-k-preserved
loop-k-preserved c =
    (search rules, λ rs w. laws.used_more rs _ _ _ w c.loop-k.k (search rules) c.if-rules-k.false (c.loop-k.invariant.1 rs w))

pub returns : goal.returns
returns c = λ rs w. laws.used_none rs _ _ _ w c.loop-k.k (search rules) (c.loop-k.invariant.1 rs w)
