use native.Mathlib.Omega.{arith}
use Rattle.block_tables.proofs.Types as laws
use Rattle.block_tables.proofs.typed.Goals as goal

pub loop-i-init : goal.loop-i-init
loop-i-init c = record { ends = λ q. absurd (omega arith); so_far = laws.typed_none _ _ c.requires.1 }

pub loop-i-preserved : goal.loop-i-preserved
loop-i-preserved c =
    let l = c.loop-i in
    let t = c.loop-i-test.true in
    record { ends = λ q. omega arith; so_far = laws.typed_more _ _ _ _ l.invariant.so_far l.auto.i (omega (arith, c.requires.0)) }

pub returns : goal.returns
returns c = let l = c.loop-i in laws.typed_end _ _ _ _ _ l.invariant.so_far l.invariant.ends l.auto.i c.loop-i-test.false
