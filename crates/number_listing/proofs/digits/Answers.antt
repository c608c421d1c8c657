use native.Mathlib.Omega.{arith}
use Rattle.number_listing.proofs.Numbers.{pending_all, pending_less, pending_none}
use Rattle.number_listing.proofs.digits.Goals as goal

pub loop-m-init : goal.loop-m-init
loop-m-init c = pending_all c.args.n _

pub loop-m-preserved : goal.loop-m-preserved
loop-m-preserved c = pending_less c.args.n c.loop-m.m (omega arith) c.loop-m.invariant (rw c.digit.ensures at c.put.ensures)

pub returns : goal.returns
returns c = pending_none c.args.n c.loop-m.m (omega arith) c.loop-m.invariant (rw c.digit-2.ensures at c.put-2.ensures)
