use borrow.Author.Rules.{rules}
use mathlib.Core.Path.{◌≡◌}
use Prim.Native.Nat.{◌-◌}
use native.Mathlib.Omega.{arith}
use lib.ListN.{length, take}
use Rattle.model.specs.Bounds.{output_term_limit}
use Rattle.variable_rows.specs.Rows.{output_size, slots_of}
use Rattle.variable_rows.proofs.Lists.{slots_more, slots_end}
use Rattle.variable_rows.proofs.output_slots.Goals as goal

pub loop-o-init : goal.loop-o-init
unfolding slots_of
loop-o-init c =
    let n = length c.args.outputs.now in
    let z : n - 0 ≡ n = omega arith in
    (search rules, c.requires.2, rw z)

pub with_slots-n-requires : goal.with_slots-n-requires
with_slots-n-requires c =
    let l = c.loop-o in
    let m = c.requires.1 l.o in
    (omega (arith, c.requires.0), m, omega (arith, c.requires.0), l.invariant.1.size)

pub loop-o-preserved : goal.loop-o-preserved
loop-o-preserved c =
    let a = c.args in
    let l = c.loop-o in
    let w = c.with_slots-n.ensures in
    let m = c.requires.1 l.o in (
      omega (arith, w.value.0),
      w.below output_term_limit (omega (arith, c.requires.0)) l.invariant.1,
      slots_more (output_size a.outputs.now) (length a.outputs.now) l.o (take l.n l.list) _ _ (omega arith) w.value.1 l.invariant.2,
    )

pub returns : goal.returns
returns c =
    let a = c.args in
    let l = c.loop-o in
    (l.invariant.1, omega arith, slots_end (output_size a.outputs.now) (length a.outputs.now) l.o (take l.n l.list) _ (omega arith) l.invariant.2)
