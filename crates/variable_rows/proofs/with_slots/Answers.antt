use mathlib.Core.Path.{◌≡◌, refl, sym, ◌∙◌}
use mathlib.Core.List.{append-nil}
use Prim.Native.Nat.{◌+◌, ◌*◌, ◌<◌}
use native.Mathlib.Omega.{arith}
use lib.ListN.{length-set, take}
use Rattle.model.specs.Basic.{tab}
use Rattle.model.specs.Bounds.{term_limit, input_term_limit}
use Rattle.variable_rows.proofs.Lists.{slot_more, listed_more}
use Rattle.variable_rows.proofs.with_slots.Goals as goal

pub loop-j-init : goal.loop-j-init
unfolding tab
loop-j-init c =
    let a = c.args in
    let z : a.count + 0 ≡ a.count = omega arith in
    (c.requires.3, (λ m b h. h), rw z (sym (append-nil (take a.count a.list.now))))

pub loop-j-preserved : goal.loop-j-preserved
loop-j-preserved c =
    let a = c.args in
    let l = c.loop-j in
    let x = a.v * term_limit + l.j in
    let k = a.count + l.j in
    let few : k < input_term_limit = omega (arith, c.requires) in
    let e : a.count + (l.j + 1) ≡ k + 1 = omega arith in (
      length-set l.list k x ∙ l.invariant.0,
      (λ m d h. listed_more l.list k x m (l.invariant.1 m d h) few (omega arith)),
      rw e (slot_more l.list k x (take a.count a.list.now) (λ i. a.v * term_limit + i) l.j
          (omega (arith, few, l.invariant.0)) refl l.invariant.2),
    )

pub returns : goal.returns
returns c =
    let l = c.loop-j in
    let e : l.j ≡ c.args.n = omega arith in
    record {
      value = (refl, rw (← e) l.invariant.2);
      below = l.invariant.1;
    }
