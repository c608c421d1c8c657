use borrow.Author.Rules.{rules}
use mathlib.Core.Path.{◌≡◌}
use Prim.Native.Nat.{ℕ, ◌-◌}
use native.Mathlib.Omega.{arith}
use lib.ListN.{length, get_or}
use Rattle.term_rows.specs.Rows.{term_size, held_in}
use Rattle.term_rows.proofs.Sums.{sums_more, sums_end}
use Rattle.term_rows.proofs.point_count.Goals as goal

pub loop-k-init : goal.loop-k-init
unfolding held_in
loop-k-init c =
    let n = length c.args.slots.now in
    let z : n - 0 ≡ n = omega arith in
    (search rules, rw z (omega arith))

pub offset_bounds-terms-k : goal.offset_bounds-terms-k
offset_bounds-terms-k c = let h = c.requires.0.below c.loop-k.k-index in search rules

pub bounds-terms-k : goal.bounds-terms-k
bounds-terms-k c = let h = c.requires.0.below c.loop-k.k-index in search rules

pub overflow_add-n : goal.overflow_add-n
overflow_add-n c =
    let m = c.requires.1 (get_or c.args.slots.now c.loop-k.k-index 0) in search rules

pub loop-k-preserved : goal.loop-k-preserved
loop-k-preserved c =
    let a = c.args in
    let l = c.loop-k in
    let m = c.requires.1 (get_or a.slots.now l.k-index 0) in
    let f : ℕ → ℕ = λ i. term_size a.terms.now (get_or a.slots.now i 0) in
    (omega (arith, m), omega (arith, sums_more f (length a.slots.now) l.k-index (omega arith)))

pub returns : goal.returns
returns c =
    let a = c.args in
    let l = c.loop-k in
    let f : ℕ → ℕ = λ i. term_size a.terms.now (get_or a.slots.now i 0) in
    (omega (arith, sums_end f (length a.slots.now) l.k-index (omega arith)), omega arith)
