use borrow.Author.Rules.{rules}
use mathlib.Core.Path.{◌≡◌, refl}
use Prim.Native.Nat.{ℕ, ◌-◌, ◌≤◌}
use native.Mathlib.Omega.{arith}
use lib.ListN.{length, get_or}
use lib.Seq.{length-take-le}
use Rattle.std.proofs.lemmas.List.{length-take}
use Rattle.block_tables.specs.View.{no_term}
use Rattle.variable_rows.specs.Rows.{onward}
use Rattle.term_rows.specs.Rows.{term_size, held_in, points_of, point_rows}
use Rattle.term_rows.proofs.Fronts.{points_front}
use Rattle.term_rows.proofs.Sums.{sums_more, sums_end}
use Rattle.word_writer.proofs.Over.{retold}
use Rattle.variable_rows.proofs.Turns.{begins, goes, ends}
use Rattle.term_rows.proofs.point_table.Goals as goal

pub loop-k-init : goal.loop-k-init
unfolding held_in point_rows
loop-k-init c =
    let n = length c.args.slots.now in
    let z : n - 0 ≡ n = omega arith in
    (rw z, refl, begins _ _ _ _ _ _ tt refl)

pub offset_bounds-terms-k : goal.offset_bounds-terms-k
offset_bounds-terms-k c = let h = c.requires.0.below c.loop-k.k-index in search rules

pub bounds-terms-k : goal.bounds-terms-k
bounds-terms-k c = let h = c.requires.0.below c.loop-k.k-index in search rules

pub some_points-p-requires : goal.some_points-p-requires
some_points-p-requires c =
    let a = c.args in
    let l = c.loop-k in
    let k = get_or a.slots.now l.k-index 0 in
    let v = get_or a.terms.now k no_term in
    let few = c.requires.1 k in
    let long : v.count ≤ length v.points = omega (arith, length-take v.count v.points) in
    let f : ℕ → ℕ = λ i. term_size a.terms.now (get_or a.slots.now i 0) in
    let m = sums_more f (length a.slots.now) l.k-index (omega arith) in
    rw (length-take-le v.count v.points long) (few, omega (arith, c.requires))

pub loop-k-preserved : goal.loop-k-preserved
loop-k-preserved c =
    let a = c.args in
    let l = c.loop-k in
    let k = get_or a.slots.now l.k-index 0 in
    let v = get_or a.terms.now k no_term in
    let few = c.requires.1 k in
    let long : v.count ≤ length v.points = omega (arith, length-take v.count v.points) in
    let e = length-take-le v.count v.points long in
    let f : ℕ → ℕ = λ i. term_size a.terms.now (get_or a.slots.now i 0) in
    let m = sums_more f (length a.slots.now) l.k-index (omega arith) in
    let w = c.some_points-p in (
      omega (arith, w.ensures.next),
      omega (arith, w.auto),
      goes _ _ _ _ _ _ l.k-index tt l.p _ l.out _ (search rules) (omega (arith, c.requires))
          (retold (points_front v long) w.ensures.wrote) l.invariant.2,
    )

pub returns : goal.returns
returns c =
    let a = c.args in
    let l = c.loop-k in
    let f : ℕ → ℕ = λ i. term_size a.terms.now (get_or a.slots.now i 0) in
    let m = sums_end f (length a.slots.now) l.k-index (omega arith) in
    record {
      wrote = ends (λ σ i. points_of (get_or a.terms.now (get_or a.slots.now i 0) no_term)) onward _ _ _ _ l.k-index tt l.p l.out (search rules) l.invariant.2;
      next = omega arith;
    }
