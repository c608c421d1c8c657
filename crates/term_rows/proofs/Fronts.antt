-- The points of a term are the first of those that it has room for.
use mathlib.Core.Path.{◌≡◌}
use mathlib.Core.List.{[], ◌∷◌}
use Prim.Native.Nat.{◌≤◌}
use lib.ListN.{length, take}
use Rattle.model.specs.Image.{crisp_word}
use Rattle.block_tables.specs.declared.Term.{Term}
use Rattle.block_tables.specs.View.{no_point}
use Rattle.variable_rows.specs.Rows.{rows, onward}
use Rattle.variable_rows.proofs.Turns.{rows_front}
use Rattle.term_rows.specs.Rows.{point_row, points_of}

pub points_front : (v : Term) → v.count ≤ length v.points
    → rows (point_row (take v.count v.points)) onward (length (take v.count v.points)) 0 tt ≡ points_of v
points_front v h = rows_front (λ σ k p. crisp_word p.at.0 ∷ p.degree.0 ∷ []) (λ σ k p. σ) v.points no_point v.count tt h
