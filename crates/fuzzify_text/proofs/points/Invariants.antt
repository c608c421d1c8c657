use mathlib.Core.List.{List}
use Prim.Native.Nat.{ℕ}
use Rattle.cursor.specs.declared.Cursor.{Cursor}
use Rattle.cursor.specs.View.{left}
use Rattle.model.specs.declared.Point.{Point}
use Rattle.fuzzify_text.specs.declared.Shape.{Shape}
use Rattle.fuzzify_text.proofs.Laws as laws
use Rattle.fuzzify_text.proofs.points.Given as goal

abbrev pub shape : Cursor → ℕ → List Point → Shape
shape c n ps = record { cursor = c; count = n; points = ps }

abbrev pub invariant-loop-q : goal.invariant-loop-q
invariant-loop-q l = laws.Going l.s (shape l.initial.d l.initial.n l.initial.points) (shape l.d l.n l.points) l.last

abbrev pub decreases-loop-q : goal.decreases-loop-q
decreases-loop-q l = left l.s l.d
