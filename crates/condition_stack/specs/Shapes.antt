-- A helper: the machine that keeps of each subtree its form and depth, and the code's stack as that machine's. The law
-- `accepts_is` of proofs/Accepted ties what it accepts to model's `tree_of`, `terms_below` and `depth`.
use Rattle.std.specs.Prelude.{List, Bool, ℕ, max, leb, ltb, if◌then◌else◌}
use Rattle.std.proofs.Math.Option.{Option, none, some}
use Rattle.model.specs.Bounds.{depth_limit}
use Rattle.model.specs.Block.{Op}
use Rattle.model.specs.Parentheses.{bare_behind_not, bare_left, bare_right, opened}
use Rattle.condition_words.specs.declared.Form.{Form}
use Rattle.condition_words.specs.declared.Form.TheVariants.{Term}
use Rattle.condition_words.specs.Forms.{number, negated, operator}
use Rattle.condition_words.specs.Machine.{Meaning, room, stack_of}
use Rattle.condition_stack.specs.declared.Shape.{Shape}

abbrev pub shape : Form → ℕ → Shape
shape k d = record { form = k; depth = d }

unfoldable pub negated_shape : Shape → Shape
negated_shape a = shape (negated a.form) (opened bare_behind_not (number a.form) a.depth)

unfoldable pub joined_shape : Op → Shape → Shape → Shape
joined_shape o a b =
    shape (operator o) (max (opened (bare_left o) (number a.form) a.depth) (opened (bare_right o) (number b.form) b.depth))

abbrev pub shapes : ℕ → Meaning Shape
shapes m = record {
  leaf = λ t. shape Term 0;
  no = negated_shape;
  join = joined_shape;
  fine = λ a. leb a.depth depth_limit;
  known = λ t. ltb t m;
  places = room;
}

-- the first of an array, the last on top
abbrev pub held : List Shape → ℕ → List Shape
held l height = stack_of (shape Term 0) l height

-- what a step leaves of it
abbrev pub view : List Shape → ℕ → Bool → Option (List Shape)
view l height goes_on = if goes_on then some (held l height) else none
