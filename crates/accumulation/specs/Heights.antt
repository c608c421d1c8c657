-- A helper: the height of a term t after the conclusions of one rule, from the height h that it has. `height_is` and
-- `rule_turn` of proofs/Steps tie it to model's `height`.
use Rattle.std.specs.Prelude.{List, [], ◌∷◌, ℕ, eqb, if◌then◌else◌}
use Rattle.model.specs.declared.Accumulation.{Accumulation}
use Rattle.model.specs.Block.{Conclusion}
use Rattle.model.specs.Evaluation.{accumulated}

-- the conclusions of a rule of degree d
unfoldable pub after_conclusions : Accumulation → ℕ → ℕ → List Conclusion → ℕ → ℕ
after_conclusions a d t [] h = h
after_conclusions a d t (k ∷ ks) h = after_conclusions a d t ks (if eqb k.term t then accumulated a h d else h)
