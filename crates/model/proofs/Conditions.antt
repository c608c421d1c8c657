-- Conditions as they are read: which refusal a word meets first where a term's name is wanted.
use mathlib.Core.List.{[], ◌∷◌, map}
use mathlib.Core.Path.{◌≡◌, refl}
use Rattle.model.specs.Basic.{bytes}
use Rattle.model.specs.Reader.{start}
use Rattle.model.specs.Rules.{condition_term}
use Rattle.model.proofs.Opened.{opened}

-- a keyword, a name of 17 bytes, one that is not declared
wrong_terms : map (λ w. (condition_term 0 (start (bytes w))).parse.why) ("THEN" ∷ "abcdefghijklmnopq" ∷ "q" ∷ []) ≡ 2 ∷ 4 ∷ 5 ∷ []
unfolding opened
wrong_terms = refl
