-- A helper: the words of the tables of terms and points from the tables that a text is read into, row by row.
-- `terms_laid` and `points_laid` of proofs/Views tie them to the model's tables.
use Rattle.std.specs.Prelude.{List, [], ◌∷◌, ◌++◌, ℕ, ◌+◌, ◌<◌, get_or}
use Rattle.std.proofs.Math.Seq.{slice}
use Rattle.model.specs.Bounds.{M, input_term_limit, output_term_limit}
use Rattle.model.specs.Image.{crisp_word, name_words}
use Rattle.layout.specs.Tables.{sums}
use Rattle.model.specs.declared.Point.{Point}
use Rattle.block_tables.specs.declared.Term.{Term}
use Rattle.block_tables.specs.declared.Singleton.{Singleton}
use Rattle.block_tables.specs.View.{no_point, no_term, no_singleton}
use Rattle.variable_rows.specs.Rows.{rows, onward, InText}

abbrev pub TermsNamed : List ℕ → List Term → Type 0
TermsNamed s l = (k : ℕ) → k < input_term_limit → InText s (get_or l k no_term).start (get_or l k no_term).end

abbrev pub SingletonsNamed : List ℕ → List Singleton → Type 0
SingletonsNamed s l = (k : ℕ) → k < output_term_limit → InText s (get_or l k no_singleton).start (get_or l k no_singleton).end

-- TERMS in places, n being the first point of the next one
abbrev pub term_size : List Term → ℕ → ℕ
term_size terms k = (get_or terms k no_term).count

-- points of the terms in the first n of a list of places
unfoldable pub held_in : List Term → List ℕ → ℕ → ℕ
held_in terms slots n = sums (λ i. term_size terms (get_or slots i 0)) n 0

unfoldable pub term_words : List ℕ → Term → ℕ → List ℕ
term_words s v n = name_words (slice v.start v.end s) ++ (n ∷ v.count ∷ [])

unfoldable pub term_rows : List ℕ → List Term → List ℕ → ℕ → List ℕ
term_rows s terms slots k = rows (λ n i. term_words s (get_or terms (get_or slots i 0) no_term) n)
    (λ n i. n + term_size terms (get_or slots i 0)) k 0 0

unfoldable pub singleton_words : List ℕ → Singleton → ℕ → List ℕ
singleton_words s v n = name_words (slice v.start v.end s) ++ (n ∷ 1 ∷ [])

unfoldable pub singleton_rows : List ℕ → List Singleton → List ℕ → ℕ → ℕ → List ℕ
singleton_rows s terms slots k n = rows (λ m i. singleton_words s (get_or terms (get_or slots i 0) no_singleton) m)
    (λ m i. m + 1) k 0 n

-- POINTS of the terms in places
abbrev pub point_row : List Point → Unit {0} → ℕ → List ℕ
point_row points σ j = crisp_word (get_or points j no_point).at.0 ∷ (get_or points j no_point).degree.0 ∷ []

abbrev pub points_of : Term → List ℕ
points_of v = rows (point_row v.points) onward v.count 0 tt

unfoldable pub point_rows : List Term → List ℕ → ℕ → List ℕ
point_rows terms slots k = rows (λ σ i. points_of (get_or terms (get_or slots i 0) no_term)) onward k 0 tt

unfoldable pub singleton_points : List Singleton → List ℕ → ℕ → List ℕ
singleton_points terms slots k =
    rows (λ σ i. crisp_word (get_or terms (get_or slots i 0) no_singleton).at.0 ∷ M ∷ []) onward k 0 tt
