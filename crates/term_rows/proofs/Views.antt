-- The tables of terms and points that the arrays are laid out as are those of the block that they stand for.
use mathlib.Core.Path.{◌≡◌, refl, sym, ap, ◌∙◌}
use mathlib.Core.List.{List, [], ◌∷◌, ◌++◌, map, map-append}
use Prim.Native.Nat.{ℕ, zero, suc, ◌+◌, ◌*◌, ◌≤◌}
use native.Mathlib.Omega.{arith}
use lib.ListN.{length, get_or, take, drop, length-append}
use lib.Seq.{slice, drop-cons, take-length}
use Rattle.model.specs.Basic.{gather, tab}
use Rattle.model.specs.Bounds.{M, term_limit, variable_limit, input_term_limit}
use Rattle.model.specs.Block as block
use Rattle.model.specs.Image.{crisp_word, singleton_term, name_words, term_table, point_words}
use Rattle.laws.proofs.Lists.{map_tab, gather_append}
use Rattle.laws.proofs.Places.{length_tab}
use Rattle.layout.specs.Rows.{laid, after}
use Rattle.layout.specs.Tables.{term_row, term_next, alone, sums}
use Rattle.layout.specs.Tables as layout
use Rattle.layout.proofs.RowLaws.{laid_append}
use Rattle.layout.proofs.TableLaws.{term_table_lem, gather_laid}
use Rattle.model.specs.declared.Point.{Point}
use Rattle.block_tables.specs.declared.Term.{Term}
use Rattle.block_tables.specs.declared.Singleton.{Singleton}
use Rattle.block_tables.specs.declared.Tables.{Tables}
use Rattle.block_tables.specs.View.{point_at, a_term, a_singleton, term_row as theTerm, singleton_row, term_view, input_view, singleton_view, output_view, inputs_view, outputs_view, Holds}
use Rattle.block_tables.proofs.Index.{in_text}
use Rattle.variable_rows.specs.Rows.{rows, onward, input_size, output_size, slot_row, slots_of}
use Rattle.variable_rows.proofs.Views.{rows_laid}
use Rattle.term_rows.specs.Rows.{TermsNamed, SingletonsNamed, held_in, term_words, term_rows, singleton_words, singleton_rows, point_row, points_of, point_rows, singleton_points}

-- the names of the terms are in the text
module _ (s : List ℕ) (t : Tables) (g : Holds s t) where
  pub terms_named : TermsNamed s t.input_terms
  terms_named k h = in_text {k = variable_limit + k} g.placed (omega arith) (g.indexed.term k h)

  pub singletons_named : SingletonsNamed s t.output_terms
  singletons_named k h = in_text {k = variable_limit + input_term_limit + k} g.placed (omega arith) (g.indexed.singleton k h)

-- the values at the first n of a list
map_take : {A : Type 0} (g : ℕ → A) (l : List ℕ) (n i : ℕ) → i + n ≤ length l → map g (take n (drop i l)) ≡ tab (λ k. g (get_or l k 0)) n i
unfolding tab
map_take g l zero i h = refl
map_take {A} g l (suc n) i h =
    rw (drop-cons l i 0 (omega arith)) (ap (λ (x : List A). g (get_or l i 0) ∷ x) (map_take g l n (suc i) (omega arith)))

-- and at all of them
map_places : {A : Type 0} (g : ℕ → A) (l : List ℕ) → map g l ≡ tab (λ k. g (get_or l k 0)) (length l) 0
map_places {A} g l = rw take-length at (map_take g l (length l) 0 (omega arith))

gather_gather : {A B C : Type 0} (f : B → List C) (g : A → List B) (xs : List A) → gather f (gather g xs) ≡ gather (λ x. gather f (g x)) xs
unfolding gather
gather_gather f g [] = refl
gather_gather {C = C} f g (x ∷ xs) = gather_append f (g x) (gather g xs) ∙ ap (λ (l : List C). gather f (g x) ++ l) (gather_gather f g xs)

-- own and others are the places of the terms of inputs and of outputs
pub record Ordered (t : Tables) (own others : List ℕ) : Type 0 where
  pub inputs : own ≡ slots_of (input_size t.inputs) t.input_count
  pub outputs : others ≡ slots_of (output_size t.outputs) t.output_count

module _ (s : List ℕ) (t : Tables) where
  -- TERMS: the ones in place k
  term_in : ℕ → block.Term
  term_in k = a_term s (theTerm t k)

  singleton_in : ℕ → block.Singleton
  singleton_in k = a_singleton s (singleton_row t k)

  input_terms_lem : (n i : ℕ) → gather (λ v. v.terms) (tab (input_view s t) n i) ≡ map term_in (rows (slot_row (input_size t.inputs)) onward n i tt)
  unfolding gather tab rows input_view term_view term_in
  input_terms_lem zero i = refl
  input_terms_lem (suc n) i =
      let c = input_size t.inputs i in
      (λ j. sym (map_tab term_in (λ k. i * term_limit + k) c 0) j ++ input_terms_lem n (suc i) j)
      ∙ sym (map-append term_in (tab (λ k. i * term_limit + k) c 0) _)

  output_terms_lem : (n o : ℕ) → gather (λ v. v.terms) (tab (output_view s t) n o) ≡ map singleton_in (rows (slot_row (output_size t.outputs)) onward n o tt)
  unfolding gather tab rows output_view singleton_view singleton_in
  output_terms_lem zero o = refl
  output_terms_lem (suc n) o =
      let c = output_size t.outputs o in
      (λ j. sym (map_tab singleton_in (λ k. o * term_limit + k) c 0) j ++ output_terms_lem n (suc o) j)
      ∙ sym (map-append singleton_in (tab (λ k. o * term_limit + k) c 0) _)

  -- all terms, from the lists of their places
  abbrev pub all_terms : List block.Term
  all_terms = gather (λ v. v.terms) (inputs_view s t) ++ map singleton_term (gather (λ v. v.terms) (outputs_view s t))

  module _ (own others : List ℕ) (order : Ordered t own others) where
    abbrev own_term : ℕ → Term
    own_term k = theTerm t (get_or own k 0)

    abbrev other_term : ℕ → Singleton
    other_term k = singleton_row t (get_or others k 0)

    term_at : ℕ → block.Term
    term_at k = a_term s (own_term k)

    single_at : ℕ → block.Term
    single_at k = singleton_term (a_singleton s (other_term k))

    input_terms_are : gather (λ v. v.terms) (inputs_view s t) ≡ tab term_at (length own) 0
    unfolding slots_of term_at term_in
    input_terms_are =
        input_terms_lem t.input_count 0 ∙ ap (map term_in) (sym order.inputs)
        ∙ map_places term_in own

    output_terms_are : map singleton_term (gather (λ v. v.terms) (outputs_view s t)) ≡ tab single_at (length others) 0
    unfolding slots_of single_at singleton_in
    output_terms_are =
        ap (map singleton_term) (output_terms_lem t.output_count 0 ∙ ap (map singleton_in) (sym order.outputs)
        ∙ map_places singleton_in others)
        ∙ map_tab singleton_term (λ k. singleton_in (get_or others k 0)) (length others) 0

    pub first_output : length (gather (λ v. v.terms) (inputs_view s t)) ≡ length own
    first_output = ap length input_terms_are ∙ length_tab term_at (length own) 0

    terms_are : all_terms ≡ tab term_at (length own) 0 ++ tab single_at (length others) 0
    terms_are = λ j. input_terms_are j ++ output_terms_are j

    pub terms_count : length all_terms ≡ length own + length others
    terms_count =
        ap length terms_are ∙ length-append (tab term_at (length own) 0) (tab single_at (length others) 0)
        ∙ (λ j. length_tab term_at (length own) 0 j + length_tab single_at (length others) 0 j)

    -- how many points
    size_at : (k : ℕ) → length (term_at k).points ≡ (own_term k).count
    unfolding term_at
    size_at k = length_tab (point_at (own_term k).points) (own_term k).count 0

    points_before : (n i σ : ℕ) → after term_next term_at n i σ ≡ σ + sums (λ k. (own_term k).count) n i
    unfolding after sums
    points_before zero i σ = omega arith
    points_before (suc n) i σ = points_before n (suc i) (term_next σ (term_at i)) ∙ (let z = size_at i in omega arith)

    points_in : (n i : ℕ) → length (gather (λ v. v.points) (tab term_at n i)) ≡ sums (λ k. (own_term k).count) n i
    unfolding gather tab sums
    points_in zero i = refl
    points_in (suc n) i = length-append (term_at i).points _ ∙ (λ j. size_at i j + points_in n (suc i) j)

    single_points : (n i : ℕ) → length (gather (λ v. v.points) (tab single_at n i)) ≡ n
    unfolding gather tab single_at
    single_points zero i = refl
    single_points (suc n) i = ap suc (single_points n (suc i))

    pub points_count : length (gather (λ v. v.points) all_terms) ≡ held_in t.input_terms own (length own) + (length others)
    unfolding held_in
    points_count =
        ap (λ (l : List block.Term). length (gather (λ v. v.points) l)) terms_are
        ∙ ap length (gather_append (λ v. v.points) (tab term_at (length own) 0) (tab single_at (length others) 0))
        ∙ length-append (gather (λ v. v.points) (tab term_at (length own) 0)) _
        ∙ (λ j. points_in (length own) 0 j + single_points (length others) 0 j)

    -- their rows
    term_row_lem : (n i : ℕ) → term_row n (term_at i) ≡ term_words s (own_term i) n
    unfolding term_words term_at
    term_row_lem n i = ap (λ (x : ℕ). name_words (slice (own_term i).start (own_term i).end s) ++ (n ∷ x ∷ [])) (size_at i)

    single_row : (n i : ℕ) → term_row n (single_at i) ≡ singleton_words s (other_term i) n
    unfolding singleton_words single_at
    single_row n i = refl

    single_next : (n i : ℕ) → term_next n (single_at i) ≡ n + 1
    unfolding single_at
    single_next n i = refl

    pub terms_laid : term_table 0 all_terms ≡ term_rows s t.input_terms own (length own)
        ++ singleton_rows s t.output_terms others (length others) (held_in t.input_terms own (length own))
    unfolding term_rows singleton_rows held_in
    terms_laid =
        ap (term_table 0) terms_are ∙ term_table_lem 0 _ ∙ laid_append term_row term_next term_at (length own) 0 0 (tab single_at (length others) 0)
        ∙ (λ j. rows_laid term_row term_next term_at _ _ term_row_lem (λ n i. ap (λ (x : ℕ). n + x) (size_at i)) (length own) 0 0 j
        ++ laid term_row term_next (points_before (length own) 0 0 j) (tab single_at (length others) 0))
        ∙ (let z : 0 + sums (λ k. (own_term k).count) (length own) 0 ≡ sums (λ k. (own_term k).count) (length own) 0 = omega arith in
        λ j. rows (λ n i. term_words s (own_term i) n) (λ n i. n + (own_term i).count) (length own) 0 0
        ++ laid term_row term_next (z j) (tab single_at (length others) 0))
        ∙ ap (λ (l : List ℕ). rows (λ n i. term_words s (own_term i) n) (λ n i. n + (own_term i).count) (length own) 0 0 ++ l)
        (rows_laid term_row term_next single_at _ _ single_row single_next (length others) 0 _)

    -- and those of their points
    points_of_lem : (ps : List Point) (n i : ℕ) → gather point_words (tab (point_at ps) n i) ≡ rows (point_row ps) onward n i tt
    unfolding gather tab rows point_at
    points_of_lem ps zero i = refl
    points_of_lem ps (suc n) i = ap (λ (x : List ℕ). point_row ps tt i ++ x) (points_of_lem ps n (suc i))

    words_at : (i : ℕ) → gather point_words (term_at i).points ≡ points_of (own_term i)
    unfolding term_at
    words_at i = points_of_lem (own_term i).points (own_term i).count 0

    single_words : (i : ℕ) → gather point_words (single_at i).points ≡ crisp_word (other_term i).at.0 ∷ M ∷ []
    unfolding gather single_at
    single_words i = refl

    pointing : (f : ℕ → block.Term) (row : ℕ → List ℕ) (n : ℕ) → ((i : ℕ) → gather point_words (f i).points ≡ row i)
        → gather point_words (gather (λ v. v.points) (tab f n 0)) ≡ rows (λ σ i. row i) onward n 0 tt
    pointing f row n e =
        gather_gather point_words (λ v. v.points) (tab f n 0) ∙ gather_laid (λ v. gather point_words v.points) (tab f n 0)
        ∙ rows_laid (alone (λ (v : block.Term). gather point_words v.points)) layout.onward f _ onward (λ σ i. e i) (λ σ i. refl) n 0 tt

    pub points_laid : gather point_words (gather (λ v. v.points) all_terms) ≡ point_rows t.input_terms own (length own)
        ++ singleton_points t.output_terms others (length others)
    unfolding point_rows singleton_points
    points_laid =
        ap (λ (l : List block.Term). gather point_words (gather (λ v. v.points) l)) terms_are
        ∙ ap (gather point_words) (gather_append (λ v. v.points) (tab term_at (length own) 0) (tab single_at (length others) 0))
        ∙ gather_append point_words (gather (λ v. v.points) (tab term_at (length own) 0)) _
        ∙ (λ j. pointing term_at _ (length own) words_at j ++ pointing single_at _ (length others) single_words j)
