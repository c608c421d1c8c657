-- The tables of document 01 as rows, and what rows with running firsts hold, joined.
use mathlib.Core.Path.{◌≡◌, refl, sym, ap, ◌∙◌, subst}
use mathlib.Core.List.{List, [], ◌∷◌, ◌++◌, append_assoc}
use mathlib.Core.Bool.{true}
use Prim.Native.Nat.{ℕ, zero, suc, ◌+◌, ◌*◌}
use native.Mathlib.Omega.{arith}
use lib.ListN.{length, take, length-append}
use lib.Seq.{take_at}
use Rattle.model.specs.Basic.{same, gather, total, tab}
use Rattle.model.specs.Block.{Input, Output, Term, Rule, Block, input_terms, output_first, size}
use Rattle.model.specs.Image.{name_words, range_words, default_words, input_table, output_table, term_table, rule_table}
use Rattle.laws.proofs.Lists as lists
use Rattle.laws.proofs.Lists.{tab_append, total_last}
use Rattle.laws.proofs.Tests.{both}
use Rattle.layout.specs.Rows.{laid, rows_ok}
use Rattle.layout.specs.Tables.{input_row, input_next, output_row, output_next, term_row, term_next, rule_row, rule_next, alone, onward, sums}

pub input_table_lem : (n : ℕ) (vs : List Input) → input_table n vs ≡ laid input_row input_next n vs
unfolding input_table laid name_words
input_table_lem n [] = refl
input_table_lem n (v ∷ vs) = ap (λ (l : List ℕ). input_row n v ++ l) (input_table_lem (input_next n v) vs)

-- the first of an output's terms is the running one, us being the outputs before it
pub output_table_lem : (b : Block) → output_table b 0 b.outputs ≡ laid output_row output_next (length (input_terms b)) b.outputs
unfolding output_first output_table laid name_words total
output_table_lem b = go [] b.outputs refl ∙ ap (λ (n : ℕ). laid output_row output_next n b.outputs) (omega arith)
  where
    terms_in : List Output → ℕ
    terms_in us = total (λ v. length v.terms) us

    first : (us vs : List Output) → b.outputs ≡ us ++ vs → output_first (length us) b ≡ length (input_terms b) + terms_in us
    first us vs e =
        ap (λ (l : List Output). length (input_terms b) + terms_in (take (length us) l)) e
        ∙ ap (λ (l : List Output). length (input_terms b) + terms_in l) (take_at us vs (length us) refl)

    go : (us vs : List Output) → b.outputs ≡ us ++ vs
        → output_table b (length us) vs ≡ laid output_row output_next (length (input_terms b) + terms_in us) vs
    go us [] e = refl
    go us (v ∷ vs) e =
        let n = length (input_terms b) + terms_in us in
        let one : length (us ++ (v ∷ [])) ≡ suc (length us) = length-append us (v ∷ []) ∙ omega arith in
        let more : length (input_terms b) + terms_in (us ++ (v ∷ [])) ≡ output_next n v = omega (arith, total_last (λ (u : Output). length u.terms) us v) in
        let rest = go (us ++ (v ∷ [])) vs (e ∙ sym (append_assoc us (v ∷ []) vs)) in
        let here : output_table b (suc (length us)) vs ≡ laid output_row output_next (output_next n v) vs =
        ap (λ (k : ℕ). output_table b k vs) (sym one) ∙ rest ∙ ap (λ (k : ℕ). laid output_row output_next k vs) more in
        (λ j. name_words v.name ++ (first us (v ∷ vs) e j ∷ length v.terms ∷ (range_words v.range ++ (default_words v.default ++ here j))))
        ∙ ap (λ (l : List ℕ). name_words v.name ++ (n ∷ length v.terms ∷ l))
        (sym (append_assoc (range_words v.range) (default_words v.default) (laid output_row output_next (output_next n v) vs)))

pub term_table_lem : (n : ℕ) (ts : List Term) → term_table n ts ≡ laid term_row term_next n ts
unfolding term_table laid name_words
term_table_lem n [] = refl
term_table_lem n (t ∷ ts) = ap (λ (l : List ℕ). term_row n t ++ l) (term_table_lem (term_next n t) ts)

pub rule_table_lem : (n m : ℕ) (rs : List Rule) → rule_table n m rs ≡ laid rule_row rule_next (n, m) rs
unfolding rule_table laid
rule_table_lem n m [] = refl
rule_table_lem n m (r ∷ rs) = ap (λ (l : List ℕ). rule_row (n, m) r ++ l) (rule_table_lem (n + size r.condition) (m + length r.conclusions) rs)

pub gather_laid : {R : Type 0} (f : R → List ℕ) (rs : List R) → gather f rs ≡ laid (alone f) onward tt rs
unfolding gather laid
gather_laid f [] = refl
gather_laid f (r ∷ rs) = ap (λ (l : List ℕ). f r ++ l) (gather_laid f rs)

-- P holds of k numbers from i on
unfoldable pub Each : (ℕ → Type 0) → ℕ → ℕ → Type 0
Each P zero i = Unit {0}
Each P (suc k) i = P i × Each P k (suc i)

pub each : (P : ℕ → Type 0) → ((j : ℕ) → P j) → (k i : ℕ) → Each P k i
unfolding Each
each P f zero i = tt
each P f (suc k) i = (f i, each P f k (suc i))

-- firsts that are running totals of counts
unfoldable pub Runs : (ℕ → ℕ) → (ℕ → ℕ) → ℕ → ℕ → ℕ → Type 0
Runs f c zero i p = Unit {0}
Runs f c (suc k) i p = (f i ≡ p) × Runs f c k (suc i) (p + c i)

-- rows whose firsts are π of the totals have running firsts
pub runs_from : {R S : Type 0} (enc : S → R → List ℕ) (next : S → R → S) (dec : ℕ → R) (w : ℕ → ℕ) (o s : ℕ) (π : S → ℕ) (f c : ℕ → ℕ)
    → ((i : ℕ) (σ : S) → same (tab w s (o + i * s)) (enc σ (dec i)) ≡ true → (f i ≡ π σ) × (π (next σ (dec i)) ≡ π σ + c i))
    → (k i : ℕ) (σ : S) → rows_ok enc next dec w o s k i σ ≡ true → Runs f c k i (π σ)
unfolding rows_ok Runs
runs_from enc next dec w o s π f c e zero i σ h = tt
runs_from enc next dec w o s π f c e (suc k) i σ h =
    let b = both (same (tab w s (o + i * s)) (enc σ (dec i))) (rows_ok enc next dec w o s k (suc i) (next σ (dec i))) h in
    let q = e i σ b.0 in
    (q.0, subst (λ (p : ℕ). Runs f c k (suc i) p) q.1 (runs_from enc next dec w o s π f c e k (suc i) (next σ (dec i)) b.1))

-- what the rows hold is one after the other
pub gather_runs : {R A : Type 0} (items : R → List A) (dec : ℕ → R) (g : ℕ → A) (f c : ℕ → ℕ)
    → (k i p : ℕ) → Each (λ j. items (dec j) ≡ tab g (c j) (f j)) k i → Runs f c k i p → gather items (tab dec k i) ≡ tab g (sums c k i) p
unfolding gather tab sums Runs Each
gather_runs items dec g f c zero i p e h = refl
gather_runs {A = A} items dec g f c (suc k) i p e h =
    ap (λ (l : List A). l ++ gather items (tab dec k (suc i))) (e.0 ∙ ap (λ (q : ℕ). tab g (c i) q) h.0)
    ∙ ap (λ (l : List A). tab g (c i) p ++ l) (gather_runs items dec g f c k (suc i) (p + c i) e.1 h.1)
    ∙ sym (tab_append g (c i) (sums c k (suc i)) p)

pub sums_one : (k i : ℕ) → sums (λ j. 1) k i ≡ k
unfolding sums
sums_one zero i = refl
sums_one (suc k) i = omega (arith, sums_one k (suc i))

pub sums_more : (c : ℕ → ℕ) (k i : ℕ) → sums c (suc k) i ≡ c i + sums c k (suc i)
unfolding sums
sums_more c k i = refl

pub total_sums : {R : Type 0} (size : R → ℕ) (dec : ℕ → R) (c : ℕ → ℕ) → ((j : ℕ) → size (dec j) ≡ c j) → (k i : ℕ) → total size (tab dec k i) ≡ sums c k i
unfolding total tab sums
total_sums size dec c e zero i = refl
total_sums size dec c e (suc k) i = λ j. e i j + total_sums size dec c e k (suc i) j

pub length_gather : {R A : Type 0} (items : R → List A) (dec : ℕ → R) (c : ℕ → ℕ) → ((j : ℕ) → length (items (dec j)) ≡ c j)
    → (k i : ℕ) → length (gather items (tab dec k i)) ≡ sums c k i
length_gather items dec c e k i =
    lists.length_gather items _ (λ r. refl) (tab dec k i) ∙ total_sums (λ r. length (items r)) dec c e k i
