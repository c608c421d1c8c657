-- The names that conditions and conclusions of a well-formed block are listed by are names.
use mathlib.Core.Path.{◌≡◌, refl, ◌∙◌}
use mathlib.Core.List.{List, [], ◌∷◌, map}
use mathlib.Core.Bool.{Bool, true, ◌&&◌}
use Prim.Native.Nat.{ℕ, zero, suc, ◌+◌, ◌≤◌, ◌<◌}
use native.Mathlib.Omega.{arith}
use lib.ListN.{length, take, get_or, length-append, length-map}
use Rattle.model.specs.Basic.{all, total, gather}
use Rattle.model.specs.Tokens.{is_name}
use Rattle.model.specs.Block.{Term, Input, Output, Conclusion, Block, input_terms, output_terms, output_first, singletons_of}
use Rattle.model.specs.Image.{singleton_term, terms}
use Rattle.model.specs.Listing.{TermNames, input_term_names, input_term_name}
use Rattle.model.specs.WellFormed.{term_ok, input_ok, singleton_ok, figure_ok, output_ok, conclusion_ok, well_formed}
use Rattle.laws.proofs.Tests.{both, and_i, passed}
use Rattle.laws.proofs.Lists.{all_append}
use Rattle.laws.proofs.Finding.{all_map, all_imp}
use Rattle.listing_laws.proofs.Facts.{input_facts, output_facts, conclusion_facts, block_facts}

all_get_d : {A : Type 0} (p : A → Bool) (xs : List A) (d : A) (i : ℕ) → all p xs ≡ true → i < length xs → p (get_or xs i d) ≡ true
unfolding all
all_get_d p [] d i h l = absurd (omega arith)
all_get_d p (x ∷ xs) d zero h l = (both (p x) (all p xs) h).0
all_get_d p (x ∷ xs) d (suc i) h l = all_get_d p xs d i (both (p x) (all p xs) h).1 (omega arith)

pub all_gather : {A B : Type 0} (q : A → Bool) (p : B → Bool) (f : A → List B) → ((x : A) → q x ≡ true → all p (f x) ≡ true)
    → (xs : List A) → all q xs ≡ true → all p (gather f xs) ≡ true
unfolding all gather
all_gather q p f k [] h = refl
all_gather q p f k (x ∷ xs) h =
    let b = both (q x) (all q xs) h in
    all_append p (f x) (gather f xs) ∙ and_i (all p (f x)) (all p (gather f xs)) (k x b.0) (all_gather q p f k xs b.1)

term_named : (t : Term) → term_ok t ≡ true → is_name t.name ≡ true
unfolding term_ok
term_named t h = (passed _ h).0

singletons_named : (v : Output) → output_ok v ≡ true → all (λ t. is_name t.name) v.terms ≡ true
unfolding singleton_ok
singletons_named v h =
    all_imp (singleton_ok v.range) (λ t. is_name t.name) (λ t o. (both (is_name t.name) (figure_ok v.range t.at) o).0)
    v.terms (output_facts v h).terms

-- the first of the o-th list, and its length
pub first_and_length : {A B : Type 0} (f : A → List B) (o : ℕ) (xs : List A)
    → total (λ x. length (f x)) (take o xs) + length (get_or (map f xs) o []) ≤ length (gather f xs)
unfolding total gather
first_and_length f zero [] = omega arith
first_and_length f (suc o) [] = omega arith
first_and_length f zero (x ∷ xs) = omega (arith, length-append (f x) (gather f xs))
first_and_length f (suc o) (x ∷ xs) = omega (arith, length-append (f x) (gather f xs), first_and_length f o xs)

abbrev names_of : Input → List TermNames
names_of v = map (λ t. record { variable = v.name; term = t.name }) v.terms

names_length : (vs : List Input) → length (gather names_of vs) ≡ length (gather (λ v. v.terms) vs)
unfolding gather
names_length [] = refl
names_length (v ∷ vs) =
    let n : length (names_of v) ≡ length v.terms = length-map v.terms _ in
    omega (arith, length-append (names_of v) (gather names_of vs), length-append v.terms (gather (λ v. v.terms) vs), names_length vs)

abbrev both_named : TermNames → Bool
both_named n = is_name n.variable && is_name n.term

names_named : (v : Input) → input_ok v ≡ true → all both_named (names_of v) ≡ true
unfolding input_ok
names_named v h =
    let f = passed _ h in
    all_map both_named _ v.terms
    ∙ all_imp term_ok (λ t. is_name v.name && is_name t.name) (λ t o. and_i (is_name v.name) (is_name t.name) f.0 (term_named t o))
    v.terms f.1.1.0

terms_named : (v : Input) → input_ok v ≡ true → all (λ t. is_name t.name) v.terms ≡ true
terms_named v h = all_imp term_ok (λ t. is_name t.name) term_named v.terms (input_facts v h).terms

variable_named : (v : Output) → output_ok v ≡ true → is_name v.name ≡ true
unfolding output_ok
variable_named v h = (passed _ h).0

module _ (b : Block) (h : well_formed b ≡ true) where
  pub input_named : (t : ℕ) → t < length (input_terms b) → (is_name (input_term_name b t).variable ≡ true) × (is_name (input_term_name b t).term ≡ true)
  unfolding input_term_name input_term_names
  input_named t l =
      both (is_name (input_term_name b t).variable) (is_name (input_term_name b t).term)
      (all_get_d both_named (input_term_names b) (record { variable = []; term = [] }) t
      (all_gather input_ok both_named names_of names_named b.inputs (block_facts b h).inputs_ok) (omega (arith, names_length b.inputs)))

  module _ (k : Conclusion) (o : conclusion_ok b k ≡ true) where
    pub output_named : is_name (get_or (map (λ v. v.name) b.outputs) k.output []) ≡ true
    output_named =
        let l = (conclusion_facts b k o).output in
        all_get_d is_name (map (λ v. v.name) b.outputs) [] k.output
        (all_map is_name (λ v. v.name) b.outputs ∙ all_imp output_ok (λ v. is_name v.name) variable_named b.outputs (block_facts b h).outputs_ok)
        (omega (arith, length-map b.outputs (λ v. v.name)))

    all_named : all is_name (map (λ t. t.name) (terms b)) ≡ true
    all_named =
        all_map is_name (λ t. t.name) (terms b)
        ∙ all_append (λ t. is_name t.name) (input_terms b) (map singleton_term (output_terms b))
        ∙ and_i (all (λ t. is_name t.name) (input_terms b)) (all (λ t. is_name t.name) (map singleton_term (output_terms b)))
        (all_gather input_ok (λ t. is_name t.name) (λ v. v.terms) terms_named b.inputs (block_facts b h).inputs_ok)
        (all_map (λ t. is_name t.name) singleton_term (output_terms b)
        ∙ all_gather output_ok (λ t. is_name t.name) (λ v. v.terms) singletons_named b.outputs (block_facts b h).outputs_ok)

    pub conclusion_named : is_name (get_or (map (λ t. t.name) (terms b)) k.term []) ≡ true
    unfolding output_first singletons_of
    conclusion_named =
        let l = (conclusion_facts b k o).most in
        all_get_d is_name (map (λ t. t.name) (terms b)) [] k.term all_named
        (omega (
          arith,
          length-map (terms b) (λ t. t.name),
          length-append (input_terms b) (map singleton_term (output_terms b)),
          length-map (output_terms b) singleton_term,
          first_and_length (λ v. v.terms) k.output b.outputs,
        ))
