-- A block with its names in capitals: names are found at the same places, counts and positions are the same, and the changes
-- that reading makes are the same but for the case of the name they are given.
use mathlib.Core.Path.{◌≡◌, refl, sym, ap, ◌∙◌}
use mathlib.Core.Bool.{Bool, true, false, ◌&&◌, not}
use mathlib.Core.List.{List, [], ◌∷◌, ◌++◌, map, map-append}
use mathlib.Core.Option.{none}
use Prim.Native.Nat.{ℕ, zero, suc, ◌+◌}
use lib.Dec.{ltb}
use lib.IntN.{ℤ}
use lib.ListN.{length, length-map, take, drop, get_or}
use Rattle.model.specs.Basic.{is_empty, all, total, gather, index_of, update, update_last, same, capitals}
use Rattle.model.specs.Tokens.{same_name}
use Rattle.model.specs.Block.{Point, Term, Input, Output, Block, input_terms, input_first, output_first, terms_of, singletons_of, range_of, with_inputs, with_outputs, as_int, with_terms, with_point, with_singleton}
use Rattle.model.specs.declared.InputType.TheVariants.{Real as real}
use Rattle.model.specs.Declarations.{input_of, output_of, is_input, is_output, term_of, singleton_of, is_term, is_singleton, add_input, add_output, int_from, input_count, output_count, add_term, add_point, last_points, points_of, change_output}
use Rattle.model.specs.Reader.{parts_there}
use Rattle.laws.proofs.Words.{capitals_again}
use Rattle.laws.proofs.Lists.{length_gather}
use Rattle.model.specs.Case.{term_in_capitals, singleton_in_capitals, input_in_capitals, output_in_capitals, in_capitals}
use Rattle.case_laws.proofs.Bytes.{take_map}

-- LISTS of changed elements
module _ {A B : Type 0} (f : A → B) where
  index_map : (p : B → Bool) (q : A → Bool) → ((x : A) → p (f x) ≡ q x) → (xs : List A) → index_of p (map f xs) ≡ index_of q xs
  index_map p q h [] = refl
  index_map p q h (x ∷ xs) = let e = index_map p q h xs in λ j. elim (h x j) [ true ↦ 0 | false ↦ suc (e j) ]

  all_same : (p : B → Bool) (q : A → Bool) → ((x : A) → p (f x) ≡ q x) → (xs : List A) → all p (map f xs) ≡ all q xs
  unfolding all
  all_same p q h [] = refl
  all_same p q h (x ∷ xs) = let e = all_same p q h xs in λ j. h x j && e j

  total_map : (p : B → ℕ) (q : A → ℕ) → ((x : A) → p (f x) ≡ q x) → (xs : List A) → total p (map f xs) ≡ total q xs
  unfolding total
  total_map p q h [] = refl
  total_map p q h (x ∷ xs) = let e = total_map p q h xs in λ j. h x j + e j

  update_map : (g : B → B) (h : A → A) → ((x : A) → g (f x) ≡ f (h x)) → (i : ℕ) (xs : List A) → update g i (map f xs) ≡ map f (update h i xs)
  unfolding update
  update_map g h e i [] = refl
  update_map g h e zero (x ∷ xs) = ap (λ (y : B). y ∷ map f xs) (e x)
  update_map g h e (suc i) (x ∷ xs) = ap (λ (l : List B). f x ∷ l) (update_map g h e i xs)

  last_map : (g : B → B) (h : A → A) → ((x : A) → g (f x) ≡ f (h x)) → (xs : List A) → update_last g (map f xs) ≡ map f (update_last h xs)
  unfolding update_last
  last_map g h e [] = refl
  last_map g h e (x ∷ []) = ap (λ (y : B). y ∷ []) (e x)
  last_map g h e (x ∷ y ∷ xs) = ap (λ (l : List B). f x ∷ l) (last_map g h e (y ∷ xs))

  -- a field of the element at a place
  field_map : {C D : Type 0} (g : B → D) (k : A → C) (h : C → D) → ((x : A) → g (f x) ≡ h (k x)) → (d : C) (i : ℕ) (xs : List A)
      → get_or (map g (map f xs)) i (h d) ≡ h (get_or (map k xs) i d)
  field_map g k h e d i [] = refl
  field_map g k h e d zero (x ∷ xs) = e x
  field_map g k h e d (suc i) (x ∷ xs) = field_map g k h e d i xs

  empty_map : (xs : List A) → is_empty (map f xs) ≡ is_empty xs
  empty_map [] = refl
  empty_map (x ∷ xs) = refl

-- TERMS
terms_caps : (i : ℕ) (b : Block) → terms_of i (in_capitals b) ≡ map term_in_capitals (terms_of i b)
unfolding terms_of
terms_caps i b = field_map input_in_capitals (λ v. v.terms) (λ v. v.terms) (map term_in_capitals) (λ v. refl) [] i b.inputs

singletons_caps : (o : ℕ) (b : Block) → singletons_of o (in_capitals b) ≡ map singleton_in_capitals (singletons_of o b)
unfolding singletons_of
singletons_caps o b = field_map output_in_capitals (λ v. v.terms) (λ v. v.terms) (map singleton_in_capitals) (λ v. refl) [] o b.outputs

pub range_caps : (o : ℕ) (b : Block) → range_of o (in_capitals b) ≡ range_of o b
unfolding range_of
range_caps o b = field_map output_in_capitals (λ v. v.range) (λ v. v.range) (λ g. g) (λ v. refl) none o b.outputs

pub term_count : (i : ℕ) (b : Block) → length (terms_of i (in_capitals b)) ≡ length (terms_of i b)
term_count i b = ap length (terms_caps i b) ∙ length-map (terms_of i b) term_in_capitals

pub singleton_count : (o : ℕ) (b : Block) → length (singletons_of o (in_capitals b)) ≡ length (singletons_of o b)
singleton_count o b = ap length (singletons_caps o b) ∙ length-map (singletons_of o b) singleton_in_capitals

pub no_terms : (i : ℕ) (b : Block) → is_empty (terms_of i (in_capitals b)) ≡ is_empty (terms_of i b)
no_terms i b = ap is_empty (terms_caps i b) ∙ empty_map term_in_capitals (terms_of i b)

pub no_singletons : (o : ℕ) (b : Block) → is_empty (singletons_of o (in_capitals b)) ≡ is_empty (singletons_of o b)
no_singletons o b = ap is_empty (singletons_caps o b) ∙ empty_map singleton_in_capitals (singletons_of o b)

last_points_lem : (ts : List Term) → last_points (map term_in_capitals ts) ≡ last_points ts
last_points_lem [] = refl
last_points_lem (t ∷ []) = refl
last_points_lem (t ∷ u ∷ ts) = last_points_lem (u ∷ ts)

pub points_caps : (i : ℕ) (b : Block) → points_of i (in_capitals b) ≡ points_of i b
unfolding points_of
points_caps i b = ap last_points (terms_caps i b) ∙ last_points_lem (terms_of i b)

pub parts_caps : (b : Block) → parts_there (in_capitals b) ≡ parts_there b
unfolding parts_there
parts_caps b = λ j. inputs j && outputs j
  where
    inputs : all (λ v. not (is_empty v.terms)) (map input_in_capitals b.inputs) ≡ all (λ v. not (is_empty v.terms)) b.inputs
    inputs = all_same input_in_capitals _ _ (λ v. ap not (empty_map term_in_capitals v.terms)) b.inputs

    outputs : all (λ v. not (is_empty v.terms)) (map output_in_capitals b.outputs) ≡ all (λ v. not (is_empty v.terms)) b.outputs
    outputs = all_same output_in_capitals _ _ (λ v. ap not (empty_map singleton_in_capitals v.terms)) b.outputs

-- COUNTS
pub input_count_lem : (b : Block) → input_count (in_capitals b) ≡ input_count b
input_count_lem b = length-map b.inputs input_in_capitals

pub output_count_lem : (b : Block) → output_count (in_capitals b) ≡ output_count b
output_count_lem b = length-map b.outputs output_in_capitals

input_terms_lem : (vs : List Input) → total (λ v. length v.terms) (map input_in_capitals vs) ≡ total (λ v. length v.terms) vs
input_terms_lem = total_map input_in_capitals (λ v. length v.terms) (λ v. length v.terms) (λ v. length-map v.terms term_in_capitals)

output_terms_lem : (vs : List Output) → total (λ v. length v.terms) (map output_in_capitals vs) ≡ total (λ v. length v.terms) vs
output_terms_lem = total_map output_in_capitals (λ v. length v.terms) (λ v. length v.terms) (λ v. length-map v.terms singleton_in_capitals)

pub input_first_lem : (i : ℕ) (b : Block) → input_first i (in_capitals b) ≡ input_first i b
unfolding input_first
input_first_lem i b = ap (total (λ v. length v.terms)) (take_map input_in_capitals i b.inputs) ∙ input_terms_lem (take i b.inputs)

pub output_first_lem : (o : ℕ) (b : Block) → output_first o (in_capitals b) ≡ output_first o b
unfolding output_first
output_first_lem o b = λ j. all_terms j + before j
  where
    count : (vs : List Input) → length (gather (λ v. v.terms) vs) ≡ total (λ v. length v.terms) vs
    count = length_gather (λ v. v.terms) (λ v. length v.terms) (λ v. refl)

    all_terms : length (input_terms (in_capitals b)) ≡ length (input_terms b)
    all_terms = count (map input_in_capitals b.inputs) ∙ input_terms_lem b.inputs ∙ sym (count b.inputs)

    before : total (λ v. length v.terms) (take o (map output_in_capitals b.outputs)) ≡ total (λ v. length v.terms) (take o b.outputs)
    before = ap (total (λ v. length v.terms)) (take_map output_in_capitals o b.outputs) ∙ output_terms_lem (take o b.outputs)

-- NAMES: v stands for w, which it is but for case
module _ (v w : List ℕ) (e : capitals v ≡ capitals w) where
  same_name_lem : (n : List ℕ) → same_name v (capitals n) ≡ same_name w n
  unfolding same_name
  same_name_lem n = λ j. same (e j) (capitals_again n j)

  pub input_of_lem : (b : Block) → input_of v (in_capitals b) ≡ input_of w b
  unfolding input_of
  input_of_lem b = index_map input_in_capitals (λ x. same_name v x.name) (λ x. same_name w x.name) (λ x. same_name_lem x.name) b.inputs

  pub output_of_lem : (b : Block) → output_of v (in_capitals b) ≡ output_of w b
  unfolding output_of
  output_of_lem b = index_map output_in_capitals (λ x. same_name v x.name) (λ x. same_name w x.name) (λ x. same_name_lem x.name) b.outputs

  pub is_input_lem : (b : Block) → is_input v (in_capitals b) ≡ is_input w b
  is_input_lem b = λ j. ltb (input_of_lem b j) (input_count_lem b j)

  pub is_output_lem : (b : Block) → is_output v (in_capitals b) ≡ is_output w b
  is_output_lem b = λ j. ltb (output_of_lem b j) (output_count_lem b j)

  pub term_of_lem : (i : ℕ) (b : Block) → term_of i v (in_capitals b) ≡ term_of i w b
  unfolding term_of
  term_of_lem i b =
      ap (index_of (λ x. same_name v x.name)) (terms_caps i b)
      ∙ index_map term_in_capitals (λ x. same_name v x.name) (λ x. same_name w x.name) (λ x. same_name_lem x.name) (terms_of i b)

  pub singleton_of_lem : (o : ℕ) (b : Block) → singleton_of o v (in_capitals b) ≡ singleton_of o w b
  unfolding singleton_of
  singleton_of_lem o b =
      ap (index_of (λ x. same_name v x.name)) (singletons_caps o b)
      ∙ index_map singleton_in_capitals (λ x. same_name v x.name) (λ x. same_name w x.name) (λ x. same_name_lem x.name) (singletons_of o b)

  pub is_term_lem : (i : ℕ) (b : Block) → is_term i v (in_capitals b) ≡ is_term i w b
  is_term_lem i b = λ j. ltb (term_of_lem i b j) (term_count i b j)

  pub is_singleton_lem : (o : ℕ) (b : Block) → is_singleton o v (in_capitals b) ≡ is_singleton o w b
  is_singleton_lem o b = λ j. ltb (singleton_of_lem o b j) (singleton_count o b j)

-- CHANGES: f of the block in capitals is g of the block, in capitals
abbrev pub Commute : (Block → Block) → (Block → Block) → Type 0
Commute f g = (b : Block) → f (in_capitals b) ≡ in_capitals (g b)

inputs_commute : (f g : List Input → List Input) → ((vs : List Input) → f (map input_in_capitals vs) ≡ map input_in_capitals (g vs))
    → Commute (with_inputs f) (with_inputs g)
inputs_commute f g h b = ap (λ (vs : List Input). with_inputs (λ us. vs) (in_capitals b)) (h b.inputs)

outputs_commute : (f g : List Output → List Output) → ((vs : List Output) → f (map output_in_capitals vs) ≡ map output_in_capitals (g vs))
    → Commute (with_outputs f) (with_outputs g)
outputs_commute f g h b = ap (λ (vs : List Output). with_outputs (λ us. vs) (in_capitals b)) (h b.outputs)

-- of one input, of its terms, of one output
input_commute : (f g : Input → Input) → ((v : Input) → f (input_in_capitals v) ≡ input_in_capitals (g v)) → (i : ℕ)
    → Commute (with_inputs (update f i)) (with_inputs (update g i))
input_commute f g h i = inputs_commute (update f i) (update g i) (update_map input_in_capitals f g h i)

terms_commute : (f g : List Term → List Term) → ((ts : List Term) → f (map term_in_capitals ts) ≡ map term_in_capitals (g ts)) → (i : ℕ)
    → Commute (with_inputs (update (with_terms f) i)) (with_inputs (update (with_terms g) i))
terms_commute f g h = input_commute (with_terms f) (with_terms g) (λ v j. record { name = capitals v.name; type = v.type; terms = h v.terms j })

pub output_commute : (f g : Output → Output) → ((v : Output) → f (output_in_capitals v) ≡ output_in_capitals (g v)) → (o : ℕ)
    → Commute (change_output f o) (change_output g o)
unfolding change_output
output_commute f g h o = outputs_commute (update f o) (update g o) (update_map output_in_capitals f g h o)

-- one more at the end
last_caps : {A B : Type 0} (f : A → B) (x : A) (xs : List A) → map f xs ++ (f x ∷ []) ≡ map f (xs ++ (x ∷ []))
last_caps f x xs = sym (map-append f xs (x ∷ []))

pub add_input_lem : (w : List ℕ) → Commute (add_input (capitals w)) (add_input w)
unfolding add_input
add_input_lem w = inputs_commute (λ vs. vs ++ (input_in_capitals new ∷ [])) (λ vs. vs ++ (new ∷ [])) (last_caps input_in_capitals new)
  where
    new : Input
    new = record { name = w; type = real; terms = [] }

pub add_output_lem : (w : List ℕ) → Commute (add_output (capitals w)) (add_output w)
unfolding add_output
add_output_lem w = outputs_commute (λ vs. vs ++ (output_in_capitals new ∷ [])) (λ vs. vs ++ (new ∷ [])) (last_caps output_in_capitals new)
  where
    new : Output
    new = record { name = w; terms = []; range = none; default = none }

int_from_lem : (n : ℕ) (vs : List Input)
    → take n (map input_in_capitals vs) ++ map as_int (drop n (map input_in_capitals vs)) ≡ map input_in_capitals (take n vs ++ map as_int (drop n vs))
int_from_lem zero [] = refl
int_from_lem zero (v ∷ vs) = ap (λ (l : List Input). input_in_capitals (as_int v) ∷ l) (int_from_lem zero vs)
int_from_lem (suc n) [] = refl
int_from_lem (suc n) (v ∷ vs) = ap (λ (l : List Input). input_in_capitals v ∷ l) (int_from_lem n vs)

pub ints_from : (n : ℕ) → Commute (int_from n) (int_from n)
unfolding int_from
ints_from n = let f : List Input → List Input = λ vs. take n vs ++ map as_int (drop n vs) in inputs_commute f f (int_from_lem n)

pub add_term_lem : (i : ℕ) (w : List ℕ) → Commute (add_term i (capitals w)) (add_term i w)
unfolding add_term
add_term_lem i w = terms_commute (λ ts. ts ++ (term_in_capitals new ∷ [])) (λ ts. ts ++ (new ∷ [])) (last_caps term_in_capitals new) i
  where
    new : Term
    new = record { name = w; points = [] }

pub add_point_lem : (i : ℕ) (p : Point) → Commute (add_point i p) (add_point i p)
unfolding add_point
add_point_lem i p =
    let f = with_point p in
    terms_commute (update_last f) (update_last f) (last_map term_in_capitals f f (λ t. refl)) i

pub add_singleton : (w : List ℕ) (x : ℤ) (v : Output)
    → with_singleton (record { name = capitals w; at = x }) (output_in_capitals v) ≡ output_in_capitals (with_singleton (record { name = w; at = x }) v)
add_singleton w x v =
    let e = last_caps singleton_in_capitals (record { name = w; at = x }) v.terms in
    λ j. record { name = capitals v.name; terms = e j; range = v.range; default = v.default }
