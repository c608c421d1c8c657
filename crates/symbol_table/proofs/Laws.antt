-- What the symbols of some tables say of the block that they stand for.
use Rattle.std.specs.Prelude.{if◌then◌else◌}
use mathlib.Core.Path.{◌≡◌, refl, sym, ap, ◌∙◌, subst}
use mathlib.Core.Bool.{Bool, true, false}
use mathlib.Core.List.{List, [], ◌∷◌, ◌++◌, append_assoc}
use Prim.Native.Nat.{ℕ, suc, ◌+◌, ◌*◌, ◌-◌, ◌≤◌, ◌<◌}
use native.Mathlib.Omega.{arith}
use borrow.Author.Tests.{lt-ltb, le-ltb}
use lib.Dec.{ltb}
use lib.ListN.{length, take, get_or, set, length-set, get_or-append}
use lib.Seq.{get_or-set_same, get_or-set_other}
use Rattle.model.specs.Basic.{total, gather, tab}
use Rattle.model.specs.Block as block
use Rattle.model.specs.Block.{Block, input_first, output_first}
use Rattle.model.specs.Bounds.{input_limit, output_limit, term_limit, variable_limit}
use Rattle.laws.proofs.Places.{take_tab, length_tab, tab_last, tab_ext, tab_nth}
use Rattle.laws.proofs.Lists.{length_gather}
use Rattle.lookup.specs.Names.{among}
use Rattle.block_tables.specs.declared.Tables.{Tables}
use Rattle.block_tables.specs.View.{input_row, output_row, input_view, output_view, term_view, singleton_view, inputs_view, outputs_view, Holds}
use Rattle.block_tables.proofs.Lookups as lookups
use Rattle.symbol_table.specs.Symbols.{Symbols, Describes, first, input_count, output_count}
use Rattle.symbol_table.specs.Firsts.{sums, Firsts, terms_at, symbols_in}
use Rattle.symbol_table.proofs.Sums as sum

-- how many places there are
abbrev pub symbol_count : ℕ
symbol_count = variable_limit + 3

-- THE LOOP
pub most : (t : Tables) → ((i : ℕ) → (input_row t i).terms ≤ term_limit) → ((o : ℕ) → (output_row t o).terms ≤ term_limit)
    → (v : ℕ) → terms_at t v ≤ term_limit
most t g h v = by (ltb v input_limit) (ltb v t.input_count) (ltb (v - input_limit) t.output_count)
  where
    by : (x y z : Bool) → (if x then (if y then (input_row t v).terms else 0) else (if z then (output_row t (v - input_limit)).terms else 0)) ≤ term_limit
    by true true z = g v
    by true false z = omega arith
    by false y true = h (v - input_limit)
    by false y false = omega arith

pub firsts_none : (c : ℕ → ℕ) (r : List ℕ) → get_or r 0 0 ≡ 0 → Firsts c 0 r
unfolding sums
firsts_none c r e = record { first = λ v h. let z : v ≡ 0 = omega arith in ap (λ (k : ℕ). get_or r k 0) z ∙ e ∙ ap (sums c) (sym z) }

pub bounded : (r : List ℕ) (i k : ℕ) → length r ≡ symbol_count → i < variable_limit + 2 → get_or r i 0 ≤ i * term_limit → k ≤ term_limit → get_or (set r (i + 1) (get_or r i 0 + k)) (i + 1) 0 ≤ (i + 1) * term_limit
bounded r i k l h a b = let e = sum.last_is r i k l h in omega arith

-- ALL OF THEM
abbrev pub closed : List ℕ → ℕ → ℕ → List ℕ
closed r m n = set (set r (variable_limit + 1) m) (variable_limit + 2) n

as_tab : (xs : List ℕ) → tab (λ k. get_or xs k 0) (length xs) 0 ≡ xs
unfolding tab
as_tab [] = refl
as_tab (x ∷ xs) =
    ap (λ (l : List ℕ). x ∷ l) (tab_ext (λ k. get_or (x ∷ xs) k 0) (λ k. get_or xs k 0) (length xs) 1 0
    (λ k h. let a : 1 + k ≡ suc k = omega arith in let b : k ≡ 0 + k = omega arith in
    ap (λ (i : ℕ). get_or (x ∷ xs) i 0) a ∙ ap (λ (i : ℕ). get_or xs i 0) b) ∙ as_tab xs)

pub record Says (t : Tables) (w : List ℕ) : Type 0 where
  pub first_is : (v : ℕ) → v ≤ variable_limit → first w v ≡ sums (terms_at t) v
  pub inputs_are : input_count w ≡ t.input_count
  pub outputs_are : output_count w ≡ t.output_count

module _ (t : Tables) where
  closed_says : (r : List ℕ) → length r ≡ symbol_count → Firsts (terms_at t) variable_limit r → Says t (closed r t.input_count t.output_count)
  closed_says r l f =
      let m = t.input_count in
      let n = t.output_count in
      let r' = set r (variable_limit + 1) m in
      record {
        first_is = λ v h.
            get_or-set_other r' (variable_limit + 2) v n 0 (λ q. omega arith) ∙ get_or-set_other r (variable_limit + 1) v m 0 (λ q. omega arith) ∙ f.first v h;
        inputs_are =
            get_or-set_other r' (variable_limit + 2) (variable_limit + 1) n 0 (λ q. omega arith) ∙ get_or-set_same r (variable_limit + 1) m 0 (omega arith);
        outputs_are = get_or-set_same r' (variable_limit + 2) n 0 (simp length-set (omega arith));
      }

  only : (w : List ℕ) → length w ≡ symbol_count → Says t w → w ≡ symbols_in t
  unfolding symbols_in
  only w l k =
      let f : ℕ → ℕ = λ i. get_or w i 0 in
      sym (as_tab w) ∙ ap (λ (n : ℕ). tab f n 0) l ∙ tab_last f (variable_limit + 2) 0
      ∙ ap (λ (x : List ℕ). x ++ (f (variable_limit + 2) ∷ [])) (tab_last f (variable_limit + 1) 0)
      ∙ append_assoc (tab f (variable_limit + 1) 0) (f (variable_limit + 1) ∷ []) (f (variable_limit + 2) ∷ [])
      ∙ (λ j. tab_ext f (sums (terms_at t)) (variable_limit + 1) 0 0 (λ i h. k.first_is (0 + i) (omega arith)) j ++ (k.inputs_are j ∷ k.outputs_are j ∷ []))

  pub closed_is : (r : List ℕ) → length r ≡ symbol_count → Firsts (terms_at t) variable_limit r
      → closed r t.input_count t.output_count ≡ symbols_in t
  closed_is r l f = only _ (simp length-set l) (closed_says r l f)

  says : Says t (symbols_in t)
  unfolding symbols_in tab
  says =
      let f = tab (sums (terms_at t)) (variable_limit + 1) 0 in
      record {
        first_is = λ v h.
            get_or-append f (t.input_count ∷ t.output_count ∷ []) 0 v (omega (arith, length_tab (sums (terms_at t)) (variable_limit + 1) 0))
            ∙ tab_nth (sums (terms_at t)) (variable_limit + 1) 0 v 0 (omega arith) ∙ ap (sums (terms_at t)) (omega arith);
        inputs_are = refl;
        outputs_are = refl;
      }

module _ (t : Tables) (w : List ℕ) (e : w ≡ symbols_in t) where
  known : Says t w
  known = subst (Says t) (sym e) (says t)

  first_is : (v : ℕ) → v ≤ variable_limit → first w v ≡ sums (terms_at t) v
  first_is = known.first_is

  inputs_are : input_count w ≡ t.input_count
  inputs_are = known.inputs_are

  outputs_are : output_count w ≡ t.output_count
  outputs_are = known.outputs_are

  next_is : (v : ℕ) → v < variable_limit → first w (v + 1) ≡ first w v + terms_at t v
  next_is v h = first_is (v + 1) (omega arith) ∙ sum.sums_more (terms_at t) v ∙ ap (λ (k : ℕ). k + terms_at t v) (sym (first_is v (omega arith)))

  pub count_is : (v : ℕ) → v < variable_limit → first w (v + 1) - first w v ≡ terms_at t v
  count_is v h = let e = next_is v h in omega arith

  input_terms_lem : (i : ℕ) → i < input_limit → i < t.input_count → terms_at t i ≡ (input_row t i).terms
  input_terms_lem i h b = simp (lt-ltb _ _ h, lt-ltb _ _ b) refl

  input_none : (i : ℕ) → i < input_limit → t.input_count ≤ i → terms_at t i ≡ 0
  input_none i h b = simp (lt-ltb _ _ h, le-ltb _ _ b) refl

  output_terms_lem : (o : ℕ) → o < t.output_count → terms_at t (input_limit + o) ≡ (output_row t o).terms
  output_terms_lem o b =
      let z : input_limit + o - input_limit ≡ o = omega arith in
      let y : ltb (input_limit + o) input_limit ≡ false = le-ltb (input_limit + o) input_limit (omega arith) in
      simp (y, z, lt-ltb _ _ b) refl

  module _ (s : List ℕ) (g : Holds s t) where
    pub is_symbols : Symbols s t.names w
    is_symbols = record {
      placed = g.placed;
      inputs = let q = g.input_count in omega (arith, inputs_are);
      outputs = let q = g.output_count in omega (arith, outputs_are);
      rises = λ v h. let e = next_is v h in let m = most t g.input_terms g.output_terms v in (omega arith, omega arith);
      small = λ v h. let e = first_is v h in let m = sum.sums_most (terms_at t) term_limit v (most t g.input_terms g.output_terms) in omega arith;
    }

    module _ (b : Block) (bi : b.inputs ≡ inputs_view s t) (bo : b.outputs ≡ outputs_view s t) where
      counted : (i : ℕ) → i ≤ t.input_count → total (λ (v : block.Input). length v.terms) (tab (input_view s t) i 0) ≡ sums (terms_at t) i
      unfolding input_view
      counted i h =
          let q = g.input_count in
          sum.total_tab (λ (v : block.Input). length v.terms) (input_view s t) i
          ∙ sum.sums_ext (λ k. length (input_view s t k).terms) (terms_at t) i
          (λ v m. length_tab (term_view s t v) (input_row t v).terms 0 ∙ sym (input_terms_lem v (omega arith) (omega arith)))

      input_firsts : (i : ℕ) → i < t.input_count → input_first i b ≡ sums (terms_at t) i
      unfolding input_first
      input_firsts i h =
          ap (λ (vs : List block.Input). total (λ v. length v.terms) (take i vs)) bi
          ∙ ap (total (λ v. length v.terms)) (take_tab (input_view s t) t.input_count i 0 (omega arith))
          ∙ counted i (omega arith)

      -- past the last input nothing is added
      to_inputs : sums (terms_at t) input_limit ≡ sums (terms_at t) t.input_count
      to_inputs =
          let q = g.input_count in
          let m : ℕ = t.input_count in
          let z : m + (input_limit - m) ≡ input_limit = omega arith in
          ap (sums (terms_at t)) (sym z) ∙ sum.sums_split (terms_at t) m (input_limit - m)
          ∙ ap (λ (k : ℕ). sums (terms_at t) m + k) (sum.sums_ext (λ k. terms_at t (m + k)) (λ k. 0) (input_limit - m)
          (λ v h. input_none (m + v) (omega arith) (omega arith)) ∙ sum.sums_none (input_limit - m))
          ∙ omega arith

      output_firsts : (o : ℕ) → o < t.output_count → output_first o b ≡ sums (terms_at t) (input_limit + o)
      unfolding output_first output_view
      output_firsts o h =
          (λ j. (ap (λ (vs : List block.Input). length (gather (λ v. v.terms) vs)) bi
          ∙ length_gather (λ (v : block.Input). v.terms) _ (λ v. refl) (inputs_view s t) ∙ counted t.input_count (omega arith) ∙ sym to_inputs) j
          + (ap (λ (vs : List block.Output). total (λ v. length v.terms) (take o vs)) bo
          ∙ ap (total (λ v. length v.terms)) (take_tab (output_view s t) t.output_count o 0 (omega arith))
          ∙ sum.total_tab (λ (v : block.Output). length v.terms) (output_view s t) o
          ∙ sum.sums_ext (λ k. length (output_view s t k).terms) (λ k. terms_at t (input_limit + k)) o
          (λ v m. length_tab (singleton_view s t v) (output_row t v).terms 0 ∙ sym (output_terms_lem v (omega arith)))) j)
          ∙ sym (sum.sums_split (terms_at t) input_limit o)

      pub describes : Describes s t.names w b
      describes =
          let q = g.input_count in
          let u = g.output_count in
          record {
            inputs = lookups.inputs_count s t b bi ∙ sym inputs_are;
            outputs = lookups.outputs_count s t b bo ∙ sym outputs_are;
            input = λ x. lookups.input_of_lem s t b bi g x ∙ ap (λ (n : ℕ). among s t.names x n 0) (sym inputs_are);
            output = λ x. lookups.output_of_lem s t b bo g x ∙ ap (λ (n : ℕ). among s t.names x n input_limit) (sym outputs_are);
            terms = λ i h. let k : i < t.input_count = omega (arith, inputs_are) in
                lookups.terms_count s t b bi i k ∙ sym (count_is i (omega arith) ∙ input_terms_lem i (omega arith) k);
            singletons = λ o h. let k : o < t.output_count = omega (arith, outputs_are) in
                lookups.singletons_count s t b bo o k ∙ sym (count_is (input_limit + o) (omega arith) ∙ output_terms_lem o k);
            term = λ x i h. let k : i < t.input_count = omega (arith, inputs_are) in
                lookups.term_of_lem s t b bi g x i k ∙ ap (λ (n : ℕ). among s t.names x n (variable_limit + i * term_limit))
                (sym (count_is i (omega arith) ∙ input_terms_lem i (omega arith) k));
            singleton = λ x o h. let k : o < t.output_count = omega (arith, outputs_are) in
                lookups.singleton_of_lem s t b bo g x o k ∙ ap (λ (n : ℕ). among s t.names x n (variable_limit + (input_limit + o) * term_limit))
                (sym (count_is (input_limit + o) (omega arith) ∙ output_terms_lem o k));
            input_first = λ i h. let k : i < t.input_count = omega (arith, inputs_are) in input_firsts i k ∙ sym (first_is i (omega arith));
            output_first = λ o h. let k : o < t.output_count = omega (arith, outputs_are) in
                output_firsts o k ∙ sym (first_is (input_limit + o) (omega arith));
          }

pub rows_in : (t : Tables) (i : ℕ) → i < input_limit → terms_at t i ≡ (if ltb i t.input_count then (input_row t i).terms else 0)
rows_in t i h = simp (lt-ltb _ _ h) refl

pub rows_out : (t : Tables) (i : ℕ) → i < output_limit → terms_at t (input_limit + i) ≡ (if ltb i t.output_count then (output_row t i).terms else 0)
rows_out t i h =
    let z : input_limit + i - input_limit ≡ i = omega arith in
    let y : ltb (input_limit + i) input_limit ≡ false = le-ltb (input_limit + i) input_limit (omega arith) in
    simp (y, z) refl
