-- The names that a conclusion is printed by, where they stand in an accepted image.
use mathlib.Core.Path.{◌≡◌, sym, ap, ◌∙◌}
use mathlib.Core.Bool.{true}
use mathlib.Core.List.{List, [], ◌++◌, map, map-append}
use Prim.Native.Nat.{ℕ, zero, suc, ◌+◌, ◌≤◌, ◌<◌}
use native.Mathlib.Nat.{zero-add}
use native.Mathlib.Omega.{arith}
use borrow.Author.Tests.{ltb-true}
use lib.ListN.{length, get_or}
use Rattle.model.specs.Basic.{bytes, tab}
use Rattle.model.specs.Block.{Term, output_first, singletons_of}
use Rattle.model.specs.Image.{terms, name_at, term_at, singleton_at, output_at, conclusion_at, decode, output_place, term_place, conclusion_place, OUTPUTS}
use Rattle.model.specs.Listing.{conclusion_text}
use Rattle.model.specs.WellFormed.{conclusion_ok}
use Rattle.laws.proofs.Lists.{map_tab, tab_append}
use Rattle.laws.proofs.Tests.{passed}
use Rattle.laws.proofs.Places.{length_tab, tab_nth}
use Rattle.layout.specs.Tables.{sums, output_term_at, input_terms_in, output_terms_in, output_count}
use Rattle.layout.specs.Groups.{tables_ok, Sound}
use Rattle.layout.proofs.Parts.{terms_are}
use Rattle.layout.proofs.Sound.{output_terms_lem, output_first_lem, first_is}

-- a count and those before it are among all
sums_part : (c : ℕ → ℕ) (k i j : ℕ) → j < k → sums c j i + c (i + j) ≤ sums c k i
unfolding sums
sums_part c zero i j h = absurd (omega arith)
sums_part c (suc k) i zero h = let e : i + 0 ≡ i = omega arith in rw e (omega arith)
sums_part c (suc k) i (suc j) h =
    let e : i + suc j ≡ suc i + j = omega arith in
    rw e (omega (arith, sums_part c k (suc i) j (omega arith)))

nth : {A : Type 0} (f : ℕ → A) (n k : ℕ) (d : A) → k < n → get_or (tab f n 0) k d ≡ f k
nth f n k d h = tab_nth f n 0 k d h ∙ ap f (zero-add k)

module _ (w : ℕ → ℕ) (ok : Sound w) where
  pub output_name : (o : ℕ) → o < w OUTPUTS → get_or (map (λ v. v.name) (decode w).outputs) o [] ≡ name_at w (output_place w o)
  unfolding decode output_at
  output_name o h =
      let names : ℕ → List ℕ = λ i. name_at w (output_place w i) in
      ap (λ (l : List (List ℕ)). get_or l o []) (map_tab (λ v. v.name) (output_at w) (w OUTPUTS) 0) ∙ nth names (w OUTPUTS) o [] h

  names_are : map (λ t. t.name) (terms (decode w)) ≡ tab (λ i. name_at w (term_place w i)) (input_terms_in w + output_terms_in w) 0
  unfolding tables_ok term_at singleton_at
  names_are =
      let name : Term → List ℕ = λ t. t.name in
      let names : ℕ → List ℕ = λ i. name_at w (term_place w i) in
      let m = input_terms_in w in
      let n = output_terms_in w in
      let p = passed _ ok.frame in
      ap (map name) (terms_are w p.1.0 p.1.1.0)
      ∙ map-append name (tab (term_at w) m 0) (tab (output_term_at w) n m)
      ∙ (λ j. map_tab name (term_at w) m 0 j ++ map_tab name (output_term_at w) n m j)
      ∙ ap (λ (q : ℕ). tab names m 0 ++ tab names n q) (sym (zero-add m))
      ∙ sym (tab_append names m n 0)

  pub term_name : (t : ℕ) → t < input_terms_in w + output_terms_in w
      → get_or (map (λ t. t.name) (terms (decode w))) t [] ≡ name_at w (term_place w t)
  term_name t h =
      ap (λ (l : List (List ℕ)). get_or l t []) names_are
      ∙ nth (λ i. name_at w (term_place w i)) (input_terms_in w + output_terms_in w) t [] h

  -- the output and the term of a conclusion are there
  pub concluded : (j : ℕ) → conclusion_ok (decode w) (conclusion_at w j) ≡ true
      → ((conclusion_at w j).output < w OUTPUTS) × ((conclusion_at w j).term < input_terms_in w + output_terms_in w)
  unfolding conclusion_ok decode
  concluded j h =
      let k = conclusion_at w j in
      let q = passed _ h in
      let there : k.output < length (decode w).outputs = ltb-true _ _ q.0 in
      let o : k.output < w OUTPUTS = omega (arith, length_tab (output_at w) (w OUTPUTS) 0) in
      let hi : k.term < output_first k.output (decode w) + length (singletons_of k.output (decode w)) = ltb-true _ _ q.1.1.0 in
      let f = output_first_lem w ok.frame k.output o in
      let g = first_is w ok.frame k.output o in
      let own = output_terms_lem w k.output o ∙ ap (output_count w) (sym (zero-add k.output)) in
      (o, omega (arith, hi, f, g, own, sums_part (output_count w) (w OUTPUTS) 0 k.output o))

  -- by the places that the code reads: c the conclusion's row, o and t what it holds, p and q their rows
  pub conclusion_text_lem : (j c o t p q : ℕ) → conclusion_ok (decode w) (conclusion_at w j) ≡ true → c ≡ conclusion_place w j
      → o ≡ w c → t ≡ w (c + 1) → p ≡ output_place w o → q ≡ term_place w t
      → conclusion_text (decode w) (conclusion_at w j) ≡ name_at w p ++ (bytes " IS " ++ name_at w q)
  unfolding conclusion_text conclusion_at
  conclusion_text_lem j c o t p q h ec eo et ep eq =
      let k = concluded j h in
      let output : (conclusion_at w j).output ≡ o = sym (eo ∙ ap w ec) in
      let term : (conclusion_at w j).term ≡ t = sym (et ∙ ap (λ (x : ℕ). w (x + 1)) ec) in
      let u = output_name (conclusion_at w j).output k.0 ∙ ap (λ (x : ℕ). name_at w (output_place w x)) output ∙ ap (name_at w) (sym ep) in
      let v = term_name (conclusion_at w j).term k.1 ∙ ap (λ (x : ℕ). name_at w (term_place w x)) term ∙ ap (name_at w) (sym eq) in
      λ i. u i ++ (bytes " IS " ++ v i)
