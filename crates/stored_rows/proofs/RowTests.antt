-- What it takes for a row's words to be those that its entry is laid out us.
use Rattle.std.specs.Prelude.{if◌then◌else◌}
use mathlib.Core.Path.{◌≡◌, refl, sym, ap, ◌∙◌}
use mathlib.Core.List.{List, [], ◌∷◌, ◌++◌}
use mathlib.Core.Option.{Option, none, some}
use mathlib.Core.Bool.{Bool, true, false, ◌&&◌, and-true}
use Prim.Native.Nat.{ℕ, zero, suc, ◌+◌, ◌*◌, ◌≤◌}
use native.Mathlib.Omega.{arith}
use lib.Dec.{leb, eqb}
use lib.ListN.{length}
use borrow.Author.Tests.{eq-eqb, ne_eqb, lt-leb}
use Rattle.model.specs.Basic.{every, same, tab}
use Rattle.model.specs.Bounds.{M}
use Rattle.model.specs.Block.{Range}
use Rattle.model.specs.declared.InputType.TheVariants.{Real, Int}
use Rattle.model.specs.Image.{crisp_word, crisp_of, name_words, name_at, type_word, range_words, default_words, point_words, point_at, term_at, singleton_at, input_at, output_at, INPUT_TABLE, OUTPUT_TABLE, OUTPUTS, POINT_TABLE, TERM_TABLE, TERMS}
use Rattle.laws.proofs.Lists.{tab_append}
use Rattle.laws.proofs.Tests.{and_i, and_assoc}
use Rattle.laws.proofs.Places.{length_tab}
use Rattle.layout.specs.Tables.{input_row, input_next, output_row, output_next, term_row, output_term_at, output_point_at, input_count, output_count, name_exact}
use Rattle.layout.proofs.Whole.{word_crisp}
use Rattle.layout.proofs.Parts.{range_long}
use Rattle.stored_rows.specs.Tests.{range_test, default_test, input_test, output_test, term_test, singleton_test}

same_append : (xs ys us bs : List ℕ) → length xs ≡ length ys → same (xs ++ us) (ys ++ bs) ≡ same xs ys && same us bs
same_append [] [] us bs e = refl
same_append [] (y ∷ ys) us bs e = absurd (omega arith)
same_append (x ∷ xs) [] us bs e = absurd (omega arith)
same_append (x ∷ xs) (y ∷ ys) us bs e =
    ap (λ (b : Bool). eqb x y && b) (same_append xs ys us bs (omega arith)) ∙ sym (and_assoc (eqb x y) (same xs ys) (same us bs))

last_out : (a b c : Bool) → a && (b && (c && true)) ≡ (a && (b && true)) && c
last_out true true c = and-true c
last_out true false c = refl
last_out false b c = refl

type_code : (x : ℕ) → eqb x (type_word (if eqb x 0 then Real else Int)) ≡ leb x 1
type_code zero = refl
type_code (suc zero) = refl
type_code (suc (suc x)) =
    let a : eqb (suc (suc x)) 0 ≡ false = ne_eqb (suc (suc x)) 0 (λ q. omega arith) in
    let b : eqb (suc (suc x)) 1 ≡ false = ne_eqb (suc (suc x)) 1 (λ q. omega arith) in
    let c : leb (suc (suc x)) 1 ≡ false = lt-leb (suc (suc x)) 1 (omega arith) in
    simp (a, b, c)

crisp_same : (x : ℕ) → x ≤ 4294967295 → eqb x (crisp_word (crisp_of x)) ≡ true
crisp_same x h = eq-eqb _ _ (sym (word_crisp x h))

range_case : (f a b : ℕ) → a ≤ 4294967295 → b ≤ 4294967295
    → same (f ∷ a ∷ b ∷ []) (range_words (if eqb f 0 then none else some (record { least = crisp_of a; most = crisp_of b })))
    ≡ (if eqb f 0 then every (eqb a 0 ∷ eqb b 0 ∷ []) else eqb f 1)
unfolding every
range_case f a b ha hb = go (eqb f 0) refl
  where
    go : (t : Bool) → eqb f 0 ≡ t
        → same (f ∷ a ∷ b ∷ []) (range_words (if eqb f 0 then none else some (record { least = crisp_of a; most = crisp_of b })))
        ≡ (if eqb f 0 then every (eqb a 0 ∷ eqb b 0 ∷ []) else eqb f 1)
    go true e = simp e
    go false e = simp (e, crisp_same a ha, crisp_same b hb, and-true)

default_case : (f a : ℕ) → a ≤ 4294967295
    → same (f ∷ a ∷ []) (default_words (if eqb f 0 then none else some (crisp_of a))) ≡ (if eqb f 0 then eqb a 0 else eqb f 1)
default_case f a ha = go (eqb f 0) refl
  where
    go : (t : Bool) → eqb f 0 ≡ t
        → same (f ∷ a ∷ []) (default_words (if eqb f 0 then none else some (crisp_of a))) ≡ (if eqb f 0 then eqb a 0 else eqb f 1)
    go true e = simp (e, and-true)
    go false e = simp (e, crisp_same a ha, and-true)

module _ (w : ℕ → ℕ) where
  -- a row of 4 + n words that starts with a name
  row_name : (n o : ℕ) (rest : List ℕ) → same (tab w (4 + n) o) (name_words (name_at w o) ++ rest) ≡ name_exact w o && same (tab w n (o + 4)) rest
  unfolding name_exact name_words tab
  row_name n o rest =
      ap (λ (l : List ℕ). same l (name_words (name_at w o) ++ rest)) (tab_append w TERMS n o)
      ∙ same_append (tab w 4 o) (name_words (name_at w o)) (tab w n (o + 4)) rest refl

  -- a count is the length of what is read by it
  counted : {A : Type 0} (f : ℕ → A) (m k s : ℕ) → m ≡ k → eqb (w m) (length (tab f (w k) s)) && true ≡ true
  counted f m k s e = and_i _ _ (eq-eqb _ _ (ap w e ∙ sym (length_tab f (w k) s))) refl

  pub input_row_lem : (i p : ℕ) → same (tab w 7 (w INPUT_TABLE + i * 7)) (input_row p (input_at w i)) ≡ input_test w (w INPUT_TABLE + i * 7) p
  unfolding input_test input_at every tab
  input_row_lem i p =
      let o = w INPUT_TABLE + i * 7 in
      let e5 : suc (o + 4) ≡ o + 5 = omega arith in
      let e6 : suc (suc (o + 4)) ≡ o + 6 = omega arith in
      let last = counted (term_at w) (suc (suc (o + 4))) (o + 6) (w (o + 5)) e6 in
      row_name 3 o (type_word (input_at w i).type ∷ p ∷ length (input_at w i).terms ∷ [])
      ∙ (λ j. name_exact w o && (type_code (w (o + 4)) j && (eqb (w (e5 j)) p && last j)))

  pub term_row_lem : (i p : ℕ) → same (tab w 6 (w TERM_TABLE + i * 6)) (term_row p (term_at w i)) ≡ term_test w (w TERM_TABLE + i * 6) p
  unfolding term_test term_at every tab
  term_row_lem i p =
      let o = w TERM_TABLE + i * 6 in
      let e5 : suc (o + 4) ≡ o + 5 = omega arith in
      let last = counted (point_at w) (suc (o + 4)) (o + 5) (w (o + 4)) e5 in
      row_name 2 o (p ∷ length (term_at w i).points ∷ []) ∙ (λ j. name_exact w o && (eqb (w (o + 4)) p && last j))

  pub output_term_row : (i p : ℕ) → same (tab w 6 (w TERM_TABLE + i * 6)) (term_row p (output_term_at w i)) ≡ singleton_test w (w TERM_TABLE + i * 6) p
  unfolding singleton_test term_test singleton_at every tab
  output_term_row i p =
      let o = w TERM_TABLE + i * 6 in
      let e5 : suc (o + 4) ≡ o + 5 = omega arith in
      row_name 2 o (p ∷ 1 ∷ [])
      ∙ (λ j. name_exact w o && (eqb (w (o + 4)) p && (eqb (w (e5 j)) 1 && true)))
      ∙ last_out (name_exact w o) (eqb (w (o + 4)) p) (eqb (w (o + 5)) 1)

  module _ (fits : (k : ℕ) → w k ≤ 4294967295) where
    range_row : (o : ℕ)
        → same (tab w 3 (o + 6)) (range_words (if eqb (w (o + 6)) 0 then none else some (record { least = crisp_of (w (o + 7)); most = crisp_of (w (o + 8)) })))
        ≡ range_test w o
    unfolding range_test tab
    range_row o =
        let e1 : suc (o + 6) ≡ o + 7 = omega arith in
        let e2 : suc (suc (o + 6)) ≡ o + 8 = omega arith in
        let g : Option Range = if eqb (w (o + 6)) 0 then none else some (record { least = crisp_of (w (o + 7)); most = crisp_of (w (o + 8)) }) in
        (λ j. same (w (o + 6) ∷ w (e1 j) ∷ w (e2 j) ∷ []) (range_words g))
        ∙ range_case (w (o + 6)) (w (o + 7)) (w (o + 8)) (fits (o + 7)) (fits (o + 8))

    default_row : (o : ℕ) → same (tab w 2 (o + 9)) (default_words (if eqb (w (o + 9)) 0 then none else some (crisp_of (w (o + 10))))) ≡ default_test w o
    unfolding default_test tab
    default_row o =
        let e1 : suc (o + 9) ≡ o + 10 = omega arith in
        (λ j. same (w (o + 9) ∷ w (e1 j) ∷ []) (default_words (if eqb (w (o + 9)) 0 then none else some (crisp_of (w (o + 10))))))
        ∙ default_case (w (o + 9)) (w (o + 10)) (fits (o + 10))

    pub output_row_lem : (i p : ℕ) → same (tab w 11 (w OUTPUT_TABLE + i * 11)) (output_row p (output_at w i)) ≡ output_test w (w OUTPUT_TABLE + i * 11) p
    unfolding output_test output_at every tab
    output_row_lem i p =
        let o = w OUTPUT_TABLE + i * 11 in
        let R = range_words (output_at w i).range in
        let D = default_words (output_at w i).default in
        let e5 : suc (o + 4) ≡ o + 5 = omega arith in
        let e6 : suc (suc (o + 4)) ≡ o + 6 = omega arith in
        let e9 : o + 6 + 3 ≡ o + 9 = omega arith in
        let long = length_tab (singleton_at w) (w (o + 5)) (w (o + 4)) in
        let count : eqb (w (suc (o + 4))) (length (output_at w i).terms) ≡ true = eq-eqb _ _ (ap w e5 ∙ sym long) in
        let range : same (tab w 3 (o + 6)) R ≡ range_test w o = range_row o in
        let default : same (tab w 2 (o + 6 + 3)) D ≡ default_test w o && true =
        ap (λ (k : ℕ). same (tab w 2 k) D) e9 ∙ default_row o ∙ sym (and-true (default_test w o)) in
        let tail : same (tab w 5 (suc (suc (o + 4)))) (R ++ D) ≡ range_test w o && (default_test w o && true) =
        ap (λ (k : ℕ). same (tab w 5 k) (R ++ D)) e6
        ∙ ap (λ (l : List ℕ). same l (R ++ D)) (tab_append w OUTPUTS 2 (o + 6))
        ∙ same_append (tab w 3 (o + 6)) R (tab w 2 (o + 6 + 3)) D (sym (range_long (output_at w i).range))
        ∙ (λ j. range j && default j) in
        row_name 7 o (p ∷ length (output_at w i).terms ∷ (R ++ D)) ∙ (λ j. name_exact w o && (eqb (w (o + 4)) p && (count j && tail j)))

    pub point_row_lem : (i : ℕ) → same (tab w 2 (w POINT_TABLE + i * 2)) (point_words (output_point_at w i)) ≡ eqb (w (w POINT_TABLE + i * 2 + 1)) M
    unfolding point_at tab
    point_row_lem i =
        let o = w POINT_TABLE + i * 2 in
        let e1 : suc o ≡ o + 1 = omega arith in
        let at : eqb (w o) (crisp_word (crisp_of (w o))) ≡ true = crisp_same (w o) (fits o) in
        (λ j. at j && (eqb (w (e1 j)) M && true)) ∙ and-true (eqb (w (o + 1)) M)

  pub input_next_lem : (i p : ℕ) → input_next p (input_at w i) ≡ p + input_count w i
  unfolding input_at
  input_next_lem i p = ap (λ (x : ℕ). p + x) (length_tab (term_at w) (input_count w i) (w (w INPUT_TABLE + i * 7 + 5)))

  pub output_next_lem : (i p : ℕ) → output_next p (output_at w i) ≡ p + output_count w i
  unfolding output_at
  output_next_lem i p = ap (λ (x : ℕ). p + x) (length_tab (singleton_at w) (output_count w i) (w (w OUTPUT_TABLE + i * 11 + 4)))
