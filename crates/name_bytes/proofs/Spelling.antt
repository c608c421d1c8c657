-- The bytes of a name, read once: where they end, and whether they are tidy.
use Rattle.std.specs.Prelude.{if◌then◌else◌, None, Some}
use mathlib.Core.Path.{◌≡◌, refl, sym, ap, ◌∙◌}
use mathlib.Core.List.{List, [], ◌∷◌}
use mathlib.Core.Bool.{Bool, true, false, ◌||◌, not}
use Prim.Native.Nat.{ℕ, suc, ◌+◌, ◌≤◌, ◌<◌}
use native.Mathlib.Numerals.{add-one}
use native.Mathlib.Omega.{arith}
use borrow.Author.Tests.{eqb-true}
use lib.ListN.{length, take, drop, get_or, drop_of_length-le}
use lib.Seq.{drop-cons}
use Rattle.model.specs.Basic.{between, run}
use Rattle.model.specs.Tokens.{is_digit, is_underscore, is_name_byte, tidy}
use Rattle.laws.proofs.Tests.{clash}
use Rattle.characters.proofs.Laws.{tidy_cons, run_in, run_out}
use Rattle.name_bytes.specs.Names.{ends_name, tidy_at, tidy_end}

-- ONE BYTE
module _ (u : Bool) (n c : ℕ) (s : List ℕ) where
  end_here : ends_name u c ≡ true → tidy_end u n (c ∷ s) ≡ tidy_at u n
  unfolding tidy_end
  end_here e = λ j. if e j then tidy_at u n else tidy_end (is_underscore c) (suc n) s

  end_later : ends_name u c ≡ false → tidy_end u n (c ∷ s) ≡ tidy_end (is_underscore c) (suc n) s
  unfolding tidy_end
  end_later e = λ j. if e j then tidy_at u n else tidy_end (is_underscore c) (suc n) s

-- the byte at a place
module _ (s : List ℕ) (u : Bool) (i : ℕ) where
  pub at_end : i < length s → ends_name u (get_or s i 0) ≡ true → tidy_end u i (drop i s) ≡ tidy_at u i
  at_end h e = rw (drop-cons s i 0 h) (end_here u i (get_or s i 0) (drop (suc i) s) e)

  pub at_more : i < length s → ends_name u (get_or s i 0) ≡ false
      → tidy_end u i (drop i s) ≡ tidy_end (is_underscore (get_or s i 0)) (i + 1) (drop (i + 1) s)
  at_more h e = rw (add-one, drop-cons s i 0 h) (end_later u i (get_or s i 0) (drop (suc i) s) e)

  pub at_past : length s ≤ i → tidy_end u i (drop i s) ≡ tidy_at u i
  unfolding tidy_end
  at_past h = rw (drop_of_length-le s h)

-- LETTERS
abbrev pub letter : ℕ → Bool
letter c = between 65 90 c || between 97 122 c

letter_name : (a b d e : Bool) → a || b ≡ true → (a || (b || d)) || e ≡ true
letter_name true b d e h = refl
letter_name false true d e h = refl
letter_name false false d e h = clash h

letter_plain : (c : ℕ) → letter c ≡ true → is_underscore c ≡ false
letter_plain c h = go (is_underscore c) refl
  where
    go : (b : Bool) → is_underscore c ≡ b → is_underscore c ≡ false
    go true e = clash (sym (ap letter (eqb-true c 95 e)) ∙ h)
    go false e = e

letter_stays : (u : Bool) (c : ℕ) → letter c ≡ true → ends_name u c ≡ false
letter_stays u c h =
    (λ j. if letter_plain c h j then u else not (is_name_byte c))
    ∙ ap not (letter_name (between 65 90 c) (between 97 122 c) (is_underscore c) (is_digit c) h)

-- a letter goes on a name, whatever stands before it
pub at_letter : (s : List ℕ) (u : Bool) (i : ℕ) → i < length s → letter (get_or s i 0) ≡ true
    → tidy_end u i (drop i s) ≡ tidy_end false (i + 1) (drop (i + 1) s)
at_letter s u i h e =
    let c = get_or s i 0 in
    at_more s u i h (letter_stays u c e) ∙ ap (λ (b : Bool). tidy_end b (i + 1) (drop (i + 1) s)) (letter_plain c e)

-- UNDERSCORES
-- what follows is tidy; u: an underscore stands before it
abbrev tidy_after : Bool → List ℕ → Bool
tidy_after true w = tidy (95 ∷ w)
tidy_after false w = tidy w

after_plain : (u : Bool) (c : ℕ) (w : List ℕ) → is_underscore c ≡ false → tidy_after u (c ∷ w) ≡ tidy w
unfolding tidy
after_plain true c w e = simp e (tidy_cons c w e)
after_plain false c w e = tidy_cons c w e

after_under : (c : ℕ) (w : List ℕ) (k : ℕ) → is_underscore c ≡ true → tidy_at (not (tidy_after true (c ∷ w))) k ≡ None
unfolding tidy
after_under c w k e = simp e

after_none : (u : Bool) (n : ℕ) → tidy_at u n ≡ tidy_at (not (tidy_after u [])) (n + 0)
unfolding tidy
after_none true n = refl
after_none false n = ap (λ (k : ℕ). Some k) (omega arith)

ends : (u : Bool) (n : ℕ) (s : List ℕ)
    → tidy_end u n s ≡ tidy_at (not (tidy_after u (take (run is_name_byte s) s))) (n + run is_name_byte s)
ends u n [] = unfold tidy_end run in (after_none u n)
ends u n (c ∷ s) = go (λ v k. ends v k s) u (is_underscore c) refl (is_name_byte c) refl
  where
    m : ℕ
    m = run is_name_byte s

    here : (u a b : Bool) → is_underscore c ≡ a → is_name_byte c ≡ b → ends_name u c ≡ if a then u else not b
    here u a b e f = λ j. if e j then u else not (f j)

    more : {b : Bool} (u : Bool) → tidy_end (is_underscore c) (suc n) s ≡ tidy_at (not b) (suc n + m) → ends_name u c ≡ false → is_name_byte c ≡ true
        → tidy_after u (c ∷ take m s) ≡ b
        → tidy_end u n (c ∷ s) ≡ tidy_at (not (tidy_after u (take (run is_name_byte (c ∷ s)) (c ∷ s)))) (n + run is_name_byte (c ∷ s))
    more u ih d f w =
        let k : suc n + m ≡ n + suc m = omega arith in
        rw (run_in is_name_byte c s f) (end_later u n c s d ∙ ih ∙ (λ j. tidy_at (not (sym w j)) (k j)))

    go : ((v : Bool) (k : ℕ) → tidy_end v k s ≡ tidy_at (not (tidy_after v (take m s))) (k + m)) → (u a : Bool) → is_underscore c ≡ a
        → (b : Bool) → is_name_byte c ≡ b
        → tidy_end u n (c ∷ s) ≡ tidy_at (not (tidy_after u (take (run is_name_byte (c ∷ s)) (c ∷ s)))) (n + run is_name_byte (c ∷ s))
    go ih u true e false f = clash (sym f ∙ ap is_name_byte (eqb-true c 95 e))
    go ih true true e true f =
        rw (run_in is_name_byte c s f) (end_here true n c s (here true true true e f) ∙ sym (after_under c (take m s) (n + suc m) e))
    go ih false true e true f =
        more false ((λ j. tidy_end (e j) (suc n) s) ∙ ih true (suc n)) (here false true true e f) f (ap (λ (x : ℕ). tidy (x ∷ take m s)) (eqb-true c 95 e))
    go ih u false e true f =
        more u ((λ j. tidy_end (e j) (suc n) s) ∙ ih false (suc n)) (here u false true e f) f (after_plain u c (take m s) e)
    go ih u false e false f =
        rw (run_out is_name_byte c s f) (end_here u n c s (here u false false e f) ∙ after_none u n)

-- where the name bytes end, if they are tidy
pub tidy_ends : (s : List ℕ) → tidy_end false 0 s ≡ tidy_at (not (tidy (take (run is_name_byte s) s))) (run is_name_byte s)
tidy_ends s = let e : 0 + run is_name_byte s ≡ run is_name_byte s = omega arith in rw e at (ends false 0 s)
