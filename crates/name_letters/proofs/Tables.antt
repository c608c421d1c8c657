-- The names of one table, and of two tables one after the other, are distinct where their words are.
use mathlib.Core.Path.{◌≡◌, refl, sym, ◌∙◌}
use mathlib.Core.List.{List, [], ◌∷◌, ◌++◌}
use mathlib.Core.Bool.{Bool, true, false, ◌&&◌, not}
use Prim.Native.Nat.{ℕ, zero, suc, ◌+◌, ◌*◌, ◌≤◌, ◌<◌}
use native.Mathlib.Omega.{arith}
use Rattle.model.specs.Basic.{all, distinct, same, tab}
use Rattle.model.specs.Tokens.{is_name, same_name}
use Rattle.model.specs.Image.{name_at}
use Rattle.laws.proofs.Lists.{all_append}
use Rattle.layout.specs.Tables.{name_exact}
use Rattle.name_letters.specs.Letters.{letters_at, words_in, absent, apart}
use Rattle.name_letters.proofs.Alike.{same_names}

crossed : (a b c d e : Bool) → (a && b) && (c && (d && e)) ≡ (a && c) && ((b && d) && e)
crossed true true true d e = refl
crossed true true false d e = refl
crossed true false true d e = refl
crossed true false false d e = refl
crossed false b c d e = refl

pub distinct_append : {A : Type 0} (eq : A → A → Bool) (xs ys : List A) → distinct eq (xs ++ ys) ≡ distinct eq xs && (apart eq xs ys && distinct eq ys)
unfolding distinct all
distinct_append eq [] ys = refl
distinct_append eq (x ∷ xs) ys =
    (λ j. all_append (λ y. not (eq x y)) xs ys j && distinct_append eq xs ys j)
    ∙ crossed (absent eq x xs) (absent eq x ys) (distinct eq xs) (apart eq xs ys) (distinct eq ys)

-- NAMES
-- the name of entry i of a table from place o on, s words an entry
abbrev pub name_in : (ℕ → ℕ) → ℕ → ℕ → ℕ → List ℕ
name_in w o s i = name_at w (o + i * s)

-- an exact name stands at o
abbrev pub Named : (ℕ → ℕ) → ℕ → Type 0
Named w o = (name_exact w o ≡ true) × (is_name (name_at w o) ≡ true)

-- n entries from i on begin with an exact name
abbrev pub Exact : (ℕ → ℕ) → ℕ → ℕ → ℕ → ℕ → Type 0
Exact w o s n i = (k : ℕ) → i ≤ k → k < i + n → Named w (o + k * s)

module _ (w : ℕ → ℕ) where
  first : (o s n i : ℕ) → Exact w o s (suc n) i → Named w (o + i * s)
  first o s n i h = h i (omega arith) (omega arith)

  later : (o s n i : ℕ) → Exact w o s (suc n) i → Exact w o s n (suc i)
  later o s n i h k a b = h k (omega arith) (omega arith)

  pub absent_names : (p o s n i : ℕ) → Named w p → Exact w o s n i
      → absent same (tab (letters_at w) 4 p) (tab (words_in (letters_at w) o s) n i) ≡ absent same_name (name_at w p) (tab (name_in w o s) n i)
  unfolding all tab
  absent_names p o s zero i g h = refl
  absent_names p o s (suc n) i g h =
      λ j. not (same_names w p (o + i * s) g (first o s n i h) j) && absent_names p o s n (suc i) g (later o s n i h) j

  pub distinct_names : (o s n i : ℕ) → Exact w o s n i → distinct same (tab (words_in (letters_at w) o s) n i) ≡ distinct same_name (tab (name_in w o s) n i)
  unfolding distinct tab
  distinct_names o s zero i h = refl
  distinct_names o s (suc n) i h =
      λ j. absent_names (o + i * s) o s n (suc i) (first o s n i h) (later o s n i h) j && distinct_names o s n (suc i) (later o s n i h) j

  pub apart_names : (o s n i q t m l : ℕ) → Exact w o s n i → Exact w q t m l
      → apart same (tab (words_in (letters_at w) o s) n i) (tab (words_in (letters_at w) q t) m l) ≡ apart same_name (tab (name_in w o s) n i) (tab (name_in w q t) m l)
  unfolding all tab
  apart_names o s zero i q t m l h g = refl
  apart_names o s (suc n) i q t m l h g =
      λ j. absent_names (o + i * s) q t m l (first o s n i h) g j && apart_names o s n (suc i) q t m l (later o s n i h) g j

  pub joined_names : (o s n q t m : ℕ) → Exact w o s n 0 → Exact w q t m 0
      → distinct same_name (tab (name_in w o s) n 0 ++ tab (name_in w q t) m 0)
      ≡ distinct same (tab (words_in (letters_at w) o s) n 0) && (apart same (tab (words_in (letters_at w) o s) n 0) (tab (words_in (letters_at w) q t) m 0) && distinct same (tab (words_in (letters_at w) q t) m 0))
  joined_names o s n q t m h g =
      distinct_append same_name (tab (name_in w o s) n 0) (tab (name_in w q t) m 0)
      ∙ (λ j. sym (distinct_names o s n 0 h) j && (sym (apart_names o s n 0 q t m 0 h g) j && sym (distinct_names q t m 0 g) j))
