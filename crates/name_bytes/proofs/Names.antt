-- What makes bytes a name.
use Rattle.std.specs.Prelude.{if◌then◌else◌, Option, Some, None, is_some}
use Rattle.std.specs.Option.{unwrap_or}
use mathlib.Core.Path.{◌≡◌, refl, sym, ap, ◌∙◌}
use mathlib.Core.List.{List, [], ◌∷◌}
use mathlib.Core.Bool.{Bool, true, false, ◌&&◌, ◌||◌, not, and-true, or-false}
use Prim.Native.Nat.{ℕ, zero, suc, ◌≤◌, ◌<◌}
use native.Mathlib.Omega.{arith}
use borrow.Author.Tests.{eqb-true, eqb-false, ne_eqb, lt-ltb, le-ltb}
use lib.Dec.{leb, ltb, eqb}
use lib.ListN.{length, take, get_or}
use Rattle.model.specs.Basic.{every, all, run}
use Rattle.model.specs.Bounds.{name_limit}
use Rattle.model.specs.Keywords.{keyword_at, is_keyword}
use Rattle.model.specs.Tokens.{is_digit, starts_name, is_name_byte, starts, tidy, is_name}
use Rattle.laws.proofs.Tests.{one_fails, both, clash}
use Rattle.laws.proofs.Lists.{run_all}
use Rattle.keywords.specs.Slots.{keyword_count, Which}
use Rattle.name_bytes.specs.Names.{name_length, tidy_at, tidy_end}
use Rattle.name_bytes.proofs.Spelling.{tidy_ends}

starts_take : (f : ℕ → Bool) (s : List ℕ) (n : ℕ) → 0 < n → n ≤ length s → starts f (take n s) ≡ f (get_or s 0 0)
starts_take f [] n h l = absurd (omega arith)
starts_take f (c ∷ s) zero h l = absurd (omega arith)
starts_take f (c ∷ s) (suc n) h l = refl

abbrev pub name_tests : List ℕ → List Bool
name_tests w = starts starts_name w ∷ all is_name_byte w ∷ tidy w ∷ leb (length w) name_limit ∷ not (is_keyword w) ∷ []

pub name_spelt : (w : List ℕ) → every (name_tests w) ≡ is_name w
unfolding is_name every
name_spelt w =
    ap (λ (b : Bool). starts starts_name w && (all is_name_byte w && (tidy w && (leb (length w) name_limit && b)))) (and-true (not (is_keyword w)))

pub told : (w : List ℕ) (k : ℕ) → k ≡ keyword_at w → k ≤ 43 → not (eqb k 43) ≡ is_keyword w
unfolding is_keyword
told w k e h = go (eqb k 43) refl
  where
    go : (b : Bool) → eqb k 43 ≡ b → not (eqb k 43) ≡ ltb (keyword_at w) 43
    go true q = ap not q ∙ sym (ap (λ (n : ℕ). ltb n 43) (sym e) ∙ le-ltb k 43 (omega (arith, eqb-true k 43 q)))
    go false q = ap not q ∙ sym (ap (λ (n : ℕ). ltb n 43) (sym e) ∙ lt-ltb k 43 (omega (arith, eqb-false k 43 q)))

pub told_by : (w : List ℕ) (r : Option ℕ) → Which w r → is_some r ≡ is_keyword w
told_by w None e = told w keyword_count e (omega arith)
told_by w (Some k) e = go (told w k e.0 (omega (arith, e.1)))
  where
    go : not (eqb k 43) ≡ is_keyword w → true ≡ is_keyword w
    go q = sym (ap not (ne_eqb k 43 (omega (arith, e.1)))) ∙ q

pub first_starts : (w : List ℕ) → all is_name_byte w ≡ true → 0 < length w → is_digit (get_or w 0 0) ≡ false → starts starts_name w ≡ true
unfolding all
first_starts [] h l d = absurd (omega arith)
first_starts (c ∷ w) h l d =
    sym (or-false (starts_name c)) ∙ ap (λ (b : Bool). starts_name c || b) (sym d) ∙ (both (is_name_byte c) (all is_name_byte w) h).0

-- the name bytes that s starts with
module _ (s : List ℕ) where
  abbrev m : ℕ
  m = run is_name_byte s

  by : (b : Bool) → tidy (take m s) ≡ b → tidy_end false 0 s ≡ tidy_at (not b) m
  by b q = tidy_ends s ∙ ap (λ (x : Bool). tidy_at (not x) m) q

  module _ (n : ℕ) (e : Some n ≡ tidy_end false 0 s) where
    ended : (n ≡ m) × (tidy (take m s) ≡ true)
    ended = go (tidy (take m s)) refl
      where
        go : (b : Bool) → tidy (take m s) ≡ b → (n ≡ m) × (tidy (take m s) ≡ true)
        go true q = (ap (λ (o : Option ℕ). unwrap_or o 0) (e ∙ by true q), q)
        go false q = clash (sym (ap is_some (e ∙ by false q)))

    pub clean : (all is_name_byte (take n s) ≡ true) × (tidy (take n s) ≡ true)
    clean = rw ended.0 (run_all is_name_byte s, ended.1)

    pub judged : (b : Bool) → is_name (take n s) ≡ b → (if b then Some n else None) ≡ name_length s
    unfolding name_length
    judged b q =
        sym (ap (λ (k : ℕ). if is_name (take k s) then Some k else None) (sym ended.0) ∙ (λ j. if q j then Some n else None))

  pub untidy : None ≡ tidy_end false 0 s → None ≡ name_length s
  unfolding name_length
  untidy e = go (tidy (take m s)) refl
    where
      go : (b : Bool) → tidy (take m s) ≡ b → None ≡ name_length s
      go true q = clash (ap is_some (e ∙ by true q))
      go false q =
          sym (ap (λ (b : Bool). if b then Some m else None) (sym (name_spelt (take m s)) ∙ one_fails (name_tests (take m s)) 2 q))
