-- The bytes of a field before the first zero, and the name that the field starts with.
use Rattle.std.specs.Prelude.{if◌then◌else◌, Option, Some, None, is_some}
use Rattle.std.specs.Option.{unwrap_or}
use mathlib.Core.Path.{◌≡◌, refl, sym, ap, ◌∙◌}
use mathlib.Core.List.{List, [], ◌∷◌}
use mathlib.Core.Bool.{Bool, true, false, ◌&&◌, not}
use Prim.Native.Nat.{ℕ, zero, suc, ◌≤◌, ◌<◌}
use native.Mathlib.Omega.{arith}
use borrow.Author.Tests.{eqb-true, eqb-false, eq-eqb, ltb-true, ltb-false}
use lib.Dec.{ltb, eqb}
use lib.ListN.{take, get_or}
use Rattle.model.specs.Basic.{all, run}
use Rattle.model.specs.Tokens.{starts_name, is_name_byte, starts, is_name}
use Rattle.laws.proofs.Tests.{clash}
use Rattle.characters.proofs.Laws.{run_in, run_out}
use Rattle.layout.specs.Tables.{front}
use Rattle.name_bytes.specs.Names.{name_length}

none : (f g : ℕ → Bool) → run f [] < run g [] → ⊥
unfolding run
none f g h = omega arith

-- a run of another kind that goes on
all_past : (f g : ℕ → Bool) (s : List ℕ) → run f s < run g s → all f (take (run g s) s) ≡ false
unfolding all
all_past f g [] h = absurd (none f g h)
all_past f g (c ∷ s) h = go (λ k. all_past f g s k) (f c) refl (g c) refl
  where
    go : (run f s < run g s → all f (take (run g s) s) ≡ false) → (a : Bool) → f c ≡ a → (b : Bool) → g c ≡ b
        → all f (take (run g (c ∷ s)) (c ∷ s)) ≡ false
    go ih true d true e = rw (run_in g c s e) (simp d (ih (omega (arith, h, run_in f c s d, run_in g c s e))))
    go ih false d true e = rw (run_in g c s e) (simp d)
    go ih a d false e = absurd (omega (arith, h, run_out g c s e))

-- the bytes before the first zero
abbrev letters : List ℕ → ℕ
letters s = run (λ c. not (eqb c 0)) s

-- they end at a zero, and the name bytes are among them
zero_ends : (s : List ℕ) (k : ℕ) → get_or s k 0 ≡ 0 → letters s ≤ k
zero_ends [] k h = unfold run in (omega arith)
zero_ends (c ∷ s) zero h = omega (arith, run_out (λ x. not (eqb x 0)) c s (ap not (eq-eqb c 0 h)))
zero_ends (c ∷ s) (suc k) h = go (zero_ends s k h) (eqb c 0) refl
  where
    go : letters s ≤ k → (b : Bool) → eqb c 0 ≡ b → letters (c ∷ s) ≤ suc k
    go ih true e = omega (arith, run_out (λ x. not (eqb x 0)) c s (ap not e))
    go ih false e = omega (arith, ih, run_in (λ x. not (eqb x 0)) c s (ap not e))

zero_after : (s : List ℕ) → get_or s (letters s) 0 ≡ 0
zero_after [] = refl
zero_after (c ∷ s) = go (zero_after s) (eqb c 0) refl
  where
    go : get_or s (letters s) 0 ≡ 0 → (b : Bool) → eqb c 0 ≡ b → get_or (c ∷ s) (letters (c ∷ s)) 0 ≡ 0
    go ih true e = rw (run_out (λ x. not (eqb x 0)) c s (ap not e)) (eqb-true c 0 e)
    go ih false e = rw (run_in (λ x. not (eqb x 0)) c s (ap not e)) ih

name_within : (s : List ℕ) → run is_name_byte s ≤ letters s
name_within [] = unfold run in (omega arith)
name_within (c ∷ s) = go (name_within s) (eqb c 0) refl (is_name_byte c) refl
  where
    go : run is_name_byte s ≤ letters s → (a : Bool) → eqb c 0 ≡ a → (b : Bool) → is_name_byte c ≡ b → run is_name_byte (c ∷ s) ≤ letters (c ∷ s)
    go ih true d true e = clash (sym (ap is_name_byte (eqb-true c 0 d)) ∙ e)
    go ih false d true e = omega (arith, ih, run_in is_name_byte c s e, run_in (λ x. not (eqb x 0)) c s (ap not d))
    go ih a d false e = omega (arith, run_out is_name_byte c s e)

second_fails : (a b c : Bool) → b ≡ false → a && (b && c) ≡ false
second_fails true b c h = simp h
second_fails false b c h = refl

module _ (s : List ℕ) where
  -- the name bytes end before the first zero, or with it
  longer : run is_name_byte s < letters s → is_name (front s) ≡ false
  unfolding is_name
  longer h = second_fails (starts starts_name (front s)) _ _ (all_past is_name_byte (λ c. not (eqb c 0)) s h)

  whole : letters s ≡ run is_name_byte s → is_name (front s) ≡ is_name (take (run is_name_byte s) s)
  whole e = ap (λ (k : ℕ). is_name (take k s)) e

  length_by : (b : Bool) → is_name (take (run is_name_byte s) s) ≡ b → name_length s ≡ (if b then Some (run is_name_byte s) else None)
  unfolding name_length
  length_by b q = λ j. if q j then Some (run is_name_byte s) else None

  none_here : None ≡ name_length s → is_name (take (run is_name_byte s) s) ≡ false
  none_here h = go (is_name (take (run is_name_byte s) s)) refl
    where
      go : (b : Bool) → is_name (take (run is_name_byte s) s) ≡ b → is_name (take (run is_name_byte s) s) ≡ false
      go true q = clash (ap is_some (h ∙ length_by true q))
      go false q = q

  pub no_name : None ≡ name_length s → false ≡ is_name (front s)
  no_name e = sym (go (ltb (run is_name_byte s) (letters s)) refl)
    where
      go : (b : Bool) → ltb (run is_name_byte s) (letters s) ≡ b → is_name (front s) ≡ false
      go true q = longer (ltb-true _ _ q)
      go false q = whole (omega (arith, name_within s, ltb-false (run is_name_byte s) (letters s) q)) ∙ none_here e

  -- n bytes are the name
  module _ (n : ℕ) (e : Some n ≡ name_length s) where
    named : (n ≡ run is_name_byte s) × (is_name (take (run is_name_byte s) s) ≡ true)
    named = go (is_name (take (run is_name_byte s) s)) refl
      where
        go : (b : Bool) → is_name (take (run is_name_byte s) s) ≡ b → (n ≡ run is_name_byte s) × (is_name (take (run is_name_byte s) s) ≡ true)
        go true q = (ap (λ (o : Option ℕ). unwrap_or o 0) (e ∙ length_by true q), q)
        go false q = clash (sym (ap is_some (e ∙ length_by false q)))

    goes_on_lem : (get_or s n 0 ≡ 0 → ⊥) → run is_name_byte s < letters s
    goes_on_lem f = go (ltb (run is_name_byte s) (letters s)) refl
      where
        go : (b : Bool) → ltb (run is_name_byte s) (letters s) ≡ b → run is_name_byte s < letters s
        go true q = ltb-true _ _ q
        go false q =
            let z : letters s ≡ n = omega (arith, name_within s, ltb-false (run is_name_byte s) (letters s) q, named.0) in
            absurd (f (ap (λ (k : ℕ). get_or s k 0) (sym z) ∙ zero_after s))

    pub name_ends : eqb (get_or s n 0) 0 ≡ is_name (front s)
    name_ends = go (eqb (get_or s n 0) 0) refl
      where
        go : (b : Bool) → eqb (get_or s n 0) 0 ≡ b → eqb (get_or s n 0) 0 ≡ is_name (front s)
        go true q = q ∙ sym (whole (omega (arith, name_within s, zero_ends s n (eqb-true _ _ q), named.0)) ∙ named.1)
        go false q = q ∙ sym (longer (goes_on_lem (eqb-false _ _ q)))

-- a zero stands behind the name
abbrev pub ends_at : List ℕ → Option ℕ → Bool
ends_at s None = false
ends_at s (Some n) = eqb (get_or s n 0) 0

pub told : (s : List ℕ) (r : Option ℕ) → r ≡ name_length s → ends_at s r ≡ is_name (front s)
told s None e = no_name s e
told s (Some n) e = name_ends s n e
