-- The singletons whose height is above zero: there are some exactly where the sum is above zero, and the figure lies between them.
use Rattle.std.specs.Prelude.{if◌then◌else◌}
use mathlib.Core.Path.{◌≡◌, refl, sym, ap, ◌∙◌}
use mathlib.Core.Bool.{Bool, true, false, ◌&&◌, not}
use mathlib.Core.List.{List, [], ◌∷◌, map}
use mathlib.Core.Option.{Option, none, some}
use Prim.Native.Nat.{ℕ, zero, suc, ◌+◌, ◌<◌}
use native.Mathlib.Omega.{arith}
use borrow.Author.Tests.{ltb-true, ltb-false, lt-ltb, leb-true, le-leb}
use lib.Dec.{ltb}
use lib.IntN.{ℤ, pos, negsuc}
use lib.ListN.{length, get_or, length-map}
use lib.Signed.{le_z, ◌≤ℤ◌, ≤ℤ_refl}
use Rattle.model.specs.Basic.{is_empty, total}
use Rattle.model.specs.Block.{Singleton, Range, in_range}
use Rattle.model.specs.Tokens.{in_crisp}
use Rattle.model.specs.WellFormed.{figure_ok}
use Rattle.model.specs.Degrees.{nearestℤ}
use Rattle.model.specs.Evaluation.{moment, sum_of}
use Rattle.laws.proofs.Comparison.{at_most, le_passes}
use Rattle.laws.proofs.Each.{Each, each_so, each_map, each_at}
use Rattle.laws.proofs.Tests.{both, and_i, clash}
use Rattle.crisp.specs.Crisp.{InCrisp}
use Rattle.crisp.proofs.Laws.{not_at_most, bounds}
use Rattle.centre.proofs.Between.{from_low, to_high}
use Rattle.demand_3.specs.Calls.{raised, foremost, lowest, highest, Between}

-- THE ORDER
le_trans : (a b c : ℤ) → le_z a b ≡ true → le_z b c ≡ true → le_z a c ≡ true
le_trans (pos a) (pos b) (pos c) h k = le-leb a c (omega (arith, leb-true a b h, leb-true b c k))
le_trans (pos a) (pos b) (negsuc c) h k = clash k
le_trans (pos a) (negsuc b) c h k = clash h
le_trans (negsuc a) (pos b) (pos c) h k = refl
le_trans (negsuc a) (pos b) (negsuc c) h k = clash k
le_trans (negsuc a) (negsuc b) (pos c) h k = refl
le_trans (negsuc a) (negsuc b) (negsuc c) h k = le-leb c a (omega (arith, leb-true b a h, leb-true c b k))

-- a figure between two that an output may have is one too
pub ok_between : (g : Option Range) (lo hi z : ℤ) → figure_ok g lo ≡ true → figure_ok g hi ≡ true → lo ≤ℤ z → z ≤ℤ hi → figure_ok g z ≡ true
ok_between g lo hi z p q h k =
    let a = both (in_crisp lo) (in_range g lo) p in
    let c = both (in_crisp hi) (in_range g hi) q in
    and_i (in_crisp z) (in_range g z) (crisp a.0 c.0) (ranged g a.1 c.1)
  where
    within : (a b : ℤ) → le_z a lo && le_z lo b ≡ true → le_z a hi && le_z hi b ≡ true → le_z a z && le_z z b ≡ true
    within a b e f =
        and_i (le_z a z) (le_z z b) (le_trans a lo z (both (le_z a lo) (le_z lo b) e).0 (le_passes lo z h))
        (le_trans z hi b (le_passes z hi k) (both (le_z a hi) (le_z hi b) f).1)

    crisp : in_crisp lo ≡ true → in_crisp hi ≡ true → in_crisp z ≡ true
    crisp e f = bounds z ∙ within (negsuc 999999999) (pos 1000000000) (sym (bounds lo) ∙ e) (sym (bounds hi) ∙ f)

    ranged : (g : Option Range) → in_range g lo ≡ true → in_range g hi ≡ true → in_range g z ≡ true
    ranged none e f = refl
    ranged (some r) e f = within r.least r.most e f

-- LOWEST AND HIGHEST
foremost_in : (P : ℤ → Type 0) (before : ℤ → ℤ → Bool) (x : ℤ) (xs : List ℤ) → P x → Each P xs → P (foremost before x xs)
foremost_in P before x [] p ps = p
foremost_in P before x (y ∷ ys) p ps = go (before x y) (foremost_in P before x ys p ps.1) (foremost_in P before y ys ps.0 ps.1)
  where
    go : (b : Bool) → P (foremost before x ys) → P (foremost before y ys) → P (if b then foremost before x ys else foremost before y ys)
    go true s t = s
    go false s t = t

module _ (before : ℤ → ℤ → Bool) (self : (a : ℤ) → before a a ≡ true) (chain : (a b c : ℤ) → before a b ≡ true → before b c ≡ true → before a c ≡ true)
    (turned : (a b : ℤ) → before a b ≡ false → before b a ≡ true) where
  abbrev Before : ℤ → ℤ → List ℤ → Type 0
  Before l x xs = (before l x ≡ true) × Each (λ y. before l y ≡ true) xs

  foremost_before : (x : ℤ) (xs : List ℤ) → Before (foremost before x xs) x xs
  foremost_before x [] = (self x, tt)
  foremost_before x (y ∷ ys) = go (before x y) refl (foremost_before x ys) (foremost_before y ys)
    where
      go : (b : Bool) → before x y ≡ b → Before (foremost before x ys) x ys → Before (foremost before y ys) y ys
          → Before (if b then foremost before x ys else foremost before y ys) x (y ∷ ys)
      go true e s t = (s.0, (chain (foremost before x ys) x y s.0 e, s.1))
      go false e s t = (chain (foremost before y ys) y x t.0 (turned x y e), t)

le_self : (a : ℤ) → le_z a a ≡ true
le_self a = le_passes a a (≤ℤ_refl a)

le_turned : (a b : ℤ) → le_z a b ≡ false → le_z b a ≡ true
le_turned a b e = le_passes b a (not_at_most a b e)

lowest_le : (x : ℤ) (xs : List ℤ) → Each (λ y. lowest x xs ≤ℤ y) (x ∷ xs)
lowest_le x xs = each_so (λ y e. at_most (lowest x xs) y e) (x ∷ xs) (foremost_before le_z le_self le_trans le_turned x xs)

highest_ge : (x : ℤ) (xs : List ℤ) → Each (λ y. y ≤ℤ highest x xs) (x ∷ xs)
highest_ge x xs =
    each_so (λ y e. at_most y (highest x xs) e) (x ∷ xs)
    (foremost_before (λ y z. le_z z y) le_self (λ a b c h k. le_trans c b a k h) (λ a b e. le_turned b a e) x xs)

-- THE RAISED SINGLETONS
pub sum_raised : (ss : List Singleton) (hs : List ℕ) → length hs ≡ length ss → ltb 0 (sum_of hs) ≡ not (is_empty (raised ss hs))
unfolding raised total
sum_raised [] [] e = refl
sum_raised [] (h ∷ hs) e = absurd (omega arith)
sum_raised (s ∷ ss) [] e = absurd (omega arith)
sum_raised (s ∷ ss) (h ∷ hs) e = go (ltb 0 h) refl (sum_raised ss hs (omega arith))
  where
    go : (b : Bool) → ltb 0 h ≡ b → ltb 0 (sum_of hs) ≡ not (is_empty (raised ss hs))
        → ltb 0 (h + sum_of hs) ≡ not (is_empty (if b then s.at ∷ raised ss hs else raised ss hs))
    go true q ih = lt-ltb 0 (h + sum_of hs) (omega (arith, ltb-true 0 h q))
    go false q ih =
        let z : h + sum_of hs ≡ sum_of hs = omega (arith, ltb-false 0 h q) in
        ap (ltb 0) z ∙ ih

module _ (P : ℤ → Type 0) where
  pub raised_each : (ss : List Singleton) (hs : List ℕ) → Each (λ s. P s.at) ss → Each P (raised ss hs)
  unfolding raised
  raised_each [] hs ps = tt
  raised_each (s ∷ ss) [] ps = tt
  raised_each (s ∷ ss) (h ∷ hs) ps = go (ltb 0 h) (raised_each ss hs ps.1)
    where
      go : (b : Bool) → Each P (raised ss hs) → Each P (if b then s.at ∷ raised ss hs else raised ss hs)
      go true q = (ps.0, q)
      go false q = q

  -- each place with a height above zero
  raised_at : (ss : List Singleton) (hs : List ℕ) → Each P (raised ss hs)
      → (k : ℕ) → k < length ss → 0 < get_or hs k 0 → P (get_or (map (λ s. s.at) ss) k (pos 0))
  unfolding raised
  raised_at [] hs ps k l h = absurd (omega arith)
  raised_at (s ∷ ss) [] ps k l h = absurd (omega arith)
  raised_at (s ∷ ss) (g ∷ hs) ps zero l h = (rw (lt-ltb 0 g h) at ps).0
  raised_at (s ∷ ss) (g ∷ hs) ps (suc k) l h = raised_at ss hs (go (ltb 0 g) ps) k (omega arith) h
    where
      go : (b : Bool) → Each P (if b then s.at ∷ raised ss hs else raised ss hs) → Each P (raised ss hs)
      go true q = q.1
      go false q = q

module _ (ss : List Singleton) (hs : List ℕ) (even : length hs ≡ length ss) (crisp : Each (λ s. InCrisp s.at) ss) (some-height : 0 < sum_of hs) where
  abbrev positions : List ℤ
  positions = map (λ s. s.at) ss

  crisp_at : (k : ℕ) → k < length positions → InCrisp (get_or positions k (pos 0))
  crisp_at k l = each_at InCrisp (pos 0) (omega arith) positions (each_map InCrisp (λ (s : Singleton). s.at) ss crisp) k

  count : length positions ≡ length ss
  count = length-map ss (λ (s : Singleton). s.at)

  pub between : Between (raised ss hs) (nearestℤ (moment positions hs) (sum_of hs))
  between = go (raised ss hs) refl
    where
      go : (xs : List ℤ) → raised ss hs ≡ xs → Between xs (nearestℤ (moment positions hs) (sum_of hs))
      go [] e = clash (sym (ap (λ (l : List ℤ). not (is_empty l)) e) ∙ sym (sum_raised ss hs even) ∙ lt-ltb 0 (sum_of hs) some-height)
      go (x ∷ xs) e =
          let c : Each InCrisp (x ∷ xs) = rw e at (raised_each InCrisp ss hs crisp) in
          let lo = lowest x xs in
          let hi = highest x xs in
          let n : length positions ≡ length hs = count ∙ sym even in
          let low : Each (λ y. lo ≤ℤ y) (raised ss hs) = rw e (lowest_le x xs) in
          let high : Each (λ y. y ≤ℤ hi) (raised ss hs) = rw e (highest_ge x xs) in (
            from_low positions hs n crisp_at some-height lo (foremost_in InCrisp le_z x xs c.0 c.1)
                (λ k l h. raised_at (λ y. lo ≤ℤ y) ss hs low k (omega (arith, count)) h),
            to_high positions hs n crisp_at some-height hi (foremost_in InCrisp (λ y z. le_z z y) x xs c.0 c.1)
                (λ k l h. raised_at (λ y. y ≤ℤ hi) ss hs high k (omega (arith, count)) h),
          )

-- what lies between raised singletons is a figure that the output may have
pub ok_raised : (g : Option Range) (ss : List Singleton) (hs : List ℕ) (z : ℤ) → Each (λ s. figure_ok g s.at ≡ true) ss → Between (raised ss hs) z
    → figure_ok g z ≡ true
ok_raised g ss hs z ok h = go (raised ss hs) (raised_each (λ y. figure_ok g y ≡ true) ss hs ok) h
  where
    go : (xs : List ℤ) → Each (λ y. figure_ok g y ≡ true) xs → Between xs z → figure_ok g z ≡ true
    go [] q b = absurd b
    go (x ∷ xs) q b =
        let P : ℤ → Type 0 = λ y. figure_ok g y ≡ true in
        ok_between g (lowest x xs) (highest x xs) z (foremost_in P le_z x xs q.0 q.1)
        (foremost_in P (λ y z. le_z z y) x xs q.0 q.1) b.0 b.1
