-- The values of the inputs, one by one, and the first that is wrong.
use mathlib.Core.Path.{◌≡◌, refl, sym, ap, ◌∙◌}
use mathlib.Core.List.{List, [], ◌∷◌}
use mathlib.Core.Option.{Option, none, some}
use Prim.Native.Nat.{ℕ, zero, suc, ◌+◌, ◌≤◌, ◌<◌}
use native.Mathlib.Omega.{arith}
use lib.IntN.{ℤ, pos}
use lib.ListN.{length, get_or}
use Rattle.std.specs.Prelude.{Result}
use Rattle.model.specs.Basic.{tab}
use Rattle.model.specs.Block.{Input}
use Rattle.model.specs.declared.InputType.{InputType}
use Rattle.model.specs.Outcome.{Outcome, accepted, refused, and_then}
use Rattle.model.specs.Readings.{taken, value_in}
use Rattle.model.specs.Evaluation.{values_of}
use Rattle.model.specs.Image.{input_at, decode, INPUTS}
use Rattle.model.specs.declared.Reading.{Reading}
use Rattle.model.specs.declared.Crisp.{Crisp}
use Rattle.model.specs.declared.NotTaken.{NotTaken}
use Rattle.laws.proofs.Places.{length_tab}
use Rattle.input_values.specs.Values.{before, values_read}

-- MODEL'S VALUES
pub values_right : (i : ℕ) (vs : List Input) (rs : List Reading) → length vs ≤ length (values_read vs rs) → values_of i vs rs ≡ accepted (values_read vs rs)
unfolding values_of values_read
values_right i [] rs h = refl
values_right i (v ∷ vs) [] h = absurd (omega arith)
values_right i (v ∷ vs) (r ∷ rs) h = go (values_right (suc i) vs rs) (value_in (taken v.type r)) h
  where
    go : (length vs ≤ length (values_read vs rs) → values_of (suc i) vs rs ≡ accepted (values_read vs rs))
        → (o : Option ℤ) → suc (length vs) ≤ length (before o (values_read vs rs))
        → elim o [ none ↦ refused 14 (some i) | some x ↦ and_then (values_of (suc i) vs rs) (λ xs. accepted (x ∷ xs)) ]
        ≡ accepted (before o (values_read vs rs))
    go ih none l = absurd (omega arith)
    go ih (some x) l = ap (λ (a : Outcome (List ℤ)). and_then a (λ xs. accepted (x ∷ xs))) (ih (omega arith))

pub values_wrong : (i : ℕ) (vs : List Input) (rs : List Reading) → length (values_read vs rs) < length vs
    → values_of i vs rs ≡ refused 14 (some (i + length (values_read vs rs)))
unfolding values_of values_read
values_wrong i [] rs h = absurd (omega arith)
values_wrong i (v ∷ vs) [] h = ap (λ (k : ℕ). refused 14 (some k)) (omega arith)
values_wrong i (v ∷ vs) (r ∷ rs) h = go (values_wrong (suc i) vs rs) (value_in (taken v.type r)) h
  where
    go : (length (values_read vs rs) < length vs → values_of (suc i) vs rs ≡ refused 14 (some (suc i + length (values_read vs rs))))
        → (o : Option ℤ) → length (before o (values_read vs rs)) < suc (length vs)
        → ◌≡◌ {A = Outcome (List ℤ)}
        (elim o [ none ↦ refused 14 (some i) | some x ↦ and_then (values_of (suc i) vs rs) (λ xs. accepted (x ∷ xs)) ])
        (refused 14 (some (i + length (before o (values_read vs rs)))))
    go ih none l = ap (λ (k : ℕ). refused 14 (some k)) (omega arith)
    go ih (some x) l =
        ap (λ (a : Outcome (List ℤ)). and_then a (λ xs. accepted (x ∷ xs))) (ih (omega arith))
        ∙ ap (λ (k : ℕ). refused 14 (some k)) (omega arith)

-- ONE BY ONE
read_most : (vs : List Input) (rs : List Reading) → length (values_read vs rs) ≤ length vs
unfolding values_read
read_most [] rs = omega arith
read_most (v ∷ vs) [] = omega arith
read_most (v ∷ vs) (r ∷ rs) = go (read_most vs rs) (value_in (taken v.type r))
  where
    go : length (values_read vs rs) ≤ length vs → (o : Option ℤ) → length (before o (values_read vs rs)) ≤ suc (length vs)
    go most none = omega arith
    go most (some x) = omega arith

-- the i-th reading, all before it being right
module _ (f : ℕ → Input) (d : Reading) where
  abbrev value_at : ℕ → List Reading → ℕ → Option ℤ
  value_at s rs i = value_in (taken (f (s + i)).type (get_or rs i d))

  value_here : (s : ℕ) (r : Reading) (rs : List Reading) → value_in (taken (f s).type r) ≡ value_at s (r ∷ rs) 0
  value_here s r rs = ap (λ (j : ℕ). value_in (taken (f j).type r)) (omega arith)

  value_on : (s i : ℕ) (r : Reading) (rs : List Reading) → value_at (suc s) rs i ≡ value_at s (r ∷ rs) (suc i)
  value_on s i r rs = ap (λ (j : ℕ). value_in (taken (f j).type (get_or rs i d))) (omega arith)

  abbrev Next : List ℤ → ℕ → ℤ → Type 0
  Next xs i x = (i < length xs) × (get_or xs i (pos 0) ≡ x)

  next_right : (n s i : ℕ) (rs : List Reading) (x : ℤ) → i < n → i < length rs → i ≤ length (values_read (tab f n s) rs) → value_at s rs i ≡ some x
      → Next (values_read (tab f n s) rs) i x
  unfolding values_read tab
  next_right zero s i rs x h k l e = absurd (omega arith)
  next_right (suc n) s i [] x h k l e = absurd (omega arith)
  next_right (suc n) s zero (r ∷ rs) x h k l e =
      let xs = values_read (tab f n (suc s)) rs in
      let g = value_here s r rs ∙ e in
      (omega (arith, ap (λ (o : Option ℤ). length (before o xs)) g), ap (λ (o : Option ℤ). get_or (before o xs) 0 (pos 0)) g)
  next_right (suc n) s (suc i) (r ∷ rs) x h k l e =
      go (values_read (tab f n (suc s)) rs) (λ m. next_right n (suc s) i rs x (omega arith) (omega arith) m (value_on s i r rs ∙ e))
      (value_in (taken (f s).type r)) l
    where
      go : (xs : List ℤ) → (i ≤ length xs → Next xs i x) → (o : Option ℤ) → suc i ≤ length (before o xs) → Next (before o xs) (suc i) x
      go xs ih none m = absurd (omega arith)
      go xs ih (some y) m = let q = ih (omega arith) in (omega (arith, q.0), q.1)

  next_wrong : (n s i : ℕ) (rs : List Reading) → i < n → i < length rs → i ≤ length (values_read (tab f n s) rs) → value_at s rs i ≡ none
      → length (values_read (tab f n s) rs) ≡ i
  unfolding values_read tab
  next_wrong zero s i rs h k l e = absurd (omega arith)
  next_wrong (suc n) s i [] h k l e = absurd (omega arith)
  next_wrong (suc n) s zero (r ∷ rs) h k l e =
      ap (λ (o : Option ℤ). length (before o (values_read (tab f n (suc s)) rs))) (value_here s r rs ∙ e)
  next_wrong (suc n) s (suc i) (r ∷ rs) h k l e =
      go (values_read (tab f n (suc s)) rs) (λ m. next_wrong n (suc s) i rs (omega arith) (omega arith) m (value_on s i r rs ∙ e))
      (value_in (taken (f s).type r)) l
    where
      go : (xs : List ℤ) → (i ≤ length xs → length xs ≡ i) → (o : Option ℤ) → suc i ≤ length (before o xs) → length (before o xs) ≡ suc i
      go xs ih none m = absurd (omega arith)
      go xs ih (some y) m = ap suc (ih (omega arith))

-- the same of the inputs of an image, by what the code took a reading for
module _ (w : ℕ → ℕ) (rs : List Reading) where
  abbrev pub found : List ℤ
  found = values_read (decode w).inputs rs

  pub found_most : length found ≤ w INPUTS
  unfolding decode
  found_most = omega (arith, read_most (tab (input_at w) (w INPUTS) 0) rs, length_tab (input_at w) (w INPUTS) 0)

  module _ (i : ℕ) (d : Reading) (k : InputType) (t : Result Crisp NotTaken) (h : i < w INPUTS) (l : i < length rs) (m : i ≤ length found)
      (ek : k ≡ (input_at w i).type) (et : t ≡ taken k (get_or rs i d)) where
    value_is : value_in (taken (input_at w (0 + i)).type (get_or rs i d)) ≡ value_in t
    value_is =
        let e : 0 + i ≡ i = omega arith in
        ap (λ (j : ℕ). value_in (taken (input_at w j).type (get_or rs i d))) e
        ∙ ap (λ (y : InputType). value_in (taken y (get_or rs i d))) (sym ek)
        ∙ ap value_in (sym et)

    pub found_next : (x : ℤ) → value_in t ≡ some x → (i < length found) × (get_or found i (pos 0) ≡ x)
    unfolding decode
    found_next x e = next_right (input_at w) d (w INPUTS) 0 i rs x h l m (value_is ∙ e)

    pub found_all : value_in t ≡ none → length found ≡ i
    unfolding decode
    found_all e = next_wrong (input_at w) d (w INPUTS) 0 i rs h l m (value_is ∙ e)
