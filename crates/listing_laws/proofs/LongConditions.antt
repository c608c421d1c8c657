-- How many bytes the text of a condition has at most, by its words, where at most eight parentheses are open.
use mathlib.Core.Path.{◌≡◌, refl, ap, ◌∙◌}
use mathlib.Core.List.{◌++◌}
use mathlib.Core.Bool.{Bool, true, false}
use Prim.Native.Nat.{ℕ, zero, suc, ◌+◌, ◌*◌, ◌/◌, ◌≤◌, ◌<◌}
use native.Mathlib.Omega.{arith}
use native.Mathlib.Nat.{suc-mul, mul-add, mul-le-mul_left}
use borrow.Author.Tests.{ltb-true, le-ltb, lt-ltb}
use lib.Dec.{ltb, eqb}
use lib.ListN.{length, length-append}
use Rattle.model.specs.Basic.{bytes, all}
use Rattle.model.specs.Block.{and, or, Condition, term, neg, two, size}
use Rattle.model.specs.Parentheses.{form, negated_form, bare_behind_not, opened, depth}
use Rattle.model.specs.Listing.{TermNames, wrapped, condition_text}
use Rattle.model.specs.WellFormed.{terms_below}
use Rattle.laws.proofs.Tests.{both}
use Rattle.listing_laws.proofs.Lexing.{Named}
use Rattle.listing_laws.proofs.Room.{condition_room, bare_room, names_room}

neg_form : (c : Condition) → form (neg c) ≤ 2
unfolding form
neg_form c = go (eqb (form c) 0) refl
  where
    go : (b : Bool) → eqb (form c) 0 ≡ b → negated_form (form c) ≤ 2
    go true e = rw e (omega arith)
    go false e = rw e (omega arith)

-- d times: t bytes for s words, where fewer than d parentheses are open, with x half bytes to spare
abbrev Bound : ℕ → ℕ → ℕ → ℕ → Type 0
Bound d t s x = 2 * (d * t) + x + 2 * s ≤ 43 * (d * s) + 29 * d + 2

module _ (f : ℕ → TermNames) where
  abbrev bytes_of : Condition → ℕ
  bytes_of c = length (condition_text f c)

  abbrev at : ℕ → Condition → ℕ
  at l c = length (wrapped l (form c) (condition_text f c))

  abbrev Any : Condition → Type 0
  Any c = (d : ℕ) → depth c < d → Bound d (bytes_of c) (size c) 0

  -- by the form: AND has room for parentheses of its own once, OR has it d times
  abbrev Known : Condition → Type 0
  Known (term t) = Any (term t)
  Known (neg c) = Any (neg c)
  Known (two and a b) = Any (two and a b) × (2 * bytes_of (two and a b) + 4 ≤ 43 * size (two and a b) + 29)
  Known (two or a b) = Any (two or a b) × ((d : ℕ) → suc (depth (two or a b)) < d → Bound d (bytes_of (two or a b)) (size (two or a b)) (4 * d))

  any : (c : Condition) → Known c → Any c
  any (term t) k = k
  any (neg c) k = k
  any (two and a b) k = k.0
  any (two or a b) k = k.0

  bare : (l : ℕ) (c : Condition) → form c ≤ l → Any c → (d : ℕ) → opened l (form c) (depth c) < d → Bound d (at l c) (size c) 0
  bare l c g k d h = rw (le-ltb l (form c) g) (k d (rw (le-ltb l (form c) g) at h))

  in_parentheses : (l : ℕ) (c : Condition) → l < form c → at l c ≡ bytes_of c + 2
  in_parentheses l c g = rw (lt-ltb l (form c) g) (omega (arith, length-append (condition_text f c) (bytes ")")))

  wider : (l : ℕ) (c : Condition) → l < form c → (d : ℕ) → d * at l c ≡ d * bytes_of c + d * 2
  wider l c g d = ap (λ (m : ℕ). d * m) (in_parentheses l c g) ∙ mul-add d (bytes_of c) 2

  -- where AND stands bare
  at_and : (c : Condition) → Known c → (d : ℕ) → opened 3 (form c) (depth c) < d → Bound d (at 3 c) (size c) 0
  unfolding form
  at_and (term t) k d h = bare 3 (term t) (omega arith) k d h
  at_and (neg c) k d h = bare 3 (neg c) (omega (arith, neg_form c)) k d h
  at_and (two and a b) k d h = bare 3 (two and a b) (omega arith) k.0 d h
  at_and (two or a b) k d h = omega (arith, wider 3 (two or a b) (omega arith) d, k.1 d h)

  -- where all stand bare
  at_or : (c : Condition) → Known c → (d : ℕ) → opened 4 (form c) (depth c) < d → Bound d (at 4 c) (size c) 0
  unfolding form
  at_or (term t) k d h = bare 4 (term t) (omega arith) k d h
  at_or (neg c) k d h = bare 4 (neg c) (omega (arith, neg_form c)) k d h
  at_or (two and a b) k d h = bare 4 (two and a b) (omega arith) k.0 d h
  at_or (two or a b) k d h = bare 4 (two or a b) (omega arith) k.0 d h

  -- where neither AND nor OR does
  at_not : (c : Condition) → Known c → (d : ℕ) → opened 2 (form c) (depth c) < d → 2 * (d * at 2 c) + 2 * size c + 4 ≤ 43 * (d * size c) + 29 * d + 2 + 4 * d
  unfolding form
  at_not (term t) k d h = let r = bare 2 (term t) (omega arith) k d h in omega arith
  at_not (neg c) k d h = let r = bare 2 (neg c) (neg_form c) k d h in omega arith
  at_not (two and a b) k zero h = absurd (omega arith)
  at_not (two and a b) k (suc d) h =
      let c = two and a b in
      let r = k.0 d (omega arith) in
      omega (arith, wider 2 c (omega arith) (suc d), suc-mul d (bytes_of c), suc-mul d (size c), k.1)
  at_not (two or a b) k d h = omega (arith, wider 2 (two or a b) (omega arith) d, k.1 d h)

  -- behind a NOT
  at_most : (l : ℕ) (c : Condition) → (at l c ≤ bytes_of c + 2) × (depth c ≤ opened l (form c) (depth c))
  at_most l c = go (ltb l (form c)) refl
    where
      go : (b : Bool) → ltb l (form c) ≡ b → (at l c ≤ bytes_of c + 2) × (depth c ≤ opened l (form c) (depth c))
      go true e = rw e (omega (arith, length-append (condition_text f c) (bytes ")")), omega arith)
      go false e = rw e (omega arith, omega arith)

  negated : (c : Condition) → Any c → (d : ℕ) → opened bare_behind_not (form c) (depth c) < d
      → Bound d (length (bytes "NOT " ++ wrapped bare_behind_not (form c) (condition_text f c))) (size c + 1) 0
  negated c k d h =
      let m = at_most bare_behind_not c in
      let r = k d (omega arith) in
      let l = mul-le-mul_left {m = length (bytes "NOT " ++ wrapped bare_behind_not (form c) (condition_text f c))} {n = bytes_of c + 6} d (omega arith) in
      omega (arith, mul-add d (bytes_of c) 6, mul-add d (size c) 1)

  module _ (a b : Condition) (j : Known a) (k : Known b) (d : ℕ) where
    joined_and : depth (two and a b) < d → Bound d (bytes_of (two and a b)) (size (two and a b)) 0
    unfolding condition_text size depth
    joined_and g =
        let x = at_and a j d (omega arith) in
        let y = at_not b k d (omega arith) in
        let l = length-append (wrapped 3 (form a) (condition_text f a)) (bytes " AND " ++ wrapped 2 (form b) (condition_text f b)) in
        let e : bytes_of (two and a b) ≡ at 3 a + (5 + at 2 b) = omega arith in
        let w = ap (λ (m : ℕ). d * m) e in
        omega (arith, w, mul-add d (at 3 a) (5 + at 2 b), mul-add d 5 (at 2 b), mul-add d (size a + size b) 1, mul-add d (size a) (size b))

    joined_or : depth (two or a b) < d
        → 2 * (d * bytes_of (two or a b)) + 6 * d + 2 * size (two or a b) ≤ 43 * (d * size (two or a b)) + 29 * d + 6
    unfolding condition_text size depth
    joined_or g =
        let x = at_or a j d (omega arith) in
        let y = at_and b k d (omega arith) in
        let l = length-append (wrapped 4 (form a) (condition_text f a)) (bytes " OR " ++ wrapped 3 (form b) (condition_text f b)) in
        let e : bytes_of (two or a b) ≡ at 4 a + (4 + at 3 b) = omega arith in
        let w = ap (λ (m : ℕ). d * m) e in
        omega (arith, w, mul-add d (at 4 a) (4 + at 3 b), mul-add d 4 (at 3 b), mul-add d (size a + size b) 1, mul-add d (size a) (size b))

  module _ (n : ℕ) (ok : Named f n) where
    known : (c : Condition) → terms_below n c ≡ true → Known c
    unfolding all condition_text terms_below size form depth
    known (term t) h = λ d g. omega (arith, mul-le-mul_left {m = bytes_of (term t)} {n = 36} d (bare_room f n ok (term t) h).short)
    known (neg (term t)) h = λ d g.
        let o = ok t (ltb-true t n h) in
        let p = names_room (f t).variable (f t).term " IS NOT " 8 o.0 o.1 (record { small = refl; short = omega arith }) in
        omega (arith, mul-le-mul_left {m = bytes_of (neg (term t))} {n = 40} d p.short)
    known (neg (neg c)) h = λ d g. negated (neg c) (known (neg c) h) d g
    known (neg (two o a b)) h = λ d g. negated (two o a b) (any (two o a b) (known (two o a b) h)) d g
    known (two and a b) h =
        let c = both (terms_below n a) (terms_below n b) h in
        let p = (condition_room f n ok 0 (two and a b) h).short in
        (joined_and a b (known a c.0) (known b c.1), omega (arith, length-append (condition_text f (two and a b)) (bytes ")")))
    known (two or a b) h =
        let c = both (terms_below n a) (terms_below n b) h in
        let j = known a c.0 in
        let k = known b c.1 in
        (λ d g. let r = joined_or a b j k d g in omega arith, λ d g. let r = joined_or a b j k d (omega arith) in omega arith)

    -- at most eight parentheses are open
    pub condition_short : (c : Condition) → terms_below n c ≡ true → depth c ≤ 8 → length (condition_text f c) ≤ (385 * size c + 263) / 18
    condition_short c h g = let r = any c (known c h) 9 (omega arith) in omega arith
