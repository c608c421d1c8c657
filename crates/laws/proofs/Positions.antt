-- Positions of points: only the last two before a position count, so none falls and no three are the same; and the other
-- way round.
use mathlib.Core.Path.{◌≡◌, refl, sym, ap, ◌∙◌, subst}
use mathlib.Core.Bool.{true, ◌&&◌}
use mathlib.Core.List.{List, [], ◌∷◌, ◌++◌, map, append_assoc, append-nil}
use mathlib.Core.Logic.{◌↔◌}
use lib.IntN.{ℤ}
use lib.Signed.{lt_z, le_z, ◌≤ℤ◌, ◌<ℤ◌}
use Rattle.model.specs.Block.{Point, may_follow}
use Rattle.model.specs.WellFormed.{in_order}
use Rattle.model.specs.Edges.{TwoShare}
use Rattle.laws.proofs.Comparison.{at_most, below, le_passes, lt_passes}
use Rattle.laws.proofs.Tests.{both, and_i}

abbrev pub positions : List Point → List ℤ
positions ps = map (λ p. p.at) ps

pub follow_two : (b : List ℤ) (p q x : ℤ) → may_follow ((b ++ (p ∷ [])) ++ (q ∷ [])) x ≡ le_z q x && lt_z p x
unfolding may_follow
follow_two [] p q x = refl
follow_two (a ∷ []) p q x = refl
follow_two (a ∷ c ∷ []) p q x = refl
follow_two (a ∷ c ∷ d ∷ b) p q x = follow_two (c ∷ d ∷ b) p q x

follow_le : (b : List ℤ) (p x : ℤ) → may_follow (b ++ (p ∷ [])) x ≡ true → p ≤ℤ x
unfolding may_follow
follow_le [] p x h = at_most p x h
follow_le (a ∷ []) p x h = at_most p x (both (le_z p x) (lt_z a x) h).0
follow_le (a ∷ c ∷ []) p x h = follow_le (c ∷ []) p x h
follow_le (a ∷ c ∷ d ∷ b) p x h = follow_le (c ∷ d ∷ b) p x h

pub later : (b : List ℤ) (x : ℤ) (xs : List ℤ) → in_order b (x ∷ xs) ≡ true → (may_follow b x ≡ true) × (in_order (b ++ (x ∷ [])) xs ≡ true)
unfolding in_order
later b x xs h = both (may_follow b x) (in_order (b ++ (x ∷ [])) xs) h

-- what stands behind os, after the positions b
behind : (b os xs : List ℤ) → in_order b (os ++ xs) ≡ true → in_order (b ++ os) xs ≡ true
behind b [] xs h = subst (λ (l : List ℤ). in_order l xs ≡ true) (sym (append-nil b)) h
behind b (o ∷ os) xs h =
    subst (λ (l : List ℤ). in_order l xs ≡ true) (append_assoc b (o ∷ []) os) (behind (b ++ (o ∷ [])) os xs (later b o (os ++ xs) h).1)

pub order_at : (b os : List ℤ) (x : ℤ) (rs : List ℤ) → in_order b (os ++ (x ∷ rs)) ≡ true → may_follow (b ++ os) x ≡ true
order_at b os x rs h = (later (b ++ os) x rs (behind b os (x ∷ rs) h)).0

-- none falls, and of three in a row the last is above the first
pub no_fall : (b os : List ℤ) (x y : ℤ) (rs : List ℤ) → in_order b (os ++ (x ∷ y ∷ rs)) ≡ true → x ≤ℤ y
no_fall b os x y rs h =
    let c = b ++ os in
    follow_le c x y (later (c ++ (x ∷ [])) y rs (later c x (y ∷ rs) (behind b os (x ∷ y ∷ rs) h)).1).0

pub no_third : (b os : List ℤ) (x y z : ℤ) (rs : List ℤ) → in_order b (os ++ (x ∷ y ∷ z ∷ rs)) ≡ true → x <ℤ z
no_third b os x y z rs h =
    let c = b ++ os in
    let f = (later ((c ++ (x ∷ [])) ++ (y ∷ [])) z rs (later (c ++ (x ∷ [])) y (z ∷ rs) (later c x (y ∷ z ∷ rs) (behind b os (x ∷ y ∷ z ∷ rs) h)).1).1).0 in
    below x z (both (le_z y z) (lt_z x z) (sym (follow_two c x y z) ∙ f)).1

two_share : (xs : List ℤ) → in_order [] xs ≡ true → TwoShare xs
two_share xs h = record {
  no_fall = λ os x y rs e. no_fall [] os x y rs (ap (in_order []) (sym e) ∙ h);
  no_third = λ os x y z rs e. no_third [] os x y z rs (ap (in_order []) (sym e) ∙ h);
}

-- back
without_first : (p : ℤ) (xs : List ℤ) → TwoShare (p ∷ xs) → TwoShare xs
without_first p xs s = record {
  no_fall = λ os x y rs e. s.no_fall (p ∷ os) x y rs (ap (λ (l : List ℤ). p ∷ l) e);
  no_third = λ os x y z rs e. s.no_third (p ∷ os) x y z rs (ap (λ (l : List ℤ). p ∷ l) e);
}

may_follow_lem : (b : List ℤ) (x : ℤ) (xs : List ℤ) → TwoShare (b ++ (x ∷ xs)) → may_follow b x ≡ true
unfolding may_follow
may_follow_lem [] x xs s = refl
may_follow_lem (p ∷ []) x xs s = le_passes p x (s.no_fall [] p x xs refl)
may_follow_lem (p ∷ q ∷ []) x xs s =
    and_i (le_z q x) (lt_z p x) (le_passes q x (s.no_fall (p ∷ []) q x xs refl)) (lt_passes p x (s.no_third [] p q x xs refl))
may_follow_lem (p ∷ q ∷ r ∷ b) x xs s = may_follow_lem (q ∷ r ∷ b) x xs (without_first p (q ∷ r ∷ (b ++ (x ∷ xs))) s)

in_order_lem : (b xs : List ℤ) → TwoShare (b ++ xs) → in_order b xs ≡ true
unfolding in_order
in_order_lem b [] s = refl
in_order_lem b (x ∷ xs) s =
    and_i (may_follow b x) (in_order (b ++ (x ∷ [])) xs) (may_follow_lem b x xs s)
    (in_order_lem (b ++ (x ∷ [])) xs (subst TwoShare (sym (append_assoc b (x ∷ []) xs)) s))

pub places : (xs : List ℤ) → in_order [] xs ≡ true ↔ TwoShare xs
places xs = (two_share xs, in_order_lem [] xs)
