-- What the checks of a number say of its value.
use Rattle.std.specs.Prelude.{if◌then◌else◌}
use mathlib.Core.Path.{◌≡◌, refl}
use mathlib.Core.Bool.{Bool, true, false, ◌&&◌}
use mathlib.Core.List.{List, [], ◌∷◌, ◌++◌, append-nil, append_assoc}
use Prim.Native.Nat.{ℕ, zero, suc, ◌*◌, ◌%◌, ◌≤◌}
use native.Mathlib.Omega.{arith}
use borrow.Author.Tests.{leb-true, le-leb, eq-eqb}
use lib.Dec.{leb, eqb}
use lib.IntN.{ℤ, pos, neg_ℤ}
use lib.ListN.{length}
use lib.Signed.{le_z}
use Rattle.model.specs.Basic.{between, all}
use Rattle.model.specs.Bounds.{M, digit_limit, rule_number_least, rule_number_limit}
use Rattle.model.specs.Tokens.{is_digit, starts, decimal, magnitude, value_of, digits_fit, in_crisp, is_crisp, is_unit, unit_of, is_rule_number}
use Rattle.model.specs.Block.{may_follow}
use Rattle.model.specs.WellFormed.{unit_ok, in_order}
use Rattle.laws.proofs.Tests.{both, and_i, clash}

pub crisp_value : (w : List ℕ) → is_crisp w ≡ true → in_crisp (value_of w) ≡ true
unfolding is_crisp
crisp_value w h = (both (digits_fit w) (in_crisp (value_of w)) h).1

-- a number from 0 to 1, with a sign or none
small : (s : Bool) (m : ℕ) → let z : ℤ = if s then neg_ℤ (pos m) else pos m in le_z (pos 0) z && le_z z (pos 1000) ≡ true → m ≤ 1000
small true zero h = omega arith
small true (suc m) h = clash h
small false m h = leb-true m 1000 (both (leb 0 m) (leb m 1000) h).1

pub unit_value : (w : List ℕ) → is_unit w ≡ true → unit_ok (unit_of w) ≡ true
unfolding is_unit unit_of unit_ok value_of
unit_value w h =
    let m = magnitude w in
    let l = small (starts (eqb 45) w) m (both (digits_fit w) _ h).1 in
    and_i _ _ (le-leb (m * 1000) M (omega arith)) (eq-eqb (m * 1000 % 1000) 0 (omega arith))

pub rule_number_lem : (w : List ℕ) → is_rule_number w ≡ true → between rule_number_least rule_number_limit (decimal w) ≡ true
unfolding is_rule_number
rule_number_lem w h = (both (leb (length w) digit_limit) _ (both (all is_digit w) _ h).1).1

-- a position more
pub order_last : (before xs : List ℤ) (x : ℤ) → in_order before xs ≡ true → may_follow (before ++ xs) x ≡ true → in_order before (xs ++ (x ∷ [])) ≡ true
unfolding in_order
order_last before [] x h f = and_i _ _ (rw append-nil at f) refl
order_last before (y ∷ xs) x h f =
    let b = both (may_follow before y) (in_order (before ++ (y ∷ [])) xs) h in
    and_i _ _ b.0 (order_last (before ++ (y ∷ [])) xs x b.1 (rw append_assoc f))
