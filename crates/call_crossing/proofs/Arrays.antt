-- Arrays, place by place.
use Rattle.std.proofs.Common.{◌≡◌, ℕ, ◌<◌, List, map, length, get_or, sym, arith, ◌∙◌}
use Rattle.std.proofs.lemmas.List.{ext_get_or}
use lib.ListN.{get_or-map, length-map}

-- each element of an array of n as f makes it
pub all_told : {A B : Type 0} (f : A → B) (d : A) (xs : List A) (ys : List B) (n : ℕ) → length xs ≡ n → length ys ≡ n
    → ((i : ℕ) → i < n → get_or ys i (f d) ≡ f (get_or xs i d)) → ys ≡ map f xs
all_told f d xs ys n e g h =
    ext_get_or (f d) ys (map f xs) (omega (arith, length-map xs f)) (λ i l. h i (omega arith) ∙ sym (get_or-map f xs i d))
