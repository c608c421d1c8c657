-- A refused reading stays refused, by the same number and at the same place, whatever part of the reader's rules comes next.
use Rattle.std.specs.Prelude.{if◌then◌else◌}
use mathlib.Core.Path.{◌≡◌, refl, sym, ◌∙◌}
use mathlib.Core.Bool.{Bool, true, false}
use Prim.Native.Nat.{ℕ}
use borrow.Author.Tests.{ne_eqb}
use lib.Dec.{ltb}
use Rattle.model.specs.Bounds.{word_limit}
use Rattle.model.specs.Block.{Block}
use Rattle.model.specs.Parse.{Parse, Part, refuse, advance, change}
use Rattle.model.specs.Rules.{word, condition}
use Rattle.model.specs.Reader.{function_block}
use Rattle.laws.proofs.Walk.{counted, Steps, keeps_condition, keeps_function_block}

-- refused by the number n at the place p
pub record Refused (n p : ℕ) (r : Parse) : Type 0 where
  pub why : r.why ≡ n
  pub place : r.place ≡ p

module _ (n p : ℕ) (z : n ≡ 0 → ⊥) where
  refused_refuse : (m : ℕ) (r : Parse) → Refused n p r → Refused n p (refuse m r)
  unfolding refuse
  refused_refuse m r k = rw (ne_eqb r.why 0 (λ e. z (sym k.why ∙ e))) k

  refused_advance : (r : Parse) → Refused n p r → Refused n p (advance r)
  unfolding advance
  refused_advance r k = record { why = k.why; place = k.place }

  refused_change : (f : Block → Block) (r : Parse) → Refused n p r → Refused n p (change f r)
  unfolding change
  refused_change f r k = rw (ne_eqb r.why 0 (λ e. z (sym k.why ∙ e))) k

  refused_word : (r : Parse) → Refused n p r → Refused n p (word r)
  unfolding word
  refused_word r k = go (ltb r.words word_limit)
    where
      go : (b : Bool) → Refused n p (if b then counted r else refuse 6 r)
      go true = record { why = k.why; place = k.place }
      go false = refused_refuse 6 r k

  -- so every `keeps-..` of the walk holds of it
  pub refused_steps : Steps (Refused n p)
  refused_steps = record { refused = λ m e. refused_refuse m; advanced = refused_advance; changed = refused_change; worded = refused_word }

-- a part that is made of the four steps leaves number and place
pub stays : (part : Part) → ((n p : ℕ) (z : n ≡ 0 → ⊥) → (r : Parse) → Refused n p r → Refused n p (part r))
    → (r : Parse) → (r.why ≡ 0 → ⊥) → ((part r).why ≡ r.why) × ((part r).place ≡ r.place)
stays part f r z = let k = f r.why r.place z r (record { why = refl; place = refl }) in (k.why, k.place)

pub function_block_stays : (r : Parse) → (r.why ≡ 0 → ⊥) → ((function_block r).why ≡ r.why) × ((function_block r).place ≡ r.place)
function_block_stays = stays function_block (λ n p z. keeps_function_block (Refused n p) (refused_steps n p z))

pub condition_stays : (r : Parse) → (r.why ≡ 0 → ⊥) → ((condition r).parse.why ≡ r.why) × ((condition r).parse.place ≡ r.place)
condition_stays = stays (λ r. (condition r).parse) (λ n p z. keeps_condition (Refused n p) (refused_steps n p z))
