-- What a number at the cursor is judged by.
use Rattle.std.specs.Prelude.{Some, None, MatchOption, IfOk, ok_or, if◌then◌else◌}
use Rattle.std.specs.declared.option.Option.{Option}
use mathlib.Core.Path.{◌≡◌, sym}
use mathlib.Core.Bool.{Bool, true, false}
use mathlib.Core.List.{List, [], ◌∷◌}
use Prim.Native.Nat.{ℕ, ◌-◌}
use borrow.Author.Tests.{eq-eqb, ne_eqb}
use lib.ListN.{take, drop}
use Rattle.model.specs.Block.{Block}
use Rattle.model.specs.Keywords.{NUMBER}
use Rattle.model.specs.Parse.{is, text, Checks}
use Rattle.laws.proofs.Slices.{part}
use Rattle.refusals.specs.declared.Fault.{Fault}
use Rattle.refusals.specs.declared.Fault.TheVariants.{WrongNumber}
use Rattle.cursor.specs.declared.Cursor.{Cursor}
use Rattle.cursor.specs.View.{seen, text_of, fault, number_of}
use Rattle.cursor.proofs.Laws.{kind_seen, text_seen}

module _ (s : List ℕ) (c : Cursor) where
  abbrev pub piece : List ℕ
  piece = take (c.end - c.start) (drop c.start s)

  piece_is : piece ≡ text_of s c
  piece_is = part c.start c.end s

  -- a number, whose text passes f
  module _ (f : List ℕ → Bool) where
    abbrev checks : Block → ℕ → Checks
    checks b n = (is NUMBER (seen s c b n), 2) ∷ (f (text (seen s c b n)), 3) ∷ []

    pub no_number : (c.kind ≡ NUMBER → ⊥) → (b : Block) (n : ℕ) → 2 ≡ fault (checks b n)
    unfolding fault
    no_number h b n = simp (kind_seen, ne_eqb _ _ h)

    module _ (h : c.kind ≡ NUMBER) where
      number_by : (b : Block) (n : ℕ) (t : Bool) → f piece ≡ t → (if t then 0 else 3) ≡ fault (checks b n)
      unfolding fault
      number_by b n true q = sym (simp (kind_seen, text_seen, eq-eqb _ _ h, sym piece_is, q))
      number_by b n false q = sym (simp (kind_seen, text_seen, eq-eqb _ _ h, sym piece_is, q))

      -- read as o, by Q of its text
      module _ {A : Type 0} (Q : List ℕ → A → Type 0) where
        pub checked : (o : Option A) → MatchOption o (f piece ≡ false) (λ x. (f piece ≡ true) × Q piece x)
            → (b : Block) (n : ℕ) → number_of (ok_or o WrongNumber) ≡ fault (checks b n)
        checked None e b n = number_by b n false e
        checked (Some x) e b n = number_by b n true e.0

        pub value : (o : Option A) → MatchOption o (f piece ≡ false) (λ x. (f piece ≡ true) × Q piece x)
            → IfOk {E = Fault} (ok_or o WrongNumber) (λ x. (c.kind ≡ NUMBER) × Q (text_of s c) x)
        value None e = tt
        value (Some x) e = (h, rw piece_is at e.1)
