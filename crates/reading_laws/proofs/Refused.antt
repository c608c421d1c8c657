-- Whatever the text, the reader refuses by one of its numbers: the steps of reading keep to them, and so does every part.
use Rattle.std.specs.Prelude.{if◌then◌else◌}
use mathlib.Core.Path.{◌≡◌, refl}
use mathlib.Core.Bool.{Bool, true, false}
use mathlib.Core.List.{List}
use Prim.Native.Nat.{ℕ}
use lib.Dec.{ltb, eqb}
use Rattle.model.specs.Bounds.{word_limit}
use Rattle.model.specs.Block.{Block}
use Rattle.model.specs.Refusals.{reader_number}
use Rattle.model.specs.Parse.{Parse, refuse, advance, change}
use Rattle.model.specs.Rules.{word}
use Rattle.model.specs.Reader.{function_block, start}
use Rattle.laws.proofs.Walk.{Steps, keeps_function_block}

-- refused by one of the reader's numbers, or by nothing
pub record Known (r : Parse) : Type 0 where
  pub number : (r.why ≡ 0 → ⊥) → reader_number r.why ≡ true

either : {p q : Parse} (b : Bool) → Known p → Known q → Known (if b then p else q)
either true k l = k
either false k l = l

known_refuse : (n : ℕ) → reader_number n ≡ true → (r : Parse) → Known r → Known (refuse n r)
unfolding refuse
known_refuse n e r k = either (eqb r.why 0) (record { number = λ z. e }) k

known_advance : (r : Parse) → Known r → Known (advance r)
unfolding advance
known_advance r k = record { number = k.number }

known_change : (f : Block → Block) (r : Parse) → Known r → Known (change f r)
unfolding change
known_change f r k = either (eqb r.why 0) (record { number = k.number }) k

known_word : (r : Parse) → Known r → Known (word r)
unfolding word
known_word r k = either (ltb r.words word_limit) (record { number = k.number }) (known_refuse 6 refl r k)

known_steps : Steps Known
known_steps = record { refused = known_refuse; advanced = known_advance; changed = known_change; worded = known_word }

pub reads_known : (s : List ℕ) → Known (function_block (start s))
reads_known s = keeps_function_block Known known_steps (start s) (record { number = λ z. absurd (z refl) })
