-- What holds of a reading that is not refused, and how the steps of the reader's rules carry it on.
use Rattle.std.specs.Prelude.{if◌then◌else◌}
use mathlib.Core.Path.{◌≡◌, refl, sym, ap, ◌∙◌}
use mathlib.Core.Bool.{Bool, true, false}
use mathlib.Core.List.{List, [], ◌∷◌}
use Prim.Native.Nat.{ℕ}
use native.Mathlib.Omega.{arith}
use borrow.Author.Tests.{eqb-true, eqb-false}
use lib.Dec.{leb, eqb}
use lib.ListN.{length}
use Rattle.model.specs.Bounds.{name_limit}
use Rattle.model.specs.Block.{Block}
use Rattle.model.specs.Refusals.{reader_number}
use Rattle.model.specs.Keywords.{NAME, COMMA}
use Rattle.model.specs.Tokens.{is_name, Token}
use Rattle.model.specs.Parse.{Parse, Part, Checks, head_of, rest_of, kind, text, is, refuse, advance, change, judged, expect, repeated, listed}
use Rattle.laws.proofs.Tests.{both, clash}
use Rattle.laws.proofs.Each.{Each}
use Rattle.laws.proofs.Walk.{ranged, repeated_keeps}
use Rattle.reading_laws.proofs.Names.{Named, spelt_name}

-- what holds of the condition words and the block so far
abbrev pub Fact : Type 1
Fact = ℕ → Block → Type 0

pub record HoldsIn (Q : Fact) (r : Parse) : Type 0 where
  pub named : Each Named r.rest
  pub fact : Q r.words r.block

pub record Good (Q : Fact) (r : Parse) : Type 0 where
  pub good : r.why ≡ 0 → HoldsIn Q r

-- a part leads from P to Q
abbrev pub Leads : Fact → Fact → Part → Type 0
Leads P Q part = (r : Parse) → Good P r → Good Q (part r)

infixl 10 ◌▹◌
pub ◌▹◌ : {P Q : Fact} {part : Part} {r : Parse} → Good P r → Leads P Q part → Good Q (part r)
◌▹◌ {P} {Q} {part} {r} k f = f r k

pub good_so : {P Q : Fact} {r : Parse} → (HoldsIn P r → Q r.words r.block) → Good P r → Good Q r
good_so f k = record { good = λ h. let g = k.good h in record { named = g.named; fact = f g } }

pub either : {Q : Fact} {p q : Parse} (b : Bool) → (b ≡ true → Good Q p) → Good Q q → Good Q (if b then p else q)
either true f g = f refl
either false f g = g

pub good_refuse : {Q : Fact} (n : ℕ) (r : Parse) → reader_number n ≡ true → Good Q (refuse n r)
unfolding refuse
good_refuse {Q} n r known = go (eqb r.why 0) refl
  where
    go : (b : Bool) → eqb r.why 0 ≡ b → Good Q (refuse n r)
    go true e = rw e (record { good = λ h. clash (sym (ap reader_number h) ∙ known) })
    go false e = rw e (record { good = λ h. absurd (eqb-false r.why 0 e h) })

rest_named : (ts : List Token) → Each Named ts → Each Named (rest_of ts)
rest_named [] h = tt
rest_named (t ∷ ts) h = h.1

head_named : (ts : List Token) → Each Named ts → Named (head_of ts)
head_named [] h = λ z. absurd (omega arith)
head_named (t ∷ ts) h = h.0

pub good_advance : {Q : Fact} → Leads Q Q advance
unfolding advance
good_advance r k = record { good = λ h. let g = k.good h in record { named = rest_named r.rest g.named; fact = g.fact } }

pub good_change : {P Q : Fact} (f : Block → Block) (r : Parse) → (HoldsIn P r → Q r.words (f r.block)) → Good P r → Good Q (change f r)
unfolding change
good_change {P} {Q} f r m k = go (eqb r.why 0) refl
  where
    go : (b : Bool) → eqb r.why 0 ≡ b → Good Q (change f r)
    go true e = rw e (record { good = λ h. let g = k.good h in record { named = g.named; fact = m g } })
    go false e = rw e (record { good = λ h. absurd (eqb-false r.why 0 e h) })

-- all checks pass
abbrev pub Passed : Checks → Type 0
Passed [] = Unit {0}
Passed ((ok, n) ∷ cs) = (ok ≡ true) × Passed cs

pub good_judged : {Q : Fact} (cs : Checks) (r : Parse) {next : Parse} → ranged cs ≡ true → (Passed cs → Good Q next) → Good Q (judged cs r next)
unfolding judged
good_judged [] r e f = f tt
good_judged {Q} ((ok, n) ∷ cs) r e f =
    let p = both (reader_number n) (ranged cs) e in
    either ok (λ o. good_judged cs r p.1 (λ c. f (o, c))) (good_refuse n r p.0)

-- a name here that is not too long
pub name_here : {Q : Fact} {r : Parse} → HoldsIn Q r → is NAME r ≡ true → leb (length (text r)) name_limit ≡ true → is_name (text r) ≡ true
unfolding kind text
name_here {Q} {r} g i l = spelt_name _ (head_named r.rest g.named (eqb-true _ NAME i)) l

pub good_expect : {Q : Fact} (t : ℕ) → Leads Q Q (expect t)
unfolding expect
good_expect t r k = either (is t r) (λ h. good_advance r k) (good_refuse 2 r refl)

pub good_repeated : {Q : Fact} {part : Part} (t : ℕ) → Leads Q Q part → Leads Q Q (repeated t part)
good_repeated {Q} {part} t f = repeated_keeps (Good Q) part f t

pub good_listed : {P Q : Fact} {part : Part} → Leads P Q part → Leads Q Q part → Leads P Q (listed part)
unfolding listed
good_listed {P} {Q} {part} f g r k = k ▹ f ▹ good_repeated COMMA (λ q l. l ▹ good_expect COMMA ▹ g)
