-- The laws of the view.
use Rattle.std.specs.Prelude.{if◌then◌else◌}
use mathlib.Core.Path.{◌≡◌, refl, sym, ap, ◌∙◌}
use mathlib.Core.Bool.{Bool, true, false, true≢false}
use mathlib.Core.List.{List, [], ◌∷◌, ◌++◌}
use Rattle.std.specs.Prelude.{Option, Some, None, is_some}
use Prim.Native.Nat.{ℕ, zero, suc, ◌-◌, ◌≤◌, ◌<◌}
use native.Mathlib.Omega.{arith}
use borrow.Author.Tests.{eq-eqb, ne_eqb, eqb-true, eqb-false}
use lib.Dec.{eqb}
use lib.ListN.{length}
use lib.Seq.{length-slice}
use Rattle.std.specs.Coded.{le_prop}
use Rattle.std.proofs.Math.Nat.{zero-lt-suc}
use Rattle.model.specs.Keywords.{END}
use Rattle.model.specs.Block.{Block}
use Rattle.model.specs.Parse.{Parse, Part, Checks, kind, text, here, is, refuse, advance, change, judged, expect, repeat_on, repeated}
use Rattle.model.specs.Tokens.{Token, tokens}
use Rattle.laws.proofs.Tests.{clash}
use Rattle.tokens.specs.Tokens.{tokens_from, token_of, after}
use Rattle.tokens.specs.declared.Token.{Token as Found}
use Rattle.cursor.specs.declared.Cursor.{Cursor}
use Rattle.refusals.specs.declared.Fault.{Fault}
use Rattle.refusals.specs.Faults.{number}
use Rattle.refusals.specs.declared.Fault.TheVariants.{WrongToken, WrongNumber, WrongName, NotDeclared, TooMany, WrongPosition, Unpaired, PartMissing}
use Rattle.cursor.specs.declared.refusal.Refused.{Refused}
use Rattle.cursor.specs.View.{why_of, refused_by, current, text_of, seen, Fits, left, Step, Moves, fault}

-- no fault has the number 0
pub above_zero : (f : Fault) → eqb (number f) 0 ≡ false
above_zero WrongToken = refl
above_zero WrongNumber = refl
above_zero WrongName = refl
above_zero NotDeclared = refl
above_zero TooMany = refl
above_zero WrongPosition = refl
above_zero Unpaired = refl
above_zero PartMissing = refl

pub never_zero : (f : Fault) → number f ≡ 0 → ⊥
never_zero f e = true≢false (sym (eq-eqb (number f) 0 e) ∙ above_zero f)

pub still_refused : (o : Option Refused) → (o ≡ None → ⊥) → eqb (why_of o) 0 ≡ false
still_refused None h = absurd (h refl)
still_refused (Some r) h = ne_eqb _ _ (λ e. omega (arith, r.above, e))

-- what a test of a refusal says
pub was_refused : {o : Option Refused} {b : Bool} → b ≡ is_some o → b ≡ true → o ≡ None → ⊥
was_refused {o} {b} e t n = true≢false (sym t ∙ e ∙ ap is_some n)

pub stands : {o : Option Refused} {b : Bool} → b ≡ is_some o → b ≡ false → o ≡ None
stands {o = None} e t = refl
stands {o = Some r} e t = absurd (true≢false (sym e ∙ t))

module _ (s : List ℕ) (c : Cursor) (b : Block) (n : ℕ) where
  pub kind_seen : kind (seen s c b n) ≡ c.kind
  unfolding kind seen
  kind_seen = refl

  pub text_seen : text (seen s c b n) ≡ text_of s c
  unfolding text seen
  text_seen = refl

  pub block_seen : (seen s c b n).block ≡ b
  unfolding seen
  block_seen = refl

  pub words_seen : (seen s c b n).words ≡ n
  unfolding seen
  words_seen = refl

  -- a block is changed where the reading stands before a token
  pub changed : (f : Block → Block) → c.refused ≡ None → change f (seen s c b n) ≡ seen s c (f b) n
  unfolding change seen
  changed f h = simp h

  pub unchanged : (f : Block → Block) → (c.refused ≡ None → ⊥) → change f (seen s c b n) ≡ seen s c b n
  unfolding change seen
  unchanged f h = simp (still_refused c.refused h)

pub begun : (s : List ℕ) (t : Found) (b : Block) (n : ℕ) → tokens s ≡ token_of s t ∷ after s t
    → seen s (record { kind = t.kind; start = t.start; end = t.end; place = 0; refused = None }) b n
    ≡ record { rest = tokens s; why = 0; place = 0; block = b; words = n }
unfolding seen
begun s t b n e = ap (λ (l : List Token). record { rest = l; why = 0; place = 0; block = b; words = n }) (sym e)

-- what a loop has for fuel is enough
pub enough : (s : List ℕ) (c : Cursor) (b : Block) (n : ℕ) → left s c < suc (length (seen s c b n).rest)
unfolding left seen
enough s c b n = by (eqb c.kind END) refl
  where
    by : (x : Bool) → eqb c.kind END ≡ x → (if eqb c.kind END then 0 else suc (length (after s (current c)))) < suc (suc (length (after s (current c))))
    by true q = simp q (omega arith)
    by false q = simp q (omega arith)

pub some_left : (s : List ℕ) (c : Cursor) → (c.kind ≡ END → ⊥) → 0 < left s c
unfolding left
some_left s c h = simp (ne_eqb _ _ h) (omega arith)

-- a refusal by its number
pub refused_is : (r : Refused) → Some r ≡ refused_by r.why
refused_is r = by r.why r.above
  where
    by : (w : ℕ) (h : 0 < w) → Some (record { why = w; above = h }) ≡ refused_by w
    by zero h = absurd (omega arith)
    by (suc w) h = ap (λ (k : 0 < suc w). Some (record { why = suc w; above = k })) (le_prop h (zero-lt-suc w))

abbrev pub halted : Cursor → ℕ → Cursor
halted c w = record { kind = END; start = 0; end = 0; place = c.start; refused = refused_by w }

pub kept : (s : List ℕ) (c : Cursor) (w : ℕ) → (c.refused ≡ None → ⊥) → Fits s c → Step (refuse w) s c c
unfolding refuse seen
kept s c w h g = record { reads = λ b n. sym (simp (still_refused c.refused h)); fewer = omega arith; fits = g; sticky = λ q. q }

pub stopped : (s : List ℕ) (c : Cursor) (w : ℕ) → c.refused ≡ None → (w ≡ 0 → ⊥) → Fits s c → Step (refuse w) s c (halted c w)
unfolding refuse seen here left after
stopped s c zero h k g = absurd (k refl)
stopped s c (suc w) h k g = record {
  reads = λ b n. sym (simp h);
  fewer = omega arith;
  fits =
      record { order = omega arith; inside = omega arith; halted = λ q. absurd (q refl) };
  sticky = λ q. h;
}

pub stopped_moves : (s : List ℕ) (c : Cursor) (w : ℕ) → Moves s c (halted c w)
unfolding left
stopped_moves s c w h = simp (ne_eqb _ _ h) (omega arith)

-- the next token in the place of the current one
abbrev pub moved : Cursor → Found → Cursor
moved c t = record { kind = t.kind; start = t.start; end = t.end; place = c.place; refused = c.refused }

module _ (s : List ℕ) (c : Cursor) (t : Found) (h : c.kind ≡ END → ⊥) (e : tokens_from s c.end ≡ token_of s t ∷ after s t) where
  pub follows : after s (current c) ≡ token_of s t ∷ after s t
  unfolding after
  follows = simp (ne_eqb _ _ h) e

  pub moves : left s (moved c t) < left s c
  unfolding left
  moves = by (eqb t.kind END) refl
    where
      by : (x : Bool) → eqb t.kind END ≡ x → (if eqb t.kind END then 0 else suc (length (after s t)))
          < (if eqb c.kind END then 0 else suc (length (after s (current c))))
      by true q = simp (q, ne_eqb _ _ h) (omega arith)
      by false q = simp (q, ne_eqb _ _ h) (let w = ap (λ (l : List Token). length l) follows in omega arith)

  pub advances : Fits s c → t.start ≤ t.end → t.end ≤ length s → Step advance s c (moved c t)
  unfolding advance seen
  advances g o i = record {
    reads = λ b n. ap (λ (l : List Token). record { rest = l; why = why_of c.refused; place = c.place; block = b; words = n }) (sym follows);
    fewer = let m = moves in omega arith;
    fits = record { order = o; inside = i; halted = λ q. g.halted h };
    sticky = λ q. q;
  }

module _ (s : List ℕ) (c r : Cursor) (k : ℕ) where
  pub expects : c.kind ≡ k → Step advance s c r → Step (expect k) s c r
  unfolding expect
  expects h p = record { reads = λ b n. simp (kind_seen, eq-eqb _ _ h) (p.reads b n); fewer = p.fewer; fits = p.fits; sticky = p.sticky }

  pub expects_not : (c.kind ≡ k → ⊥) → Step (refuse 2) s c r → Step (expect k) s c r
  unfolding expect
  expects_not h p = record { reads = λ b n. simp (kind_seen, ne_eqb _ _ h) (p.reads b n); fewer = p.fewer; fits = p.fits; sticky = p.sticky }

pub text_length : (s : List ℕ) (c : Cursor) → Fits s c → length (text_of s c) ≡ c.end - c.start
text_length s c g = length-slice c.start c.end s g.inside

-- a step after a step
pub steps : {f g : Part} {s : List ℕ} {a b c : Cursor} → Step f s a b → Step g s b c → Step (λ r. g (f r)) s a c
steps {f} {g} {s} {a} {b} {c} p q = record {
  reads = λ x n. q.reads x n ∙ ap g (p.reads x n);
  fewer = let u = p.fewer in let v = q.fewer in
      omega arith;
  fits = q.fits;
  sticky = λ h. p.sticky (q.sticky h);
}

-- A REFUSED READING stays as it is
module _ (s : List ℕ) (c : Cursor) (g : Fits s c) (h : c.refused ≡ None → ⊥) where
  pub lost_kind : c.kind ≡ END
  lost_kind = by (eqb c.kind END) refl
    where
      by : (t : Bool) → eqb c.kind END ≡ t → c.kind ≡ END
      by true q = eqb-true c.kind END q
      by false q = absurd (h (g.halted (eqb-false c.kind END q)))

  module _ (b : Block) (n : ℕ) where
    pub lost_is : (k : ℕ) → (k ≡ 0 → ⊥) → is k (seen s c b n) ≡ false
    lost_is k z = simp (kind_seen s c b n, lost_kind) (ne_eqb 0 k (λ q. z (sym q)))

    pub lost_refuse : (w : ℕ) → refuse w (seen s c b n) ≡ seen s c b n
    unfolding refuse seen
    lost_refuse w = simp (still_refused c.refused h)

    pub lost_expect : (k : ℕ) → (k ≡ 0 → ⊥) → expect k (seen s c b n) ≡ seen s c b n
    unfolding expect
    lost_expect k z = simp (lost_is k z) (lost_refuse 2)

    -- where a token of some kind is asked for first
    pub lost_judged : (k : ℕ) (cs : Checks) (next : Parse) → (k ≡ 0 → ⊥) → judged ((is k (seen s c b n), 2) ∷ cs) (seen s c b n) next ≡ seen s c b n
    unfolding judged
    lost_judged k cs next z = simp (lost_is k z) (lost_refuse 2)

    pub lost_repeated : (k : ℕ) (part : Part) → (k ≡ 0 → ⊥) → repeated k part (seen s c b n) ≡ seen s c b n
    unfolding repeated repeat_on
    lost_repeated k part z = simp (repeat_on, lost_is k z)

-- JUDGING, by the number of the first check that fails
-- no check is refused by 0
unfoldable pub numbered : Checks → Bool
numbered [] = true
numbered ((ok, zero) ∷ cs) = false
numbered ((ok, suc n) ∷ cs) = numbered cs

pub fault_bad : (w : ℕ) (xs ys : Checks) → fault xs ≡ w → (w ≡ 0 → ⊥) → fault (xs ++ ys) ≡ w
unfolding fault
fault_bad w [] ys e h = absurd (h (sym e))
fault_bad w ((true, n) ∷ xs) ys e h = fault_bad w xs ys e h
fault_bad w ((false, n) ∷ xs) ys e h = e

pub fault_good : (xs ys : Checks) → numbered xs ≡ true → fault xs ≡ 0 → fault (xs ++ ys) ≡ fault ys
unfolding fault numbered
fault_good [] ys u e = refl
fault_good ((ok, zero) ∷ xs) ys u e = clash u
fault_good ((true, suc n) ∷ xs) ys u e = fault_good xs ys u e
fault_good ((false, suc n) ∷ xs) ys u e = absurd (omega arith)

module _ (r next : Parse) where
  pub judged_bad : (w : ℕ) (xs ys : Checks) → fault xs ≡ w → (w ≡ 0 → ⊥) → judged (xs ++ ys) r next ≡ refuse w r
  unfolding judged fault
  judged_bad w [] ys e h = absurd (h (sym e))
  judged_bad w ((true, n) ∷ xs) ys e h = judged_bad w xs ys e h
  judged_bad w ((false, n) ∷ xs) ys e h = ap (λ (m : ℕ). refuse m r) e

  pub judged_good : (xs ys : Checks) → numbered xs ≡ true → fault xs ≡ 0 → judged (xs ++ ys) r next ≡ judged ys r next
  unfolding judged fault numbered
  judged_good [] ys u e = refl
  judged_good ((ok, zero) ∷ xs) ys u e = clash u
  judged_good ((true, suc n) ∷ xs) ys u e = judged_good xs ys u e
  judged_good ((false, suc n) ∷ xs) ys u e = absurd (omega arith)
