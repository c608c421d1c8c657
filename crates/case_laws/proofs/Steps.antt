-- How far a text is read, with every name in capitals: a step from there leads to where the step leads, with every name in capitals.
use Rattle.std.specs.Prelude.{if◌then◌else◌}
use mathlib.Core.Path.{◌≡◌, refl, sym, ap, ◌∙◌}
use mathlib.Core.Bool.{Bool, true, false}
use mathlib.Core.List.{List, [], ◌∷◌, map}
use Prim.Native.Nat.{ℕ, zero, suc}
use borrow.Author.Tests.{eqb-true}
use lib.Dec.{leb, eqb}
use lib.ListN.{length, length-map}
use Rattle.model.specs.Basic.{capitals}
use Rattle.model.specs.Bounds.{name_limit}
use Rattle.model.specs.Keywords.{NAME, NUMBER, DOTS, COMMA}
use Rattle.model.specs.Tokens.{is_crisp, is_unit, Token}
use Rattle.model.specs.Block.{Block}
use Rattle.model.specs.Parse.{Parse, Part, Checks, no_token, head_of, rest_of, kind, text, here, is, refuse, advance, change, judged, expect, repeat_on, repeated, listed, a_name, a_crisp, a_unit, own_name}
use Rattle.laws.proofs.Repetition.{turn, no_turn}
use Rattle.laws.proofs.Words.{capitals_again, length_capitals}
use Rattle.model.specs.Case.{in_capitals}
use Rattle.case_laws.proofs.Tokens.{letterless, caps_text, caps_token}
use Rattle.case_laws.proofs.Blocks.{Commute}

abbrev pub parse_of : List Token → ℕ → ℕ → Block → ℕ → Parse
parse_of ts n p b w = record { rest = ts; why = n; place = p; block = b; words = w }

abbrev pub caps_parse : Part
caps_parse r = parse_of (map caps_token r.rest) r.why r.place (in_capitals r.block) r.words

-- x is y with every name in capitals
pub record InCaps (x y : Parse) : Type 0 where
  pub eq : x ≡ caps_parse y

-- a part of the reader's rules that knows no case
abbrev pub NoCase : Part → Type 0
NoCase part = (r : Parse) → InCaps (part (caps_parse r)) (part r)

pub in_caps : (r : Parse) → InCaps (caps_parse r) r
in_caps r = record { eq = refl }

-- a part more
infixl 10 ◌▹◌
pub ◌▹◌ : {part : Part} {x y : Parse} → InCaps x y → NoCase part → InCaps (part x) (part y)
◌▹◌ {part} {x} {y} t h = record { eq = ap part t.eq ∙ (h y).eq }

pub instead : {x z y : Parse} → x ≡ z → InCaps z y → InCaps x y
instead e t = record { eq = e ∙ t.eq }

-- THE CURRENT TOKEN
head_caps : (ts : List Token) → head_of (map caps_token ts) ≡ caps_token (head_of ts)
head_caps [] = refl
head_caps (t ∷ ts) = refl

pub rest_caps : (ts : List Token) → rest_of (map caps_token ts) ≡ map caps_token (rest_of ts)
rest_caps [] = refl
rest_caps (t ∷ ts) = refl

pub kind_same : (r : Parse) → kind (caps_parse r) ≡ kind r
unfolding kind
kind_same r = ap (λ (t : Token). t.kind) (head_caps r.rest)

here_same : (r : Parse) → here (caps_parse r) ≡ here r
unfolding here
here_same r = ap (λ (t : Token). t.place) (head_caps r.rest)

pub is_same : (k : ℕ) (r : Parse) → is k (caps_parse r) ≡ is k r
is_same k r = ap (λ (m : ℕ). eqb m k) (kind_same r)

text_caps : (r : Parse) → text (caps_parse r) ≡ caps_text (kind r) (text r)
unfolding kind text
text_caps r = ap (λ (t : Token). t.text) (head_caps r.rest)

pub number_text : (r : Parse) → is NUMBER r ≡ true → text (caps_parse r) ≡ text r
number_text r h = text_caps r ∙ rw h refl

pub dots_text : (r : Parse) → is DOTS r ≡ true → text (caps_parse r) ≡ text r
dots_text r h = text_caps r ∙ rw (eqb-true (kind r) DOTS h) refl

pub name_text : (r : Parse) → is NAME r ≡ true → text (caps_parse r) ≡ capitals (text r)
name_text r h = text_caps r ∙ rw (eqb-true (kind r) NAME h) refl

-- in any case
pub text_case : (r : Parse) → capitals (text (caps_parse r)) ≡ capitals (text r)
text_case r = ap capitals (text_caps r) ∙ go (letterless (kind r))
  where
    go : (b : Bool) → capitals (if b then text r else capitals (text r)) ≡ capitals (text r)
    go true = refl
    go false = capitals_again (text r)

text_length : (r : Parse) → length (text (caps_parse r)) ≡ length (text r)
text_length r = sym (length_capitals (text (caps_parse r))) ∙ ap length (text_case r) ∙ length_capitals (text r)

-- STEPS
pub refuse_caps : (n : ℕ) → NoCase (refuse n)
unfolding refuse
refuse_caps n r = go (eqb r.why 0)
  where
    go : (b : Bool)
        → InCaps (if b then parse_of (no_token ∷ []) n (here (caps_parse r)) (in_capitals r.block) r.words else caps_parse r)
        (if b then parse_of (no_token ∷ []) n (here r) r.block r.words else r)
    go true = record { eq = λ j. parse_of (no_token ∷ []) n (here_same r j) (in_capitals r.block) r.words }
    go false = in_caps r

pub advance_caps : NoCase advance
unfolding advance
advance_caps r = record { eq = λ j. parse_of (rest_caps r.rest j) r.why r.place (in_capitals r.block) r.words }

pub change_caps : (f g : Block → Block) → Commute f g → (r : Parse) → InCaps (change f (caps_parse r)) (change g r)
unfolding change
change_caps f g h r = go (eqb r.why 0)
  where
    go : (b : Bool)
        → InCaps (if b then parse_of (map caps_token r.rest) r.why r.place (f (in_capitals r.block)) r.words else caps_parse r)
        (if b then parse_of r.rest r.why r.place (g r.block) r.words else r)
    go true = record { eq = λ j. parse_of (map caps_token r.rest) r.why r.place (h r.block j) r.words }
    go false = in_caps r

-- a change, and the next token
pub changed : (f g : Block → Block) → Commute f g → (r : Parse) → InCaps (advance (change f (caps_parse r))) (advance (change g r))
changed f g h r = change_caps f g h r ▹ advance_caps

-- a change by the name, by the number that stands here
pub by_name : (f : List ℕ → Block → Block) → ((w : List ℕ) → Commute (f (capitals w)) (f w)) → (r : Parse) → is NAME r ≡ true
    → InCaps (advance (change (f (text (caps_parse r))) (caps_parse r))) (advance (change (f (text r)) r))
by_name f h r e =
    instead (ap (λ (w : List ℕ). advance (change (f w) (caps_parse r))) (name_text r e)) (changed (f (capitals (text r))) (f (text r)) (h (text r)) r)

pub by_number : (f g : List ℕ → Block → Block) → ((w : List ℕ) → Commute (f w) (g w)) → (r : Parse) → is NUMBER r ≡ true
    → InCaps (advance (change (f (text (caps_parse r))) (caps_parse r))) (advance (change (g (text r)) r))
by_number f g h r e =
    instead (ap (λ (w : List ℕ). advance (change (f w) (caps_parse r))) (number_text r e)) (changed (f (text r)) (g (text r)) (h (text r)) r)

-- CHECKS: where the same pass, what follows is the same but for case
pub record Judged (cs ds : Checks) (r x y : Parse) : Type 0 where
  pub same : InCaps (judged cs (caps_parse r) x) (judged ds r y)

pub passed : {r x y : Parse} → InCaps x y → Judged [] [] r x y
unfolding judged
passed t = record { same = t }

pub check : {cs ds : Checks} {r x y : Parse} {a b : Bool} {n : ℕ} → a ≡ b → (b ≡ true → Judged cs ds r x y) → Judged ((a, n) ∷ cs) ((b, n) ∷ ds) r x y
unfolding judged
check {cs} {ds} {r} {x} {y} {a} {b} {n} e f =
    record { same = instead (ap (λ (t : Bool). if t then judged cs (caps_parse r) x else refuse n (caps_parse r)) e) (go b f) }
  where
    go : (t : Bool) → (t ≡ true → Judged cs ds r x y)
        → InCaps (if t then judged cs (caps_parse r) x else refuse n (caps_parse r)) (if t then judged ds r y else refuse n r)
    go true h = (h refl).same
    go false h = refuse_caps n r

pub judge : {cs ds : Checks} {r x y : Parse} → Judged cs ds r x y → InCaps (judged cs (caps_parse r) x) (judged ds r y)
judge h = h.same

-- of a kind
pub of_kind : (k : ℕ) {r : Parse} {cs ds : Checks} {x y : Parse} {n : ℕ} → (is k r ≡ true → Judged cs ds r x y)
    → Judged ((is k (caps_parse r), n) ∷ cs) ((is k r, n) ∷ ds) r x y
of_kind k {r} h = check (is_same k r) h

pub a_name_lem : {cs ds : Checks} {r x y : Parse} → (is NAME r ≡ true → Judged cs ds r x y) → Judged (a_name (caps_parse r) cs) (a_name r ds) r x y
a_name_lem {r = r} h = of_kind NAME (λ e. check (ap (λ (n : ℕ). leb n name_limit) (text_length r)) (λ l. h e))

pub a_crisp_lem : {cs ds : Checks} {r x y : Parse} → (is NUMBER r ≡ true → Judged cs ds r x y) → Judged (a_crisp (caps_parse r) cs) (a_crisp r ds) r x y
a_crisp_lem {r = r} h = of_kind NUMBER (λ e. check (ap is_crisp (number_text r e)) (λ l. h e))

pub a_unit_lem : {r x y : Parse} → (is NUMBER r ≡ true → InCaps x y) → Judged (a_unit (caps_parse r)) (a_unit r) r x y
a_unit_lem {r} h = of_kind NUMBER (λ e. check (ap is_unit (number_text r e)) (λ l. passed (h e)))

-- COMBINATIONS
pub either_caps : (k : ℕ) (r : Parse) {x y u v : Parse} → InCaps x y → InCaps u v → InCaps (if is k (caps_parse r) then x else u) (if is k r then y else v)
either_caps k r {x} {y} {u} {v} s t = instead (ap (λ (b : Bool). if b then x else u) (is_same k r)) (go (is k r))
  where
    go : (b : Bool) → InCaps (if b then x else u) (if b then y else v)
    go true = s
    go false = t

pub expect_caps : (k : ℕ) → NoCase (expect k)
unfolding expect
expect_caps k r = either_caps k r (advance_caps r) (refuse_caps 2 r)

module _ (k : ℕ) {part : Part} (h : NoCase part) where
  repeat_on_caps : (n : ℕ) → NoCase (repeat_on n k part)
  unfolding repeat_on
  repeat_on_caps zero r = in_caps r
  repeat_on_caps (suc n) r = go (is k r) refl (repeat_on_caps n (part r))
    where
      go : (b : Bool) → is k r ≡ b → InCaps (repeat_on n k part (caps_parse (part r))) (repeat_on n k part (part r))
          → InCaps (repeat_on (suc n) k part (caps_parse r)) (repeat_on (suc n) k part r)
      go true e ih =
          record {
            eq = turn k part n (caps_parse r) (is_same k r ∙ e) ∙ ap (repeat_on n k part) (h r).eq ∙ ih.eq ∙ sym (ap caps_parse (turn k part n r e));
          }
      go false e ih = record { eq = no_turn k part (suc n) (caps_parse r) (is_same k r ∙ e) ∙ sym (ap caps_parse (no_turn k part (suc n) r e)) }

  pub repeated_caps : NoCase (repeated k part)
  unfolding repeated
  repeated_caps r =
      instead (ap (λ (n : ℕ). repeat_on (suc n) k part (caps_parse r)) (length-map r.rest caps_token)) (repeat_on_caps (suc (length r.rest)) r)

pub listed_caps : {part : Part} → NoCase part → NoCase (listed part)
unfolding listed
listed_caps h r = in_caps r ▹ h ▹ repeated_caps COMMA (λ q. in_caps q ▹ expect_caps COMMA ▹ h)

pub own_name_lem : (with : List ℕ → Block → Block) → ((w : List ℕ) → Commute (with (capitals w)) (with w)) → NoCase (own_name with)
unfolding own_name
own_name_lem with h r = judge (a_name_lem (λ e. passed (by_name with h r e)))
