-- The reader's rules over items: a state shows the items that are left, and each step says what it does to it.
use Rattle.std.specs.Prelude.{if◌then◌else◌}
use mathlib.Core.Path.{◌≡◌, refl, sym, ap, ◌∙◌}
use mathlib.Core.Bool.{true, false}
use mathlib.Core.List.{List, [], ◌∷◌, ◌++◌, map, append-nil, append_assoc}
use Prim.Native.Nat.{ℕ, zero, suc, ◌<◌, ◌≤◌}
use native.Mathlib.Omega.{arith}
use borrow.Author.Tests.{eq-eqb, ne_eqb}
use lib.Dec.{leb, eqb}
use lib.ListN.{length, length-append, length-map}
use lib.Seq.{append_snoc}
use Rattle.model.specs.Basic.{gather}
use Rattle.model.specs.Bounds.{name_limit}
use Rattle.model.specs.Keywords
use Rattle.model.specs.Tokens.{Token, token}
use Rattle.model.specs.Block.{Block}
use Rattle.model.specs.Parse.{Parse, Part, Checks, kind, text, is, advance, change, judged, expect, repeat_on, repeated, listed, own_name}
use Rattle.laws.proofs.Repetition.{turn, no_turn}
use Rattle.listing_laws.proofs.Items.{Item, item, item_of, name, comma, commas}

-- tokens of some items; the place of each goes by how many follow it
abbrev pub laid : (ℕ → ℕ) → List Item → List Token
laid f [] = []
laid f (x ∷ xs) = token x.kind x.text (f (length xs)) ∷ laid f xs

unfoldable pub at : (ℕ → ℕ) → List Item → Block → ℕ → Parse
at f xs b w = record { rest = laid f xs; why = 0; place = 0; block = b; words = w }

module _ (f : ℕ → ℕ) (x : Item) (xs : List Item) (b : Block) (w : ℕ) where
  kind_at : kind (at f (x ∷ xs) b w) ≡ x.kind
  unfolding at kind
  kind_at = refl

  advance_at : advance (at f (x ∷ xs) b w) ≡ at f xs b w
  unfolding at advance
  advance_at = refl

pub change_at : (f : ℕ → ℕ) (xs : List Item) (b : Block) (w : ℕ) (g : Block → Block) → change g (at f xs b w) ≡ at f xs (g b) w
unfolding at change
change_at f xs b w g = refl

pub expects : (k : ℕ) (f : ℕ → ℕ) (t : List ℕ) (xs : List Item) (b : Block) (w : ℕ) → expect k (at f (item k t ∷ xs) b w) ≡ at f xs b w
unfolding expect
expects k f t xs b w = simp (kind_at, eq-eqb k k refl, advance_at)

-- the checks of a token, passed
abbrev pub Passes : Checks → Type 0
Passes [] = Unit {0}
Passes ((ok, n) ∷ cs) = (ok ≡ true) × Passes cs

pub judged_pass : (cs : Checks) (r next : Parse) → Passes cs → judged cs r next ≡ next
unfolding judged
judged_pass [] r next h = refl
judged_pass ((ok, n) ∷ cs) r next h = rw h.0 (judged_pass cs r next h.1)

-- a name of its own
pub own_name_lem : (with : List ℕ → Block → Block) (f : ℕ → ℕ) (t : List ℕ) (xs : List Item) (b : Block) (w : ℕ)
    → leb (length t) name_limit ≡ true → own_name with (at f (name t ∷ xs) b w) ≡ at f xs (with t b) w
unfolding own_name at kind text advance change
own_name_lem with f t xs b w h = judged_pass _ _ _ (refl, (h, tt))

-- the kind of the first item
abbrev pub head_kind : List Item → ℕ
head_kind [] = Keywords.END
head_kind (x ∷ xs) = x.kind

kind_head : (f : ℕ → ℕ) (xs : List Item) (b : Block) (w : ℕ) → kind (at f xs b w) ≡ head_kind xs
unfolding at kind
kind_head f [] b w = refl
kind_head f (x ∷ xs) b w = refl

-- whether the first item is of kind k
pub is_head : (k : ℕ) (f : ℕ → ℕ) (xs : List Item) (b : Block) (w : ℕ) → is k (at f xs b w) ≡ eqb (head_kind xs) k
is_head k f xs b w = ap (λ (n : ℕ). eqb n k) (kind_head f xs b w)

length_laid : (f : ℕ → ℕ) (xs : List Item) → length (laid f xs) ≡ length xs
length_laid f [] = refl
length_laid f (x ∷ xs) = ap suc (length_laid f xs)

pub length_rest : (f : ℕ → ℕ) (xs : List Item) (b : Block) (w : ℕ) → length (at f xs b w).rest ≡ length xs
unfolding at
length_rest f xs b w = length_laid f xs

-- REPETITION
-- part reads the items of each element of a list in turn; the block and the condition words go by the elements read
abbrev pub Walks : {X : Type 0} → Part → (X → List Item) → (List X → Block) → (List X → ℕ) → (ℕ → ℕ) → List X → Type 0
Walks {X} part items B W f xs =
    (ds : List X) (x : X) (es : List X) (ys : List Item) → xs ≡ ds ++ (x ∷ es)
    → part (at f (items x ++ ys) (B ds) (W ds)) ≡ at f ys (B (ds ++ (x ∷ []))) (W (ds ++ (x ∷ [])))

abbrev pub Heads : {X : Type 0} → ℕ → (X → List Item) → Type 0
Heads {X} k items = (x : X) → (t : List ℕ) × (ys : List Item) × (items x ≡ item k t ∷ ys)

module _ {X : Type 0} (k : ℕ) (part : Part) (items : X → List Item) (B : List X → Block) (W : List X → ℕ) (f : ℕ → ℕ) (xs : List X)
    (heads : Heads k items) (walks : Walks part items B W f xs) (rest : List Item) (stops : eqb (head_kind rest) k ≡ false) where
  starts : (x : X) (ys : List Item) → eqb (head_kind (items x ++ ys)) k ≡ true
  starts x ys = rw (heads x).2 (eq-eqb k k refl)

  length_gathered : (es : List X) → length es ≤ length (gather items es)
  unfolding gather
  length_gathered [] = omega arith
  length_gathered (e ∷ es) =
      let h : length (items e) ≡ suc (length (heads e).1) = ap length (heads e).2 in
      omega (arith, length_gathered es, length-append (items e) (gather items es))

  repeats : (n : ℕ) (ds es : List X) → xs ≡ ds ++ es → length es ≤ n
      → repeat_on n k part (at f (gather items es ++ rest) (B ds) (W ds)) ≡ at f rest (B xs) (W xs)
  unfolding gather
  repeats n ds [] e h =
      no_turn k part n (at f rest (B ds) (W ds)) (is_head k f rest (B ds) (W ds) ∙ stops)
      ∙ ap (λ (l : List X). at f rest (B l) (W l)) (sym (append-nil ds) ∙ sym e)
  repeats zero ds (x ∷ es) e h = absurd (omega arith)
  repeats (suc n) ds (x ∷ es) e h =
      let ys = gather items es ++ rest in
      ap (λ (l : List Item). repeat_on (suc n) k part (at f l (B ds) (W ds))) (append_assoc (items x) (gather items es) rest)
      ∙ turn k part n (at f (items x ++ ys) (B ds) (W ds)) (is_head k f (items x ++ ys) (B ds) (W ds) ∙ starts x ys)
      ∙ ap (repeat_on n k part) (walks ds x es ys e)
      ∙ repeats n (ds ++ (x ∷ [])) es (e ∙ sym (append_snoc ds x es)) (omega arith)

  -- the elements from es on
  repeated_reads : (ds es : List X) → xs ≡ ds ++ es
      → repeated k part (at f (gather items es ++ rest) (B ds) (W ds)) ≡ at f rest (B xs) (W xs)
  unfolding repeated
  repeated_reads ds es e =
      let r = at f (gather items es ++ rest) (B ds) (W ds) in
      repeats (suc (length r.rest)) ds es e
      (omega (arith, length_rest f (gather items es ++ rest) (B ds) (W ds), length-append (gather items es) rest, length_gathered es))

  -- one, and then as many as there are
  pub some_read : (x : X) (es : List X) → xs ≡ x ∷ es
      → repeated k part (part (at f (gather items xs ++ rest) (B []) (W []))) ≡ at f rest (B xs) (W xs)
  unfolding gather
  some_read x es e =
      ap (λ (l : List X). repeated k part (part (at f (gather items l ++ rest) (B []) (W [])))) e
      ∙ ap (λ (l : List Item). repeated k part (part (at f l (B []) (W [])))) (append_assoc (items x) (gather items es) rest)
      ∙ ap (repeated k part) (walks [] x es (gather items es ++ rest) e)
      ∙ repeated_reads (x ∷ []) es e

commas_gather : {X : Type 0} (items : X → List Item) (x : X) (es : List X)
    → commas (map items (x ∷ es)) ≡ items x ++ gather (λ y. comma ∷ items y) es
unfolding commas gather
commas_gather items x [] = sym (append-nil (items x))
commas_gather items x (y ∷ es) = ap (λ (l : List Item). items x ++ (comma ∷ l)) (commas_gather items y es)

-- with commas between
pub listed_reads : {X : Type 0} (part : Part) (items : X → List Item) (B : List X → Block) (W : List X → ℕ) (f : ℕ → ℕ) (xs : List X)
    → Walks part items B W f xs → (rest : List Item) → eqb (head_kind rest) Keywords.COMMA ≡ false → (x : X) (es : List X) → xs ≡ x ∷ es
    → listed part (at f (commas (map items xs) ++ rest) (B []) (W [])) ≡ at f rest (B xs) (W xs)
unfolding listed
listed_reads {X} part items B W f xs walks rest stops x es e =
    ap (λ (l : List X). again (part (at f (commas (map items l) ++ rest) (B []) (W [])))) e
    ∙ ap (λ (l : List Item). again (part (at f l (B []) (W []))))
    (ap (λ (l : List Item). l ++ rest) (commas_gather items x es) ∙ append_assoc (items x) (gather more es) rest)
    ∙ ap again (walks [] x es (gather more es ++ rest) e)
    ∙ repeated_reads Keywords.COMMA each more B W f xs (λ y. (_, _, refl)) after rest stops (x ∷ []) es e
  where
    each : Part
    each q = part (expect Keywords.COMMA q)

    again : Part
    again = repeated Keywords.COMMA each

    more : X → List Item
    more y = comma ∷ items y

    after : Walks each more B W f xs
    after ds y zs ys h = ap part (expects Keywords.COMMA f _ (items y ++ ys) (B ds) (W ds)) ∙ walks ds y zs ys h

pub listed_one : (part : Part) (r : Parse) (f : ℕ → ℕ) (rest : List Item) (b : Block) (w : ℕ) → part r ≡ at f rest b w
    → eqb (head_kind rest) Keywords.COMMA ≡ false → listed part r ≡ at f rest b w
unfolding listed repeated
listed_one part r f rest b w h stops =
    ap (repeated Keywords.COMMA (λ q. part (expect Keywords.COMMA q))) h
    ∙ no_turn Keywords.COMMA (λ q. part (expect Keywords.COMMA q)) _ (at f rest b w) (is_head Keywords.COMMA f rest b w ∙ stops)

-- PLACES: any tokens are laid from their items
abbrev pub places_of : List Token → ℕ → ℕ
places_of [] n = 0
places_of (t ∷ ts) n = if eqb n (length ts) then t.place else places_of ts n

laid_agree : (f g : ℕ → ℕ) (xs : List Item) → ((n : ℕ) → n < length xs → f n ≡ g n) → laid f xs ≡ laid g xs
laid_agree f g [] h = refl
laid_agree f g (x ∷ xs) h =
    λ j. token x.kind x.text (h (length xs) (omega arith) j) ∷ laid_agree f g xs (λ n l. h n (omega arith)) j

pub laid_back : (ts : List Token) → laid (places_of ts) (map item_of ts) ≡ ts
laid_back [] = refl
laid_back (t ∷ ts) = λ j. token t.kind t.text (here j) ∷ (later ∙ laid_back ts) j
  where
    n : length (map item_of ts) ≡ length ts
    n = length-map ts item_of

    here : places_of (t ∷ ts) (length (map item_of ts)) ≡ t.place
    here = rw (n, eq-eqb (length ts) (length ts) refl)

    later : laid (places_of (t ∷ ts)) (map item_of ts) ≡ laid (places_of ts) (map item_of ts)
    later = laid_agree (places_of (t ∷ ts)) (places_of ts) (map item_of ts) (λ m l. rw (ne_eqb m (length ts) (λ e. omega (arith, n))))
