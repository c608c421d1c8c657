-- A text is cut into pieces, tokens and blanks, one after the other: put together they are the text, and `scan` keeps the tokens of them.
use Rattle.std.specs.Prelude.{if◌then◌else◌}
use mathlib.Core.Path.{◌≡◌, refl, sym, ap, ◌∙◌, subst}
use mathlib.Core.Bool.{Bool, true, false}
use mathlib.Core.List.{List, [], ◌∷◌, ◌++◌}
use Prim.Native.Nat.{ℕ, zero, suc, ◌+◌, ◌≤◌}
use native.Mathlib.Decide.{dec_le}
use native.Mathlib.Omega.{arith}
use lib.Dec.{eqb}
use lib.ListN.{length, take, drop, length-take, take-append-drop}
use Rattle.model.specs.Basic.{gather}
use Rattle.model.specs.Keywords.{END, BLANK}
use Rattle.model.specs.Tokens.{Token, token, piece_at, scan, tokens}
use Rattle.laws.proofs.Each.{Each}

-- all pieces, each with its place; n bytes belong to the piece before, and p is the place of the next byte
unfoldable pub pieces : ℕ → ℕ → List ℕ → List Token
pieces n p [] = []
pieces (suc n) p (c ∷ s) = pieces n (suc p) s
pieces zero p (c ∷ s) =
    token (piece_at c s).kind (take (suc (piece_at c s).more) (c ∷ s)) p ∷ pieces (piece_at c s).more (suc p) s

-- without the blanks
unfoldable pub kept : List Token → List Token
kept [] = []
kept (t ∷ ts) = if eqb t.kind BLANK then kept ts else t ∷ kept ts

-- PUT TOGETHER they are the text
rest_joined : (n p : ℕ) (s : List ℕ) → gather (λ t. t.text) (pieces n p s) ≡ drop n s
unfolding pieces gather
rest_joined zero p [] = refl
rest_joined (suc n) p [] = refl
rest_joined (suc n) p (c ∷ s) = rest_joined n (suc p) s
rest_joined zero p (c ∷ s) =
    let m = (piece_at c s).more in
    ap (λ (l : List ℕ). c ∷ (take m s ++ l)) (rest_joined m (suc p) s) ∙ ap (λ (l : List ℕ). c ∷ l) (take-append-drop m s)

pub pieces_joined : (s : List ℕ) → gather (λ t. t.text) (pieces 0 0 s) ≡ s
pieces_joined s = rest_joined 0 0 s

-- ONE AFTER THE OTHER: each begins where the one before it ends, the first at p
abbrev pub Run : ℕ → List Token → Type 0
Run p [] = Unit {0}
Run p (t ∷ ts) = (t.place ≡ p) × Run (p + length t.text) ts

no_pieces : (n p : ℕ) (s : List ℕ) → length s ≤ n → pieces n p s ≡ []
unfolding pieces
no_pieces zero p [] h = refl
no_pieces (suc n) p [] h = refl
no_pieces zero p (c ∷ s) h = absurd (omega arith)
no_pieces (suc n) p (c ∷ s) h = no_pieces n (suc p) s (omega arith)

run : (n p : ℕ) (s : List ℕ) → Run (p + n) (pieces n p s)
unfolding pieces
run zero p [] = tt
run (suc n) p [] = tt
run (suc n) p (c ∷ s) = let e : suc p + n ≡ p + suc n = omega arith in subst (λ (k : ℕ). Run k (pieces n (suc p) s)) e (run n (suc p) s)
run zero p (c ∷ s) = let m = (piece_at c s).more in (omega arith, go m (dec_le (length s) m) (run m (suc p) s))
  where
    go : (m : ℕ) → Dec (length s ≤ m) → Run (suc p + m) (pieces m (suc p) s) → Run (p + 0 + length (take (suc m) (c ∷ s))) (pieces m (suc p) s)
    go m (yes h) r = rw (no_pieces m (suc p) s h) tt
    go m (no h) r =
        let e : suc p + m ≡ p + 0 + length (take (suc m) (c ∷ s)) = omega (arith, length-take m s) in
        subst (λ (k : ℕ). Run k (pieces m (suc p) s)) e r

pub pieces_run : (s : List ℕ) → Run 0 (pieces 0 0 s)
pieces_run s = run 0 0 s

-- WHAT `scan` KEEPS: all but the blanks, and the end
keeps : (t : Token) (ts : List Token) (b : Bool) (xs ys : List Token) → xs ≡ ts ++ ys
    → (if b then xs else t ∷ xs) ≡ (if b then ts else t ∷ ts) ++ ys
keeps t ts true xs ys e = e
keeps t ts false xs ys e = ap (λ (l : List Token). t ∷ l) e

scan_keeps : (n p : ℕ) (s : List ℕ) → scan n p s ≡ kept (pieces n p s) ++ (token END [] (p + length s) ∷ [])
unfolding scan pieces kept
scan_keeps zero p [] = let e : p ≡ p + 0 = omega arith in ap (λ (k : ℕ). token END [] k ∷ []) e
scan_keeps (suc n) p [] = let e : p ≡ p + 0 = omega arith in ap (λ (k : ℕ). token END [] k ∷ []) e
scan_keeps (suc n) p (c ∷ s) =
    let e : suc p + length s ≡ p + suc (length s) = omega arith in
    scan_keeps n (suc p) s ∙ ap (λ (k : ℕ). kept (pieces n (suc p) s) ++ (token END [] k ∷ [])) e
scan_keeps zero p (c ∷ s) =
    let m = (piece_at c s).more in
    let e : suc p + length s ≡ p + suc (length s) = omega arith in
    keeps _ (kept (pieces m (suc p) s)) (eqb (piece_at c s).kind BLANK) _ _
    (scan_keeps m (suc p) s ∙ ap (λ (k : ℕ). kept (pieces m (suc p) s) ++ (token END [] k ∷ [])) e)

pub tokens_kept : (s : List ℕ) → tokens s ≡ kept (pieces 0 0 s) ++ (token END [] (length s) ∷ [])
unfolding tokens
tokens_kept s = scan_keeps 0 0 s ∙ ap (λ (k : ℕ). kept (pieces 0 0 s) ++ (token END [] k ∷ [])) (omega arith)

-- THE TEXT OF A TOKEN is the bytes of the text from its place on
abbrev pub From : List ℕ → Token → Type 0
From u t = t.text ≡ take (length t.text) (drop t.place u)

again : (m : ℕ) (s : List ℕ) → take (length (take m s)) s ≡ take m s
again zero s = refl
again (suc m) [] = refl
again (suc m) (c ∷ s) = ap (λ (l : List ℕ). c ∷ l) (again m s)

behind : (p : ℕ) (u : List ℕ) (c : ℕ) (s : List ℕ) → drop p u ≡ c ∷ s → drop (suc p) u ≡ s
behind zero [] c s e = let z : ◌≡◌ {A = ℕ} 0 1 = cc in absurd (omega arith)
behind zero (d ∷ u) c s e = cc
behind (suc p) [] c s e = let z : ◌≡◌ {A = ℕ} 0 1 = cc in absurd (omega arith)
behind (suc p) (d ∷ u) c s e = behind p u c s e

keeps_from : (u : List ℕ) (t : Token) (b : Bool) (ts : List Token) → From u t → Each (From u) ts → Each (From u) (if b then ts else t ∷ ts)
keeps_from u t true ts h r = r
keeps_from u t false ts h r = (h, r)

scanned_from : (u : List ℕ) (n p : ℕ) (s : List ℕ) → drop p u ≡ s → Each (From u) (scan n p s)
unfolding scan
scanned_from u zero p [] e = (refl, tt)
scanned_from u (suc n) p [] e = (refl, tt)
scanned_from u (suc n) p (c ∷ s) e = scanned_from u n (suc p) s (behind p u c s e)
scanned_from u zero p (c ∷ s) e =
    let m = suc (piece_at c s).more in
    let h : take m (c ∷ s) ≡ take (length (take m (c ∷ s))) (drop p u) = sym (again m (c ∷ s)) ∙ ap (take (length (take m (c ∷ s)))) (sym e) in
    keeps_from u _ (eqb (piece_at c s).kind BLANK) _ h (scanned_from u (piece_at c s).more (suc p) s (behind p u c s e))

pub tokens_from : (s : List ℕ) → Each (From s) (tokens s)
unfolding tokens
tokens_from s = scanned_from s 0 0 s refl
