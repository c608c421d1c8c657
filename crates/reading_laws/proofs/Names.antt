-- Every token of kind NAME is spelt as a name has to be: of its rules only that on its length is left.
use Rattle.std.specs.Prelude.{if◌then◌else◌}
use mathlib.Core.Path.{◌≡◌, refl, sym, ap, ◌∙◌}
use mathlib.Core.Bool.{Bool, true, false, ◌&&◌, not}
use mathlib.Core.List.{List, [], ◌∷◌}
use mathlib.Core.Option.{Option, none, some}
use Prim.Native.Nat.{ℕ, zero, suc}
use native.Mathlib.Omega.{arith}
use lib.Dec.{leb, eqb}
use lib.ListN.{length, take, drop}
use Rattle.model.specs.Basic.{all, run}
use Rattle.model.specs.Bounds.{name_limit}
use Rattle.model.specs.Keywords.{is_keyword, NAME, BLANK}
use Rattle.model.specs.Tokens.{is_blank, is_digit, starts_name, is_name_byte, is_sign, is_mark, starts, tidy, is_name, Token, token, Piece, word_kind, comment_part, comment_piece, word_piece, piece_at, scan, tokens}
use Rattle.laws.proofs.Tests.{clash}
use Rattle.laws.proofs.Each.{Each}
use Rattle.laws.proofs.Lists.{run_all}

pub record Spelt (w : List ℕ) : Type 0 where
  pub begun : starts starts_name w ≡ true
  pub bytes : all is_name_byte w ≡ true
  pub tidied : tidy w ≡ true
  pub free : not (is_keyword w) ≡ true

abbrev pub Named : Token → Type 0
Named t = t.kind ≡ NAME → Spelt t.text

pub spelt_name : (w : List ℕ) → Spelt w → leb (length w) name_limit ≡ true → is_name w ≡ true
unfolding is_name
spelt_name w s l = rw (s.begun, s.bytes, s.tidied, l, s.free)

module _ (c : ℕ) (s : List ℕ) where
  -- a piece that is a name is spelt as one
  record Fit (q : Piece) : Type 0 where
    spelt : q.kind ≡ NAME → Spelt (c ∷ take q.more s)

  other : {q : Piece} → (q.kind ≡ NAME → ⊥) → Fit q
  other f = record { spelt = λ z. absurd (f z) }

  either : {p q : Piece} (b : Bool) → (b ≡ true → Fit p) → Fit q → Fit (if b then p else q)
  either true f g = f refl
  either false f g = g

  word_fits : starts_name c ≡ true → Fit (word_piece c s)
  unfolding word_piece word_kind all
  word_fits h = go (tidy w) (is_keyword w) refl refl
    where
      w : List ℕ
      w = c ∷ take (run is_name_byte s) s

      go : (t k : Bool) → tidy w ≡ t → is_keyword w ≡ k → Fit (word_piece c s)
      go false k e f = other (λ z. let y = rw e at z in omega arith)
      go true true e f = other (λ z. let y = rw (e, f) at z in omega arith)
      go true false e f = record { spelt = λ z. record { begun = h; bytes = rw h (run_all is_name_byte s); tidied = e; free = rw f } }

  comment_fits : (t : List ℕ) (o : Option ℕ) → Fit (comment_piece t o)
  comment_fits t none = other (λ z. omega arith)
  comment_fits t (some n) = other (λ z. omega arith)

  piece_fits : Fit (piece_at c s)
  unfolding piece_at
  piece_fits =
      either (is_blank c) (λ h. other (λ z. omega arith))
      (either (starts_name c) word_fits
      (either (is_digit c) (λ h. other (λ z. omega arith))
      (either (is_sign c && starts is_digit s) (λ h. other (λ z. omega arith))
      (either (eqb c 40 && starts (eqb 42) s) (λ h. comment_fits (drop 1 s) (comment_part (drop 1 s)))
      (either (eqb c 58 && starts (eqb 61) s) (λ h. other (λ z. omega arith))
      (either (eqb c 46 && starts (eqb 46) s) (λ h. other (λ z. omega arith))
      (either (is_mark c) (λ h. other (λ z. clash (sym (ap is_mark z) ∙ h))) (other (λ z. omega arith)))))))))

scan_named : (n p : ℕ) (s : List ℕ) → Each Named (scan n p s)
unfolding scan
scan_named n p [] = (λ z. absurd (omega arith), tt)
scan_named (suc n) p (c ∷ s) = scan_named n (suc p) s
scan_named zero p (c ∷ s) = go (eqb (piece_at c s).kind BLANK) (scan_named (piece_at c s).more (suc p) s)
  where
    q : Piece
    q = piece_at c s

    go : (b : Bool) → Each Named (scan q.more (suc p) s)
        → Each Named (if b then scan q.more (suc p) s else token q.kind (take (suc q.more) (c ∷ s)) p ∷ scan q.more (suc p) s)
    go true h = h
    go false h = ((piece_fits c s).spelt, h)

pub tokens_named : (s : List ℕ) → Each Named (tokens s)
unfolding tokens
tokens_named s = scan_named 0 0 s
