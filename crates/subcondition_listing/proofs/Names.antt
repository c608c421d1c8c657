-- The names of a term of an accepted image: input by input, from the first on.
use mathlib.Core.Path.{◌≡◌, refl, sym, ap, ◌∙◌}
use mathlib.Core.List.{List, [], ◌++◌, map}
use Prim.Native.Nat.{ℕ, suc, ◌+◌, ◌-◌, ◌≤◌, ◌<◌}
use native.Mathlib.Omega.{arith}
use lib.ListN.{length, get_or, length-map, get_or-append}
use lib.Seq.{get_or-append-add}
use Rattle.model.specs.Basic.{gather, tab}
use Rattle.model.specs.Block.{Term, Input}
use Rattle.model.specs.Image.{name_at, term_at, input_at, decode, input_place, term_place, INPUTS}
use Rattle.model.specs.Listing.{TermNames, input_term_names, input_term_name}
use Rattle.laws.proofs.Lists.{map_tab}
use Rattle.laws.proofs.Places.{length_tab, tab_nth}
use Rattle.laws.proofs.Tests.{passed}
use Rattle.layout.specs.Tables.{input_count}
use Rattle.layout.specs.Groups.{tables_ok, Sound}
use Rattle.layout.proofs.TableLaws.{Runs}
use Rattle.layout.proofs.Parts.{input_first, input_firsts_run}

abbrev pub nameless : TermNames
nameless = record { variable = []; term = [] }

module _ (w : ℕ → ℕ) (t : ℕ) where
  abbrev names_in : Input → List TermNames
  names_in v = map (λ a. record { variable = v.name; term = a.name }) v.terms

  abbrev pub names_by : ℕ → TermNames
  names_by i = record { variable = name_at w (input_place w i); term = name_at w (term_place w t) }

  -- the names of term t are among those of the inputs from i on, of which p is the first term
  unfoldable pub Among : ℕ → Type 0
  Among i =
      (p : ℕ) × (p ≤ t) × Runs (input_first w) (input_count w) (w INPUTS - i) i p
      × (input_term_name (decode w) t ≡ get_or (gather names_in (tab (input_at w) (w INPUTS - i) i)) (t - p) nameless)

  pub among_all : Sound w → Among 0
  unfolding Among input_term_name input_term_names decode tables_ok
  among_all s =
      let z : w INPUTS - 0 ≡ w INPUTS = omega arith in
      let e : t - 0 ≡ t = omega arith in
      (0, omega arith, rw z (input_firsts_run w (passed _ s.frame).1.0), rw (z, e) refl)

  length_names : (i : ℕ) → length (names_in (input_at w i)) ≡ input_count w i
  unfolding input_at
  length_names i =
      length-map (input_at w i).terms (λ (a : Term). record { variable = (input_at w i).name; term = a.name })
      ∙ length_tab (term_at w) (input_count w i) (input_first w i)

  nth_names : (i : ℕ) → input_first w i ≤ t → t < input_first w i + input_count w i
      → get_or (names_in (input_at w i)) (t - input_first w i) nameless ≡ names_by i
  unfolding input_at term_at
  nth_names i l h =
      let g : Term → TermNames = λ a. record { variable = (input_at w i).name; term = a.name } in
      let e : input_first w i + (t - input_first w i) ≡ t = omega arith in
      ap (λ (l : List TermNames). get_or l (t - input_first w i) nameless) (map_tab g (term_at w) (input_count w i) (input_first w i))
      ∙ tab_nth (λ (j : ℕ). g (term_at w j)) (input_count w i) (input_first w i) (t - input_first w i) nameless (omega arith)
      ∙ ap (λ (j : ℕ). g (term_at w j)) e

  -- by the words that the code reads: first term and number of terms of input i
  module _ (i first count : ℕ) (h : i < w INPUTS) (ef : first ≡ input_first w i) (ec : count ≡ input_count w i) where
    pub among_next : first + count ≤ t → Among i → Among (i + 1)
    unfolding Among gather tab Runs
    among_next l (p, q, r, e) =
        let s : w INPUTS - i ≡ suc (w INPUTS - (i + 1)) = omega arith in
        let o : suc i ≡ i + 1 = omega arith in
        let r' = rw (s, o) at r in
        let rest = gather names_in (tab (input_at w) (w INPUTS - (i + 1)) (i + 1)) in
        let n = length_names i in
        let k : t - p ≡ length (names_in (input_at w i)) + (t - (p + input_count w i)) = omega (arith, r'.0) in
        let e' = rw (s, o) at e in (
          p + input_count w i,
          omega (arith, r'.0),
          r'.1,
          e' ∙ ap (λ (x : ℕ). get_or (names_in (input_at w i) ++ rest) x nameless) k
              ∙ get_or-append-add (names_in (input_at w i)) rest (t - (p + input_count w i)) nameless,
        )

    pub among_found : t < first + count → Among i → input_term_name (decode w) t ≡ names_by i
    unfolding Among gather tab Runs
    among_found l (p, q, r, e) =
        let s : w INPUTS - i ≡ suc (w INPUTS - (i + 1)) = omega arith in
        let r' = rw s at r in
        let e' = rw s at e in
        let rest = gather names_in (tab (input_at w) (w INPUTS - (i + 1)) (suc i)) in
        let n = length_names i in
        e' ∙ get_or-append (names_in (input_at w i)) rest nameless (t - p) (omega (arith, r'.0))
        ∙ ap (λ (x : ℕ). get_or (names_in (input_at w i)) (t - x) nameless) (sym r'.0)
        ∙ nth_names i (omega (arith, r'.0)) (omega arith)

  pub among_none : (i : ℕ) → w INPUTS ≤ i → Among i → input_term_name (decode w) t ≡ nameless
  unfolding Among gather tab
  among_none i h (p, q, r, e) = let s : w INPUTS - i ≡ 0 = omega arith in rw s at e
