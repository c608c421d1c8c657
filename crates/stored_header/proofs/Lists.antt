-- The tests of the header, in two lists and in one.
use mathlib.Core.Path.{◌≡◌, refl, sym, ap, ◌∙◌}
use mathlib.Core.List.{List, [], ◌∷◌, ◌++◌}
use mathlib.Core.Bool.{Bool, true, false, ◌&&◌}
use Prim.Native.Nat.{ℕ, ◌+◌, ◌*◌}
use native.Mathlib.Omega.{arith}
use lib.Dec.{eqb}
use Rattle.model.specs.Basic.{every}
use Rattle.model.specs.Image.{LAYOUT, TOTAL, WORDS}
use Rattle.header.specs.declared.Header.{Header}
use Rattle.header.specs.Header.{Heads}
use Rattle.layout.specs.Tables.{header_ok}
use Rattle.stored_header.specs.Tests.{offset_tests, code_tests}

every_append : (xs ys : List Bool) → every (xs ++ ys) ≡ every xs && every ys
unfolding every
every_append [] ys = refl
every_append (true ∷ xs) ys = every_append xs ys
every_append (false ∷ xs) ys = refl

pub header_spelt : (w : ℕ → ℕ) (h : Header) → Heads w h → every (offset_tests w h) && every (code_tests w) ≡ header_ok w
unfolding header_ok
header_spelt w h e =
    let one : w WORDS * 1 ≡ w WORDS = omega arith in
    let ends = e.conclusions.start in
    sym (every_append (offset_tests w h) (code_tests w))
    ∙ (λ j. every (
    eqb (w LAYOUT) 1
    ∷ eqb (e.inputs.start j) 28
    ∷ eqb (e.outputs.start j) (e.inputs.start j + e.inputs.rows j * 7)
    ∷ eqb (e.terms.start j) (e.outputs.start j + e.outputs.rows j * 11)
    ∷ eqb (e.points.start j) (e.terms.start j + e.terms.rows j * 6)
    ∷ eqb (e.rules.start j) (e.points.start j + e.points.rows j * 2)
    ∷ eqb (e.words.start j) (e.rules.start j + e.rules.rows j * 6)
    ∷ eqb (ends j) (e.words.start j + (ap (λ (k : ℕ). k * 1) e.words.rows ∙ one) j)
    ∷ eqb (w TOTAL) (ends j + e.conclusions.rows j * 2)
    ∷ code_tests w))
