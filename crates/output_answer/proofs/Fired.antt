-- The answer of an output by what the code computes of it.
use mathlib.Core.Path.{◌≡◌, sym, ap, ◌∙◌, subst}
use mathlib.Core.List.{List, map}
use Prim.Native.Nat.{ℕ, ◌≤◌, ◌<◌}
use native.Mathlib.Omega.{arith}
use lib.IntN.{ℤ}
use borrow.Author.Tests.{lt-ltb, le-ltb}
use Rattle.model.specs.Block.{Output}
use Rattle.model.specs.Degrees.{nearestℤ}
use Rattle.model.specs.Evaluation.{moment, sum_of, answer_with, unfired, output_answer}
use Rattle.model.specs.declared.Mark.TheVariants.{Fired}
use Rattle.centre.specs.Centre.{figure_of}

pub fired_is : (v : Output) (ps : List ℤ) (hs : List ℕ) (held z : ℤ) (s : ℕ)
    → ps ≡ map (λ t. t.at) v.terms → s ≡ sum_of hs → z ≡ figure_of ps hs → 0 < s → answer_with Fired z s ≡ output_answer v hs held
unfolding output_answer
fired_is v ps hs held z s ep es ez h =
    let p : 0 < sum_of hs = subst (λ (n : ℕ). 0 < n) es h in
    let y = simp (lt-ltb 0 (sum_of hs) p) at ez in
    simp (lt-ltb 0 (sum_of hs) p) (λ j. answer_with Fired ((y ∙ ap (λ (l : List ℤ). nearestℤ (moment l hs) (sum_of hs)) ep) j) (es j))

pub unfired_is : (v : Output) (hs : List ℕ) (held : ℤ) (s : ℕ) → s ≡ sum_of hs → s ≡ 0 → unfired v.default held ≡ output_answer v hs held
unfolding output_answer
unfired_is v hs held s es e =
    let p : sum_of hs ≤ 0 = omega (arith, sym es ∙ e) in
    simp (le-ltb 0 (sum_of hs) p)
