use mathlib.Core.Path.{◌≡◌}
use Prim.Native.Nat.{ℕ, ◌+◌, ◌-◌}
use lib.ListN.{get_or}
use Rattle.model.specs.Basic.{tab}
use Rattle.model.specs.Image.{word_at, rule_at, conclusion_at}
use Rattle.degrees.specs.Tables.{numbers}
use Rattle.accumulation.specs.Heights.{after_conclusions}
use Rattle.accumulation.proofs.Steps.{after_rules}
use Rattle.accumulation.proofs.Rules.{degree_by}
use Rattle.accumulation.proofs.heights.Given as goal

-- what is left of the conclusions of rule i from the j-th on, and of the rules from the i-th on
abbrev pub invariant-loop-j : goal.invariant-loop-j
invariant-loop-j l =
    (p : ℕ) →
    let after : ℕ → ℕ → ℕ → ℕ = λ k j h. after_conclusions l.accumulation l.d.0 (l.image.input_terms + p) (tab (conclusion_at (word_at l.stored.bytes.now)) k j) h in
    after (l.j-end - l.j) l.j (get_or (numbers l.hs.at) p 0) ≡ after l.count l.first (get_or (numbers l.initial.hs.at) p 0)

abbrev pub invariant-loop-i : goal.invariant-loop-i
invariant-loop-i l =
    (p : ℕ) →
    let w = word_at l.stored.bytes.now in
    let after : ℕ → ℕ → ℕ → ℕ = after_rules l.accumulation (degree_by w (numbers l.conditions.at)) (rule_at w) (l.image.input_terms + p) in
    after (l.i-end - l.i) l.i (get_or (numbers l.hs.at) p 0) ≡ after l.i-end 0 0
