use mathlib.Core.Path.{sym, ap, ◌∙◌}
use mathlib.Core.List.{List}
use Prim.Native.Nat.{ℕ, ◌*◌}
use native.Mathlib.Omega.{arith}
use borrow.Author.Tests.{eq-eqb, ne_eqb}
use Rattle.model.specs.Image.{word_at}
use Rattle.layout.specs.Groups.{variables_ok, rules_ok}
use Rattle.layout.proofs.Groups.{groups}
use Rattle.laws.proofs.Tests.{pass, one_fails}
use Rattle.load.proofs.Laws.{too_short}
use Rattle.load.proofs.checked.Goals as goal
use Rattle.load.proofs.checked.Goals.{then-img-via-then-img, then-img-via-else-img+then-img-whole_word, then-not-variables_ok-via-then-not-variables_ok, then-not-variables_ok-via-else-not-variables_ok+then-not-rules_ok}

pub returns-then-img : goal.returns-then-img
returns-then-img c =
    elim c.then-img.branch [
      | then-img-via-then-img w ↦ too_short _ (λ k. omega (arith, c.type_inv.img k)) w.if-img.true
      | then-img-via-else-img+then-img-whole_word w ↦
          groups _ (λ k. omega (arith, c.type_inv.img k))
          ∙ one_fails _ 0 (ne_eqb _ _ (λ e. w.if-img-whole_word.true (e ∙ ap (λ (n : ℕ). n * 4) (sym w.whole_word.ensures.0))))
    ]

pub returns-in_err-laid : goal.returns-in_err-laid
returns-in_err-laid c =
    rw c.from_residual.ensures (groups _ (λ k. omega (arith, c.type_inv.img k)) ∙ one_fails _ 1 (sym c.in_err-laid.ensures.accepted))

pub returns-then-not-variables_ok : goal.returns-then-not-variables_ok
returns-then-not-variables_ok c =
    let same = c.in_ok-laid.ensures.same.0 in
    groups _ (λ k. omega (arith, c.type_inv.img k))
    ∙ elim c.then-not-variables_ok.branch [
      | then-not-variables_ok-via-then-not-variables_ok w ↦
          one_fails _ 2 (ap (λ (b : List ℕ). variables_ok (word_at b)) (sym same) ∙ sym c.variables_ok.ensures ∙ w.if-not-variables_ok.true)
      | then-not-variables_ok-via-else-not-variables_ok+then-not-rules_ok w ↦
          one_fails _ 3 (ap (λ (b : List ℕ). rules_ok (word_at b)) (sym same) ∙ sym w.rules_ok.ensures ∙ w.if-not-rules_ok.true)
    ]

pub returns : goal.returns
returns c =
    let same = c.in_ok-laid.ensures.same.0 in
    let long = eq-eqb _ _ (c.if-img-whole_word.false ∙ ap (λ (n : ℕ). n * 4) c.whole_word.ensures.0) in
    let variables = ap (λ (b : List ℕ). variables_ok (word_at b)) (sym same) ∙ sym c.variables_ok.ensures ∙ c.if-not-variables_ok.false in
    let rules = ap (λ (b : List ℕ). rules_ok (word_at b)) (sym same) ∙ sym c.rules_ok.ensures ∙ c.if-not-rules_ok.false in
    (groups _ (λ k. omega (arith, c.type_inv.img k)) ∙ pass _ (long, (sym c.in_ok-laid.ensures.accepted, (variables, (rules, tt)))), same)
