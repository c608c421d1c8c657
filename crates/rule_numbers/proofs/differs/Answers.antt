use native.Mathlib.Omega.{arith}
use mathlib.Core.Path.{◌≡◌, sym, ap, ◌∙◌}
use mathlib.Core.Bool.{not}
use Prim.Native.Nat.{ℕ}
use borrow.Author.Tests.{eq-eqb, ne_eqb}
use lib.Dec.{eqb}
use Rattle.model.specs.Image.{word_at, rule_place}
use Rattle.laws.proofs.Places.{all_more, all_stop, all_end}
use Rattle.rule_numbers.specs.Numbers.{rule_number}
use Rattle.rule_numbers.proofs.differs.Goals as goal
use Rattle.rule_numbers.proofs.differs.Goals.{After-word}

-- the number of rule j
read : (c : After-word) → c.word.result ≡ rule_number (word_at c.args.image.now.bytes.now) c.loop-j.j
read c =
    let w = word_at c.args.image.now.bytes.now in
    let e : c.row.result ≡ rule_place w c.loop-j.j = omega (arith, c.args.image.now.heads.rules.start) in
    c.word.ensures.0 ∙ ap w e

pub returns-then-number-word : goal.returns-then-number-word
returns-then-number-word c =
    let a = c.args in
    let f = rule_number (word_at a.image.now.bytes.now) in
    let q = ap not (eq-eqb a.number (f c.loop-j.j) (c.if-number-word.true ∙ read (goal.at.returns-then-number-word c).After-word)) in
    sym (all_stop (λ (n : ℕ). not (eqb a.number n)) f a.image.now.header.rules.rows c.loop-j.j c.loop-j-test.true q) ∙ c.loop-j.invariant

pub loop-j-preserved : goal.loop-j-preserved
loop-j-preserved c =
    let a = c.args in
    let f = rule_number (word_at a.image.now.bytes.now) in
    let q = ap not (ne_eqb a.number (f c.loop-j.j) (λ e. c.if-number-word.false (e ∙ sym (read (goal.at.loop-j-preserved c).After-word)))) in
    sym (all_more (λ (n : ℕ). not (eqb a.number n)) f a.image.now.header.rules.rows c.loop-j.j c.loop-j-test.true q) ∙ c.loop-j.invariant

pub returns : goal.returns
returns c =
    let a = c.args in
    let f = rule_number (word_at a.image.now.bytes.now) in
    sym (all_end (λ (n : ℕ). not (eqb a.number n)) f a.image.now.header.rules.rows c.loop-j.j c.loop-j-test.false) ∙ c.loop-j.invariant
