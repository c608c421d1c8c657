use mathlib.Core.Path.{◌≡◌, refl, sym, ap, ◌∙◌, subst}
use mathlib.Core.Bool.{Bool, true, not}
use Prim.Native.Nat.{ℕ, ◌+◌, ◌-◌, ◌%◌, ◌<◌}
use native.Mathlib.Omega.{arith}
use lib.Dec.{eqb}
use lib.ListN.{set, length-set}
use Rattle.model.specs.Basic.{all, distinct, tab}
use Rattle.model.specs.Image.{word_at, rule_place}
use Rattle.laws.proofs.Places.{distinct_more, distinct_stop, distinct_end}
use Rattle.rule_numbers.specs.Numbers.{rule_number}
use Rattle.rule_numbers.proofs.Numbers.{Met, unmet, met_more, distinct_less}
use Rattle.rule_numbers.proofs.numbers_distinct.Goals as goal
use Rattle.rule_numbers.proofs.numbers_distinct.Goals.{After-word-number, else-met-r-via-then-met-r+else-not-differs, else-met-r-via-else-met-r}

-- the number of rule i
number_is : (c : After-word-number) → rule_number (word_at c.args.image.now.bytes.now) (c.loop-i.i - 1) ≡ c.word-number.result
number_is c =
    let w = word_at c.args.image.now.bytes.now in
    let e : rule_place w (c.loop-i.i - 1) ≡ c.row.result = omega (arith, c.args.image.now.heads.rules.start) in
    ap w e ∙ sym c.word-number.ensures.0

back : (n : ℕ) → 0 < n → n - 1 + 1 ≡ n
back n h = omega arith

-- what is asked of it
abbrev others : (ℕ → ℕ) → ℕ → ℕ → ℕ → Bool
others f e i x = all (λ n. not (eqb x n)) (tab f (e - (i + 1)) (i + 1))

pub loop-i-init : goal.loop-i-init
loop-i-init c =
    let image = c.args.image.now in
    (refl, distinct_end eqb (rule_number (word_at image.bytes.now)) image.header.rules.rows image.header.rules.rows (omega arith), λ j low high. absurd (omega arith))

pub returns-then-not-differs : goal.returns-then-not-differs
returns-then-not-differs c =
    let image = c.args.image.now in
    let f = rule_number (word_at image.bytes.now) in
    let e = image.header.rules.rows in
    let i = c.loop-i.i - 1 in
    let is = number_is (goal.at.returns-then-not-differs c).After-word-number in
    let q = ap (others f e i) is ∙ sym c.differs.ensures ∙ c.if-not-differs.true in
    sym (distinct_less f e i (omega arith) (distinct_stop eqb f e i (omega arith) q))

pub loop-i-preserved : goal.loop-i-preserved
loop-i-preserved c =
    let image = c.args.image.now in
    let f = rule_number (word_at image.bytes.now) in
    let e = image.header.rules.rows in
    let l = c.loop-i in
    let i = l.i - 1 in
    let b = back l.i c.loop-i-test.true in
    let is = number_is (goal.at.loop-i-preserved c).After-word-number in
    let met = rw (← b) at l.invariant.2 in
    let told : others f e i (f i) ≡ true = elim c.else-met-r.branch [
      | else-met-r-via-then-met-r+else-not-differs w ↦ ap (others f e i) is ∙ sym w.differs.ensures ∙ w.if-not-differs.false
      | else-met-r-via-else-met-r w ↦ ap (others f e i) is ∙ unmet f e c.word-number.result (i + 1) l.met met w.if-met-r.false
    ] in (
      length-set l.met _ _ ∙ l.invariant.0,
      distinct_more eqb f e i (omega arith) told ∙ ap (λ (k : ℕ). distinct eqb (tab f (e - k) k)) b ∙ l.invariant.1,
      subst (λ (x : ℕ). Met f e i (set l.met (x % 256) true)) is (met_more f e i l.met l.invariant.0 met),
    )
