use native.Mathlib.Omega.{arith}
use Rattle.model.specs.Image.{word_at}
use Rattle.operator_listing.proofs.Spans as spans
use Rattle.operator_listing.proofs.form.Goals as goal

pub returns-then-e-lt1 : goal.returns-then-e-lt1
returns-then-e-lt1 c = λ i d s. absurd (spans.none_ends (word_at c.args.img.now) _ i d c.if-e-lt1.true s)

pub returns-in-16-to-max : goal.returns-in-16-to-max
returns-in-16-to-max c = spans.term_form (word_at c.args.img.now) c.args.e (omega (arith, c.whole_word.ensures.0))

pub returns-in-0 : goal.returns-in-0
returns-in-0 c =
    spans.not_term_form (word_at c.args.img.now) c.args.e (omega (arith, c.whole_word.ensures.0)) (omega (arith, c.whole_word-then-e-ge2.ensures.0))

pub returns-in-0-2 : goal.returns-in-0-2
returns-in-0-2 c =
    spans.not_front_form (word_at c.args.img.now) c.args.e (omega (arith, c.whole_word.ensures.0)) (omega (arith, c.whole_word-then-e-ge2.ensures.0))

pub returns-in-0-2-2 : goal.returns-in-0-2-2
returns-in-0-2-2 c = spans.lone_not_form (word_at c.args.img.now) c.args.e _ (omega arith) (omega (arith, c.whole_word.ensures.0))

pub returns-in_default : goal.returns-in_default
returns-in_default c =
    let w = word_at c.args.img.now in
    rw (c.operator_form.ensures, c.whole_word.ensures.0) (
    spans.operator_form w c.args.e (omega (arith, c.whole_word.ensures.0)) (λ z. omega (arith, c.whole_word.ensures.0)))
