use borrow.Author.Rules.{rules}
use mathlib.Core.Path.{sym, ap, ◌∙◌}
use borrow.Author.Tests.{ltb-true, ltb-false}
use Prim.Native.Nat.{ℕ, ◌-◌}
use native.Mathlib.Omega.{arith}
use Rattle.model.specs.Parentheses.{rank}
use Rattle.model.specs.Image.{word_at, decode}
use Rattle.model.specs.Listing.{input_term_name, condition_text}
use Rattle.condition_words.specs.Machine.{operator_of}
use Rattle.operator_listing.proofs.Spans as spans
use Rattle.condition_listing.proofs.Texts as texts
use Rattle.condition_listing.proofs.+condition_negation_operand.Goals as goal

pub condition-returns-then-w-ge-TERM_WORD-clause-writes : goal.condition-returns-then-w-ge-TERM_WORD-clause-writes
condition-returns-then-w-ge-TERM_WORD-clause-writes t c =
    let l = c.loop-d in
    let w = word_at c.args.image.now.stored.bytes.now in
    let g = input_term_name (decode w) in
    let e = c.word-w.ensures.0 in
    texts.left_done w g _ _ _ _ _ _ l.invariant.1
    (texts.term_written w g l.d _ _ (omega (arith, e)) (rw e at c.term.ensures))

pub condition-returns-then-w-eq-NOT_WORD-clause-writes : goal.condition-returns-then-w-eq-NOT_WORD-clause-writes
condition-returns-then-w-eq-NOT_WORD-clause-writes t c =
    let l = c.loop-d in
    let w = word_at c.args.image.now.stored.bytes.now in
    let g = input_term_name (decode w) in
    let e = c.word-w.ensures.0 in
    texts.left_done w g _ _ _ _ _ _ l.invariant.1
    (texts.not_written w g l.d _ _ _ (omega (arith, e, c.if-w-eq-NOT_WORD.true)) c.negation.ensures.writes)

pub condition-returns-then-is_looser-clause-writes : goal.condition-returns-then-is_looser-clause-writes
condition-returns-then-is_looser-clause-writes t c =
    let l = c.loop-d in
    let w = word_at c.args.image.now.stored.bytes.now in
    let g = input_term_name (decode w) in
    let e = c.word-w.ensures.0 in
    let o = operator_of (w (l.d - 1)) in
    let f = c.operator_form-own.ensures ∙ ap (λ (x : ℕ). rank (operator_of x)) e in
    texts.left_done w g _ _ _ _ _ _ l.invariant.1
    (texts.two_written w g o l.d _ _ _ _ _ _
    (spans.operator_form w l.d (omega (arith, e, c.if-w-ge-TERM_WORD.false)) (λ z. c.if-w-eq-NOT_WORD.false (e ∙ z)))
    (rw (c.tighter.ensures, f) at c.operand-middle.ensures.writes) (rw e at c.operator.ensures) (rw f at c.operand.ensures.writes))

pub condition-loop-d-preserved : goal.condition-loop-d-preserved
condition-loop-d-preserved t c =
    let l = c.loop-d in
    let w = word_at c.args.image.now.stored.bytes.now in
    let g = input_term_name (decode w) in
    let e = c.word-w.ensures.0 in
    let o = operator_of (w (l.d - 1)) in
    let f = c.operator_form-own.ensures ∙ ap (λ (x : ℕ). rank (operator_of x)) e in (
      search rules,
      texts.left_next w g _ _ o l.d _ _ _ _ _ l.invariant.1
          (spans.operator_form w l.d (omega (arith, e, c.if-w-ge-TERM_WORD.false)) (λ z. c.if-w-eq-NOT_WORD.false (e ∙ z)))
          (rw (c.tighter.ensures, f) at c.operand-middle.ensures.writes) (rw e at c.operator.ensures) c.form.ensures (rw f at (ltb-false _ _ (sym c.is_looser.ensures ∙ c.if-is_looser.false))),
      c.operator.ensures.buffer ∙ c.operand-middle.ensures.same_buffer ∙ l.invariant.2,
    )

pub condition-returns-clause-writes : goal.condition-returns-clause-writes
condition-returns-clause-writes t c =
    let l = c.loop-d in
    let w = word_at c.args.image.now.stored.bytes.now in
    let g = input_term_name (decode w) in
    texts.left_done w g _ _ _ _ _ _ l.invariant.1 (texts.none_written w g (condition_text g) _ _ _ _ (search rules))

pub negation-returns-then-e-lt1-clause-writes : goal.negation-returns-then-e-lt1-clause-writes
negation-returns-then-e-lt1-clause-writes t c =
    let w = word_at c.args.image.now.stored.bytes.now in
    let g = input_term_name (decode w) in
    texts.none_written w g (texts.negated w g) _ _ _ _ c.if-e-lt1.true

pub negation-returns-then-last-ge-TERM_WORD-clause-writes : goal.negation-returns-then-last-ge-TERM_WORD-clause-writes
negation-returns-then-last-ge-TERM_WORD-clause-writes t c =
    let w = word_at c.args.image.now.stored.bytes.now in
    let e = c.word-last.ensures.0 in
    texts.not_term w (input_term_name (decode w)) c.args.e _ _ (omega (arith, e)) (rw e at c.term.ensures)

pub negation-returns-clause-writes : goal.negation-returns-clause-writes
negation-returns-clause-writes t c =
    let w = word_at c.args.image.now.stored.bytes.now in
    texts.not_front w (input_term_name (decode w)) c.args.e _ _ _ _ (omega (arith, c.word-last.ensures.0, c.if-last-ge-TERM_WORD.false))
    c.operand-first.ensures.writes c.puts.ensures

pub operand-returns-then-not-is_looser-clause-writes : goal.operand-returns-then-not-is_looser-clause-writes
operand-returns-then-not-is_looser-clause-writes t c =
    let w = word_at c.args.image.now.stored.bytes.now in
    texts.bare w (input_term_name (decode w)) _ _ _ _ _ _ c.form.ensures (ltb-false _ _ (sym c.is_looser.ensures ∙ c.if-not-is_looser.true)) c.condition.ensures.writes

pub operand-returns-clause-writes : goal.operand-returns-clause-writes
operand-returns-clause-writes t c =
    let w = word_at c.args.image.now.stored.bytes.now in
    texts.parenthesised w (input_term_name (decode w)) _ _ _ _ _ _ _ _ c.form.ensures (ltb-true _ _ (sym c.is_looser.ensures ∙ c.if-not-is_looser.false))
    c.puts.ensures c.condition-first.ensures.writes c.puts-2.ensures
