use Rattle.std.proofs.Common.{◌≡◌, refl, sym, ap, ◌∙◌, length, arith}
use Rattle.name_bytes.specs.Names.{tidy_at}
use Rattle.name_bytes.proofs.Spelling.{at_end, at_letter, at_more, at_past}
use Rattle.name_bytes.proofs.tidy_end.Goals as goal

pub loop-i-init : goal.loop-i-init
loop-i-init c = refl

pub loop-i-preserved-then-is_ascii_alphabetic : goal.loop-i-preserved-then-is_ascii_alphabetic
loop-i-preserved-then-is_ascii_alphabetic c =
    let l = c.loop-i in
    sym (at_letter c.args.s.now l.under l.i c.loop-i-test.true (sym c.is_ascii_alphabetic.ensures.value ∙ c.if-is_ascii_alphabetic.true)) ∙ l.invariant

pub returns-then-ends_name-clause-value : goal.returns-then-ends_name-clause-value
returns-then-ends_name-clause-value c =
    let l = c.loop-i in
    c.tidy_at.ensures ∙ sym (at_end c.args.s.now l.under l.i c.loop-i-test.true (sym c.ends_name.ensures ∙ c.if-ends_name.true)) ∙ l.invariant

pub loop-i-preserved : goal.loop-i-preserved
loop-i-preserved c =
    let l = c.loop-i in
    sym (at_more c.args.s.now l.under l.i c.loop-i-test.true (sym c.ends_name.ensures ∙ c.if-ends_name.false)) ∙ l.invariant

pub returns-clause-value : goal.returns-clause-value
returns-clause-value c =
    let l = c.loop-i in
    let n = length c.args.s.now in
    let e : n ≡ l.i = omega (arith, c.loop-i-test.false, l.auto.i-end) in
    c.tidy_at-2.ensures ∙ ap (tidy_at l.under) e ∙ sym (at_past c.args.s.now l.under l.i c.loop-i-test.false) ∙ l.invariant
