use mathlib.Core.Path.{◌≡◌, sym, ◌∙◌}
use mathlib.Core.Bool.{true, ◌||◌, not}
use mathlib.Core.Option.{none, some}
use Rattle.model.specs.Rules.{same_pair}
use Rattle.rule_heading.specs.Opening.{pairs}
use Rattle.rule_heading.proofs.Laws as laws
use Rattle.rule_heading.proofs.algorithm.Goals.{else-second-via-then-second+else-ne, else-second-via-else-second}
use Rattle.rule_heading.proofs.algorithm.Goals as goal

pub returns-in_default : goal.returns-in_default
returns-in_default c =
    let s = c.args.s.now in
    let p = c.args.p in
    let e : pairs c.args.k p.cursor.kind ≡ none = sym (rw c.in_default.is at c.pair_of.ensures) in
    laws.opens_as (λ b n. laws.algorithm_none s p c.args.second c.args.k b n e) (c.refused.ensures s c.requires.0 c.requires.1)

pub returns-then-ne : goal.returns-then-ne
returns-then-ne c =
    let s = c.args.s.now in
    let p = c.args.p in
    let e : pairs c.args.k p.cursor.kind ≡ some c.in-Some.pair = sym (rw c.in-Some.is at c.pair_of.ensures) in
    laws.opens_as (λ b n. laws.algorithm_other s p c.args.second c.args.k b n c.in-Some.pair e c.if-second.true (laws.other_pair s p c.in-Some.pair (sym c.ne.ensures ∙ c.if-ne.true))) (c.refused-then-ne.ensures s c.requires.0 c.requires.1)

pub returns : goal.returns
returns c =
    let s = c.args.s.now in
    let p = c.args.p in
    let e : pairs c.args.k p.cursor.kind ≡ some c.in-Some.pair = sym (rw c.in-Some.is at c.pair_of.ensures) in
    let may : not c.args.second || same_pair c.in-Some.pair p.heading.pair ≡ true = elim c.else-second.branch [
      | else-second-via-then-second+else-ne w ↦ laws.may_second s p c.args.second c.in-Some.pair (laws.this_one s p c.in-Some.pair (sym w.ne.ensures ∙ w.if-ne.false))
      | else-second-via-else-second w ↦ laws.may_first s p c.args.second c.in-Some.pair w.if-second.false
    ] in
    laws.passed p _ c.advance.ensures.step (laws.pair_headed s p c.in-Some.pair c.requires.1)
    (λ b n. laws.algorithm_set s p c.args.second c.args.k b n c.in-Some.pair e (c.requires.0.halted (laws.no_end s p c.args.k c.in-Some.pair e)) may)
