use mathlib.Core.Path.{sym, ◌∙◌}
use Prim.Native.Nat.{◌+◌}
use Rattle.model.specs.Ranges.{range_view}
use Rattle.model.specs.WellFormed.{singleton_ok}
use Rattle.model.specs.Image.{word_at, singleton_at}
use Rattle.laws.proofs.Places.{all_more, all_stop, all_end, all_start}
use Rattle.stored_outputs.proofs.singletons_ok.Goals as goal

pub loop-t-init : goal.loop-t-init
loop-t-init c = all_start _ _ _ _

pub returns-then-not-singleton_ok : goal.returns-then-not-singleton_ok
returns-then-not-singleton_ok c =
    let a = c.args in
    let f = singleton_at (word_at a.image.now.stored.bytes.now) in
    sym (all_stop (singleton_ok (range_view a.range)) f (a.s + a.k) c.loop-t.t c.loop-t-test.true (sym c.singleton_ok.ensures ∙ c.if-not-singleton_ok.true)) ∙ c.loop-t.invariant

pub loop-t-preserved : goal.loop-t-preserved
loop-t-preserved c =
    let a = c.args in
    let f = singleton_at (word_at a.image.now.stored.bytes.now) in
    sym (all_more (singleton_ok (range_view a.range)) f (a.s + a.k) c.loop-t.t c.loop-t-test.true (sym c.singleton_ok.ensures ∙ c.if-not-singleton_ok.false)) ∙ c.loop-t.invariant

pub returns : goal.returns
returns c =
    let a = c.args in
    let f = singleton_at (word_at a.image.now.stored.bytes.now) in
    sym (all_end (singleton_ok (range_view a.range)) f (a.s + a.k) c.loop-t.t c.loop-t-test.false) ∙ c.loop-t.invariant
