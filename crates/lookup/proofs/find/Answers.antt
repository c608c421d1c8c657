use mathlib.Core.Path.{◌≡◌, sym, ◌∙◌}
use mathlib.Core.Bool.{false}
use Prim.Native.Nat.{◌+◌}
use native.Mathlib.Omega.{arith}
use borrow.Author.Rules.{rules}
use lib.Seq.{slice}
use Rattle.model.specs.Tokens.{same_name}
use Rattle.laws.proofs.Search.{past_more, past_here, past_end}
use Rattle.laws.proofs.Slices.{part}
use Rattle.lookup.specs.Names.{name_of}
use Rattle.lookup.proofs.Names as laws
use Rattle.lookup.proofs.find.Goals as goal
use Rattle.lookup.proofs.find.Goals.{else-v-w-via-then-v-w+else-is_same, else-v-w-via-else-v-w}

pub returns-then-is_same : goal.returns-then-is_same
unfolding name_of
returns-then-is_same c =
    let a = c.args in
    let i = c.loop-i.i in
    let q = simp part at c.is_same.ensures in
    (past_here (same_name (slice a.start a.end a.s.now)) (name_of a.s.now a.names.now) a.count a.from i (search rules) (sym q ∙ c.if-is_same.true) c.loop-i.invariant, search rules)

pub loop-i-preserved : goal.loop-i-preserved
unfolding name_of
loop-i-preserved c =
    let a = c.args in
    let s = a.s.now in
    let l = c.loop-i in
    let k = a.from + l.i in
    let text = slice a.start a.end s in
    let differs : same_name text (name_of s a.names.now k) ≡ false = elim c.else-v-w.branch [
      | else-v-w-via-then-v-w+else-is_same w ↦ let q = simp part at w.is_same.ensures in sym q ∙ w.if-is_same.false
      | else-v-w-via-else-v-w w ↦ let q = simp part at w.if-v-w.false in laws.differ_long _ _ (λ e. q (sym e))
    ] in
    past_more (same_name text) (name_of s a.names.now) a.count a.from l.i (search rules) differs l.invariant

pub returns : goal.returns
returns c =
    let a = c.args in
    let l = c.loop-i in
    let k : l.i ≡ a.count = omega arith in
    sym k ∙ past_end (same_name (slice a.start a.end a.s.now)) (name_of a.s.now a.names.now) a.count a.from l.i (omega arith) l.invariant
