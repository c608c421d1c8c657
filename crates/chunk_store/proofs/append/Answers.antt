use mathlib.Core.Path.{◌≡◌, sym, ap, ◌∙◌}
use mathlib.Core.Bool.{true}
use native.Mathlib.Omega.{arith}
use Prim.Native.Nat.{◌+◌}
use lib.ListN.{length}
use borrow.Author.Tests.{not-true, not-false}
use Rattle.model.specs.Outcome.{verdict_in}
use Rattle.model.specs.Chunks.{chunk, TextState, is_open}
use Rattle.chunk_store.proofs.Laws.{answer_over, state_over, room, few, chunk_long, chunk_kept}
use Rattle.chunk_store.proofs.append.Goals as goal
use Rattle.chunk_store.proofs.append.Goals.{Else-is_over, Start}

-- the state that is lent
abbrev state : Start → TextState
state s = record { store = s.args.store.now; count = s.args.count.now }

-- the text is not over
ready : (c : Else-is_over) → is_open (state c.before.before.before.before.before.before) ≡ true
ready c = not-false _ (sym c.is_over.ensures ∙ c.if-is_over.false)

pub returns-then-is_over : goal.returns-then-is_over
returns-then-is_over c =
    let d = c.args.chunk.now in
    let shut = not-true (is_open (state (goal.at.returns-then-is_over c).Start)) (sym c.is_over.ensures ∙ c.if-is_over.true) in
    (sym (ap verdict_in (answer_over (state (goal.at.returns-then-is_over c).Start) shut (chunk d))), sym (state_over (state (goal.at.returns-then-is_over c).Start) shut (chunk d)))

pub overflow_sub-n : goal.overflow_sub-n
overflow_sub-n c = few (state (goal.at.overflow_sub-n c).Start) (ready (goal.at.overflow_sub-n c).Else-is_over)

pub returns-then-n-chunk : goal.returns-then-n-chunk
returns-then-n-chunk c =
    let k = chunk_long (state (goal.at.returns-then-n-chunk c).Start) (ready (goal.at.returns-then-n-chunk c).Else-is_over) c.args.chunk.now (omega (arith, c.if-n-chunk.true, few (state (goal.at.returns-then-n-chunk c).Start) (ready (goal.at.returns-then-n-chunk c).Else-is_over))) in
    (sym (ap verdict_in k.0), sym k.1)

pub put-requires : goal.put-requires
put-requires c =
    omega (arith, c.if-n-chunk.false, few (state (goal.at.put-requires c).Start) (ready (goal.at.put-requires c).Else-is_over), room (state (goal.at.put-requires c).Start) (ready (goal.at.put-requires c).Else-is_over))

pub returns : goal.returns
returns c =
    let a = c.args in
    let k = chunk_kept (state (goal.at.returns c).Start) (ready (goal.at.returns c).Else-is_over) a.chunk.now (omega (arith, c.if-n-chunk.false, few (state (goal.at.returns c).Start) (ready (goal.at.returns c).Else-is_over))) in
    (sym (ap verdict_in k.0), (λ i. record { store = c.put.ensures i; count = a.count.now + length a.chunk.now }) ∙ sym k.1)
