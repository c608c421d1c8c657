use mathlib.Core.Path.{◌≡◌, sym, ap, ◌∙◌}
use mathlib.Core.Bool.{true}
use native.Mathlib.Omega.{arith}
use lib.Seq.{length-take-le}
use borrow.Author.Tests.{not-true, not-false}
use Rattle.model.specs.Outcome.{length_in, buffer_after}
use Rattle.model.specs.Chunks.{finish, TextState, is_open}
use Rattle.chunk_store.proofs.Laws.{answer_over, state_over, room, few, end_read}
use Rattle.chunked_text.proofs.finish.Goals as goal
use Rattle.chunked_text.proofs.finish.Goals.{Else-is_over, Start}

-- the state that is lent
abbrev state : Start → TextState
state s = record { store = s.args.store.now; count = s.args.count.now }

-- the text is not over
ready : (c : Else-is_over) → is_open (state c.before.before.before.before.before.before) ≡ true
ready c = not-false _ (sym c.is_over.ensures ∙ c.if-is_over.false)

pub returns-then-is_over : goal.returns-then-is_over
returns-then-is_over c =
    let b = c.args.out.now in
    let shut = not-true (is_open (state (goal.at.returns-then-is_over c).Start)) (sym c.is_over.ensures ∙ c.if-is_over.true) in
    let o = answer_over (state (goal.at.returns-then-is_over c).Start) shut (finish b) in
    ((sym (ap length_in o), sym (ap (buffer_after b) o)), sym (state_over (state (goal.at.returns-then-is_over c).Start) shut (finish b)))

pub slice_bounds-read-end : goal.slice_bounds-read-end
slice_bounds-read-end c =
    sym (length-take-le c.args.count.now c.args.store.now (omega (arith, few (state (goal.at.slice_bounds-read-end c).Start) (ready (goal.at.slice_bounds-read-end c).Else-is_over), room (state (goal.at.slice_bounds-read-end c).Start) (ready (goal.at.slice_bounds-read-end c).Else-is_over))))

pub returns : goal.returns
returns c =
    let b = c.args.out.now in
    let k = end_read (state (goal.at.returns c).Start) (ready (goal.at.returns c).Else-is_over) b in
    ((c.read.ensures.result_value ∙ sym (ap length_in k.0), c.read.ensures.buffer ∙ sym (ap (buffer_after b) k.0)), sym k.1)
