use mathlib.Core.Path.{sym, ◌∙◌}
use borrow.Author.Tests.{lt-ltb}
use Rattle.model.specs.Chunks.{TextState}
use Rattle.chunk_store.proofs.Laws.{short_store, by_count}
use Rattle.chunk_store.proofs.is_over.Goals as goal
use Rattle.chunk_store.proofs.is_over.Goals.{Start}

abbrev state : Start → TextState
state s = record { store = s.args.store.now; count = s.args.n }

pub returns-then-store-lt-TEXT : goal.returns-then-store-lt-TEXT
returns-then-store-lt-TEXT c = lt-ltb _ _ c.if-store-lt-TEXT.true ∙ sym (short_store (state (goal.at.returns-then-store-lt-TEXT c).Start) c.if-store-lt-TEXT.true)

pub returns-else-store-lt-TEXT : goal.returns-else-store-lt-TEXT
returns-else-store-lt-TEXT c = sym (by_count (state (goal.at.returns-else-store-lt-TEXT c).Start) c.if-store-lt-TEXT.false)
