use Rattle.chunk_store.proofs.Laws.{put_behind}
use Rattle.chunk_store.proofs.put.Goals as goal

pub returns : goal.returns
returns c =
    let a = c.args in
    put_behind a.n a.chunk.now a.store.now _ c.requires c.copy_from_slice.ensures.after
