use mathlib.Core.Path.{sym, ap, ◌∙◌}
use lib.ListN.{length}
use lib.Seq.{length-take-le}
use Rattle.model.specs.Image.{loads}
use Rattle.model.specs.Outcome.{buffer_after}
use Rattle.model.specs.Refusals.{written_of}
use Rattle.model.specs.Buffers.{reads_into}
use Rattle.relisting.specs.Relists.{relists}
use Rattle.relisting.proofs.Again.{both_stay, Listed, listed, unlisted}
use Rattle.relisting.proofs.relist.Goals as goal
use Rattle.relisting.proofs.relist.Goals.{In-Ok}

-- the listing that was written
written : (c : In-Ok) →
    let a = c.args in
    Listed a.img.now (length a.text.now) (length a.out.now) c.if-out-img.false c.in-Ok.n a.text.now c.list.new.out
written c =
    listed _ _ _ _ _ _ _ (sym (ap written_of c.in-Ok.is) ∙ c.list.ensures.result_value) c.list.ensures.buffer

pub returns-then-out-img : goal.returns-then-out-img
unfolding relists
returns-then-out-img c =
    let a = c.args in
    let b = both_stay a.img.now (length a.text.now) (length a.out.now) c.if-out-img.true (loads a.img.now) a.text.now a.out.now in
    record {
      value = c.without_room.ensures;
      listing = b.0;
      image = b.1;
    }

pub slice_bounds-read-end : goal.slice_bounds-read-end
slice_bounds-read-end c = (written (goal.at.slice_bounds-read-end c).In-Ok).within

pub slice_bounds-read-end-in-Ok : goal.slice_bounds-read-end-in-Ok
slice_bounds-read-end-in-Ok c =
    sym (length-take-le c.in-Ok.n c.list.new.out (written (goal.at.slice_bounds-read-end-in-Ok c).In-Ok).within)

pub returns-in-Ok : goal.returns-in-Ok
returns-in-Ok c =
    let a = c.args in
    let w = written (goal.at.returns-in-Ok c).In-Ok in
    record {
      value = w.answer;
      listing = w.text_holds;
      image = c.read.ensures.buffer ∙ ap (λ s. buffer_after a.out.now (reads_into (length a.out.now) s)) w.front ∙ w.image_holds a.out.now;
    }

pub returns-in-Err : goal.returns-in-Err
returns-in-Err c =
    let a = c.args in
    let u = unlisted a.img.now (length a.text.now) (length a.out.now) c.if-out-img.false c.in-Err.why
    (sym (ap written_of c.in-Err.is) ∙ c.list.ensures.result_value) in
    record {
      value = c.without_listing.ensures ∙ u.answer;
      listing = c.list.ensures.buffer ∙ u.text_stays a.text.now;
      image = u.image_stays a.out.now;
    }
