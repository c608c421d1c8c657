use mathlib.Core.Path.{◌≡◌, sym, ap, ◌∙◌}
use mathlib.Core.Bool.{true}
use mathlib.Core.List.{List, ◌++◌}
use Prim.Native.Nat.{ℕ, ◌-◌, ◌≤◌}
use lib.Seq.{length-take-le}
use native.Mathlib.Omega.{arith}
use lib.ListN.{length, drop}
use Rattle.model.specs.Bounds.{listing_limit}
use Rattle.model.specs.Image.{is_image_of}
use Rattle.model.specs.Listing.{listing}
use Rattle.laws.proofs.Buffers.{too_short, stored}
use Rattle.load.specs.Judged.{Judged}
use Rattle.lister.proofs.Answers.{block, listed, short}
use Rattle.listing_writer.specs.Prepends.{Prepends}
use Rattle.listing_writer.proofs.Prepends as written
use Rattle.lister.proofs.list.Goals as goal
use Rattle.lister.proofs.list.Goals.{After-count-n}

-- the image is accepted, and its bytes are these
taken : (c : After-count-n) →
    let img = c.args.img.now in
    (is_image_of img (block img) ≡ true) × (c.in_ok-image.image.stored.bytes.now ≡ img)
unfolding Judged
taken c = c.in_ok-image.ensures

-- its listing is written, in a buffer that holds every one
wrote : (c : After-count-n) →
    let old = c.new-listing.result.bytes.now in
    (length old ≡ listing_limit) × Prepends 0 c.count-n.result (listing (block c.args.img.now)) old c.block.new.out.bytes.now
wrote c =
    let new = c.new-listing.ensures in
    (omega (arith, ap length new.same_bytes), (rw (new.count, ← c.count-n.ensures, (taken c).1) at c.block.ensures).text)

-- how long it is
long : (c : After-count-n) →
    let img = c.args.img.now in
    (c.count-n.result ≡ length (listing (block img))) × (c.count-n.result ≤ listing_limit)
long c = written.counted listing_limit _ _ _ _ (wrote c).0 (omega arith) (short _ (taken c).0) (wrote c).1

-- it is the text that is read
text_is : (c : After-count-n) →
    let new = c.block.new.out in
    drop (length new.bytes.now - new.count) new.bytes.now ≡ listing (block c.args.img.now)
text_is c =
    rw c.count-n.ensures at (written.text_is listing_limit _ _ _ _ (wrote c).0 (omega arith) (short _ (taken c).0) (wrote c).1)

pub returns-then-out-n : goal.returns-then-out-n
returns-then-out-n c =
    let a = c.args in
    let t = too_short (listing (block a.img.now)) a.out.now c.count-n.result (sym (long (goal.at.returns-then-out-n c).After-count-n).0) c.if-out-n.true in
    rw (listed a.img.now (taken (goal.at.returns-then-out-n c).After-count-n).0 (length a.out.now)) record { result_value = t.0; buffer = t.1 }

pub copy_from_slice-requires : goal.copy_from_slice-requires
copy_from_slice-requires c =
    length-take-le c.count-n.result c.args.out.now c.if-out-n.false ∙ (long (goal.at.copy_from_slice-requires c).After-count-n).0
    ∙ ap length (sym (c.text.ensures ∙ text_is (goal.at.copy_from_slice-requires c).After-count-n))

pub returns : goal.returns
returns c =
    let a = c.args in
    let img = a.img.now in
    let n = c.count-n.result in
    let copied = c.copy_from_slice.ensures.after ∙ c.text.ensures ∙ text_is (goal.at.returns c).After-count-n in
    let t = stored (listing (block img)) a.out.now n (sym (long (goal.at.returns c).After-count-n).0) _ c.if-out-n.false (ap (λ (x : List ℕ). x ++ drop n a.out.now) copied) in
    rw (listed img (taken (goal.at.returns c).After-count-n).0 (length a.out.now)) record { result_value = t.0; buffer = t.1 }
