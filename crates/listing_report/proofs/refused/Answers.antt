use Rattle.std.proofs.Common.{◌≡◌, sym, ap, ◌∙◌, arith, List, ℕ, length, drop, ◌++◌, ◌≤◌, ◌-◌}
use lib.Seq.{length-take-le}
use Rattle.model.specs.Printed.{refused_line}
use Rattle.refusals.specs.Told.{place_of}
use Rattle.listing_writer.specs.Prepends.{Prepends}
use Rattle.listing_writer.proofs.Prepends as written
use Rattle.listing_report.proofs.refused.Goals as goal
use Rattle.listing_report.proofs.refused.Goals.{After-count-n}

wrote : (c : After-count-n) →
    let t = c.number_and_place-t.result in
    let old = c.new-line.result.bytes.now in
    (length old ≡ 64) × Prepends 0 c.count-n.result (refused_line t.number (place_of t.place)) old c.refused_line.new.out.bytes.now
wrote c =
    let new = c.new-line.ensures in
    (omega (arith, ap length new.same_bytes), (rw (new.count, ← c.count-n.ensures) at c.refused_line.ensures.writes).text)

-- how long it is
long : (c : After-count-n) →
    let t = c.number_and_place-t.result in
    (c.count-n.result ≡ length (refused_line t.number (place_of t.place))) × (c.count-n.result ≤ 64)
long c = written.counted 64 _ _ _ _ (wrote c).0 (omega arith) c.refused_line.ensures.short (wrote c).1

-- it is the text that is read
text_is : (c : After-count-n) →
    let t = c.number_and_place-t.result in
    let new = c.refused_line.new.out in
    drop (length new.bytes.now - new.count) new.bytes.now ≡ refused_line t.number (place_of t.place)
text_is c =
    rw c.count-n.ensures at (written.text_is 64 _ _ _ _ (wrote c).0 (omega arith) c.refused_line.ensures.short (wrote c).1)

pub slice_bounds-copy_from_slice-end : goal.slice_bounds-copy_from_slice-end
slice_bounds-copy_from_slice-end c = omega (arith, c.requires, (long (goal.at.slice_bounds-copy_from_slice-end c).After-count-n).1)

pub slice_bounds-copy_from_slice-end-2 : goal.slice_bounds-copy_from_slice-end-2
slice_bounds-copy_from_slice-end-2 c =
    sym (length-take-le c.count-n.result c.args.out.now (omega (arith, c.requires, (long (goal.at.slice_bounds-copy_from_slice-end-2 c).After-count-n).1)))

pub copy_from_slice-requires : goal.copy_from_slice-requires
copy_from_slice-requires c =
    length-take-le c.count-n.result c.args.out.now (omega (arith, c.requires, (long (goal.at.copy_from_slice-requires c).After-count-n).1))
    ∙ (long (goal.at.copy_from_slice-requires c).After-count-n).0
    ∙ ap length (sym (c.text.ensures ∙ text_is (goal.at.copy_from_slice-requires c).After-count-n))

pub returns : goal.returns
returns c =
    let t = c.number_and_place-t in
    let copied = c.copy_from_slice.ensures.after ∙ c.text.ensures ∙ text_is (goal.at.returns c).After-count-n in
    record {
      number = t.result.number;
      place = place_of t.result.place;
      told = t.ensures;
      shows = record { count = (long (goal.at.returns c).After-count-n).0; contents = ap (λ (xs : List ℕ). xs ++ drop c.count-n.result c.args.out.now) copied };
    }
