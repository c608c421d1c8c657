use Rattle.std.proofs.Common.{◌≡◌, ◌*◌, ◌≤◌, ◌+◌}
use Rattle.model.specs.Image.{word_at, decode}
use Rattle.model.specs.Listing.{input_term_name}
use Rattle.condition_listing.proofs.Texts as texts
use Rattle.condition_listing.proofs.+condition_negation_operand.Given as goal

abbrev pub decreases-condition : goal.decreases-condition
decreases-condition l = 3 * l.e

abbrev pub decreases-negation : goal.decreases-negation
decreases-negation l = 3 * l.e + 2

abbrev pub decreases-operand : goal.decreases-operand
decreases-operand l = 3 * l.e + 1

abbrev pub invariant-condition-loop-d : goal.invariant-condition-loop-d
invariant-condition-loop-d l =
    let w = word_at l.image.stored.bytes.now in
    (l.d ≤ l.e) × texts.Left w (input_term_name (decode w)) l.e l.fn.out l.d l.out × (l.out.bytes.ghost_name ≡ l.fn.out.bytes.ghost_name)

abbrev pub decreases-condition-loop-d : goal.decreases-condition-loop-d
decreases-condition-loop-d l = l.d
