use mathlib.Core.Path.{ap, ◌∙◌}
use Rattle.model.specs.Block.{Block}
use Rattle.cursor.specs.View.{seen}
use Rattle.rule_heading.specs.Opening.{opening}
use Rattle.rule_heading.proofs.Laws as laws
use Rattle.rule_heading.proofs.rule_heading.Goals as goal

pub returns : goal.returns
unfolding opening
returns c =
    let s = c.args.s.now in
    let x = laws.opens_then (laws.opens_then (laws.opens_then (laws.opens_then c.expected-p.ensures c.block_name-p.ensures)
    c.algorithms-p.ensures) c.activation_line-p.ensures) c.accumulation_line.ensures in
    record {
      n_value = (λ b n h. x.reads b n ∙ ap (λ (y : Block). opening (seen s c.args.c y n)) (laws.bare s b h));
      within = (x.fewer, x.fits, x.headed);
    }
