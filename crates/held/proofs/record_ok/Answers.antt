use mathlib.Core.Path.{◌≡◌, sym, ◌∙◌}
use mathlib.Core.Bool.{◌&&◌}
use Prim.Native.Nat.{◌+◌}
use native.Mathlib.Omega.{arith}
use borrow.Author.Rules.{rules}
use lib.ListN.{length}
use Rattle.model.specs.Image.{word_at, output_at}
use Rattle.model.specs.Bounds.{output_limit}
use Rattle.layout.proofs.Sound.{outputs_few}
use Rattle.held.proofs.Laws.{from, figure_here, figures_end, whole}
use Rattle.held.proofs.record_ok.Goals as goal
use Rattle.held.proofs.record_ok.Goals.{After-figure_fits}

-- what is asked of the figure at place i
told : (c : After-figure_fits) →
    let places = from (output_at (word_at c.args.image.now.stored.bytes.now)) c.args.image.now.stored.header.outputs.rows c.args.held.figures in
    places c.loop-i.i ≡ c.figure_fits.result && places (c.loop-i.i + 1)
told c =
    let long : length c.args.held.figures ≡ output_limit = search rules in
    figure_here (output_at (word_at c.args.image.now.stored.bytes.now)) _ c.args.held.figures c.loop-i.i c.figure_fits.result c.figure_fits.ensures.of_output c.figure_fits.ensures.past (omega arith)

pub returns-then-not-figure_fits : goal.returns-then-not-figure_fits
returns-then-not-figure_fits c =
    let e = told (goal.at.returns-then-not-figure_fits c).After-figure_fits in
    let no = rw c.if-not-figure_fits.true at e in
    sym no ∙ c.loop-i.invariant ∙ whole _ _ c.args.held c.args.image.now.stored.heads.outputs.rows

pub loop-i-preserved : goal.loop-i-preserved
loop-i-preserved c =
    let e = told (goal.at.loop-i-preserved c).After-figure_fits in
    let yes = rw c.if-not-figure_fits.false at e in
    sym yes ∙ c.loop-i.invariant

pub returns : goal.returns
returns c =
    let long : length c.args.held.figures ≡ output_limit = search rules in
    let image = c.args.image.now in
    let few = outputs_few (word_at image.stored.bytes.now) image.sound in
    sym (figures_end _ image.stored.header.outputs.rows c.args.held.figures c.loop-i.i (omega (arith, image.stored.heads.outputs.rows)) (omega arith)) ∙ c.loop-i.invariant ∙ whole _ _ c.args.held c.args.image.now.stored.heads.outputs.rows
