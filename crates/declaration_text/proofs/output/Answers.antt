use native.Mathlib.Omega.{arith}
use borrow.Author.Tests.{ltb-true}
use Rattle.model.specs.Bounds.{output_limit}
use Rattle.model.specs.Declarations.{add_output, output_count}
use Rattle.block_tables.specs.declared.Tables.{Tables}
use Rattle.block_tables.proofs.Outputs.{output_added}
use mathlib.Core.Path.{refl}
use Rattle.cursor.proofs.Laws.{never_zero}
use Rattle.declaration_text.proofs.Laws as laws
use Rattle.declaration_text.specs.Declares.{with_outputs}
use Rattle.declaration_text.proofs.output.Goals as goal

pub returns-in-Err : goal.returns-in-Err
returns-in-Err c =
    let a = c.args in
    let u : Tables → Tables = λ t. (with_outputs a.m a.names.now a.p t).tables in
    record {
      collects = λ t g.
          laws.variable_bad add_output output_count output_limit a.s.now a.p.cursor (u t) _ (laws.declares a.s.now (u t) g.holds).outputs
          c.refuse_for-r.result _ (c.in-Err.ensures.value _ 0 (laws.declares a.s.now (u t) g.holds)) g.holds
          (never_zero c.in-Err.fault) (c.refuse_for-r.ensures.by_index _ g.fits);
      moves = c.refuse_for-r.ensures.moves _ c.requires.good.fits;
    }

pub returns : goal.returns
returns c =
    let a = c.args in
    let u : Tables → Tables = λ t. (with_outputs a.m a.names.now a.p t).tables in
    let e = c.in_default.ensures in
    record {
      collects = λ t g.
          laws.variable_good add_output output_count output_limit a.s.now a.p.cursor (u t) _ (laws.declares a.s.now (u t) g.holds).outputs
          c.advance-r.result _ (e.value _ 0 (laws.declares a.s.now (u t) g.holds)) _ g.fits (λ q. omega (arith, e.passed.0)) refl
          (output_added a.s.now (u t) a.p.cursor.start a.p.cursor.end (ltb-true _ _ e.passed.1) g.holds g.fits.order g.fits.inside)
          c.advance-r.ensures.step;
      moves = λ h. c.advance-r.ensures.moves.0;
    }
