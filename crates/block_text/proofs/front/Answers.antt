use mathlib.Core.Path.{ap, ◌∙◌}
use Rattle.block_text.specs.Block.{front_text}
use Rattle.block_text.proofs.Laws as laws
use Rattle.block_text.proofs.front.Goals as goal

pub inputs-i-requires : goal.inputs-i-requires
inputs-i-requires c =
    laws.ready_inputs _ _ _ _ c.expect-c.ensures.step c.block_name-name.ensures

pub outputs-o-requires : goal.outputs-o-requires
outputs-o-requires c =
    laws.ready_outputs _ _ _ _ c.expect-c.ensures.step c.block_name-name.ensures _ _ c.inputs-i.ensures

pub input_terms-p-requires : goal.input_terms-p-requires
input_terms-p-requires c =
    laws.ready_terms _ _ _ _ c.expect-c.ensures.step c.block_name-name.ensures _ _ c.inputs-i.ensures _ _ c.outputs-o.ensures

pub output_terms-q-requires : goal.output_terms-q-requires
output_terms-q-requires c =
    laws.ready_singletons _ _ _ _ c.expect-c.ensures.step c.block_name-name.ensures _ _ c.inputs-i.ensures _ _ c.outputs-o.ensures
    _ _ c.input_terms-p.ensures

pub returns : goal.returns
returns c =
    let a = c.begin in
    let s = c.args.s.now in
    let r = laws.whole _ _ _ _ c.expect-c.ensures.step c.block_name-name.ensures _ _ c.inputs-i.ensures _ _ c.outputs-o.ensures
    _ _ c.input_terms-p.ensures c.output_terms-q.ensures in
    record {
      result_value = r.reads ∙ ap front_text (laws.begun s a.result a.ensures.n_value);
      good = r.good;
    }
