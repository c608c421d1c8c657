use Rattle.std.proofs.Common.{ℕ, length, ap, arith, length-take-le}
use Rattle.term_rows.specs.Rows.{singleton_rows}
use Rattle.image.specs.Rows.{variable_rows}
use Rattle.word_writer.proofs.Over.{joined, retold}
use Rattle.variable_rows.proofs.Views.{inputs_named, outputs_named}
use Rattle.variable_rows.proofs.Fronts.{inputs_front_named, inputs_front_size, inputs_front_rows, outputs_front_named, outputs_front_size, outputs_front_rows}
use Rattle.term_rows.proofs.Views.{terms_named, singletons_named}
use Rattle.image.proofs.variables.Goals as goal

pub input_table-at-requires : goal.input_table-at-requires
input_table-at-requires c =
    let h = c.requires in
    let g = h.0 in
    let t = c.args.t.now in
    rw (length-take-le t.input_count t.inputs (omega (arith, g.input_count, g.inputs_size)))
    (g.input_count, inputs_front_named t.inputs t.input_count c.args.s.now (inputs_named _ _ g), inputs_front_size t.inputs t.input_count g.input_terms, omega (arith, h))

pub output_table-at-requires : goal.output_table-at-requires
output_table-at-requires c =
    let h = c.requires in
    let g = h.0 in
    let t = c.args.t.now in
    let p = c.input_table-at in
    let i = length-take-le t.input_count t.inputs (omega (arith, g.input_count, g.inputs_size)) in
    rw (length-take-le t.output_count t.outputs (omega (arith, g.output_count, g.outputs_size))) (
      g.output_count,
      h.1.few,
      outputs_front_named t.outputs t.output_count c.args.s.now (outputs_named _ _ g),
      outputs_front_size t.outputs t.output_count g.output_terms,
      omega (arith, h, p.ensures.next, p.auto),
    )

pub term_table-at-requires : goal.term_table-at-requires
term_table-at-requires c =
    let h = c.requires in
    let g = h.0 in
    let t = c.args.t.now in
    let i = length-take-le t.input_count t.inputs (omega (arith, g.input_count, g.inputs_size)) in
    let o = length-take-le t.output_count t.outputs (omega (arith, g.output_count, g.outputs_size)) in
    let p = c.input_table-at in
    let q = c.output_table-at in
    (h.1, g.point_counts, terms_named _ _ g, omega (arith, h, p.ensures.next, p.auto, q.ensures.next, q.auto))

pub singleton_table-at-requires : goal.singleton_table-at-requires
singleton_table-at-requires c =
    let h = c.requires in
    let g = h.0 in
    let t = c.args.t.now in
    let i = length-take-le t.input_count t.inputs (omega (arith, g.input_count, g.inputs_size)) in
    let o = length-take-le t.output_count t.outputs (omega (arith, g.output_count, g.outputs_size)) in
    let p = c.input_table-at in
    let q = c.output_table-at in
    let r = c.term_table-at in
    (h.2, h.4, singletons_named _ _ g, omega (arith, h, p.ensures.next, p.auto, q.ensures.next, q.auto, r.ensures.next, r.auto))

pub point_table-at-requires : goal.point_table-at-requires
point_table-at-requires c =
    let h = c.requires in
    let g = h.0 in
    let t = c.args.t.now in
    let i = length-take-le t.input_count t.inputs (omega (arith, g.input_count, g.inputs_size)) in
    let o = length-take-le t.output_count t.outputs (omega (arith, g.output_count, g.outputs_size)) in
    let p = c.input_table-at in
    let q = c.output_table-at in
    let r = c.term_table-at in
    let e = c.singleton_table-at in
    (h.1, g.point_counts, omega (arith, h, p.ensures.next, p.auto, q.ensures.next, q.auto, r.ensures.next, r.auto, e.ensures.next, e.auto))

pub singleton_points-requires : goal.singleton_points-requires
singleton_points-requires c =
    let h = c.requires in
    let g = h.0 in
    let t = c.args.t.now in
    let i = length-take-le t.input_count t.inputs (omega (arith, g.input_count, g.inputs_size)) in
    let o = length-take-le t.output_count t.outputs (omega (arith, g.output_count, g.outputs_size)) in
    let p = c.input_table-at in
    let q = c.output_table-at in
    let r = c.term_table-at in
    let e = c.singleton_table-at in
    let f = c.point_table-at in
    (h.2, omega (arith, h, p.ensures.next, p.auto, q.ensures.next, q.auto, r.ensures.next, r.auto, e.ensures.next, e.auto, f.ensures.next, f.auto))

pub returns : goal.returns
unfolding variable_rows
returns c =
    let a = c.args in
    let h = c.requires in
    let g = h.0 in
    let t = a.t.now in
    let i = length-take-le t.input_count t.inputs (omega (arith, g.input_count, g.inputs_size)) in
    let o = length-take-le t.output_count t.outputs (omega (arith, g.output_count, g.outputs_size)) in
    let p = c.input_table-at in
    let q = c.output_table-at in
    let r = c.term_table-at in
    let e = c.singleton_table-at in
    let f = c.point_table-at in
    let s = c.singleton_points in
    let singles = retold (ap (λ (x : ℕ). singleton_rows a.s.now t.output_terms a.others.now (length a.others.now) x) h.3) e.ensures.wrote in
    record {
      wrote = joined (omega (arith, h, p.ensures.next)) (retold (inputs_front_rows t.inputs t.input_count a.s.now (omega (arith, g.input_count, g.inputs_size))) p.ensures.wrote)
          (joined (omega (arith, h, p.ensures.next, p.auto, q.ensures.next))
          (retold (outputs_front_rows t.outputs t.output_count a.s.now (length a.own.now) (omega (arith, g.output_count, g.outputs_size))) q.ensures.wrote)
          (joined (omega (arith, h, p.ensures.next, p.auto, q.ensures.next, q.auto, r.ensures.next)) r.ensures.wrote
          (joined (omega (arith, h, p.ensures.next, p.auto, q.ensures.next, q.auto, r.ensures.next, r.auto, e.ensures.next)) singles
          (joined (omega (arith, h, p.ensures.next, p.auto, q.ensures.next, q.auto, r.ensures.next, r.auto, e.ensures.next, e.auto, f.ensures.next)) f.ensures.wrote
          s.ensures.wrote))));
      next = omega (arith, p.ensures.next, q.ensures.next, r.ensures.next, e.ensures.next, f.ensures.next, s.ensures.next);
    }
