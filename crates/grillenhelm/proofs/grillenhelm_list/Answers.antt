use mathlib.Core.Path.{ap, ◌∙◌}
use lib.ListN.{length}
use Rattle.model.specs.Buffers.{lists_into}
use Rattle.outcome_crossing.specs.Outcomes.{outcome_of}
use Rattle.outcome_crossing.proofs.Outcomes.{told_then}
use Rattle.grillenhelm.proofs.grillenhelm_list.Goals as goal

pub returns : goal.returns
returns c =
    let a = c.args in
    let o = lists_into (length a.text.now) a.image.now in
    record {
      value = c.written.ensures ∙ ap (outcome_of (λ n. n)) c.list-w.ensures.result_value ∙ told_then (λ n. n) length o;
      buffer = c.list-w.ensures.buffer;
    }
