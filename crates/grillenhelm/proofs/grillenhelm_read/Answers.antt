use mathlib.Core.Path.{ap, ◌∙◌}
use lib.ListN.{length}
use Rattle.model.specs.Buffers.{reads_into}
use Rattle.outcome_crossing.specs.Outcomes.{outcome_of}
use Rattle.outcome_crossing.proofs.Outcomes.{told_then}
use Rattle.grillenhelm.proofs.grillenhelm_read.Goals as goal

pub returns : goal.returns
returns c =
    let a = c.args in
    let o = reads_into (length a.image.now) a.text.now in
    record {
      value = c.written.ensures ∙ ap (outcome_of (λ n. n)) c.read-w.ensures.result_value ∙ told_then (λ n. n) length o;
      buffer = c.read-w.ensures.buffer;
    }
