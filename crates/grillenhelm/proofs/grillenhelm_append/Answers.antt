use mathlib.Core.Path.{ap, ◌∙◌}
use Rattle.model.specs.Chunks.{chunk, answer_in}
use Rattle.outcome_crossing.specs.Outcomes.{bare_outcome}
use Rattle.outcome_crossing.proofs.Outcomes.{told_then}
use Rattle.grillenhelm.proofs.grillenhelm_append.Goals as goal

pub returns : goal.returns
returns c =
    let a = c.args in
    let o = answer_in (record { store = a.store.now; count = a.count.now }) (chunk a.chunk.now) in
    record {
      value = c.verdict.ensures ∙ ap bare_outcome c.append-v.ensures.0 ∙ told_then (λ u. 0) (λ s. tt) o;
      state = c.append-v.ensures.1;
    }
