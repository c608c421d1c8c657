use mathlib.Core.Path.{ap, ◌∙◌}
use lib.ListN.{length}
use Rattle.model.specs.Chunks.{finish, answer_in}
use Rattle.outcome_crossing.specs.Outcomes.{outcome_of}
use Rattle.outcome_crossing.proofs.Outcomes.{told_then}
use Rattle.grillenhelm.proofs.grillenhelm_finish.Goals as goal

pub returns : goal.returns
returns c =
    let a = c.args in
    let o = answer_in (record { store = a.store.now; count = a.count.now }) (finish a.image.now) in
    let e = c.finish-w.ensures in
    record {
      value = c.written.ensures ∙ ap (outcome_of (λ n. n)) e.0.0 ∙ told_then (λ n. n) length o;
      buffer = e.0.1;
      state = e.1;
    }
