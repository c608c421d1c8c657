use Rattle.outcome_crossing.proofs.Outcomes.{refusal_told}
use Rattle.outcome_crossing.proofs.refused.Goals as goal

pub returns : goal.returns
returns c =
    let t = c.number_and_place-t in
    rw (c.is_some.ensures, c.unwrap_or.ensures) (refusal_told _ t.result.number t.result.place t.ensures)
