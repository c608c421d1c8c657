use Rattle.load.proofs.Laws.{judged}
use Rattle.load.proofs.examine.Goals as goal

pub returns : goal.returns
returns c = rw c.ok_or.ensures.value (judged _ _ c.checked.ensures)
