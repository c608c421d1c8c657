-- Every definition of specs/ and of `model`, opened: an example whose line says `unfolding opened` is computed.
use Prim.Native.Nat.{ℕ}
use Rattle.model.proofs.Opened.{opened as the-model}
use Rattle.demand_3.specs.Calls.{all_fit, right_call, ruling, input_degrees, answers_of, figures_after, answered, defined, parts, degrees_of, degrees_in, last_figures, outputs_seen, seen, raised}

unfoldable pub opened : ℕ
unfolding the-model all_fit right_call ruling input_degrees answers_of figures_after answered defined parts degrees_of degrees_in last_figures outputs_seen seen raised
opened = 0
