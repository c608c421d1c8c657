use mathlib.Core.Path.{refl}
use Rattle.cursor.proofs.Laws as laws
use Rattle.cursor.proofs.begin.Goals as goal

pub returns : goal.returns
returns c =
    let e = c.next-t.ensures in
    record {
      n_value = (λ b n. laws.begun _ c.next-t.result b n e.rest_value);
      fits = record { order = e.within.0; inside = e.within.1; halted = λ q. refl };
    }
