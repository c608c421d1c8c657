use mathlib.Core.Path.{sym, ap}
use Rattle.reader.proofs.Laws as laws
use lib.ListN.{length}
use Rattle.model.specs.Outcome.{length_in, buffer_after}
use Rattle.reader.proofs.read.Goals as goal

pub returns-then-s-gt-TEXT : goal.returns-then-s-gt-TEXT
returns-then-s-gt-TEXT c =
    let e = laws.long (length c.args.out.now) c.args.s.now c.if-s-gt-TEXT.true in
    record {
      result_value = ap length_in (sym e);
      buffer = ap (buffer_after c.args.out.now) (sym e);
    }

pub read_on-requires : goal.read_on-requires
read_on-requires c = (c.front-p.ensures.good, c.front-p.ensures.result_value, c.if-s-gt-TEXT.false)
