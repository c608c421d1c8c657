use Rattle.readings.proofs.Bits.{no_nan}
use Rattle.vectors.proofs.write_bits.Goals as goal

pub float_to_bits-bits : goal.float_to_bits-bits
float_to_bits-bits g c = no_nan c.args.x c.if-x.false
