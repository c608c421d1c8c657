use Rattle.readings.proofs.Bits.{no_nan}
use Rattle.values_to_check.proofs.write_float.Goals as goal

pub float_to_bits-bits : goal.float_to_bits-bits
float_to_bits-bits g c = no_nan c.args.x c.if-x.false
