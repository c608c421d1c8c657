use Rattle.std.proofs.lemmas.Float.{not_nan_f32_bits}
use Rattle.vector_cases.proofs.calls.float_of.Goals as goal

pub float_from_bits-result : goal.float_from_bits-result
float_from_bits-result c = not_nan_f32_bits c.args.n c.if-n-gt2139095040.false
