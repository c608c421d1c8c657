use mathlib.Core.Path.{◌≡◌}
use Prim.Native.Nat.{◌+◌, ◌-◌}
use native.Mathlib.Omega.{arith}
use Rattle.model.specs.Image.{word_at, term_at}
use Rattle.model.specs.WellFormed.{term_ok}
use Rattle.laws.proofs.Lists.{all_at}
use Rattle.layout.proofs.Within.{inputs_first}
use Rattle.fuzzify_listing.proofs.input_terms.Goals as goal

pub overflow_step-t : goal.overflow_step-t
overflow_step-t c =
    let image = c.args.image.now in
    let inputs = inputs_first (word_at image.stored.bytes.now) image.sound.frame in
    record { fits = omega (arith, c.requires.0, inputs, image.stored.heads.fits 4) }

pub input_term-requires : goal.input_term-requires
input_term-requires c =
    let image = c.args.image.now in
    let a = c.args in
    let g = term_at (word_at image.stored.bytes.now) in
    let inputs = inputs_first (word_at image.stored.bytes.now) image.sound.frame in
    let t : a.first + (c.loop-t.t - 1 - a.first) ≡ c.loop-t.t - 1 = omega (arith, c.loop-t.invariant.0) in
    let ok = all_at term_ok g a.n a.first (c.loop-t.t - 1 - a.first) (omega (arith, c.loop-t.invariant.0)) c.requires.1 in (
      omega (arith, c.requires.0, inputs, image.stored.heads.terms.rows),
      omega (arith, c.requires.0),
      rw t at ok,
    )
