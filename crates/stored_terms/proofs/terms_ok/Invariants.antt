use mathlib.Core.Path.{◌≡◌}
use Prim.Native.Nat.{◌+◌, ◌-◌}
use Rattle.model.specs.Basic.{all, tab}
use Rattle.model.specs.WellFormed.{term_ok}
use Rattle.model.specs.Image.{word_at, term_at}
use Rattle.stored_terms.proofs.terms_ok.Given as goal

abbrev pub invariant-loop-t : goal.invariant-loop-t
invariant-loop-t l =
    let f = term_at (word_at l.image.stored.bytes.now) in
    all term_ok (tab f (l.s + l.k - l.t) l.t) ≡ all term_ok (tab f l.k l.s)
