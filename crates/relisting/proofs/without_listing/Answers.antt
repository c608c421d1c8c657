use mathlib.Core.Path.{◌∙◌, sym, ap}
use Rattle.std.specs.Prelude.{ℕ, Option}
use Rattle.model.specs.Outcome.{refused}
use Rattle.refusals.specs.Told.{place_of}
use Rattle.relisting.specs.Relists.{without_listing}
use Rattle.relisting.proofs.without_listing.Goals as goal

pub returns-in-Some : goal.returns-in-Some
returns-in-Some c =
    let t = c.number_and_place in
    sym (ap without_listing t.ensures ∙ ap (λ (p : Option ℕ). without_listing (refused t.result.number (place_of p))) c.in-Some.is)

pub returns-in-None : goal.returns-in-None
returns-in-None c =
    let t = c.number_and_place in
    sym (ap without_listing t.ensures ∙ ap (λ (p : Option ℕ). without_listing (refused t.result.number (place_of p))) c.in-None.is)
