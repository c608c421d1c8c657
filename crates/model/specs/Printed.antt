-- What the listing program prints of a text: its listing, or the refusal.
use Rattle.std.specs.Prelude.{List, ℕ}
use Rattle.std.proofs.Math.Option.{Option, none, some}
use Rattle.model.specs.Basic.{bytes}
use Rattle.model.specs.Block.{Block}
use Rattle.model.specs.Outcome.{Outcome, accepted, refused}
use Rattle.model.specs.Reader.{reads}
use Rattle.model.specs.Listing.{◌⊕◌, digits, listing}

abbrev pub place_text : Option ℕ → List ℕ
place_text none = bytes "none"
place_text (some p) = digits p

unfoldable pub refused_line : ℕ → Option ℕ → List ℕ
refused_line n p = bytes "refused " ⊕ digits n ⊕ bytes " at " ⊕ place_text p ⊕ bytes "\n"

abbrev pub outcome_text : Outcome Block → List ℕ
outcome_text (accepted b) = listing b
outcome_text (refused n p) = refused_line n p

unfoldable pub printed : List ℕ → List ℕ
printed s = outcome_text (reads s)
