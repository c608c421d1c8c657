-- A helper: a text at the front of a buffer. The contract of `print` ties it to model's `printed`.
use Rattle.std.specs.Prelude.{◌≡◌, List, ◌++◌, ℕ, length, drop}
use Rattle.std.proofs.Math.Option.{Option}
use Rattle.model.specs.Outcome.{refused}
use Rattle.model.specs.Refusals.{refusal_of}
use Rattle.model.specs.Printed.{refused_line}
use Rattle.model.specs.declared.Refusal.{Refusal}

-- the first r bytes of the buffer old, which is new then, are the text; the others stay
pub record Shows (text : List ℕ) (r : ℕ) (old new : List ℕ) : Type 0 where
  pub count : r ≡ length text
  pub contents : new ≡ text ++ drop r old

-- it is the line of a refusal
pub record ShowsRefusal (why : Refusal) (r : ℕ) (old new : List ℕ) : Type 0 where
  pub number : ℕ
  pub place : Option ℕ
  pub told : refusal_of {A = ℕ} why ≡ refused number place
  pub shows : Shows (refused_line number place) r old new
