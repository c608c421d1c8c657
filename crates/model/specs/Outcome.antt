-- What every part of document 01 answers: a result, or a refusal's number and its place where it has one.
use Rattle.std.specs.Prelude.{List, ◌++◌, ℕ, ltb, length, drop, if◌then◌else◌}
use Rattle.std.proofs.Math.Option.{Option, some}

pub data Outcome (A : Type 0) : Type 0 where
  accepted : A → Outcome A
  refused : ℕ → Option ℕ → Outcome A

-- the next step, or the refusal
abbrev pub and_then : {A B : Type 0} → Outcome A → (A → Outcome B) → Outcome B
and_then (accepted a) f = f a
and_then (refused n p) f = refused n p

-- whether, and by which number and place not
abbrev pub verdict_in : {A : Type 0} → Outcome A → Outcome (Unit {0})
verdict_in o = and_then o (λ a. accepted tt)

-- bytes into a lent buffer of some room: 10 with the length that is needed
unfoldable pub into : ℕ → List ℕ → Outcome (List ℕ)
into room s = if ltb room (length s) then refused 10 (some (length s)) else accepted s

abbrev pub length_in : Outcome (List ℕ) → Outcome ℕ
length_in o = and_then o (λ s. accepted (length s))

-- what the buffer holds then: bytes past the end stay, and on a refusal all of them
abbrev pub buffer_after : List ℕ → Outcome (List ℕ) → List ℕ
buffer_after old (accepted s) = s ++ drop (length s) old
buffer_after old (refused n p) = old
