-- Buffers and refusal numbers: room that is short, fits or is left over; what every refusal's number and place are.
use mathlib.Core.Bool.{true, false}
use mathlib.Core.List.{List, [], ◌∷◌, ◌++◌, map}
use mathlib.Core.Option.{none, some}
use mathlib.Core.Path.{◌≡◌, refl, ap}
use Prim.Native.Nat.{ℕ}
use native.Mathlib.Omega.{arith}
use lib.ListN.{length, drop, replicate}
use Rattle.std.specs.Prelude.{Ok, Err}
use Rattle.model.specs.Basic.{bytes}
use Rattle.model.specs.Outcome.{Outcome, accepted, refused, into, length_in, verdict_in, buffer_after}
use Rattle.model.specs.Refusals.{refusal_of, written_of, verdict_of}
use Rattle.model.specs.Image.{image}
use Rattle.model.specs.Buffers.{reads_into, lists_into, ReadsTo}
use Rattle.model.specs.declared.Refusal.{Refusal}
use Rattle.model.specs.declared.Refusal.TheVariants.{TextTooLong, WrongToken, WrongNumber, WrongName, NotDeclared, TooMany, WrongPosition, Unpaired, PartMissing, BufferTooShort, ImageNotAccepted, WrongCount, WrongHeld, WrongReading, TextOver}
use Rattle.model.proofs.Opened.{opened}
use Rattle.model.proofs.Example.{example_text, trust, example_listing}

-- REFUSAL NUMBERS
abbrev refusals : List Refusal
refusals =
    TextTooLong ∷ WrongToken 21 ∷ WrongNumber 31 ∷ WrongName 41 ∷ NotDeclared 51 ∷ TooMany 61 ∷ WrongPosition 71 ∷ Unpaired 81 ∷ PartMissing 91
    ∷ BufferTooShort 101 ∷ ImageNotAccepted ∷ WrongCount ∷ WrongHeld ∷ WrongReading 7 ∷ TextOver ∷ []

abbrev numbered : {A : Type 0} → List (Outcome A)
numbered =
    refused 1 (some 0) ∷ refused 2 (some 21) ∷ refused 3 (some 31) ∷ refused 4 (some 41) ∷ refused 5 (some 51) ∷ refused 6 (some 61)
    ∷ refused 7 (some 71) ∷ refused 8 (some 81) ∷ refused 9 (some 91) ∷ refused 10 (some 101) ∷ refused 11 none ∷ refused 12 none
    ∷ refused 13 none ∷ refused 14 (some 7) ∷ refused 16 none ∷ []

refusal_numbers : map (λ r. refusal_of {A = ℕ} r) refusals ≡ numbered
refusal_numbers = refl

written_numbers : map written_of (Ok 5 ∷ map Err refusals) ≡ accepted 5 ∷ numbered
written_numbers = refl

verdict_numbers : map verdict_of (Ok tt ∷ map Err refusals) ≡ accepted tt ∷ numbered
verdict_numbers = refl

-- ROOM: one byte short, exact, one byte more
rooms : map (λ n. into n (7 ∷ 8 ∷ [])) (0 ∷ 1 ∷ 2 ∷ 3 ∷ []) ≡ refused 10 (some 2) ∷ refused 10 (some 2) ∷ accepted (7 ∷ 8 ∷ []) ∷ accepted (7 ∷ 8 ∷ []) ∷ []
unfolding opened
rooms = refl

-- the length that is answered, and whether
lengths : map length_in (accepted (7 ∷ 8 ∷ []) ∷ refused 10 (some 2) ∷ refused 11 none ∷ []) ≡ accepted 2 ∷ refused 10 (some 2) ∷ refused 11 none ∷ []
lengths = refl

verdicts : map (verdict_in {A = List ℕ}) (accepted (7 ∷ []) ∷ refused 2 (some 9) ∷ refused 11 none ∷ [])
    ≡ accepted tt ∷ refused 2 (some 9) ∷ refused 11 none ∷ []
verdicts = refl

-- bytes past the end stay, and on a refusal all
buffers :
    buffer_after (1 ∷ 2 ∷ 3 ∷ 4 ∷ []) (accepted (7 ∷ 8 ∷ [])) ∷ buffer_after (1 ∷ 2 ∷ []) (accepted (7 ∷ 8 ∷ []))
    ∷ buffer_after (1 ∷ []) (refused 10 (some 2)) ∷ buffer_after (1 ∷ 2 ∷ 3 ∷ []) (refused 2 (some 0)) ∷ []
    ≡ (7 ∷ 8 ∷ 3 ∷ 4 ∷ []) ∷ (7 ∷ 8 ∷ []) ∷ (1 ∷ []) ∷ (1 ∷ 2 ∷ 3 ∷ []) ∷ []
buffers = refl

-- THE READER: the example's image has 91 words; 10 comes last
reader_rooms : map (λ n. reads_into n example_text) (0 ∷ 363 ∷ 364 ∷ 365 ∷ [])
    ≡ refused 10 (some 364) ∷ refused 10 (some 364) ∷ accepted (image trust) ∷ accepted (image trust) ∷ []
unfolding opened
reader_rooms = refl

reader_refused_first : map (λ n. reads_into n (bytes "FUNCTION_BLOCK")) (0 ∷ 9 ∷ []) ≡ refused 2 (some 14) ∷ refused 2 (some 14) ∷ []
unfolding opened
reader_refused_first = refl

reader_buffer : buffer_after (replicate 367 9) (reads_into 367 example_text) ≡ image trust ++ (9 ∷ 9 ∷ 9 ∷ [])
unfolding opened
reader_buffer = refl

-- THE LISTER: the example's listing has 449 bytes; 11, then 10
lister_rooms : map (λ n. lists_into n (image trust)) (0 ∷ 448 ∷ 449 ∷ 450 ∷ [])
    ≡ refused 10 (some 449) ∷ refused 10 (some 449) ∷ accepted example_listing ∷ accepted example_listing ∷ []
unfolding opened
lister_rooms = refl

lister_refused_first : map (λ n. lists_into n (drop 1 (image trust))) (0 ∷ 449 ∷ []) ≡ refused 11 none ∷ refused 11 none ∷ []
unfolding opened
lister_refused_first = refl

-- TEXTS OF BYTES: the example and its listing read to its image; a number that is no byte stands in no text
example_reads_to : ReadsTo example_text (image trust) × ReadsTo example_listing (image trust)
unfolding opened
example_reads_to = ((refl, refl), (refl, refl))

impossible : false ≡ true → ⊥
impossible h = let z : ◌≡◌ {A = ℕ} 0 1 = cc in omega arith

no_byte : (img : List ℕ) → ReadsTo (example_text ++ (bytes "(*" ++ (256 ∷ bytes "*)"))) img → ⊥
unfolding opened
no_byte img h = impossible h.0

-- another image, and a text that is refused
abbrev length_of : Outcome (List ℕ) → ℕ
length_of (accepted s) = length s
length_of (refused n p) = 0

no_other_image : ReadsTo example_text (1 ∷ []) → ⊥
unfolding opened
no_other_image h = let z : ◌≡◌ {A = ℕ} 364 1 = ap length_of h.1 in omega (arith, z)

no_image_of_refused : ReadsTo (bytes "FUNCTION_BLOCK") (1 ∷ []) → ⊥
unfolding opened
no_image_of_refused h = let z : ◌≡◌ {A = ℕ} 0 1 = ap length_of h.1 in omega (arith, z)
