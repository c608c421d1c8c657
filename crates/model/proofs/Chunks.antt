-- Texts in chunks: cut at awkward places, refusals kept until the end, the limit, calls after the end, and the state that is lent.
use mathlib.Core.Bool.{true, false, true≢false}
use mathlib.Core.List.{List, [], ◌∷◌, ◌++◌, map, append-nil}
use mathlib.Core.Option.{none, some}
use mathlib.Core.Path.{◌≡◌, refl, sym, ap, ◌∙◌}
use Prim.Native.Nat.{ℕ, ◌≤◌}
use native.Mathlib.Omega.{arith}
use borrow.Author.Tests.{lt-ltb, le-ltb}
use lib.ListN.{length, take, drop, replicate, length-drop}
use Rattle.std.specs.Prelude.{Ok, Err}
use Rattle.model.specs.Basic.{bytes, gather}
use Rattle.model.specs.Bounds.{text_limit}
use Rattle.model.specs.Outcome.{accepted, refused}
use Rattle.model.specs.Image.{image}
use Rattle.model.specs.Buffers.{reads_into}
use Rattle.model.specs.Chunks.{TextCall, chunk, finish, text_of, any_finish, is_over, answer, answer_after, TextState, is_open, bytes_in, answer_in, behind, closed, state_after, Made, appended, finished, call_of, state_then, Tells, Trace, EachCall}
use Rattle.model.specs.declared.Refusal.TheVariants.{WrongToken, TextOver}
use Rattle.model.proofs.Opened.{opened}
use Rattle.model.proofs.Example.{example_text, trust}

-- HOWEVER IT IS CUT: between the parenthesis and the star of a comment, inside FUNCTION_BLOCK, between colon and equals sign, inside
-- a number, with empty chunks between
abbrev cut : List TextCall
cut =
    chunk (bytes "(") ∷ chunk (bytes "* serial *)") ∷ chunk [] ∷ chunk (take 5 example_text) ∷ chunk (take 105 (drop 5 example_text))
    ∷ chunk (take 12 (drop 110 example_text)) ∷ chunk [] ∷ chunk [] ∷ chunk (drop 122 example_text) ∷ []

cut_read : answer_after cut (finish (replicate 364 0)) ≡ accepted (image trust)
unfolding opened
cut_read = refl

-- REFUSALS, kept until the end: a name is missing, whatever comes behind; the place from the first byte of the text, cut before it,
-- behind it or inside; the empty text; a buffer that is short, which comes last
kept : map (answer_after (chunk (bytes "FUNCTION_BLOCK\n  VAR_INPUT") ∷ [])) (chunk (bytes ";") ∷ chunk [] ∷ []) ≡ accepted [] ∷ accepted [] ∷ []
unfolding opened
kept = refl

abbrev wrong : List (List TextCall)
wrong =
    (chunk (bytes "FUNCTION_BLOCK\n  VAR_INPUT") ∷ []) ∷ (chunk (bytes "FUNCTION_BLOCK\n ") ∷ chunk (bytes " VAR_INPUT") ∷ [])
    ∷ (chunk (bytes "FUNCTION_BLOCK\n  ") ∷ chunk (bytes "VAR_INPUT") ∷ []) ∷ (chunk (bytes "FUNCTION_BLOCK\n  VA") ∷ chunk (bytes "R_INPUT") ∷ []) ∷ []

wrong_place : map (λ cs. answer_after cs (finish [])) wrong
    ≡ refused 2 (some 17) ∷ refused 2 (some 17) ∷ refused 2 (some 17) ∷ refused 2 (some 17) ∷ []
unfolding opened
wrong_place = refl

no_text : map (λ cs. answer_after cs (finish [])) ([] ∷ (chunk [] ∷ chunk [] ∷ []) ∷ []) ≡ refused 2 (some 0) ∷ refused 2 (some 0) ∷ []
unfolding opened
no_text = refl

short : answer_after (chunk (take 200 example_text) ∷ chunk (drop 200 example_text) ∷ []) (finish (replicate 363 0)) ≡ refused 10 (some 364)
unfolding opened
short = refl

-- AFTER THE END, whatever it answered, 2, an image or 10: a chunk, an empty one, the end again
abbrev calls : List TextCall
calls = chunk (1 ∷ []) ∷ chunk [] ∷ finish [] ∷ finish (replicate 364 0) ∷ []

abbrev over_by : List (List TextCall)
over_by =
    (finish [] ∷ []) ∷ (chunk example_text ∷ finish (replicate 364 0) ∷ []) ∷ (chunk example_text ∷ finish [] ∷ [])
    ∷ (chunk (1 ∷ []) ∷ finish [] ∷ chunk example_text ∷ []) ∷ []

ended : gather (λ cs. map (answer_after cs) calls) over_by ≡ replicate 16 (refused 16 none)
unfolding opened
ended = refl

-- THE LIMIT
-- a text up to it is read at once, whatever its chunks
joined : (ds : List (List ℕ)) → text_of (map chunk ds) ≡ gather (λ d. d) ds
unfolding opened
joined [] = refl
joined (d ∷ ds) = ap (λ (s : List ℕ). d ++ s) (joined ds)

no_end : (ds : List (List ℕ)) → any_finish (map chunk ds) ≡ false
unfolding opened
no_end [] = refl
no_end (d ∷ ds) = no_end ds

module _ (ds : List (List ℕ)) (s buffer : List ℕ) (e : gather (λ d. d) ds ≡ s) (h : length s ≤ text_limit) where
  none_passed : is_over (map chunk ds) ≡ false
  none_passed = rw (no_end ds) (le-ltb text_limit (length (text_of (map chunk ds))) (omega (arith, ap length (joined ds ∙ e))))

  pub however_cut : answer_after (map chunk ds) (finish buffer) ≡ reads_into (length buffer) s
  unfolding answer
  however_cut = rw (none_passed, joined ds, e) refl

-- 65,536 bytes are kept; one more is refused by 1 at 0 with the chunk that it comes with, whatever stood before; that counts as the
-- end
module _ (s d : List ℕ) where
  not_over : length s ≤ 65536 → is_over (chunk s ∷ []) ≡ false
  unfolding text_of any_finish
  not_over l = le-ltb text_limit (length (s ++ [])) (omega (arith, ap length (append-nil s)))

  full : length s ≤ 65536 → length (s ++ d) ≡ 65536 → answer_after (chunk s ∷ []) (chunk d) ≡ accepted []
  unfolding answer text_of
  full l e = rw (not_over l, append-nil s, e) refl

  passed : length s ≤ 65536 → length (s ++ d) ≡ 65537 → answer_after (chunk s ∷ []) (chunk d) ≡ refused 1 (some 0)
  unfolding answer text_of
  passed l e = rw (not_over l, append-nil s, e) refl

  counts_as_end : length (s ++ d) ≡ 65537 → is_over (chunk s ∷ chunk d ∷ []) ≡ true
  unfolding text_of any_finish
  counts_as_end e = lt-ltb text_limit (length (s ++ (d ++ []))) (omega (arith, e, ap (λ (r : List ℕ). length (s ++ r)) (append-nil d)))

  then_over : (c : TextCall) → length (s ++ d) ≡ 65537 → answer_after (chunk s ∷ chunk d ∷ []) c ≡ refused 16 none
  unfolding answer
  then_over c e = rw (counts_as_end e) refl

-- THE STATE
-- a chunk behind the bytes so far, the rest as it was; a text that is over
abbrev state : List ℕ → ℕ → TextState
state s n = record { store = s; count = n }

states : behind (state (1 ∷ 2 ∷ 3 ∷ 4 ∷ 5 ∷ []) 2) (8 ∷ 9 ∷ []) ∷ behind (state (1 ∷ 2 ∷ []) 1) [] ∷ closed (state (1 ∷ 2 ∷ []) 1) ∷ []
    ≡ state (1 ∷ 2 ∷ 8 ∷ 9 ∷ 5 ∷ []) 4 ∷ state (1 ∷ 2 ∷ []) 1 ∷ state (1 ∷ 2 ∷ []) 65537 ∷ []
states = refl

so_far : bytes_in (state (1 ∷ 2 ∷ 3 ∷ []) 2) ≡ 1 ∷ 2 ∷ []
so_far = refl

-- a store that is one byte short, or a number past the limit: over
open_or_not : (s short : List ℕ) → length s ≡ 65536 → length short ≡ 65535
    → is_open (state s 0) ∷ is_open (state s 65536) ∷ is_open (state s 65537) ∷ is_open (state s 65538) ∷ is_open (state short 0) ∷ []
    ≡ true ∷ true ∷ false ∷ false ∷ false ∷ []
open_or_not s short e f = rw (e, f) refl

-- what each call leaves: a chunk at the front of the store, the rest as it was; after 1, after the end: over; then nothing is altered
left : (s d : List ℕ) → length s ≡ 65536 → length d ≡ 65537
    → state_after (state s 0) (chunk (8 ∷ 9 ∷ [])) ∷ state_after (state s 0) (chunk d) ∷ state_after (state s 0) (finish [])
    ∷ state_after (state s 65537) (chunk (8 ∷ [])) ∷ state_after (state s 65537) (chunk d) ∷ state_after (state s 65537) (finish []) ∷ []
    ≡ state (8 ∷ 9 ∷ drop 2 s) 2 ∷ state s 65537 ∷ state s 65537 ∷ state s 65537 ∷ state s 65537 ∷ state s 65537 ∷ []
unfolding state_after
left s d e f = rw (e, f) refl

-- a store that is too short, and a number that no calls make
abbrev foreign : List TextState
foreign = state [] 0 ∷ state (1 ∷ 2 ∷ []) 0 ∷ state (1 ∷ 2 ∷ []) 2 ∷ state (1 ∷ 2 ∷ []) 65538 ∷ []

foreign_refused : gather (λ t. map (answer_in t) calls) foreign ≡ replicate 16 (refused 16 none)
unfolding opened
foreign_refused = refl

foreign_unaltered : map (λ t. state_after t (chunk (9 ∷ []))) foreign ++ map (λ t. state_after t (finish [])) foreign ≡ foreign ++ foreign
unfolding opened
foreign_unaltered = refl

-- A LIST OF CALLS on any store of 65,536 bytes: a chunk, an empty one, the end, and both after it
module _ (s : List ℕ) (room : length s ≡ 65536) where
  abbrev after_chunk : TextState
  after_chunk = state (120 ∷ drop 1 s) 1

  abbrev after_end : TextState
  after_end = state (120 ∷ drop 1 s) 65537

  abbrev made : List Made
  made =
      appended (120 ∷ []) (Ok tt) after_chunk ∷ appended [] (Ok tt) after_chunk
      ∷ finished (7 ∷ []) (Err (WrongToken 0)) (7 ∷ []) after_end ∷ appended (32 ∷ []) (Err TextOver) after_end
      ∷ finished (7 ∷ []) (Err TextOver) (7 ∷ []) after_end ∷ []

  traced : Trace (state s 0) made
  unfolding opened
  traced =
      let rest : length (drop 1 s) ≡ 65535 = omega (arith, length-drop 1 s) in
      rw (room, rest) ((refl, refl), ((refl, refl), (((refl, refl), refl), ((refl, refl), (((refl, refl), refl), tt)))))

  -- what the claim says of it
  shown : EachCall (λ cs u m. Tells m (answer_after cs (call_of m))) [] (state s 0) made
      × EachCall (λ cs u m. is_over cs ≡ true → state_then m ≡ u) [] (state s 0) made
  unfolding opened
  shown =
      let going : false ≡ true → ⊥ = λ e. true≢false (sym e) in (
        (refl, (refl, ((refl, refl), (refl, ((refl, refl), tt))))),
        (λ e. absurd (going e), (λ e. absurd (going e), (λ e. absurd (going e), (λ e. refl, (λ e. refl, tt))))),
      )
