-- W-201 of document 02: a text that comes in chunks, what each call is answered and leaves, and the claim on every list of
-- calls.
use Rattle.std.specs.Prelude.{Bool, true, false, ◌&&◌, ◌||◌, not, List, [], ◌∷◌, ◌++◌, ◌≡◌, ℕ, suc, ◌+◌, ◌≤◌, ltb, leb, length, take, drop, Result, if◌then◌else◌}
use Rattle.std.proofs.Math.Option.{none, some}
use Rattle.model.specs.Bounds.{text_limit}
use Rattle.model.specs.Outcome.{Outcome, accepted, refused, verdict_in, length_in, buffer_after}
use Rattle.model.specs.Refusals.{written_of, verdict_of}
use Rattle.model.specs.Buffers.{reads_into}
use Rattle.model.specs.declared.Refusal.{Refusal}

-- CALLS
-- bytes that have come, perhaps none; or the end, with the image buffer that is lent to it
pub data TextCall : Type 0 where
  chunk : List ℕ → TextCall
  finish : List ℕ → TextCall

-- the text that some calls handed over, however it was cut
unfoldable pub text_of : List TextCall → List ℕ
text_of [] = []
text_of (chunk s ∷ cs) = s ++ text_of cs
text_of (finish buffer ∷ cs) = text_of cs

unfoldable pub any_finish : List TextCall → Bool
any_finish [] = false
any_finish (chunk s ∷ cs) = any_finish cs
any_finish (finish buffer ∷ cs) = true

-- the end was called, or the limit was passed, which counts as the end
abbrev pub is_over : List TextCall → Bool
is_over cs = any_finish cs || ltb text_limit (length (text_of cs))

-- WHAT A CALL IS ANSWERED, where the text is over or has the bytes s so far: 16 before any other check; a chunk is refused
-- by 1 where the text gets too long, and any other refusal is kept until the end, which is answered as the whole text is,
-- read at once
unfoldable pub answer : Bool → List ℕ → TextCall → Outcome (List ℕ)
answer true s c = refused 16 none
answer false s (chunk d) = if ltb text_limit (length (s ++ d)) then refused 1 (some 0) else accepted []
answer false s (finish buffer) = reads_into (length buffer) s

-- by the calls before it alone
abbrev pub answer_after : List TextCall → TextCall → Outcome (List ℕ)
answer_after cs c = answer (is_over cs) (text_of cs) c

-- WHAT THE HOST LENDS: a store that holds every text, and a number: of the bytes that have come, or that the text is over
pub record TextState : Type 0 where
  pub store : List ℕ
  pub count : ℕ

abbrev pub over : ℕ
over = suc text_limit

-- the store has room for every text, and no more bytes have come; in any other state the text is taken to be over
abbrev pub is_open : TextState → Bool
is_open t = leb text_limit (length t.store) && leb t.count text_limit

-- the bytes so far
abbrev pub bytes_in : TextState → List ℕ
bytes_in t = take t.count t.store

abbrev pub answer_in : TextState → TextCall → Outcome (List ℕ)
answer_in t c = answer (not (is_open t)) (bytes_in t) c

-- the bytes d behind the bytes so far
abbrev pub behind : TextState → List ℕ → TextState
behind t d = record { store = bytes_in t ++ (d ++ drop (t.count + length d) t.store); count = t.count + length d }

abbrev pub closed : TextState → TextState
closed t = record { store = t.store; count = over }

-- 16 alters nothing; a chunk that is kept stands behind the others; after 1 and after the end the text is over
unfoldable pub state_after : TextState → TextCall → TextState
state_after t (chunk d) =
    if not (is_open t) then t else if ltb text_limit (length (bytes_in t ++ d)) then closed t else behind t d
state_after t (finish buffer) = if not (is_open t) then t else closed t

-- A LIST OF CALLS AS A HOST MAKES IT
-- a call, what was returned and the state then; of the end also the image buffer then
pub data Made : Type 0 where
  appended : List ℕ → Result (Unit {0}) Refusal → TextState → Made
  finished : List ℕ → Result ℕ Refusal → List ℕ → TextState → Made

abbrev pub call_of : Made → TextCall
call_of (appended d r t) = chunk d
call_of (finished old r new t) = finish old

abbrev pub state_then : Made → TextState
state_then (appended d r t) = t
state_then (finished old r new t) = t

-- what was returned is this outcome, and the image buffer holds what it leaves there
abbrev pub Tells : Made → Outcome (List ℕ) → Type 0
Tells (appended d r t) o = verdict_of r ≡ verdict_in o
Tells (finished old r new t) o = (written_of r ≡ length_in o) × (new ≡ buffer_after old o)

-- what the contracts of `chunk_store::append` and `chunked_text::finish` say of a call in the state t
-- (`chunk_calls/proofs/Contracts`)
abbrev pub Link : TextState → Made → Type 0
Link t m = Tells m (answer_in t (call_of m)) × (state_then m ≡ state_after t (call_of m))

-- each later call gets the state that the call before left; nothing else writes it
abbrev pub Trace : TextState → List Made → Type 0
Trace t [] = Unit {0}
Trace t (m ∷ ms) = Link t m × Trace (state_then m) ms

-- a fact of each call, of the calls before it and of the state that it gets
abbrev pub EachCall : (List TextCall → TextState → Made → Type 0) → List TextCall → TextState → List Made → Type 0
EachCall P cs t [] = Unit {0}
EachCall P cs t (m ∷ ms) = P cs t m × EachCall P (cs ++ (call_of m ∷ [])) (state_then m) ms

-- THE CLAIM, of the list of calls ms from the state t on
pub record ChunksHold (t : TextState) (ms : List Made) : Type 0 where
  -- however the text was cut, each call is answered as the calls before it say
  pub answers : EachCall (λ cs u m. Tells m (answer_after cs (call_of m))) [] t ms
  -- a call after the end alters nothing
  pub unaltered : EachCall (λ cs u m. is_over cs ≡ true → state_then m ≡ u) [] t ms
  -- until then the bytes that have come stand at the front of the store
  pub stored : EachCall (λ cs u m. is_over cs ≡ false → bytes_in u ≡ text_of cs) [] t ms

-- a text begins with the number 0 and a store that holds every text, whatever stands in it; then every list of calls
abbrev pub InChunks : Type 0
InChunks =
    (t : TextState) → text_limit ≤ length t.store → t.count ≡ 0 → (ms : List Made) → Trace t ms → ChunksHold t ms
