-- However a text is cut: the state that the calls leave stands for them, whatever the store held at first, so each call is answered
-- as the calls before it say.
use mathlib.Core.Path.{◌≡◌, refl, sym, ap, ◌∙◌, subst}
use mathlib.Core.Bool.{Bool, true, false, ◌||◌, not, and-false}
use mathlib.Core.List.{List, [], ◌∷◌, ◌++◌, append_assoc, append-nil}
use mathlib.Core.Option.{none}
use Prim.Native.Nat.{ℕ, ◌+◌, ◌≤◌}
use native.Mathlib.Omega.{arith}
use borrow.Author.Tests.{ltb-true, ltb-false, lt-ltb, le-ltb}
use lib.Dec.{ltb, leb}
use lib.ListN.{length, take, drop, length-append, length-drop}
use lib.Seq.{take_at}
use Rattle.model.specs.Bounds.{text_limit}
use Rattle.model.specs.Outcome.{refused}
use Rattle.model.specs.Chunks.{TextCall, chunk, finish, text_of, any_finish, is_over, answer, answer_after, TextState, is_open, bytes_in, answer_in, behind, closed, state_after, Made, call_of, state_then, Tells, Link, Trace, EachCall, InChunks}
use Rattle.laws.proofs.Tests.{clash}
use Rattle.chunk_store.proofs.Laws.{is_open_lem, answer_over, state_over, room, few, longer, chunk_long, chunk_kept, end_read}

-- THE CALLS, with one more
text_chunk : (cs : List TextCall) (d : List ℕ) → text_of (cs ++ (chunk d ∷ [])) ≡ text_of cs ++ d
unfolding text_of
text_chunk [] d = append-nil d
text_chunk (chunk s ∷ cs) d = ap (λ (r : List ℕ). s ++ r) (text_chunk cs d) ∙ sym (append_assoc s (text_of cs) d)
text_chunk (finish b ∷ cs) d = text_chunk cs d

any_chunk : (cs : List TextCall) (d : List ℕ) → any_finish (cs ++ (chunk d ∷ [])) ≡ any_finish cs
unfolding any_finish
any_chunk [] d = refl
any_chunk (chunk s ∷ cs) d = any_chunk cs d
any_chunk (finish b ∷ cs) d = refl

any_finish_lem : (cs : List TextCall) (b : List ℕ) → any_finish (cs ++ (finish b ∷ [])) ≡ true
unfolding any_finish
any_finish_lem [] b = refl
any_finish_lem (chunk s ∷ cs) b = any_finish_lem cs b
any_finish_lem (finish c ∷ cs) b = refl

or_false : (a b : Bool) → a || b ≡ false → (a ≡ false) × (b ≡ false)
or_false true b e = clash (sym e)
or_false false b e = (refl, e)

or_more : (a b c : Bool) → (b ≡ true → c ≡ true) → a || b ≡ true → a || c ≡ true
or_more true b c f e = refl
or_more false b c f e = f e

-- the length of the text with one chunk more
with_chunk : (cs : List TextCall) (d : List ℕ) → length (text_of (cs ++ (chunk d ∷ []))) ≡ length (text_of cs) + length d
with_chunk cs d = ap length (text_chunk cs d) ∙ length-append (text_of cs) d

ends : (cs : List TextCall) (b : List ℕ) → is_over (cs ++ (finish b ∷ [])) ≡ true
ends cs b = rw (any_finish_lem cs b) refl

-- whatever comes after the end, it is over
stays_over : (cs : List TextCall) (c : TextCall) → is_over cs ≡ true → is_over (cs ++ (c ∷ [])) ≡ true
stays_over cs (finish b) e = ends cs b
stays_over cs (chunk d) e =
    let n = length (text_of cs) in
    let m = length (text_of (cs ++ (chunk d ∷ []))) in
    rw (any_chunk cs d)
    (or_more (any_finish cs) (ltb text_limit n) (ltb text_limit m)
    (λ l. lt-ltb text_limit m (omega (arith, ltb-true text_limit n l, with_chunk cs d))) e)

-- a chunk passes the limit, or does not
module _ (cs : List TextCall) (d : List ℕ) (live : is_over cs ≡ false) where
  on_chunk : is_over (cs ++ (chunk d ∷ [])) ≡ ltb text_limit (length (text_of cs) + length d)
  on_chunk = rw (any_chunk cs d, (or_false (any_finish cs) (ltb text_limit (length (text_of cs))) live).0, with_chunk cs d) refl

-- STANDING FOR THE CALLS SO FAR: the store holds their text, or it is over
data Stands (cs : List TextCall) (t : TextState) : Type 0 where
  going : is_over cs ≡ false → is_open t ≡ true → bytes_in t ≡ text_of cs → Stands cs t
  gone : is_over cs ≡ true → is_open t ≡ false → Stands cs t

-- a text begins with the number 0, whatever the store holds
begins : (t : TextState) → text_limit ≤ length t.store → t.count ≡ 0 → Stands [] t
unfolding text_of any_finish
begins t h z = going refl (is_open_lem t h (omega arith)) (ap (λ (n : ℕ). take n t.store) z)

closed_over : (t : TextState) → is_open (closed t) ≡ false
closed_over t = and-false (leb text_limit (length t.store))

-- answered as the calls so far say
same_answer : (cs : List TextCall) (t : TextState) → Stands cs t → (c : TextCall) → answer_in t c ≡ answer_after cs c
unfolding answer
same_answer cs t (going live ready same) c =
    ap (λ (b : Bool). answer (not b) (bytes_in t) c) ready ∙ ap (λ (s : List ℕ). answer false s c) same
    ∙ ap (λ (b : Bool). answer b (text_of cs) c) (sym live)
same_answer cs t (gone ended shut) c =
    ap (λ (b : Bool). answer (not b) (bytes_in t) c) shut ∙ ap (λ (b : Bool). answer b (text_of cs) c) (sym ended)

-- OPEN: what a chunk leaves
module _ (cs : List TextCall) (t : TextState) (live : is_over cs ≡ false) (ready : is_open t ≡ true)
    (same : bytes_in t ≡ text_of cs) (d : List ℕ) where
  abbrev rest : List ℕ
  rest = drop (t.count + length d) t.store

  count_more : length (text_of cs) + length d ≡ t.count + length d
  count_more = sym (length-append (text_of cs) d) ∙ ap (λ (s : List ℕ). length (s ++ d)) (sym same) ∙ longer t ready d

  passes : is_over (cs ++ (chunk d ∷ [])) ≡ ltb text_limit (t.count + length d)
  passes = on_chunk cs d live ∙ ap (ltb text_limit) count_more

  kept_bytes : bytes_in (behind t d) ≡ text_of (cs ++ (chunk d ∷ []))
  kept_bytes =
      ap (take (t.count + length d)) (sym (append_assoc (bytes_in t) d rest))
      ∙ take_at (bytes_in t ++ d) rest (t.count + length d) (longer t ready d)
      ∙ ap (λ (s : List ℕ). s ++ d) same ∙ sym (text_chunk cs d)

  kept_room : t.count + length d ≤ text_limit → text_limit ≤ length (behind t d).store
  kept_room h =
      omega (
        arith,
        room t ready,
        length-append (bytes_in t ++ d) rest,
        ap length (append_assoc (bytes_in t) d rest),
        longer t ready d,
        length-drop (t.count + length d) t.store,
      )

  after_chunk : Stands (cs ++ (chunk d ∷ [])) (state_after t (chunk d))
  after_chunk = go (ltb text_limit (t.count + length d)) refl
    where
      go : (b : Bool) → ltb text_limit (t.count + length d) ≡ b → Stands (cs ++ (chunk d ∷ [])) (state_after t (chunk d))
      go true e =
          let left = (chunk_long t ready d (ltb-true text_limit (t.count + length d) e)).1 in
          subst (Stands (cs ++ (chunk d ∷ []))) (sym left) (gone (passes ∙ e) (closed_over t))
      go false e =
          let h = ltb-false text_limit (t.count + length d) e in
          let kept = is_open_lem (behind t d) (kept_room h) h in
          subst (Stands (cs ++ (chunk d ∷ []))) (sym (chunk_kept t ready d h).1) (going (passes ∙ e) kept kept_bytes)

-- ONE CALL MORE
stands_on : (cs : List TextCall) (t : TextState) → Stands cs t → (c : TextCall) → Stands (cs ++ (c ∷ [])) (state_after t c)
stands_on cs t (going live ready same) (chunk d) = after_chunk cs t live ready same d
stands_on cs t (going live ready same) (finish b) =
    subst (Stands (cs ++ (finish b ∷ []))) (sym (end_read t ready b).1) (gone (ends cs b) (closed_over t))
stands_on cs t (gone ended shut) c = subst (Stands (cs ++ (c ∷ []))) (sym (state_over t shut c)) (gone (stays_over cs c ended) shut)

-- a fact that each call has where the state stands for the calls before it
module _ (P : List TextCall → TextState → Made → Type 0)
    (step : (cs : List TextCall) (t : TextState) → Stands cs t → (m : Made) → Link t m → P cs t m) where
  each_call : (ms : List Made) (cs : List TextCall) (t : TextState) → Stands cs t → Trace t ms → EachCall P cs t ms
  each_call [] cs t s w = tt
  each_call (m ∷ ms) cs t s w =
      let next = subst (Stands (cs ++ (call_of m ∷ []))) (sym w.0.1) (stands_on cs t s (call_of m)) in
      (step cs t s m w.0, each_call ms (cs ++ (call_of m ∷ [])) (state_then m) next w.1)

answered : (cs : List TextCall) (t : TextState) → Stands cs t → (m : Made) → Link t m → Tells m (answer_after cs (call_of m))
answered cs t s m l = subst (Tells m) (same_answer cs t s (call_of m)) l.0

unaltered : (cs : List TextCall) (t : TextState) → Stands cs t → (m : Made) → Link t m → is_over cs ≡ true → state_then m ≡ t
unaltered cs t (going live ready same) m l e = clash (sym live ∙ e)
unaltered cs t (gone ended shut) m l e = l.1 ∙ state_over t shut (call_of m)

stored : (cs : List TextCall) (t : TextState) → Stands cs t → (m : Made) → Link t m → is_over cs ≡ false → bytes_in t ≡ text_of cs
stored cs t (going live ready same) m l e = same
stored cs t (gone ended shut) m l e = clash (sym e ∙ ended)

-- THE CLAIM
pub chunks_hold : InChunks
chunks_hold t room zero ms w =
    let s = begins t room zero in
    record {
      answers = each_call (λ cs u m. Tells m (answer_after cs (call_of m))) answered ms [] t s w;
      unaltered = each_call (λ cs u m. is_over cs ≡ true → state_then m ≡ u) unaltered ms [] t s w;
      stored = each_call (λ cs u m. is_over cs ≡ false → bytes_in u ≡ text_of cs) stored ms [] t s w;
    }

-- EVERY OTHER STATE: 16, and nothing is altered
pub no_calls_made : (t : TextState) → is_open t ≡ false → (c : TextCall) → (answer_in t c ≡ refused 16 none) × (state_after t c ≡ t)
no_calls_made t shut c = (answer_over t shut c, state_over t shut c)

-- an open state is what one chunk of its bytes leaves
open_stands : (t : TextState) → is_open t ≡ true → Stands (chunk (bytes_in t) ∷ []) t
unfolding text_of any_finish
open_stands t ready =
    let short : length (bytes_in t) ≤ text_limit = omega (arith, few t ready, longer t ready [], length-append (bytes_in t) []) in
    let so = append-nil (bytes_in t) in
    going (rw (so, le-ltb text_limit (length (bytes_in t)) short) refl) ready (sym so)

-- so the calls go on as after that chunk
pub any_text : (t : TextState) → is_open t ≡ true → (ms : List Made) → Trace t ms
    → EachCall (λ cs u m. Tells m (answer_after cs (call_of m))) (chunk (bytes_in t) ∷ []) t ms
any_text t ready ms w =
    each_call (λ cs u m. Tells m (answer_after cs (call_of m))) answered ms (chunk (bytes_in t) ∷ []) t (open_stands t ready) w
