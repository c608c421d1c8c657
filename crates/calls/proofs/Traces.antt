-- Every list of calls has a trace: for every image, record and list of calls, by value or for daily use as the caller chooses, there are results that
-- make it one.
use Rattle.std.specs.Prelude.{Result, Ok, Err}
use Rattle.std.specs.Prelude.{if◌then◌else◌}
use mathlib.Core.Path.{◌≡◌, refl}
use mathlib.Core.Bool.{Bool, true, false, not}
use mathlib.Core.List.{List, [], ◌∷◌, map}
use mathlib.Core.Option.{Option, none, some}
use Prim.Native.Nat.{ℕ, suc}
use lib.Dec.{eqb}
use lib.IntN.{ℤ}
use lib.ListN.{length}
use Rattle.model.specs.Block.{Block, Input}
use Rattle.model.specs.Outcome.{Outcome, accepted, refused, and_then, verdict_in}
use Rattle.model.specs.Refusals.{verdict_of}
use Rattle.model.specs.Readings.{taken, value_in}
use Rattle.model.specs.Image.{word_at, decode, is_image_of, loads}
use Rattle.model.specs.Evaluation.{CallResult, call_result, block_answers, figures_of, held_ok, values_of, evaluate_block, evaluate, answers_after, held_after}
use Rattle.model.specs.declared.Evaluation.{Evaluation}
use Rattle.model.specs.declared.Held.{Held}
use Rattle.model.specs.declared.Reading.{Reading}
use Rattle.model.specs.declared.Refusal.{Refusal}
use Rattle.model.specs.declared.Refusal.TheVariants.{ImageNotAccepted, WrongCount, WrongHeld, WrongReading}
use Rattle.demand_3.specs.Calls.{Call, Made, evaluated, daily, call_of, result_of, Link, Trace}

-- VERDICTS: an outcome that some verdict tells
abbrev pub Told : {A : Type 0} → Outcome A → Type 0
Told o = (v : Result (Unit {0}) Refusal) × (verdict_of v ≡ verdict_in o)

told_if : {A : Type 0} (t : Bool) (o p : Outcome A) → Told o → Told p → Told (if t then o else p)
told_if true o p x y = x
told_if false o p x y = y

told_then : {A B : Type 0} (o : Outcome A) (f : A → Outcome B) → Told o → ((a : A) → Told (f a)) → Told (and_then o f)
told_then (accepted a) f x y = y a
told_then (refused n p) f x y = x

told_values : (i : ℕ) (vs : List Input) (rs : List Reading) → Told (values_of i vs rs)
unfolding values_of
told_values i [] rs = (Ok tt, refl)
told_values i (v ∷ vs) [] = (Err (WrongReading i), refl)
told_values i (v ∷ vs) (r ∷ rs) = go (told_values (suc i) vs rs) (value_in (taken v.type r))
  where
    go : Told (values_of (suc i) vs rs) → (o : Option ℤ)
        → Told {A = List ℤ} (elim o [ none ↦ refused 14 (some i) | some x ↦ and_then (values_of (suc i) vs rs) (λ xs. accepted (x ∷ xs)) ])
    go rest none = (Err (WrongReading i), refl)
    go rest (some x) = told_then (values_of (suc i) vs rs) (λ xs. accepted (x ∷ xs)) rest (λ xs. (Ok tt, refl))

told_block : (b : Block) (c : Call) (h : Held) → Told (evaluate_block b c.readings c.count h)
unfolding evaluate_block
told_block b c h =
    let answered : List ℤ → Outcome CallResult = λ xs. accepted (call_result (block_answers b xs (figures_of h))) in
    let values = values_of 0 b.inputs c.readings in
    told_if (not (eqb c.count (length b.inputs))) _ _ (Err WrongCount, refl)
    (told_if (not (held_ok b.outputs (figures_of h))) _ _ (Err WrongHeld, refl)
    (told_then values answered (told_values 0 b.inputs c.readings) (λ xs. (Ok tt, refl))))

pub call_told : (img : List ℕ) (c : Call) (h : Held) → Told (evaluate img c.readings c.count h)
unfolding evaluate loads
call_told img c h =
    told_then (loads img) (λ b. evaluate_block b c.readings c.count h)
    (told_if (is_image_of img (decode (word_at img))) _ _ (Ok tt, refl) (Err ImageNotAccepted, refl)) (λ b. told_block b c h)

-- TRACES
pub data Kind : Type 0 where
  by_value : Kind
  for_daily : Kind

abbrev pub kind_of : Made → Kind
kind_of (evaluated c r) = by_value
kind_of (daily c r h) = for_daily

module _ (img : List ℕ) where
  -- what a call on the record h hands back
  abbrev result : Held → Call → Evaluation
  result h c =
      let o = evaluate img c.readings c.count h in
      record { verdict = (call_told img c h).0; answers = answers_after o; held = held_after h o }

  abbrev made : Held → Kind → Call → Made
  made h by_value c = evaluated c (result h c)
  made h for_daily c = daily c (record { verdict = (result h c).verdict; answers = (result h c).answers }) (result h c).held

  made_as : (h : Held) (k : Kind) (c : Call) → ◌≡◌ {A = Kind × Call} (kind_of (made h k c), call_of (made h k c)) (k, c)
  made_as h by_value c = refl
  made_as h for_daily c = refl

  linked : (h : Held) (k : Kind) (c : Call) → Link img h (made h k c)
  linked h by_value c = record { verdict = (call_told img c h).1; answers = refl; held = refl }
  linked h for_daily c = record { verdict = (call_told img c h).1; answers = refl; held = refl }

  pub every_list_traced : (h : Held) (ks : List (Kind × Call)) → (ms : List Made) × (map (λ m. (kind_of m, call_of m)) ms ≡ ks) × Trace img h ms
  every_list_traced h [] = ([], refl, tt)
  every_list_traced h (k ∷ ks) =
      let m = made h k.0 k.1 in
      let rest = every_list_traced (result_of m).held ks in
      (m ∷ rest.0, (λ j. made_as h k.0 k.1 j ∷ rest.1 j), (linked h k.0 k.1, rest.2))
