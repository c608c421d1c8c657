-- Demand 3, of every image and every list of calls on it.
use Rattle.std.specs.Prelude.{if◌then◌else◌}
use mathlib.Core.Path.{◌≡◌, refl, sym, ap, ◌∙◌, subst}
use mathlib.Core.Bool.{true}
use mathlib.Core.List.{List, [], ◌∷◌, map, foldl}
use Prim.Native.Nat.{ℕ, ◌≤◌}
use lib.IntN.{ℤ}
use Rattle.model.specs.Bounds.{M}
use Rattle.model.specs.Block.{Block}
use Rattle.model.specs.Outcome.{Outcome, accepted, and_then}
use Rattle.model.specs.Refusals.{verdict_of}
use Rattle.model.specs.Image.{loads}
use Rattle.model.specs.WellFormed.{well_formed}
use Rattle.model.specs.Evaluation.{values_of, held_of, starting, fresh_of, fresh, record_in}
use Rattle.model.specs.declared.Held.{Held}
use Rattle.laws.proofs.Each.{Each, each_so, each_append, each_always}
use Rattle.image_laws.proofs.Loads.{loads_iff}
use Rattle.round_trip.proofs.RoundTrip.{passes_iff}
use Rattle.demand_3.specs.Calls.{right_call, ruling, given, input_degrees, figures_after, defined, degrees_in, Made, call_of, result_of, Link, Trace, record_after, accepted_in, last_figures, Seen, outputs_seen, seen, CallsHold, Demand3}
use Rattle.calls.proofs.Outputs.{Good, Fit, starting_fit}
use Rattle.calls.proofs.Low.{outputs_ok, block_low, call_low}
use Rattle.calls.proofs.Steps.{step}

-- what is carried along a list
record Along (b : Block) (h : Held) (xs : List ℤ) (ms : List Made) : Type 0 where
  right : Each (λ m. accepted_in m ≡ right_call b (call_of m)) ms
  verdicts : Each (λ m. verdict_of (result_of m).verdict ≡ ruling b (call_of m)) ms
  answers : map (λ m. (result_of m).answers) ms ≡ defined b xs (map call_of ms)
  good : Each Good (seen b xs ms)
  after : record_after h ms ≡ held_of (foldl (last_figures b) xs ms)

module _ (img : List ℕ) (b : Block) (loaded : loads img ≡ accepted b) (ok : well_formed b ≡ true) where
  along : (ms : List Made) (h : Held) (xs : List ℤ) → h ≡ held_of xs → Fit b.outputs xs → Trace img h ms → Along b h xs ms
  unfolding defined seen
  along [] h xs e f t = record { right = tt; verdicts = tt; answers = refl; good = tt; after = e }
  along (m ∷ ms) h xs e f t =
      let s = step img b loaded ok xs f m (subst (λ (g : Held). Link img g m) e t.0) in
      let ys = figures_after b xs (call_of m) in
      let r = along ms (result_of m).held ys s.held s.fit t.1 in
      let here = if accepted_in m then outputs_seen b (input_degrees b (call_of m)) 0 b.outputs xs (result_of m).answers else [] in
      record {
        right = (s.right, r.right);
        verdicts = (s.verdict, r.verdicts);
        answers = λ j. s.answers j ∷ r.answers j;
        good = each_append Good here (seen b (last_figures b xs m) ms) s.good (subst (λ (l : List ℤ). Each Good (seen b l ms)) (sym s.last) r.good);
        after = r.after ∙ ap (λ (l : List ℤ). held_of (foldl (last_figures b) l ms)) (sym s.last);
      }

  degrees_low : (m : Made) → accepted_in m ≡ true → Each (λ d. d ≤ M) (degrees_in b (input_degrees b (call_of m)))
  unfolding input_degrees
  degrees_low m e = call_low b ok (given (values_of 0 b.inputs (call_of m).readings))

  fresh_is : record_in (fresh img) ≡ held_of (starting b)
  unfolding fresh fresh_of
  fresh_is = ap (λ (o : Outcome Block). record_in (and_then o (λ d. accepted (fresh_of d)))) loaded

  calls_hold : (ms : List Made) → Trace img (record_in (fresh img)) ms → CallsHold b (record_in (fresh img)) (starting b) ms
  calls_hold ms t =
      let a = along ms (record_in (fresh img)) (starting b) fresh_is (starting_fit b.outputs (outputs_ok b ok)) t in
      let os = seen b (starting b) ms in
      record {
        accepted_right = a.right;
        verdicts = a.verdicts;
        block_degrees = block_low b ok;
        call_degrees = each_always degrees_low ms;
        answers_defined = a.answers;
        marked = each_so (λ (o : Seen) g. g.marked) os a.good;
        fired_raised = each_so (λ (o : Seen) g. g.fired_raised) os a.good;
        fired_between = each_so (λ (o : Seen) g. g.fired_between) os a.good;
        default_declared = each_so (λ (o : Seen) g. g.default_declared) os a.good;
        held_before = each_so (λ (o : Seen) g. g.held_before) os a.good;
        record_holds = a.after;
      }

pub demand_3 : (img : List ℕ) → Demand3 img
demand_3 img = record {
  passes = passes_iff img;
  calls = λ b loaded ms t. calls_hold img b loaded ((loads_iff img b).0 loaded).0 ms t;
}
