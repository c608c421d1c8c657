-- The answer of an output: fired, default or held, each with its figure; and all of them, with the record that they make.
use Rattle.std.specs.Prelude.{if◌then◌else◌}
use mathlib.Core.Path.{◌≡◌, refl, sym, ap, ◌∙◌}
use mathlib.Core.Bool.{Bool, true, false, ◌&&◌, not}
use mathlib.Core.List.{List, [], ◌∷◌, ◌++◌, map}
use mathlib.Core.Logic.{◌↔◌}
use mathlib.Core.Option.{Option, none, some}
use Prim.Native.Nat.{ℕ, zero, suc, ◌-◌, ◌<◌}
use native.Mathlib.Omega.{arith}
use borrow.Author.Tests.{ltb-true, leb-true}
use lib.Dec.{ltb, eqb}
use lib.IntN.{ℤ, pos, nat_abs}
use lib.ListN.{length, replicate}
use lib.Signed.{le_z, lt_z, ≤ℤ_refl}
use Rattle.model.specs.Basic.{all, is_empty, tab}
use Rattle.model.specs.Bounds.{output_limit}
use Rattle.model.specs.Block.{Range, Output, Block, output_first, in_range}
use Rattle.model.specs.Tokens.{is_name, in_crisp}
use Rattle.model.specs.WellFormed.{range_ok, figure_ok, default_ok, singleton_ok, output_ok}
use Rattle.model.specs.Degrees.{nearestℤ}
use Rattle.model.specs.Evaluation.{moment, sum_of, answer_with, unfired, output_answer, output_answers, padded, height, start_of, figures, held_of, figures_of, held_ok}
use Rattle.model.specs.declared.Mark.{Mark}
use Rattle.model.specs.declared.Mark.TheVariants.{None, Fired, Default, Held as HeldMark}
use Rattle.model.specs.declared.Answer.{Answer}
use Rattle.laws.proofs.Comparison.{not_below, le_passes, less_le}
use Rattle.laws.proofs.Each.{Each, each_passes, each_so}
use Rattle.laws.proofs.Tests.{both, and_i, passed, clash}
use Rattle.laws.proofs.Places.{length_tab}
use Rattle.crisp.specs.Crisp.{InCrisp}
use Rattle.demand_3.specs.Calls.{Seen, outputs_seen, mark_of, figure_of, raised, raised_in, Between, is_marked}
use Rattle.calls.proofs.Raised as R

-- ONE OUTPUT
-- what demand 3 says of an output in an accepted call
pub record Good (o : Seen) : Type 0 where
  pub marked : is_marked (mark_of o) ≡ true
  pub fired_raised : mark_of o ≡ Fired ↔ is_empty (raised_in o) ≡ false
  pub fired_between : mark_of o ≡ Fired → Between (raised_in o) (figure_of o)
  pub default_declared : mark_of o ≡ Default → o.output.default ≡ some (figure_of o)
  pub held_before : mark_of o ≡ HeldMark → (o.output.default ≡ none) × (figure_of o ≡ o.before)

abbrev number : Mark → ℕ
number None = 0
number Fired = 1
number Default = 2
number HeldMark = 3

other : {X : Type 0} (m n : Mark) → (number m ≡ number n → ⊥) → m ≡ n → X
other m n f e = absurd (f (ap number e))

module _ (v : Output) (hs : List ℕ) (x : ℤ) (even : length hs ≡ length v.terms) (ok : output_ok v ≡ true) (held-ok : figure_ok v.range x ≡ true) where
  abbrev as_seen : Answer → Seen
  as_seen a = record { output = v; heights = hs; before = x; answer = a }

  abbrev fig : ℤ
  fig = nearestℤ (moment (map (λ t. t.at) v.terms) hs) (sum_of hs)

  singletons_ok : Each (λ s. figure_ok v.range s.at ≡ true) v.terms
  unfolding output_ok singleton_ok
  singletons_ok =
      each_so (λ s e. (both (is_name s.name) (figure_ok v.range s.at) e).1) v.terms
      (each_passes (singleton_ok v.range) v.terms (passed _ ok).1.1.1.0)

  default_ok_lem : default_ok v.range v.default ≡ true
  unfolding output_ok
  default_ok_lem = (passed _ ok).1.1.1.1.1.0

  crisp : Each (λ s. InCrisp s.at) v.terms
  crisp = each_so (λ s e. leb-true _ _ (both (in_crisp s.at) (in_range v.range s.at) e).0) v.terms singletons_ok

  abbrev Told : Answer → Type 0
  Told a = Good (as_seen a) × (figure_ok v.range a.thousandths.0 ≡ true)

  told_fired : 0 < sum_of hs → ltb 0 (sum_of hs) ≡ true → Told (answer_with Fired fig (sum_of hs))
  told_fired p e =
      let b = R.between v.terms hs even crisp p in
      let some-raised : is_empty (raised v.terms hs) ≡ false = turn (is_empty (raised v.terms hs)) (sym (R.sum_raised v.terms hs even) ∙ e) in (
        record {
          marked = refl;
          fired_raised = (λ q. some-raised, λ q. refl);
          fired_between = λ q. b;
          default_declared = λ q. other Fired Default (λ n. omega arith) q;
          held_before = λ q. other Fired HeldMark (λ n. omega arith) q;
        },
        R.ok_raised v.range v.terms hs fig singletons_ok b,
      )
    where
      turn : (b : Bool) → not b ≡ true → b ≡ false
      turn true q = clash q
      turn false q = refl

  module _ (e : ltb 0 (sum_of hs) ≡ false) where
    none_raised : is_empty (raised v.terms hs) ≡ true
    none_raised = turn (is_empty (raised v.terms hs)) (sym (R.sum_raised v.terms hs even) ∙ e)
      where
        turn : (b : Bool) → not b ≡ false → b ≡ true
        turn true q = refl
        turn false q = clash (sym q)

    not_raised : {X : Type 0} → is_empty (raised v.terms hs) ≡ false → X
    not_raised q = clash (sym q ∙ none_raised)

    told_unfired : (d : Option ℤ) → v.default ≡ d → Told (unfired d x)
    told_unfired none q = (
      record {
        marked = refl;
        fired_raised = (λ m. other HeldMark Fired (λ n. omega arith) m, λ r. not_raised r);
        fired_between = λ m. other HeldMark Fired (λ n. omega arith) m;
        default_declared = λ m. other HeldMark Default (λ n. omega arith) m;
        held_before = λ m. (q, refl);
      },
      held-ok,
    )
    told_unfired (some d) q = (
      record {
        marked = refl;
        fired_raised = (λ m. other Default Fired (λ n. omega arith) m, λ r. not_raised r);
        fired_between = λ m. other Default Fired (λ n. omega arith) m;
        default_declared = λ m. q;
        held_before = λ m. other Default HeldMark (λ n. omega arith) m;
      },
      rw q at default_ok_lem,
    )

  pub told : Told (output_answer v hs x)
  unfolding output_answer
  told = go (ltb 0 (sum_of hs)) refl
    where
      go : (b : Bool) → ltb 0 (sum_of hs) ≡ b → Told (if b then answer_with Fired fig (sum_of hs) else unfired v.default x)
      go true e = told_fired (ltb-true 0 (sum_of hs) e) e
      go false e = told_unfired e v.default refl

-- ALL OUTPUTS
-- a figure for each output, which it may have
abbrev pub Fit : List Output → List ℤ → Type 0
Fit [] [] = Unit {0}
Fit [] (x ∷ xs) = ⊥
Fit (v ∷ vs) [] = ⊥
Fit (v ∷ vs) (x ∷ xs) = (figure_ok v.range x ≡ true) × Fit vs xs

module _ (b : Block) (ds : List ℕ) where
  abbrev answers_from : ℕ → List Output → List ℤ → List Answer
  answers_from i vs xs = output_answers b (height b ds) i vs xs

  pub all_told : (i : ℕ) (vs : List Output) (xs : List ℤ) (gs : List Answer) → all output_ok vs ≡ true → Fit vs xs
      → Each Good (outputs_seen b ds i vs xs (answers_from i vs xs ++ gs)) × Fit vs (figures (answers_from i vs xs))
  unfolding output_answers outputs_seen all
  all_told i [] [] gs ok f = (tt, tt)
  all_told i [] (x ∷ xs) gs ok f = absurd f
  all_told i (v ∷ vs) [] gs ok f = absurd f
  all_told i (v ∷ vs) (x ∷ xs) gs ok f =
      let o = both (output_ok v) (all output_ok vs) ok in
      let hs = tab (height b ds) (length v.terms) (output_first i b) in
      let t = told v hs x (length_tab (height b ds) (length v.terms) (output_first i b)) o.0 f.0 in
      let r = all_told (suc i) vs xs gs o.1 f.1 in
      ((t.0, r.0), (t.1, r.1))

  -- the places past the outputs have no effect
  pub past_outputs : (i : ℕ) (vs : List Output) (xs zs : List ℤ) → Fit vs xs → answers_from i vs (xs ++ zs) ≡ answers_from i vs xs
  unfolding output_answers
  past_outputs i [] [] zs f = refl
  past_outputs i [] (x ∷ xs) zs f = absurd f
  past_outputs i (v ∷ vs) [] zs f = absurd f
  past_outputs i (v ∷ vs) (x ∷ xs) zs f =
      ap (λ (gs : List Answer). output_answer v (tab (height b ds) (length v.terms) (output_first i b)) x ∷ gs) (past_outputs (suc i) vs xs zs f.1)

  pub count_answers : (i : ℕ) (vs : List Output) (xs : List ℤ) → Fit vs xs → length (answers_from i vs xs) ≡ length vs
  unfolding output_answers
  count_answers i [] [] f = refl
  count_answers i [] (x ∷ xs) f = absurd f
  count_answers i (v ∷ vs) [] f = absurd f
  count_answers i (v ∷ vs) (x ∷ xs) f = ap suc (count_answers (suc i) vs xs f.1)

-- THE RECORD
pub figures_back : (xs : List ℤ) → figures_of (held_of xs) ≡ padded (pos 0) xs
figures_back xs = go (padded (pos 0) xs)
  where
    go : (ys : List ℤ) → figures_of (record { figures = map (λ x. record { 0 = x }) ys }) ≡ ys
    go [] = refl
    go (y ∷ ys) = ap (λ (l : List ℤ). y ∷ l) (go ys)

zeros_pass : (n : ℕ) → all (λ x. eqb (nat_abs x) 0) (replicate n (pos 0)) ≡ true
unfolding all
zeros_pass zero = refl
zeros_pass (suc n) = zeros_pass n

fit_held : (vs : List Output) (xs : List ℤ) (n : ℕ) → Fit vs xs → held_ok vs (xs ++ replicate n (pos 0)) ≡ true
unfolding held_ok
fit_held [] [] n f = zeros_pass n
fit_held [] (x ∷ xs) n f = absurd f
fit_held (v ∷ vs) [] n f = absurd f
fit_held (v ∷ vs) (x ∷ xs) n f = and_i (figure_ok v.range x) (held_ok vs (xs ++ replicate n (pos 0))) f.0 (fit_held vs xs n f.1)

pub held_fits : (vs : List Output) (xs : List ℤ) → Fit vs xs → held_ok vs (figures_of (held_of xs)) ≡ true
held_fits vs xs f = ap (held_ok vs) (figures_back xs) ∙ fit_held vs xs (output_limit - length xs) f

-- THE STARTING FIGURES
not_less : (a b : ℤ) → lt_z a b ≡ false → le_z b a ≡ true
not_less a b h = le_passes b a (not_below a b h)

start_ok : (g : Option Range) → range_ok g ≡ true → figure_ok g (start_of g) ≡ true
start_ok none e = refl
start_ok (some g) e = go (lt_z (pos 0) l) (lt_z h (pos 0)) refl refl
  where
    l : ℤ
    l = g.least

    h : ℤ
    h = g.most

    parts : (in_crisp l ≡ true) × (in_crisp h && lt_z l h ≡ true)
    parts = both (in_crisp l) (in_crisp h && lt_z l h) e

    ends : (in_crisp h ≡ true) × (lt_z l h ≡ true)
    ends = both (in_crisp h) (lt_z l h) parts.1

    same : (x : ℤ) → le_z x x ≡ true
    same x = le_passes x x (≤ℤ_refl x)

    ok : (z : ℤ) → in_crisp z ≡ true → le_z l z ≡ true → le_z z h ≡ true → figure_ok (some g) z ≡ true
    ok z p q r = and_i (in_crisp z) (le_z l z && le_z z h) p (and_i (le_z l z) (le_z z h) q r)

    go : (p q : Bool) → lt_z (pos 0) l ≡ p → lt_z h (pos 0) ≡ q → figure_ok (some g) (if p then l else if q then h else pos 0) ≡ true
    go true q a b = ok l parts.0 (same l) (less_le l h ends.1)
    go false true a b = ok h ends.0 (less_le l h ends.1) (same h)
    go false false a b = ok (pos 0) refl (not_less (pos 0) l a) (not_less h (pos 0) b)

pub starting_fit : (vs : List Output) → all output_ok vs ≡ true → Fit vs (map (λ v. start_of v.range) vs)
unfolding all output_ok
starting_fit [] ok = tt
starting_fit (v ∷ vs) ok =
    let o = both (output_ok v) (all output_ok vs) ok in
    (start_ok v.range (passed _ o.0).1.1.0, starting_fit vs o.1)
