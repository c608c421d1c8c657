-- DEFUZZIFY: the terms of an output have names of their own, and these and the default lie in its RANGE.
use mathlib.Core.Path.{◌≡◌, refl, sym, ap, ◌∙◌}
use mathlib.Core.Bool.{true, false}
use mathlib.Core.List.{List, [], ◌∷◌, ◌++◌}
use mathlib.Core.Option.{Option, none, some}
use Prim.Native.Nat.{ℕ}
use native.Mathlib.Omega.{arith}
use borrow.Author.Tests.{ltb-true, not-true}
use lib.Dec.{ltb}
use lib.IntN.{ℤ}
use lib.ListN.{length, length-append}
use lib.Signed.{lt_z}
use Rattle.model.specs.Basic.{is_empty, all, update}
use Rattle.model.specs.Bounds.{term_limit}
use Rattle.model.specs.Keywords.{OPEN, CLOSE, COLON, SEMICOLON, ASSIGN, DOTS, CoGS, DEFAULT, DEFUZZIFY, END_DEFUZZIFY, METHOD, NC, RANGE, TERM}
use Rattle.model.specs.Tokens.{is_name, in_crisp}
use Rattle.model.specs.Block.{Singleton, Range, Output, Block, singletons_of, range_of, in_range, with_outputs, with_singleton, with_range, with_default}
use Rattle.model.specs.WellFormed.{default_ok, singleton_ok}
use Rattle.model.specs.Parse.{Parse, text, is, advance, value_here}
use Rattle.model.specs.Declarations.{singleton_of, change_output, lower_end, upper_end, range_body, range_part, figure, singleton_body, output_term, default_value, defuzzify_of, defuzzify_variable, defuzzify}
use Rattle.laws.proofs.Tests.{and_i, clash}
use Rattle.laws.proofs.Each.{Each}
use Rattle.laws.proofs.Finding.{none_of, named}
use Rattle.reading_laws.proofs.Steps.{Fact, Good, Leads, ◌▹◌, good_so, either, good_advance, good_change, good_judged, name_here, good_expect, good_repeated}
use Rattle.reading_laws.proofs.Numbers.{crisp_value}
use Rattle.reading_laws.proofs.Focus.{Except, focus, unfocus, except_update, except_so, except_at, map_update, all_last, absent, named_last}
use Rattle.reading_laws.proofs.Declarations.{InputFine, OutputFine, Declared, Outputs, declared_so, renamed}

empty_is : {A : Type 0} (xs : List A) → is_empty xs ≡ true → xs ≡ []
empty_is [] h = refl
empty_is (x ∷ xs) h = clash h

filled_last : {A : Type 0} (xs : List A) (x : A) → is_empty (xs ++ (x ∷ [])) ≡ false
filled_last [] x = refl
filled_last (y ∷ xs) x = refl

-- before its RANGE, before its default, and with a term
abbrev Empty : Output → Type 0
Empty v = OutputFine v × (is_empty v.terms ≡ true)

abbrev Open : Output → Type 0
Open v = OutputFine v × (v.default ≡ none)

abbrev Filled : Output → Type 0
Filled v = Open v × (is_empty v.terms ≡ false)

-- RANGE begun at x
abbrev Low : ℤ → Output → Type 0
Low x v = Empty v × (in_crisp x ≡ true)

abbrev Roomy : Output → Type 0
Roomy v = Open v × (ltb (length v.terms) term_limit ≡ true)

-- a term n begun
abbrev Called : List ℕ → Output → Type 0
Called n v = Roomy v × ((none_of (named (λ (t : Singleton). t.name) n) v.terms ≡ true) × (is_name n ≡ true))

range_set : (v : Output) (x y : ℤ) → Low x v → in_crisp y ≡ true → lt_z x y ≡ true → Open (with_range (record { least = x; most = y }) v)
unfolding all
range_set v x y h e l =
    let f = h.0.0 in
    let g : Option Range = some (record { least = x; most = y }) in
    let d = f.bare h.0.1 in (
      record {
        name = f.name;
        count = f.count;
        range = and_i _ _ h.1 (and_i _ _ e l);
        terms = ap (all (singleton_ok g)) (empty_is v.terms h.0.1);
        apart = f.apart;
        default = ap (default_ok g) d;
        bare = f.bare;
      },
      d,
    )

term_set : (n : List ℕ) (x : ℤ) (v : Output) → Called n v → in_crisp x ≡ true → in_range v.range x ≡ true
    → Filled (with_singleton (record { name = n; at = x }) v)
unfolding singleton_ok
term_set n x v h e i =
    let f = h.0.0.0 in
    let s : Singleton = record { name = n; at = x } in
    let j = ltb-true (length v.terms) term_limit h.0.1 in
    let k = length-append v.terms (s ∷ []) in (
      (
        record {
          name = f.name;
          count = omega arith;
          range = f.range;
          terms = all_last (singleton_ok v.range) v.terms s f.terms (and_i _ _ h.1.1 (and_i _ _ e i));
          apart = named_last (λ t. t.name) v.terms s f.apart h.1.0;
          default = f.default;
          bare = λ z. clash (sym (filled_last v.terms s) ∙ z);
        },
        h.0.0.1,
      ),
      filled_last v.terms s,
    )

default_set : (x : ℤ) (v : Output) → Filled v → in_crisp x ≡ true → in_range v.range x ≡ true → OutputFine (with_default x v)
default_set x v h e i =
    let f = h.0.0 in
    record {
      name = f.name;
      count = f.count;
      range = f.range;
      terms = f.terms;
      apart = f.apart;
      default = and_i _ _ e i;
      bare = λ z. clash (sym h.1 ∙ z);
    }

-- while output o has R
abbrev Crisply : ℕ → (Output → Type 0) → Fact
Crisply o R = Declared 1 1 (Each InputFine) (Except OutputFine R o)

module _ (o : ℕ) where
  output_so : {R S : Output → Type 0} {w : ℕ} {b : Block} → ((v : Output) → R v → S v) → Crisply o R w b → Crisply o S w b
  output_so {R} {S} {w} {b} f = declared_so (λ x. x) (except_so OutputFine R S f o b.outputs)

  -- what is known of its terms, of its range
  known : {R : Output → Type 0} {w : ℕ} {b : Block} (T : List Singleton → Type 0) → T (singletons_of o b)
      → Crisply o R w b → Crisply o (λ v. R v × T v.terms) w b
  unfolding singletons_of
  known {R} {w} {b} T t = declared_so (λ x. x) (except_at OutputFine R (λ v. v.terms) T [] o b.outputs t)

  ranged : {R : Output → Type 0} {w : ℕ} {b : Block} (T : Option Range → Type 0) → T (range_of o b)
      → Crisply o R w b → Crisply o (λ v. R v × T v.range) w b
  unfolding range_of
  ranged {R} {w} {b} T t = declared_so (λ x. x) (except_at OutputFine R (λ v. v.range) T none o b.outputs t)

  changed : {R S : Output → Type 0} {w : ℕ} {b : Block} (f : Output → Output) → ((v : Output) → (f v).name ≡ v.name)
      → ((v : Output) → R v → S (f v)) → Crisply o R w b → Crisply o S w (with_outputs (update f o) b)
  changed {R} {S} {w} {b} f n m s =
      let v = s.variables in
      record {
        variables =
            renamed refl (map_update (λ v. v.name) f n o b.outputs)
            v.inputs (except_update OutputFine R S f m o b.outputs v.outputs) v;
        words = s.words;
        rules = s.rules;
      }

  whole : {w : ℕ} {b : Block} → Crisply o OutputFine w b → Outputs 1 w b
  whole {w} {b} = declared_so (λ x. x) (unfocus OutputFine o b.outputs)

  -- RANGE
  good_lower : (r : Parse) → Good (Crisply o Empty) r → Good (Crisply o (Low (value_here r))) (lower_end r)
  unfolding lower_end
  good_lower r k =
      good_judged _ r refl (λ c.
      good_advance r (good_so (λ g. known (λ ts. in_crisp (value_here r) ≡ true) (crisp_value (text r) c.1.0) g.fact) k))

  good_upper : (x : ℤ) → Leads (Crisply o (Low x)) (Crisply o Open) (upper_end o x)
  unfolding upper_end change_output
  good_upper x r k =
      good_judged _ r refl (λ c.
      good_advance _ (good_change _ r (λ g.
      changed (with_range (record { least = x; most = value_here r })) (λ v. refl)
      (λ v h. range_set v x (value_here r) h (crisp_value (text r) c.1.0) c.1.1.0) g.fact) k))

  good_range_body : Leads (Crisply o Empty) (Crisply o Open) (range_body o)
  unfolding range_body
  good_range_body r k = good_lower r k ▹ good_expect DOTS ▹ good_upper (value_here r) ▹ good_expect CLOSE ▹ good_expect SEMICOLON

  good_range : Leads (Crisply o Empty) (Crisply o Open) (range_part o)
  unfolding range_part
  good_range r k =
      either (is RANGE r) (λ h. k ▹ good_advance ▹ good_expect OPEN ▹ good_range_body)
      (good_so (λ g. output_so (λ v h. (h.0, h.0.bare h.1)) g.fact) k)

  -- TERMS AND DEFAULT
  good_figure : {R S : Output → Type 0} (with : ℤ → Output → Output) → ((x : ℤ) (v : Output) → (with x v).name ≡ v.name)
      → ((x : ℤ) (v : Output) → R v → in_crisp x ≡ true → in_range v.range x ≡ true → S (with x v))
      → Leads (Crisply o R) (Crisply o S) (figure with o)
  unfolding figure change_output
  good_figure {R} {S} with n m r k =
      good_judged _ r refl (λ c.
      good_advance _ (good_change _ r (λ g.
      changed (with (value_here r)) (n (value_here r)) (λ v h. m (value_here r) v h.0 (crisp_value (text r) c.1.0) h.1)
      (ranged (λ y. in_range y (value_here r) ≡ true) c.1.1.0 g.fact)) k))

  good_singleton : Leads (Crisply o Roomy) (Crisply o Filled) (singleton_body o)
  unfolding singleton_body singleton_of
  good_singleton r k =
      good_judged _ r refl (λ c.
      good_advance r (good_so (λ g.
      known (λ ts. (none_of (named (λ (t : Singleton). t.name) (text r)) ts ≡ true) × (is_name (text r) ≡ true))
      (absent (named (λ (t : Singleton). t.name) (text r)) (singletons_of o r.block) (not-true _ c.1.1.0), name_here g c.0 c.1.0) g.fact) k)
      ▹ good_expect ASSIGN
      ▹ good_figure (λ x. with_singleton (record { name = text r; at = x })) (λ x v. refl) (λ x v. term_set (text r) x v)
      ▹ good_expect SEMICOLON)

  good_output_term : {R : Output → Type 0} → ((v : Output) → R v → Open v) → Leads (Crisply o R) (Crisply o Filled) (output_term o)
  unfolding output_term
  good_output_term f r k =
      good_judged _ r refl (λ c.
      good_singleton (advance r) (good_advance r (good_so (λ g.
      known (λ ts. ltb (length ts) term_limit ≡ true) c.1.0 (output_so f g.fact)) k)))

  good_default : Leads (Crisply o Filled) (Crisply o OutputFine) (default_value o)
  unfolding default_value
  good_default r k =
      either (is NC r) (λ h. good_advance r (good_so (λ g. output_so (λ v h. h.0.0) g.fact) k))
      (good_figure with_default (λ x v. refl) default_set r k)

  good_defuzzify_of : Leads (Outputs 1) (Outputs 1) (defuzzify_of o)
  unfolding defuzzify_of
  good_defuzzify_of r k =
      good_judged _ r refl (λ c.
      good_so (λ g. whole g.fact)
      (good_advance r (good_so (λ g. known (λ ts. is_empty ts ≡ true) c.1.1.0 (declared_so (λ x. x) (focus OutputFine o r.block.outputs) g.fact)) k)
      ▹ good_range ▹ good_output_term (λ v h. h) ▹ good_repeated TERM (good_output_term (λ v h. h.0))
      ▹ good_expect METHOD ▹ good_expect COLON ▹ good_expect CoGS ▹ good_expect SEMICOLON
      ▹ good_expect DEFAULT ▹ good_expect ASSIGN ▹ good_default ▹ good_expect SEMICOLON ▹ good_expect END_DEFUZZIFY))

pub good_defuzzify : Leads (Outputs 1) (Outputs 1) defuzzify
unfolding defuzzify defuzzify_variable
good_defuzzify r k = k ▹ good_expect DEFUZZIFY ▹ good_defuzzify_of _
