-- What a text reads to is well formed.
use Rattle.std.specs.Prelude.{if◌then◌else◌}
use mathlib.Core.Path.{◌≡◌, refl, sym, ap, ◌∙◌, subst}
use mathlib.Core.Bool.{Bool, true, false, not}
use mathlib.Core.List.{List, [], ◌∷◌}
use mathlib.Core.Option.{some}
use Prim.Native.Nat.{ℕ, ◌≤◌}
use native.Mathlib.Omega.{arith}
use borrow.Author.Tests.{eqb-true, le-leb}
use lib.Dec.{ltb, eqb}
use lib.ListN.{length}
use Rattle.model.specs.Basic.{between, is_empty, all, total, distinct}
use Rattle.model.specs.Bounds.{text_limit, term_limit, input_limit, output_limit, rule_limit, word_limit, conclusion_limit}
use Rattle.model.specs.Outcome.{accepted, refused}
use Rattle.model.specs.Keywords.{END, NAME, DEFUZZIFY, END_VAR, FUNCTION_BLOCK, FUZZIFY, VAR_INPUT, VAR_OUTPUT}
use Rattle.model.specs.Block.{Input, Output, Rule, Block, conclusions, size, output_first, singletons_of, with_name, empty_block}
use Rattle.model.specs.WellFormed.{input_ok, output_ok, condition_ok, conclusion_ok, rule_ok, well_formed}
use Rattle.model.specs.Parse.{Parse, text, own_name}
use Rattle.model.specs.Reader.{parts_there, end_of_block, function_block, start, outcome_of, reads}
use Rattle.laws.proofs.Tests.{both, and_i, pass}
use Rattle.laws.proofs.Each.{Each}
use Rattle.laws.proofs.Finding.{all_imp, not_empty}
use Rattle.reading_laws.proofs.Names.{tokens_named}
use Rattle.reading_laws.proofs.Steps.{Fact, Good, Leads, ◌▹◌, good_so, good_advance, good_change, good_judged, name_here, good_expect, good_repeated}
use Rattle.reading_laws.proofs.Declarations.{InputFine, OutputFine, Inputs, good_inputs, no_outputs, good_outputs}
use Rattle.reading_laws.proofs.Fuzzify.{good_fuzzify}
use Rattle.reading_laws.proofs.Defuzzify.{good_defuzzify}
use Rattle.reading_laws.proofs.RuleBlock.{frame, Rules, good_rule_block}

-- THE END
-- m to n
among : (m n k : ℕ) → m ≤ k → k ≤ n → between m n k ≡ true
among m n k h l = and_i _ _ (le-leb m k h) (le-leb k n l)

input_ok_lem : (v : Input) → InputFine v → not (is_empty v.terms) ≡ true → input_ok v ≡ true
unfolding input_ok
input_ok_lem v f h = pass _ (f.name, (among 1 term_limit (length v.terms) (not_empty v.terms h) f.count, (f.terms, (f.apart, tt))))

output_ok_lem : (v : Output) → OutputFine v → not (is_empty v.terms) ≡ true → output_ok v ≡ true
unfolding output_ok
output_ok_lem v f h =
    pass _
    (f.name, (among 1 term_limit (length v.terms) (not_empty v.terms h) f.count, (f.range, (f.terms, (f.apart, (f.default, tt))))))

-- a fact and a test of each give another test of each
all_from : {A : Type 0} (P : A → Type 0) (p q : A → Bool) → ((x : A) → P x → p x ≡ true → q x ≡ true)
    → (xs : List A) → Each P xs → all p xs ≡ true → all q xs ≡ true
unfolding all
all_from P p q f [] h e = refl
all_from P p q f (x ∷ xs) h e =
    let b = both (p x) (all p xs) e in
    and_i _ _ (f x h.0 b.0) (all_from P p q f xs h.1 b.1)

rule_ok_lem : (b : Block) (r : Rule) → rule_ok (frame b.inputs b.outputs) r ≡ true → rule_ok b r ≡ true
unfolding rule_ok condition_ok conclusion_ok output_first singletons_of
rule_ok_lem b r h = h

well_formed_lem : (w : ℕ) (b : Block) → Rules 1 w b → parts_there b ≡ true → well_formed b ≡ true
unfolding well_formed parts_there
well_formed_lem w b s p =
    let v = s.variables in
    let z = s.rules in
    let t = both (all (λ v. not (is_empty v.terms)) b.inputs) (all (λ v. not (is_empty v.terms)) b.outputs) p in
    let m : total (λ r. size r.condition) b.rules ≤ word_limit = subst (λ (n : ℕ). n ≤ word_limit) z.words z.room in
    pass _ (
      v.name,
      (
        s.called,
        (
          among 1 input_limit (length b.inputs) v.inputs_least v.inputs_most,
          (
            among 1 output_limit (length b.outputs) v.outputs_least v.outputs_most,
            (
              all_from InputFine (λ v. not (is_empty v.terms)) input_ok input_ok_lem b.inputs v.inputs t.0,
              (
                all_from OutputFine (λ v. not (is_empty v.terms)) output_ok output_ok_lem b.outputs v.outputs t.1,
                (
                  v.apart,
                  (
                    among 1 rule_limit (length b.rules) z.least z.most,
                    (
                      all_imp (rule_ok (frame b.inputs b.outputs)) (rule_ok b) (rule_ok_lem b) b.rules z.rules,
                      (
                        z.numbers,
                        (
                          le-leb (total (λ r. size r.condition) b.rules) word_limit m,
                          (le-leb (length (conclusions b)) conclusion_limit z.conclusions, tt),
                        ),
                      ),
                    ),
                  ),
                ),
              ),
            ),
          ),
        ),
      ),
    )

-- THE WHOLE TEXT
abbrev Blank : Fact
Blank w b = (w ≡ 0) × (b ≡ empty_block)

abbrev Well : Fact
Well w b = well_formed b ≡ true

good_name : Leads Blank (Inputs 0) (own_name with_name)
unfolding own_name distinct
good_name r k =
    good_judged _ r refl (λ c.
    good_advance _ (good_change _ r (λ g.
    subst (λ (x : Block). Inputs 0 r.words (with_name (text r) x)) (sym g.fact.1)
    (record {
      variables = record {
        name = name_here g c.0 c.1.0;
        inputs_least = omega arith;
        inputs_most = omega arith;
        outputs_least = omega arith;
        outputs_most = omega arith;
        inputs = tt;
        outputs = refl;
        apart = refl;
      };
      words = g.fact.0;
      rules = refl;
    })) k))

good_end_of_block : Leads (Rules 1) Well end_of_block
unfolding end_of_block
good_end_of_block r k = good_judged _ r refl (λ c. good_advance r (good_so (λ g. well_formed_lem r.words r.block g.fact c.1.0) k))

good_function_block : Leads Blank Well function_block
unfolding function_block
good_function_block r k =
    good_so (λ g. no_outputs g.fact)
    (k ▹ good_expect FUNCTION_BLOCK ▹ good_name
    ▹ good_expect VAR_INPUT ▹ good_inputs ▹ good_repeated NAME good_inputs ▹ good_expect END_VAR)
    ▹ good_expect VAR_OUTPUT ▹ good_outputs ▹ good_repeated NAME good_outputs ▹ good_expect END_VAR
    ▹ good_fuzzify ▹ good_repeated FUZZIFY good_fuzzify
    ▹ good_defuzzify ▹ good_repeated DEFUZZIFY good_defuzzify
    ▹ good_rule_block ▹ good_end_of_block ▹ good_expect END

good_start : (s : List ℕ) → Good Blank (start s)
good_start s = record { good = λ h. record { named = tokens_named s; fact = (refl, refl) } }

pub reads_well : (s : List ℕ) (b : Block) → reads s ≡ accepted b → well_formed b ≡ true
unfolding reads
reads_well s b h = long (ltb text_limit (length s)) h
  where
    r : Parse
    r = function_block (start s)

    read : (t : Bool) → eqb r.why 0 ≡ t → (if t then accepted r.block else refused r.why (some r.place)) ≡ accepted b → well_formed b ≡ true
    read true e q = let i : r.block ≡ b = cc in sym (ap well_formed i) ∙ ((good_function_block (start s) (good_start s)).good (eqb-true r.why 0 e)).fact
    read false e q = let z : ◌≡◌ {A = ℕ} 0 1 = cc in absurd (omega arith)

    long : (t : Bool) → (if t then refused 1 (some 0) else outcome_of r) ≡ accepted b → well_formed b ≡ true
    long true q = let z : ◌≡◌ {A = ℕ} 0 1 = cc in absurd (omega arith)
    long false q = read (eqb r.why 0) refl q
