-- What one call comes to, check by check; and that heights depend on the degrees of the input terms alone.
use Rattle.std.specs.Prelude.{if◌then◌else◌}
use mathlib.Core.Path.{◌≡◌, refl, sym, ap, ◌∙◌, subst, fun_ext}
use mathlib.Core.List.{List, [], ◌∷◌}
use mathlib.Core.Bool.{true, false}
use mathlib.Core.Option.{none, some}
use Prim.Native.Nat.{ℕ, suc, ◌+◌, ◌-◌, ◌≤◌, ◌<◌}
use native.Mathlib.Omega.{arith}
use lib.IntN.{ℤ, pos}
use lib.ListN.{length, get_or}
use borrow.Author.Tests.{eq-eqb, ne_eqb}
use lib.Dec.{eqb}
use Rattle.std.specs.Prelude.{Err}
use Rattle.model.specs.Basic.{gather}
use Rattle.model.specs.Bounds.{input_limit, input_term_limit}
use Rattle.model.specs.Block.{Condition, term, neg, two, Output, Rule, Block, input_terms, output_first}
use Rattle.model.specs.Degrees.{not_of, pairs, prod_of, condition_degree}
use Rattle.model.specs.Image.{decode}
use Rattle.model.specs.Outcome.{Outcome, accepted, refused}
use Rattle.model.specs.Refusals.{refusal_of}
use Rattle.model.specs.Evaluation.{rule_degree, accumulate_all, subconclusions, height, output_answer, output_answers, no_answer, padded, figures_of, held_ok, CallResult, term_degrees, block_answers, call_result, evaluate_block, Tells}
use Rattle.model.specs.declared.Crisp.{Crisp}
use Rattle.model.specs.declared.Held.{Held}
use Rattle.model.specs.declared.Pair.{Pair}
use Rattle.model.specs.declared.Reading.{Reading}
use Rattle.model.specs.declared.Evaluation.{Evaluation}
use Rattle.model.specs.declared.Refusal.{Refusal}
use Rattle.laws.proofs.Places.{tab_ext}
use Rattle.layout.specs.Tables.{input_terms_in}
use Rattle.layout.specs.Groups.{Sound}
use Rattle.layout.proofs.Sound.{input_terms_lem}
use Rattle.input_values.specs.Filled.{filled, figures}
use Rattle.input_values.specs.Values.{values_read}
use Rattle.fuzzification.proofs.Degrees.{degrees_of_call}
use Rattle.input_values.proofs.Fill.{filled_at}
use Rattle.input_values.proofs.Wrong.{values_right, values_wrong}
use Rattle.defuzzification.specs.Outputs.{height_of, answers_by}

-- REFUSALS
-- what a refused call hands back
pub refused_tells : (why : Refusal) (h : Held) → Tells (record { verdict = Err why; answers = padded no_answer []; held = h }) h (refusal_of why)
refused_tells why h = record { verdict = refl; answers = refl; held = refl }

-- of an outcome that is the one told
pub tells_as : (r : Evaluation) (h : Held) (o p : Outcome CallResult) → o ≡ p → Tells r h p → Tells r h o
tells_as r h o p e t = subst (λ (x : Outcome CallResult). Tells r h x) (sym e) t

-- ONE CALL, check by check
module _ (b : Block) (rs : List Reading) (n : ℕ) (h : Held) where
  pub called_12 : (n ≡ length b.inputs → ⊥) → evaluate_block b rs n h ≡ refused 12 none
  unfolding evaluate_block
  called_12 f = simp (ne_eqb n (length b.inputs) f)

  module _ (e : n ≡ length b.inputs) where
    pub called_13 : held_ok b.outputs (figures_of h) ≡ false → evaluate_block b rs n h ≡ refused 13 none
    unfolding evaluate_block
    called_13 f = simp (eq-eqb n (length b.inputs) e, f)

    module _ (f : held_ok b.outputs (figures_of h) ≡ true) where
      pub called_14 : length (values_read b.inputs rs) < length b.inputs → evaluate_block b rs n h ≡ refused 14 (some (length (values_read b.inputs rs)))
      unfolding evaluate_block
      called_14 l =
          simp (eq-eqb n (length b.inputs) e, f, values_wrong 0 b.inputs rs l) (ap (λ (i : ℕ). refused 14 (some i)) (omega arith))

      pub called_ok : length b.inputs ≤ length (values_read b.inputs rs)
          → evaluate_block b rs n h ≡ accepted (call_result (block_answers b (values_read b.inputs rs) (figures_of h)))
      unfolding evaluate_block
      called_ok l = simp (eq-eqb n (length b.inputs) e, f, values_right 0 b.inputs rs l)

-- HEIGHTS by degrees that agree
module _ (ds es : List ℕ) (agree : (t : ℕ) → get_or ds t 0 ≡ get_or es t 0) where
  condition_agrees : (p : Pair) (c : Condition) → condition_degree p ds c ≡ condition_degree p es c
  unfolding condition_degree
  condition_agrees p (term t) = agree t
  condition_agrees p (neg c) = ap not_of (condition_agrees p c)
  condition_agrees p (two o a b) = λ j. pairs p o (condition_agrees p a j) (condition_agrees p b j)

  rule_agrees : (b : Block) → rule_degree b ds ≡ rule_degree b es
  unfolding rule_degree
  rule_agrees b = fun_ext (λ (r : Rule). ap (λ (d : ℕ). prod_of d r.weight) (condition_agrees b.pair r.condition))

  pub height_agrees : (b : Block) (t : ℕ) → height b ds t ≡ height b es t
  unfolding height subconclusions
  height_agrees b t =
      ap (λ (q : Rule → ℕ). accumulate_all b.accu 0 (gather (λ r. gather (λ k. if eqb k.term t then q r ∷ [] else []) r.conclusions) b.rules))
      (rule_agrees b)

-- answers by heights that agree from the first output term on
pub answers_agree : (b : Block) (f g : ℕ → ℕ) (i : ℕ) (vs : List Output) (held : List ℤ) → ((t : ℕ) → length (input_terms b) ≤ t → f t ≡ g t)
    → output_answers b f i vs held ≡ output_answers b g i vs held
unfolding output_answers output_first
answers_agree b f g i [] held e = refl
answers_agree b f g i (v ∷ vs) [] e = refl
answers_agree b f g i (v ∷ vs) (x ∷ held) e =
    let n = output_first i b in
    let a = tab_ext f g (length v.terms) n n (λ k l. e (n + k) (omega arith)) in
    let r = answers_agree b f g (suc i) vs held e in
    λ j. output_answer v (a j) x ∷ r j

-- THE ANSWERS of an accepted call
module _ (w : ℕ → ℕ) (s : Sound w) (rs : List Reading) (held : Held) (m : ℕ) (em : m ≡ input_terms_in w) (xs : List Crisp) (ds hs : List ℕ) where
  abbrev values : List ℤ
  values = values_read (decode w).inputs rs

  abbrev input_degrees : List ℕ
  input_degrees = term_degrees (decode w).inputs values

  pub answers_are : length (decode w).inputs ≤ length values → figures xs ≡ filled input_limit (pos 0) values
      → ds ≡ filled input_term_limit 0 (term_degrees (decode w).inputs (figures xs))
      → ((p : ℕ) → get_or hs p 0 ≡ height (decode w) ds (m + p)) → answers_by w hs m held ≡ block_answers (decode w) values (figures_of held)
  unfolding block_answers
  answers_are l ex ed eh =
      let of-call = degrees_of_call (decode w).inputs input_limit (figures xs) values ex l in
      let e : ds ≡ filled input_term_limit 0 input_degrees = ed ∙ ap (filled input_term_limit 0) of-call in
      let agree : (t : ℕ) → get_or ds t 0 ≡ get_or input_degrees t 0 =
      λ t. ap (λ (x : List ℕ). get_or x t 0) e ∙ filled_at input_term_limit 0 input_degrees t in
      let n : m ≡ length (input_terms (decode w)) = em ∙ sym (input_terms_lem w s.frame) in
      let H = height (decode w) input_degrees in
      answers_agree (decode w) (height_of hs m) H 0 (decode w).outputs (figures_of held)
      (λ t h.
      let q : m + (t - m) ≡ t = omega arith in
      eh (t - m) ∙ height_agrees ds input_degrees agree (decode w) (m + (t - m)) ∙ ap H q)
