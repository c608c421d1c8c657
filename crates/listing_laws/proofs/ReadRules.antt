-- The items of a rule block read back to its rules.
use Rattle.std.specs.Prelude.{if◌then◌else◌}
use mathlib.Core.Path.{◌≡◌, refl, sym, ap, ◌∙◌}
use mathlib.Core.Bool.{Bool, true, false, not}
use mathlib.Core.List.{List, [], ◌∷◌, ◌++◌, map, append_assoc, map-append}
use Prim.Native.Nat.{ℕ, ◌+◌, ◌<◌}
use native.Mathlib.Omega.{arith}
use borrow.Author.Tests.{lt-ltb, eqb-true}
use lib.Dec.{eqb}
use lib.ListN.{length, length-append, get_or}
use Rattle.model.specs.Basic.{all, total, gather, distinct}
use Rattle.model.specs.Bounds.{M, rule_limit, conclusion_limit}
use Rattle.model.specs.Keywords.{AND, OR, COLON, SEMICOLON, COMMA, RULE, IF, IS, THEN, ACCU, RULEBLOCK, END_RULEBLOCK}
use Rattle.model.specs.Tokens.{decimal}
use Rattle.model.specs.Block.{Block, Conclusion, Rule, input_terms, output_first, singletons_of, conclusions, size, with_rules, with_rule_block, with_pair, with_act, with_accu, with_conclusion, with_weight}
use Rattle.model.specs.declared.Pair.{Pair}
use Rattle.model.specs.declared.Pair.TheVariants.{MinMax as min-max, ProdAsum as prod-asum, BdifBsum as bdif-bsum}
use Rattle.model.specs.declared.Accumulation.{Accumulation}
use Rattle.model.specs.declared.Accumulation.TheVariants.{Max as by-max, Bsum as by-bsum}
use Rattle.model.specs.declared.Activation.{Activation}
use Rattle.model.specs.declared.Activation.TheVariants.{Min as by-min, Prod as by-prod}
use Rattle.model.specs.Parse.{Parse, kind, text, advance, change, judged, expect, repeated, listed, own_name}
use Rattle.model.specs.Declarations.{output_of}
use Rattle.model.specs.Rules.{condition_read, condition, add_rule, change_rule, algorithm, algorithm_line, algorithms, activation, activation_line, accumulation, rule_number, concluded_term, conclusion, weight, weighted, rule_given, rule_from, rule, rule_block}
use Rattle.model.specs.Image.{terms}
use Rattle.model.specs.Listing.{input_term_names, input_term_name, digits, unit_text, and_text, or_text, act_text, accu_text}
use Rattle.model.specs.WellFormed.{unit_ok, conclusion_ok, rule_ok}
use Rattle.laws.proofs.Lists.{gather_append, gather_last, total_last, update_last_snoc, total_append}
use Rattle.laws.proofs.Finding.{all_split, all_map, distinct_earlier, filled, not_empty}
use Rattle.listing_laws.proofs.Items.{Item, name, number, word, word_of, colon, semicolon, commas, condition_items, conclusion_items, weight_items, rule_items, rule_block_items}
use Rattle.listing_laws.proofs.Numbers.{decimal_digits, is_rule_number_lem, is_unit_lem, unit_back}
use Rattle.listing_laws.proofs.Facts.{BlockFacts, RuleFacts, rule_facts, conclusion_facts, inputs_apart, outputs_apart}
use Rattle.listing_laws.proofs.Reading.{at, own_name_lem, head_kind, judged_pass, expects, change_at, listed_reads, some_read}
use Rattle.listing_laws.proofs.Stages.{staged}
use Rattle.listing_laws.proofs.ReadConditions.{condition_reads}
use Rattle.listing_laws.proofs.ReadNames.{named_term, Concluded, concluded}

-- THE HEAD OF A RULE BLOCK
module _ (f : ℕ → ℕ) (xs : List Item) (b : Block) (w : ℕ) where
  pairs_read : (p : Pair)
      → algorithms (at f (word "AND" ∷ colon ∷ word_of (and_text p) ∷ semicolon ∷ word "OR" ∷ colon ∷ word_of (or_text p) ∷ semicolon ∷ xs) b w)
      ≡ at f xs (with_pair p b) w
  unfolding algorithms algorithm_line algorithm expect judged at kind advance change
  pairs_read min-max = refl
  pairs_read prod-asum = refl
  pairs_read bdif-bsum = refl

  activation_read : (a : Activation) → activation_line (at f (word "ACT" ∷ colon ∷ word_of (act_text a) ∷ semicolon ∷ xs) b w) ≡ at f xs (with_act a b) w
  unfolding activation_line activation expect at kind advance change
  activation_read by-min = refl
  activation_read by-prod = refl

  accumulation_read : (a : Accumulation) → accumulation (at f (word_of (accu_text a) ∷ xs) b w) ≡ at f xs (with_accu a b) w
  unfolding accumulation at kind advance change
  accumulation_read by-max = refl
  accumulation_read by-bsum = refl

-- A RULE
weight_stops : (u : ℕ) (ys : List Item) → eqb (head_kind (weight_items u ++ (semicolon ∷ ys))) COMMA ≡ false
weight_stops u ys = go (eqb u M)
  where
    go : (t : Bool) → eqb (head_kind ((if t then [] else word "WITH" ∷ number (unit_text u) ∷ []) ++ (semicolon ∷ ys))) COMMA ≡ false
    go true = refl
    go false = refl

regroup : (a k u ys : List Item) (t s : Item) → (a ++ (t ∷ (k ++ (u ++ (s ∷ []))))) ++ ys ≡ a ++ (t ∷ (k ++ (u ++ (s ∷ ys))))
regroup a k u ys t s = simp append_assoc

module _ (f : ℕ → ℕ) (b : Block) (h : BlockFacts b) where
  -- with the rules so far
  abbrev ruled : List Rule → Block
  ruled rs = with_rules (λ qs. rs) b

  -- the condition words of some rules
  abbrev words_of : List Rule → ℕ
  words_of rs = total (λ q. size q.condition) rs

  changed : (g : Rule → Rule) (ds : List Rule) (q : Rule) → change_rule g (ruled (ds ++ (q ∷ []))) ≡ ruled (ds ++ (g q ∷ []))
  unfolding change_rule
  changed g ds q = ap ruled (update_last_snoc g ds q)

  no_weight : (xs : List Item) (c : Block) (w : ℕ) → weighted (at f (semicolon ∷ xs) c w) ≡ at f (semicolon ∷ xs) c w
  unfolding weighted at kind
  no_weight xs c w = refl

  some_weight : (u : ℕ) → unit_ok u ≡ true → (ds : List Rule) (q : Rule) (xs : List Item) (w : ℕ)
      → weighted (at f (word "WITH" ∷ number (unit_text u) ∷ xs) (ruled (ds ++ (q ∷ []))) w) ≡ at f xs (ruled (ds ++ (with_weight u q ∷ []))) w
  unfolding weighted weight at kind text advance change
  some_weight u ok ds q xs w =
      judged_pass _ _ _ (refl, (is_unit_lem u ok, tt))
      ∙ ap (λ (m : ℕ). at f xs (change_rule (with_weight m) (ruled (ds ++ (q ∷ [])))) w) (unit_back u ok)
      ∙ ap (λ (c : Block). at f xs c w) (changed (with_weight u) ds q)

  module _ (ds : List Rule) (r : Rule) (es : List Rule) (e : b.rules ≡ ds ++ (r ∷ es)) where
    facts : RuleFacts b r
    facts = rule_facts b r (all_split (rule_ok b) ds r es e h.rules_ok)

    -- the rule with the conclusions so far
    abbrev given : List Conclusion → Rule
    given ks = record { number = r.number; condition = r.condition; conclusions = ks; weight = M }

    abbrev concluding : List Conclusion → Block
    concluding ks = ruled (ds ++ (given ks ∷ []))

    weight_read : (xs : List Item) (w : ℕ)
        → weighted (at f (weight_items r.weight ++ (semicolon ∷ xs)) (concluding r.conclusions) w)
        ≡ at f (semicolon ∷ xs) (ruled (ds ++ (r ∷ []))) w
    weight_read xs w = go (eqb r.weight M) refl
      where
        go : (t : Bool) → eqb r.weight M ≡ t
            → weighted (at f ((if t then [] else word "WITH" ∷ number (unit_text r.weight) ∷ []) ++ (semicolon ∷ xs)) (concluding r.conclusions) w)
            ≡ at f (semicolon ∷ xs) (ruled (ds ++ (r ∷ []))) w
        go true z =
            no_weight xs (concluding r.conclusions) w
            ∙ ap (λ (m : ℕ). at f (semicolon ∷ xs) (ruled (ds ++ (with_weight m r ∷ []))) w) (sym (eqb-true r.weight M z))
        go false z = some_weight r.weight facts.weight ds (given r.conclusions) (semicolon ∷ xs) w

    new_number : all (λ q. not (eqb q.number r.number)) ds ≡ true
    new_number =
        sym (all_map (λ m. not (eqb m r.number)) (λ q. q.number) ds)
        ∙ distinct_earlier eqb (map (λ q. q.number) ds) r.number (map (λ q. q.number) es)
        (sym (ap (distinct eqb) (ap (map (λ q. q.number)) e ∙ map-append (λ q. q.number) ds (r ∷ es))) ∙ h.numbers)

    number_read : (xs : List Item) (w : ℕ) → rule_number (at f (number (digits r.number) ∷ xs) (ruled ds) w) ≡ at f xs (ruled ds) w
    unfolding rule_number at kind text advance
    number_read xs w =
        judged_pass _ _ _ (
          refl,
          (
            is_rule_number_lem r.number facts.number,
            (ap (λ (m : ℕ). all (λ q. not (eqb q.number m)) ds) (decimal_digits r.number) ∙ new_number, tt),
          ),
        )

    -- fewer conclusions than the limit, before one more
    room : (kds : List Conclusion) (k : Conclusion) (kes : List Conclusion) → r.conclusions ≡ kds ++ (k ∷ kes)
        → length (conclusions (concluding kds)) < conclusion_limit
    unfolding gather
    room kds k kes z =
        let of : List Rule → List Conclusion = λ rs. gather (λ q. q.conclusions) rs in
        let l₁ = ap length (gather_last (λ q. q.conclusions) ds (given kds)) ∙ length-append (of ds) kds in
        let l₂ =
        ap (λ (rs : List Rule). length (of rs)) e
        ∙ ap length (gather_append (λ q. q.conclusions) ds (r ∷ es)) ∙ length-append (of ds) (r.conclusions ++ of es) in
        omega (arith, l₁, l₂, length-append r.conclusions (of es), ap length z, length-append kds (k ∷ kes), h.conclusions)

    module _ (kds : List Conclusion) (k : Conclusion) (kes : List Conclusion) (z : r.conclusions ≡ kds ++ (k ∷ kes)) (ys : List Item) (w : ℕ) where
      abbrev now : Block
      now = concluding kds

      abbrev variable : List ℕ
      variable = get_or (map (λ v. v.name) b.outputs) k.output []

      abbrev its : List ℕ
      its = get_or (map (λ t. t.name) (terms b)) k.term []

      ok_here : conclusion_ok now k ≡ true
      unfolding conclusion_ok output_first singletons_of
      ok_here = all_split (conclusion_ok b) kds k kes z facts.conclusions

      back : Concluded now k variable its
      back =
          concluded now h.outputs_ok (outputs_apart b h) k (conclusion_facts now k ok_here)

      concluded_read : concluded_term (output_of variable now) (at f (name its ∷ ys) now w) ≡ at f ys (concluding (kds ++ (k ∷ []))) w
      unfolding concluded_term at kind text advance change
      concluded_read =
          judged_pass _ _ _ (refl, (back.term_fits, (back.has, tt)))
          ∙ ap (λ (c : Conclusion). at f ys (change_rule (with_conclusion c) now) w) (λ j. record { output = back.output j; term = back.term j })
          ∙ ap (λ (c : Block). at f ys c w) (changed (with_conclusion k) ds (given kds))

      conclusion_read : conclusion (at f (conclusion_items b k ++ ys) now w) ≡ at f ys (concluding (kds ++ (k ∷ []))) w
      unfolding conclusion conclusion_items at kind text advance
      conclusion_read =
          judged_pass _ _ _ (refl, (back.variable_fits, (back.declared, (lt-ltb (length (conclusions now)) conclusion_limit (room kds k kes z), tt))))
          ∙ ap (concluded_term (output_of variable now)) (expects IS f _ (name its ∷ ys) now w)
          ∙ concluded_read

    -- what follows the condition
    abbrev behind : List Item → List Item
    behind ys = word "THEN" ∷ (commas (map (conclusion_items b) r.conclusions) ++ (weight_items r.weight ++ (semicolon ∷ ys)))

    given_read : (n : ℕ) → n ≡ r.number → (ys : List Item) (w : ℕ)
        → rule_given n (condition_read (at f (behind ys) (ruled ds) w) r.condition)
        ≡ at f ys (ruled (ds ++ (r ∷ []))) w
    unfolding rule_given add_rule
    given_read n z ys w =
        let ks = r.conclusions in
        let more = weight_items r.weight ++ (semicolon ∷ ys) in
        let items = commas (map (conclusion_items b) ks) ++ more in
        let first = filled ks (not_empty ks facts.some) in
        ap (λ (m : ℕ). rule_given m (condition_read (at f (word "THEN" ∷ items) (ruled ds) w) r.condition)) z
        ∙ ap (λ (p : Parse). expect SEMICOLON (weighted (listed conclusion (expect THEN p)))) (change_at f (word "THEN" ∷ items) (ruled ds) w _)
        ∙ ap (λ (p : Parse). expect SEMICOLON (weighted (listed conclusion p))) (expects THEN f _ items (concluding []) w)
        ∙ ap (λ (p : Parse). expect SEMICOLON (weighted p))
        (listed_reads conclusion (conclusion_items b) concluding (λ cs. w) f ks (λ kds k kes xs y. conclusion_read kds k kes y xs w)
        more (weight_stops r.weight ys) first.0 first.1 first.2)
        ∙ ap (expect SEMICOLON) (weight_read ys w)
        ∙ expects SEMICOLON f _ ys (ruled (ds ++ (r ∷ []))) w

    from_read : (t : List ℕ) (xs : List Item) (w : ℕ)
        → rule_from (at f (number t ∷ xs) (ruled ds) w)
        ≡ rule_given (decimal t) (condition (expect IF (expect COLON (rule_number (at f (number t ∷ xs) (ruled ds) w)))))
    unfolding rule_from at text
    from_read t xs w = refl

    rule_start : (xs : List Item) (w : ℕ) → rule (at f (word "RULE" ∷ xs) (ruled ds) w) ≡ rule_from (at f xs (ruled ds) w)
    unfolding rule at kind advance
    rule_start xs w =
        judged_pass _ _ _ (refl, (lt-ltb (length ds) rule_limit (omega (arith, ap length e, length-append ds (r ∷ es), h.rules.1)), tt))

    condition_read_lem : (rest : List Item) → eqb (head_kind rest) AND ≡ false → eqb (head_kind rest) OR ≡ false
        → condition (at f (condition_items (input_term_name b) r.condition ++ rest) (ruled ds) (words_of ds))
        ≡ condition_read (at f rest (ruled ds) (words_of ds + size r.condition)) r.condition
    unfolding input_term_name input_term_names total
    condition_read_lem rest u v =
        condition_reads f (ruled ds) (input_term_name b) (length (input_terms b))
        (named_term (ruled ds) h.inputs_ok (inputs_apart b h))
        r.condition facts.terms facts.deep (words_of ds) rest u v
        (omega (arith, h.words, ap words_of e, total_append (λ q. size q.condition) ds (r ∷ es)))

    rule_read : (ys : List Item) → rule (at f (rule_items b r ++ ys) (ruled ds) (words_of ds)) ≡ at f ys (ruled (ds ++ (r ∷ []))) (words_of (ds ++ (r ∷ [])))
    unfolding rule_items
    rule_read ys =
        let n = digits r.number in
        let c = condition_items (input_term_name b) r.condition in
        let k = commas (map (conclusion_items b) r.conclusions) in
        let w = words_of ds in
        let xs = colon ∷ word "IF" ∷ (c ++ behind ys) in
        ap (λ (l : List Item). rule (at f (word "RULE" ∷ number n ∷ colon ∷ word "IF" ∷ l) (ruled ds) w))
        (regroup c k (weight_items r.weight) ys (word "THEN") semicolon)
        ∙ rule_start (number n ∷ xs) w
        ∙ from_read n xs w
        ∙ ap (λ (p : Parse). rule_given (decimal n) (condition (expect IF (expect COLON p)))) (number_read xs w)
        ∙ ap (λ (p : Parse). rule_given (decimal n) (condition (expect IF p))) (expects COLON f _ (word "IF" ∷ (c ++ behind ys)) (ruled ds) w)
        ∙ ap (λ (p : Parse). rule_given (decimal n) (condition p)) (expects IF f _ (c ++ behind ys) (ruled ds) w)
        ∙ ap (rule_given (decimal n)) (condition_read_lem (behind ys) refl refl)
        ∙ given_read (decimal n) (decimal_digits r.number) ys (w + size r.condition)
        ∙ ap (λ (m : ℕ). at f ys (ruled (ds ++ (r ∷ []))) m) (sym (total_last (λ q. size q.condition) ds r))

  -- THE WHOLE RULE BLOCK
  rules_read : (rest : List Item) → eqb (head_kind rest) RULE ≡ false
      → repeated RULE rule (rule (at f (gather (rule_items b) b.rules ++ rest) (ruled []) 0)) ≡ at f rest b (words_of b.rules)
  unfolding rule_items total
  rules_read rest stops =
      let first = filled b.rules h.rules.0 in
      some_read RULE rule (rule_items b) ruled words_of f b.rules (λ r. (_, _, refl)) (λ ds r es ys e. rule_read ds r es e ys) rest stops
      first.0 first.1 first.2

  pub rule_block_read : (rest : List Item)
      → rule_block (at f (rule_block_items b ++ rest) (staged b.name b.inputs b.outputs) 0) ≡ at f rest b (words_of b.rules)
  unfolding rule_block rule_block_items
  rule_block_read rest =
      let varied = staged b.name b.inputs b.outputs in
      let end = word "END_RULEBLOCK" ∷ rest in
      let rules = gather (rule_items b) b.rules ++ end in
      let x₄ = word_of (accu_text b.accu) ∷ semicolon ∷ rules in
      let x₃ = word "ACCU" ∷ colon ∷ x₄ in
      let x₂ = word "ACT" ∷ colon ∷ word_of (act_text b.act) ∷ semicolon ∷ x₃ in
      let x₁ = word "AND" ∷ colon ∷ word_of (and_text b.pair) ∷ semicolon ∷ word "OR" ∷ colon ∷ word_of (or_text b.pair) ∷ semicolon ∷ x₂ in
      let b₁ = with_rule_block b.rule_block varied in
      let b₂ = with_pair b.pair b₁ in
      let b₃ = with_act b.act b₂ in
      let all-rules : Parse → Parse = λ p. expect END_RULEBLOCK (repeated RULE rule (rule p)) in
      let accu : Parse → Parse = λ p. all-rules (expect SEMICOLON (accumulation (expect COLON (expect ACCU p)))) in
      ap (λ (l : List Item). rule_block (at f (word "RULEBLOCK" ∷ name b.rule_block
      ∷ word "AND" ∷ colon ∷ word_of (and_text b.pair) ∷ semicolon ∷ word "OR" ∷ colon ∷ word_of (or_text b.pair) ∷ semicolon
      ∷ word "ACT" ∷ colon ∷ word_of (act_text b.act) ∷ semicolon ∷ word "ACCU" ∷ colon ∷ word_of (accu_text b.accu) ∷ semicolon ∷ l) varied 0))
      (append_assoc (gather (rule_items b) b.rules) (word "END_RULEBLOCK" ∷ []) rest)
      ∙ ap (λ (p : Parse). accu (activation_line (algorithms (own_name with_rule_block p)))) (expects RULEBLOCK f _ (name b.rule_block ∷ x₁) varied 0)
      ∙ ap (λ (p : Parse). accu (activation_line (algorithms p))) (own_name_lem with_rule_block f b.rule_block x₁ varied 0 h.rule_block)
      ∙ ap (λ (p : Parse). accu (activation_line p)) (pairs_read f x₂ b₁ 0 b.pair)
      ∙ ap accu (activation_read f x₃ b₂ 0 b.act)
      ∙ ap (λ (p : Parse). all-rules (expect SEMICOLON (accumulation (expect COLON p)))) (expects ACCU f _ (colon ∷ x₄) b₃ 0)
      ∙ ap (λ (p : Parse). all-rules (expect SEMICOLON (accumulation p))) (expects COLON f _ x₄ b₃ 0)
      ∙ ap (λ (p : Parse). all-rules (expect SEMICOLON p)) (accumulation_read f (semicolon ∷ rules) b₃ 0 b.accu)
      ∙ ap all-rules (expects SEMICOLON f _ rules (ruled []) 0)
      ∙ ap (expect END_RULEBLOCK) (rules_read end refl)
      ∙ expects END_RULEBLOCK f _ rest b (words_of b.rules)
