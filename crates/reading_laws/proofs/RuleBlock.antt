-- RULEBLOCK: rules have numbers of their own, conditions over the terms that are there, and conclusions, no more of each than there may be.
use mathlib.Core.Path.{◌≡◌, refl, sym, ap, ◌∙◌, subst}
use mathlib.Core.Bool.{Bool, true, false, not}
use mathlib.Core.List.{List, [], ◌∷◌, ◌++◌, map, map-append}
use mathlib.Core.Option.{Option, none, some}
use Prim.Native.Nat.{ℕ, ◌+◌, ◌≤◌}
use native.Mathlib.Omega.{arith}
use borrow.Author.Tests.{ltb-true, le-leb, lt-ltb}
use lib.Dec.{ltb, eqb}
use lib.ListN.{length, length-append, length-map}
use Rattle.model.specs.Basic.{between, all, total, gather, distinct, update_last}
use Rattle.model.specs.Bounds.{M, rule_limit, word_limit, conclusion_limit, rule_number_least, rule_number_limit, depth_limit}
use Rattle.model.specs.Keywords.{COLON, SEMICOLON, ACCU, ACT, AND, BSUM, END_RULEBLOCK, IF, IS, MAX, MIN, OR, PROD, RULE, RULEBLOCK, THEN, WITH}
use Rattle.model.specs.Tokens.{is_name, decimal, unit_of}
use Rattle.model.specs.Block.{Input, Output, Condition, Conclusion, Rule, Block, empty_block, block_of, conclusions, size, output_first, singletons_of, with_inputs, with_outputs, with_rule_block, with_conclusion, with_weight}
use Rattle.model.specs.declared.Pair.{Pair}
use Rattle.model.specs.declared.Activation.{Activation}
use Rattle.model.specs.declared.Accumulation.{Accumulation}
use Rattle.model.specs.Parentheses.{depth}
use Rattle.model.specs.WellFormed.{unit_ok, condition_ok, conclusion_ok, rule_ok}
use Rattle.model.specs.Parse.{Parse, text, is, advance, expect, own_name}
use Rattle.model.specs.Declarations.{output_of}
use Rattle.model.specs.Rules.{ConditionRead, condition, add_rule, change_rule, and_pair, or_pair, algorithm, algorithm_line, algorithms, activation, activation_line, accumulation, rule_number, concluded_term, conclusion, weight, weighted, rule_given, rule_from, rule, rule_block}
use Rattle.laws.proofs.Tests.{pass, and_i}
use Rattle.laws.proofs.Each.{Each}
use Rattle.laws.proofs.Lists.{gather_last, total_last, update_last_snoc}
use Rattle.laws.proofs.Finding.{all_map, some_there}
use Rattle.reading_laws.proofs.Steps.{Fact, Good, Leads, ◌▹◌, good_so, either, good_refuse, good_advance, good_change, good_judged, name_here, good_expect, good_repeated, good_listed}
use Rattle.reading_laws.proofs.Numbers.{unit_value, rule_number_lem}
use Rattle.reading_laws.proofs.Focus.{map_update_last, total_update_last, all_last, distinct_last}
use Rattle.reading_laws.proofs.Declarations.{InputFine, OutputFine, Variables, Outputs}
use Rattle.reading_laws.proofs.Conditions.{Still, After, GoodRead, good_condition}

-- the block of these variables alone
abbrev pub frame : List Input → List Output → Block
frame is os = with_outputs (λ x. os) (with_inputs (λ x. is) empty_block)

-- m rules at least, in a block with the variables of f, after w condition words
pub record RulesFine (m : ℕ) (f : Block) (w : ℕ) (rs : List Rule) : Type 0 where
  pub least : m ≤ length rs
  pub most : length rs ≤ rule_limit
  pub rules : all (rule_ok f) rs ≡ true
  pub numbers : distinct eqb (map (λ r. r.number) rs) ≡ true
  pub words : w ≡ total (λ r. size r.condition) rs
  pub room : w ≤ word_limit
  pub conclusions : length (gather (λ r. r.conclusions) rs) ≤ conclusion_limit

-- the last rule has k conclusions at least, so far
record RuleOpen (k : ℕ) (f : Block) (w : ℕ) (rs : List Rule) : Type 0 where
  before : List Rule
  last : Rule
  split : rs ≡ before ++ (last ∷ [])
  most : length rs ≤ rule_limit
  numbers : distinct eqb (map (λ r. r.number) rs) ≡ true
  words : w ≡ total (λ r. size r.condition) rs
  room : w ≤ word_limit
  rules : all (rule_ok f) before ≡ true
  number : between rule_number_least rule_number_limit last.number ≡ true
  condition : condition_ok f last.condition ≡ true
  concluded : all (conclusion_ok f) last.conclusions ≡ true
  weighed : unit_ok last.weight ≡ true
  least : k ≤ length last.conclusions
  all_conclusions : length (gather (λ r. r.conclusions) before) + length last.conclusions ≤ conclusion_limit

pub record Ruled (Z : Block → ℕ → List Rule → Type 0) (w : ℕ) (b : Block) : Type 0 where
  pub variables : Variables 1 1 (Each InputFine) (Each OutputFine) b.name b.inputs b.outputs
  pub called : is_name b.rule_block ≡ true
  pub rules : Z (frame b.inputs b.outputs) w b.rules

none_yet : (f : Block) (w : ℕ) (rs : List Rule) → w ≡ 0 → rs ≡ [] → RulesFine 0 f w rs
unfolding all distinct total gather
none_yet f w rs e z =
    subst (λ (l : List Rule). RulesFine 0 f w l) (sym z)
    (record { least = omega arith; most = omega arith; rules = refl; numbers = refl; words = e; room = omega arith; conclusions = omega arith })

module _ {f : Block} {w : ℕ} {rs : List Rule} where
  conclusions_count : {k : ℕ} (g : RuleOpen k f w rs)
      → length (gather (λ r. r.conclusions) rs) ≡ length (gather (λ r. r.conclusions) g.before) + length g.last.conclusions
  conclusions_count g =
      ap (λ (x : List Rule). length (gather (λ r. r.conclusions) x)) g.split
      ∙ ap length (gather_last (λ r. r.conclusions) g.before g.last)
      ∙ length-append (gather (λ r. r.conclusions) g.before) g.last.conclusions

  rule_changed : {k : ℕ} (g : RuleOpen k f w rs) (h : Rule → Rule) (j : ℕ) → ((r : Rule) → (h r).number ≡ r.number)
      → ((r : Rule) → (h r).condition ≡ r.condition) → all (conclusion_ok f) (h g.last).conclusions ≡ true
      → length (gather (λ r. r.conclusions) g.before) + length (h g.last).conclusions ≤ conclusion_limit → unit_ok (h g.last).weight ≡ true
      → j ≤ length (h g.last).conclusions → RuleOpen j f w (update_last h rs)
  rule_changed g h j n c o m u l =
      let e : map (λ r. r.number) (update_last h rs) ≡ map (λ r. r.number) rs = map_update_last (λ r. r.number) h n rs in
      let a : length (update_last h rs) ≡ length rs = sym (length-map (update_last h rs) (λ r. r.number)) ∙ ap length e ∙ length-map rs (λ r. r.number) in
      record {
        before = g.before;
        last = h g.last;
        split = ap (update_last h) g.split ∙ update_last_snoc h g.before g.last;
        most = rw a g.most;
        numbers = ap (distinct eqb) e ∙ g.numbers;
        words = g.words ∙ sym (total_update_last (λ r. size r.condition) h (λ r. ap size (c r)) rs);
        room = g.room;
        rules = g.rules;
        number = ap (between rule_number_least rule_number_limit) (n g.last) ∙ g.number;
        condition = ap (condition_ok f) (c g.last) ∙ g.condition;
        concluded = o;
        weighed = u;
        least = l;
        all_conclusions = m;
      }

  conclusion_more : {k : ℕ} (c : Conclusion) → conclusion_ok f c ≡ true → ltb (length (gather (λ r. r.conclusions) rs)) conclusion_limit ≡ true
      → RuleOpen k f w rs → RuleOpen 1 f w (update_last (with_conclusion c) rs)
  conclusion_more c e l g =
      let z = g.last.conclusions in
      let a = length-append z (c ∷ []) in
      let j = ltb-true (length (gather (λ r. r.conclusions) rs)) conclusion_limit l in
      let i = conclusions_count g in
      rule_changed g (with_conclusion c) 1 (λ r. refl) (λ r. refl) (all_last (conclusion_ok f) z c g.concluded e) (omega arith) g.weighed (omega arith)

  weight_set : {k : ℕ} (u : ℕ) → unit_ok u ≡ true → RuleOpen k f w rs → RuleOpen k f w (update_last (with_weight u) rs)
  weight_set {k} u e g = rule_changed g (with_weight u) k (λ r. refl) (λ r. refl) g.concluded g.all_conclusions e g.least

  rule_done : RuleOpen 1 f w rs → RulesFine 1 f w rs
  unfolding rule_ok
  rule_done g =
      let a = ap length g.split ∙ length-append g.before (g.last ∷ []) in
      let i = conclusions_count g in
      let q = g.all_conclusions in
      let o : rule_ok f g.last ≡ true =
      pass _ (g.number, (g.condition, (some_there g.last.conclusions g.least, (g.concluded, (g.weighed, tt))))) in
      record {
        least = omega arith;
        most = g.most;
        rules = ap (all (rule_ok f)) g.split ∙ all_last (rule_ok f) g.before g.last g.rules o;
        numbers = g.numbers;
        words = g.words;
        room = g.room;
        conclusions = omega arith;
      }

-- READING RULES
abbrev pub Rules : ℕ → Fact
Rules m = Ruled (RulesFine m)

abbrev Last : ℕ → Fact
Last k = Ruled (RuleOpen k)

ruled_so : {Y Z : Block → ℕ → List Rule → Type 0} {w : ℕ} {b : Block}
    → (Y (frame b.inputs b.outputs) w b.rules → Z (frame b.inputs b.outputs) w b.rules) → Ruled Y w b → Ruled Z w b
ruled_so f s = record { variables = s.variables; called = s.called; rules = f s.rules }

-- there is room for a rule, then one of the number n
abbrev Space : ℕ → Fact
Space m w b = Rules m w b × (ltb (length b.rules) rule_limit ≡ true)

record Numbered (m n w : ℕ) (b : Block) : Type 0 where
  space : Space m w b
  number : between rule_number_least rule_number_limit n ≡ true
  new : all (λ q. not (eqb q.number n)) b.rules ≡ true

good_number : {m : ℕ} (r : Parse) → Good (Space m) r → Good (Numbered m (decimal (text r))) (rule_number r)
unfolding rule_number
good_number r k =
    good_judged _ r refl (λ c.
    good_advance r (good_so (λ g. record { space = g.fact; number = rule_number_lem (text r) c.1.0; new = c.1.1.0 }) k))

other_number : (n : ℕ) (rs : List Rule) → all (λ q. not (eqb q.number n)) rs ≡ true → all (λ x. not (eqb x n)) (map (λ r. r.number) rs) ≡ true
other_number n rs h = all_map (λ x. not (eqb x n)) (λ r. r.number) rs ∙ h

rule_begun : (c : Condition) {m w w' n : ℕ} {b b' : Block} → After w b (Numbered m n w b) (λ c. depth c ≤ depth_limit) c w' b' → Last 0 w' (add_rule n c b')
unfolding add_rule all condition_ok unit_ok
rule_begun c {m} {w} {w'} {n} {b} {b'} s = subst (λ (x : Block). Last 0 w' (add_rule n c x)) (sym s.block) begun
  where
    new : Rule
    new = record { number = n; condition = c; conclusions = []; weight = M }

    begun : Last 0 w' (add_rule n c b)
    begun =
        let p = s.kept.0.space.0 in
        let q = p.rules in
        let l = ltb-true (length b.rules) rule_limit s.kept.0.space.1 in
        let a = length-append b.rules (new ∷ []) in
        let v = q.conclusions in
        record {
          variables = p.variables;
          called = p.called;
          rules = record {
            before = b.rules;
            last = new;
            split = refl;
            most = omega arith;
            numbers =
                ap (distinct eqb) (map-append (λ r. r.number) b.rules (new ∷ []))
                ∙ distinct_last eqb (map (λ r. r.number) b.rules) n q.numbers (other_number n b.rules s.kept.0.new);
            words = s.words ∙ ap (λ (k : ℕ). k + size c) q.words ∙ sym (total_last (λ r. size r.condition) b.rules new);
            room = s.room;
            rules = q.rules;
            number = s.kept.0.number;
            condition = and_i _ _ s.kept.1 (le-leb (depth c) depth_limit s.kept.2);
            concluded = refl;
            weighed = refl;
            least = omega arith;
            all_conclusions = omega arith;
          };
        }

-- an output o for one more conclusion
abbrev Concluding : ℕ → ℕ → Fact
Concluding k o w b = Last k w b × ((ltb o (length b.outputs) ≡ true) × (ltb (length (conclusions b)) conclusion_limit ≡ true))

conclusion_fine : (o s : ℕ) (b : Block) → ltb o (length b.outputs) ≡ true → ltb s (length (singletons_of o b)) ≡ true
    → conclusion_ok (frame b.inputs b.outputs) (record { output = o; term = output_first o b + s }) ≡ true
unfolding conclusion_ok output_first singletons_of
conclusion_fine o s b h l =
    let j = ltb-true s (length (singletons_of o b)) l in
    pass _ (
      h,
      (
        le-leb (output_first o b) (output_first o b + s) (omega arith),
        (lt-ltb (output_first o b + s) (output_first o b + length (singletons_of o b)) (omega arith), tt),
      ),
    )

good_concluded : {k : ℕ} (o : ℕ) → Leads (Concluding k o) (Last 1) (concluded_term o)
unfolding concluded_term change_rule
good_concluded o r k =
    good_judged _ r refl (λ c.
    good_advance _ (good_change _ r (λ g.
    let s = g.fact.0 in
    record {
      variables = s.variables;
      called = s.called;
      rules = conclusion_more _ (conclusion_fine o _ r.block g.fact.1.0 c.1.1.0) g.fact.1.1 s.rules;
    }) k))

good_conclusion : {k : ℕ} → Leads (Last k) (Last 1) conclusion
unfolding conclusion
good_conclusion r k =
    good_judged _ r refl (λ c.
    good_advance r (good_so (λ g. (g.fact, (c.1.1.0, c.1.1.1.0))) k) ▹ good_expect IS ▹ good_concluded (output_of (text r) r.block))

good_weight : {k : ℕ} → Leads (Last k) (Last k) weight
unfolding weight change_rule
good_weight r k =
    good_judged _ r refl (λ c.
    good_advance _ (good_change _ r (λ g.
    let s = g.fact in
    record { variables = s.variables; called = s.called; rules = weight_set (unit_of (text r)) (unit_value (text r) c.1.0) s.rules }) k))

good_weighted : {k : ℕ} → Leads (Last k) (Last k) weighted
unfolding weighted
good_weighted r k = either (is WITH r) (λ h. good_weight (advance r) (good_advance r k)) k

good_given : {m w n : ℕ} {b : Block} (g : ConditionRead) → GoodRead w b (Numbered m n w b) (λ c. depth c ≤ depth_limit) g → Good (Rules 1) (rule_given n g)
unfolding rule_given
good_given {m} {w} {n} {b} g k =
    good_so (λ h. ruled_so rule_done h.fact)
    (good_change (add_rule n g.tree) g.parse (λ h. rule_begun g.tree h.fact) k.read
    ▹ good_expect THEN ▹ good_listed good_conclusion good_conclusion ▹ good_weighted ▹ good_expect SEMICOLON)

-- the words and the block as they are
still : {m n : ℕ} (r : Parse) → Good (Numbered m n) r → Good (Still r.words r.block (Numbered m n r.words r.block)) r
still r k = good_so (λ g. record { words = refl; block = refl; room = g.fact.space.0.rules.room; kept = g.fact }) k

good_rule_from : {m : ℕ} → Leads (Space m) (Rules 1) rule_from
unfolding rule_from
good_rule_from {m} r k =
    let q : Parse = expect IF (expect COLON (rule_number r)) in
    let l : Good (Numbered m (decimal (text r))) q = good_number r k ▹ good_expect COLON ▹ good_expect IF in
    good_given (condition q) (good_condition q.words q.block (Numbered m (decimal (text r)) q.words q.block) q (still q l))

pub good_rule : {m : ℕ} → Leads (Rules m) (Rules 1) rule
unfolding rule
good_rule r k = good_judged _ r refl (λ c. good_rule_from (advance r) (good_advance r (good_so (λ g. (g.fact, c.1.0)) k)))

-- THE WHOLE OF IT
-- other parts of the block changed
as_it_is : {Z : Block → ℕ → List Rule → Type 0} {w : ℕ} {n v : List ℕ} {is : List Input} {os : List Output}
    {p q : Pair} {a c : Activation} {x y : Accumulation} {rs : List Rule} → Ruled Z w (block_of n is os v p a x rs) → Ruled Z w (block_of n is os v q c y rs)
as_it_is s = record { variables = s.variables; called = s.called; rules = s.rules }

good_own : Leads (Outputs 1) (Rules 0) (own_name with_rule_block)
unfolding own_name
good_own r k =
    good_judged _ r refl (λ c.
    good_advance _ (good_change _ r (λ g.
    let s = g.fact in
    record {
      variables = s.variables;
      called = name_here g c.0 c.1.0;
      rules = none_yet _ r.words r.block.rules s.words s.rules;
    }) k))

module _ {m : ℕ} where
  good_algorithm : (second : Bool) (p : Option Pair) → Leads (Rules m) (Rules m) (algorithm second p)
  unfolding algorithm
  good_algorithm second none r k = good_refuse 2 r refl
  good_algorithm second (some p) r k = good_judged _ r refl (λ c. good_advance _ (good_change _ r (λ g. as_it_is g.fact) k))

  good_line : (second : Bool) (t : ℕ) (pair_of : ℕ → Option Pair) → Leads (Rules m) (Rules m) (algorithm_line second t pair_of)
  unfolding algorithm_line
  good_line second t pair_of r k = k ▹ good_expect t ▹ good_expect COLON ▹ good_algorithm second _ ▹ good_expect SEMICOLON

  good_algorithms : Leads (Rules m) (Rules m) algorithms
  unfolding algorithms
  good_algorithms r k =
      either (is AND r) (λ e. k ▹ good_line false AND and_pair ▹ (λ q l. either (is OR q) (λ e. good_line true OR or_pair q l) l))
      (either (is OR r) (λ e. k ▹ good_line false OR or_pair ▹ (λ q l. either (is AND q) (λ e. good_line true AND and_pair q l) l)) k)

  good_activation : Leads (Rules m) (Rules m) activation
  unfolding activation
  good_activation r k =
      either (is MIN r) (λ e. good_advance _ (good_change _ r (λ g. as_it_is g.fact) k))
      (either (is PROD r) (λ e. good_advance _ (good_change _ r (λ g. as_it_is g.fact) k)) (good_refuse 2 r refl))

  good_activation_line : Leads (Rules m) (Rules m) activation_line
  unfolding activation_line
  good_activation_line r k = either (is ACT r) (λ e. k ▹ good_advance ▹ good_expect COLON ▹ good_activation ▹ good_expect SEMICOLON) k

  good_accumulation : Leads (Rules m) (Rules m) accumulation
  unfolding accumulation
  good_accumulation r k =
      either (is MAX r) (λ e. good_advance _ (good_change _ r (λ g. as_it_is g.fact) k))
      (either (is BSUM r) (λ e. good_advance _ (good_change _ r (λ g. as_it_is g.fact) k)) (good_refuse 2 r refl))

pub good_rule_block : Leads (Outputs 1) (Rules 1) rule_block
unfolding rule_block
good_rule_block r k =
    k ▹ good_expect RULEBLOCK ▹ good_own
    ▹ good_algorithms ▹ good_activation_line
    ▹ good_expect ACCU ▹ good_expect COLON ▹ good_accumulation ▹ good_expect SEMICOLON
    ▹ good_rule ▹ good_repeated RULE good_rule ▹ good_expect END_RULEBLOCK
