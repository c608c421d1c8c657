-- Every byte of the image of a well-formed block is below 256, as every word of it fits in 32 bits.
use mathlib.Core.Path.{◌≡◌, refl, sym, subst}
use mathlib.Core.Bool.{true}
use mathlib.Core.List.{List, [], ◌∷◌, ◌++◌, map}
use mathlib.Core.Option.{Option, none, some}
use Prim.Native.Nat.{ℕ, zero, suc, ◌+◌, ◌*◌, ◌%◌, ◌≤◌, ◌<◌}
use native.Mathlib.Omega.{arith}
use native.Mathlib.Nat.{suc-mul}
use borrow.Author.Tests.{leb-true, ltb-true}
use lib.Dec.{leb, eqb}
use lib.IntN.{ℤ, pos, negsuc}
use lib.ListN.{length, take, get_or, length-append, length-map}
use Rattle.model.specs.Basic.{between, total, gather}
use Rattle.model.specs.Bounds.{M, crisp_limit, input_limit, output_limit, term_limit, point_least, point_limit, rule_limit, word_limit, conclusion_limit, input_term_limit, output_term_limit, all_term_limit, rule_number_least, depth_limit}
use Rattle.model.specs.Block.{Term, Singleton, Input, Range, Op, and, or, Condition, term, neg, two, Conclusion, Rule, Block, input_terms, output_terms, conclusions, output_first, singletons_of, size}
use Rattle.model.specs.declared.InputType.{InputType}
use Rattle.model.specs.declared.InputType.TheVariants.{Real, Int}
use Rattle.model.specs.declared.Pair.{Pair}
use Rattle.model.specs.declared.Pair.TheVariants.{MinMax, ProdAsum, BdifBsum}
use Rattle.model.specs.declared.Accumulation.{Accumulation}
use Rattle.model.specs.declared.Accumulation.TheVariants.{Max, Bsum}
use Rattle.model.specs.declared.Activation.{Activation}
use Rattle.model.specs.declared.Activation.TheVariants.{Min, Prod}
use Rattle.model.specs.Tokens.{in_crisp}
use Rattle.model.specs.Parentheses.{depth}
use Rattle.model.specs.WellFormed.{unit_ok, term_ok, input_ok, output_ok, terms_below, condition_ok, conclusion_ok, rule_ok, well_formed}
use Rattle.model.specs.Image.{word_bytes, bytes_of, crisp_word, name_words, type_word, pair_word, accu_word, act_word, range_words, default_words, point_words, singleton_term, terms, points, op_word, postfix, input_table, output_table, term_table, rule_table, conclusion_words, offsets, end_of, header, words, image}
use Rattle.laws.proofs.Each.{Each, each_passes, each_so, each_append, each_map, each_gather, each_at}
use Rattle.laws.proofs.Tests.{both, passed}
use Rattle.words.proofs.Bytes.{word_fits}
use Rattle.layout.specs.Rows.{laid}
use Rattle.layout.specs.Tables.{rule_row, rule_next}
use Rattle.layout.proofs.Sound.{own_few}
use Rattle.layout.proofs.TableLaws.{input_table_lem, output_table_lem, term_table_lem, rule_table_lem}
use Rattle.image_laws.proofs.Fields.{Spelt, below}
use Rattle.image_laws.proofs.Tables.{FineOutput}
use Rattle.image_laws.proofs.Loads.{fine}

-- 32 bits
abbrev InWord : ℕ → Type 0
InWord x = x ≤ 4294967295

bytes_small : (ws : List ℕ) → Each InWord ws → Each (λ c. c < 256) (bytes_of ws)
unfolding bytes_of
bytes_small ws h = each_gather (λ c. c < 256) word_bytes ws (each_so (λ x l. (omega arith, (omega arith, (omega arith, (omega arith, tt))))) ws h)

-- FIELDS
name_fits : (n : List ℕ) → Spelt n → Each InWord (name_words n)
unfolding name_words
name_fits n s = let f = word_fits n (below s) in (f 0, (f 1, (f 2, (f 3, tt))))

crisp_fits : (z : ℤ) → in_crisp z ≡ true → InWord (crisp_word z)
crisp_fits (pos n) h = let l : n ≤ crisp_limit = leb-true _ _ h in omega arith
crisp_fits (negsuc n) h = omega arith

type_fits : (t : InputType) → InWord (type_word t)
type_fits Real = omega arith
type_fits Int = omega arith

pair_fits : (p : Pair) → InWord (pair_word p)
pair_fits MinMax = omega arith
pair_fits ProdAsum = omega arith
pair_fits BdifBsum = omega arith

accu_fits : (a : Accumulation) → InWord (accu_word a)
accu_fits Max = omega arith
accu_fits Bsum = omega arith

act_fits : (a : Activation) → InWord (act_word a)
act_fits Min = omega arith
act_fits Prod = omega arith

op_fits : (o : Op) → InWord (op_word o)
op_fits and = omega arith
op_fits or = omega arith

range_fits : (g : Option Range) → ((x : Range) → g ≡ some x → (in_crisp x.least ≡ true) × (in_crisp x.most ≡ true)) → Each InWord (range_words g)
range_fits none h = (omega arith, (omega arith, (omega arith, tt)))
range_fits (some x) h = let q = h x refl in (omega arith, (crisp_fits x.least q.0, (crisp_fits x.most q.1, tt)))

default_fits : (d : Option ℤ) → ((x : ℤ) → d ≡ some x → in_crisp x ≡ true) → Each InWord (default_words d)
default_fits none h = (omega arith, (omega arith, tt))
default_fits (some x) h = (omega arith, (crisp_fits x (h x refl), tt))

-- ROWS, X being what is known of the rows that are left
module _ {R S : Type 0} (enc : S → R → List ℕ) (next : S → R → S) (X : S → List R → Type 0)
    (row : (σ : S) (r : R) (rs : List R) → X σ (r ∷ rs) → Each InWord (enc σ r) × X (next σ r) rs) where
  laid_fits : (σ : S) (rs : List R) → X σ rs → Each InWord (laid enc next σ rs)
  unfolding laid
  laid_fits σ [] x = tt
  laid_fits σ (r ∷ rs) x = let q = row σ r rs x in each_append InWord (enc σ r) (laid enc next (next σ r) rs) q.0 (laid_fits (next σ r) rs q.1)

-- firsts and counts stay below what is held in all
held : {R A : Type 0} (items : R → List A) (n : ℕ) (r : R) (rs : List R) → InWord (n + length (gather items (r ∷ rs)))
    → InWord n × InWord (length (items r)) × InWord (n + length (items r) + length (gather items rs))
unfolding gather
held items n r rs h = let e = length-append (items r) (gather items rs) in (omega arith, omega arith, omega arith)

-- rows of a name and more, that hold items of another table: how many, and the first of them
module _ {R A : Type 0} (name : R → List ℕ) (items : R → List A) (more : ℕ → R → List ℕ) (Good : R → Type 0)
    (spelt : (r : R) → Good r → Spelt (name r)) (fits : (n : ℕ) (r : R) → Good r → InWord n → InWord (length (items r)) → Each InWord (more n r)) where
  named_fit : (n : ℕ) (rs : List R) → Each Good rs → InWord (n + length (gather items rs))
      → Each InWord (laid (λ m r. name_words (name r) ++ more m r) (λ m r. m + length (items r)) n rs)
  named_fit n rs s l = laid_fits _ _ X row n rs (s, l)
    where
      X : ℕ → List R → Type 0
      X m us = Each Good us × InWord (m + length (gather items us))

      row : (m : ℕ) (r : R) (us : List R) → X m (r ∷ us) → Each InWord (name_words (name r) ++ more m r) × X (m + length (items r)) us
      row m r us x =
          let q = held items m r us x.1 in
          (each_append InWord (name_words (name r)) (more m r) (name_fits (name r) (spelt r x.0.0)) (fits m r x.0.0 q.0 q.1), (x.0.1, q.2))

inputs_fit : (n : ℕ) (vs : List Input) → Each (λ v. Spelt v.name) vs → InWord (n + length (gather (λ v. v.terms) vs)) → Each InWord (input_table n vs)
inputs_fit n vs s l =
    subst (Each InWord) (sym (input_table_lem n vs))
    (named_fit (λ v. v.name) (λ v. v.terms) (λ m v. type_word v.type ∷ m ∷ length v.terms ∷ []) (λ v. Spelt v.name) (λ v g. g)
    (λ m v g f c. (type_fits v.type, (f, (c, tt)))) n vs s l)

outputs_fit : (b : Block) → Each FineOutput b.outputs → InWord (length (input_terms b) + length (output_terms b)) → Each InWord (output_table b 0 b.outputs)
outputs_fit b s l =
    subst (Each InWord) (sym (output_table_lem b))
    (named_fit (λ v. v.name) (λ v. v.terms) (λ m v. m ∷ length v.terms ∷ (range_words v.range ++ default_words v.default)) FineOutput (λ v g. g.name)
    (λ m v g f c.
    let d = default_fits v.default g.default in
    (f, (c, each_append InWord (range_words v.range) (default_words v.default) (range_fits v.range g.range) d))) _ b.outputs s l)

terms_fit : (n : ℕ) (ts : List Term) → Each (λ t. Spelt t.name) ts → InWord (n + length (gather (λ t. t.points) ts)) → Each InWord (term_table n ts)
terms_fit n ts s l =
    subst (Each InWord) (sym (term_table_lem n ts))
    (named_fit (λ t. t.name) (λ t. t.points) (λ m t. m ∷ length t.points ∷ []) (λ t. Spelt t.name) (λ t g. g) (λ m t g f c. (f, (c, tt))) n ts s l)

abbrev Small : Rule → Type 0
Small r = (r.number ≤ 65535) × (r.weight ≤ M)

abbrev sizes : List Rule → ℕ
sizes rs = total (λ r. size r.condition) rs

rules_fit : (n m : ℕ) (rs : List Rule) → Each Small rs → InWord (n + sizes rs) → InWord (m + length (gather (λ r. r.conclusions) rs))
    → Each InWord (rule_table n m rs)
unfolding total
rules_fit n m rs s l k = subst (Each InWord) (sym (rule_table_lem n m rs)) (laid_fits rule_row rule_next X row (n, m) rs (s, (l, k)))
  where
    X : ℕ × ℕ → List Rule → Type 0
    X σ qs = Each Small qs × (InWord (σ.0 + sizes qs) × InWord (σ.1 + length (gather (λ r. r.conclusions) qs)))

    row : (σ : ℕ × ℕ) (r : Rule) (qs : List Rule) → X σ (r ∷ qs) → Each InWord (rule_row σ r) × X (rule_next σ r) qs
    row σ r qs x =
        let q = held (λ r. r.conclusions) σ.1 r qs x.1.1 in
        let u : InWord (σ.0 + (size r.condition + sizes qs)) = x.1.0 in
        let v : Small r = x.0.0 in
        ((omega arith, (omega arith, (omega arith, (q.0, (q.1, (omega arith, tt)))))), (x.0.1, (omega arith, q.2)))

postfix_fits : (m : ℕ) (c : Condition) → m ≤ 1000 → terms_below m c ≡ true → Each InWord (postfix c)
unfolding postfix terms_below
postfix_fits m (term t) l h = let q : t < m = ltb-true t m h in (omega arith, tt)
postfix_fits m (neg c) l h = each_append InWord (postfix c) (0 ∷ []) (postfix_fits m c l h) (omega arith, tt)
postfix_fits m (two o a b) l h =
    let r = both (terms_below m a) (terms_below m b) h in
    each_append InWord (postfix a) (postfix b ++ (op_word o ∷ [])) (postfix_fits m a l r.0)
    (each_append InWord (postfix b) (op_word o ∷ []) (postfix_fits m b l r.1) (op_fits o, tt))

-- COUNTS
at_most : (a n m : ℕ) → between a m n ≡ true → n ≤ m
at_most a n m h = leb-true n m (both (leb a n) (leb n m) h).1

few : {R A : Type 0} (items : R → List A) (m : ℕ) (rs : List R) → Each (λ r. length (items r) ≤ m) rs → length (gather items rs) ≤ length rs * m
unfolding gather
few items m [] h = omega arith
few items m (r ∷ rs) h = omega (arith, length-append (items r) (gather items rs), h.0, few items m rs h.1, suc-mul (length rs) m)

sum_few : {R : Type 0} (f : R → ℕ) (m k : ℕ) (rs : List R) → Each (λ r. f r ≤ m) rs → total f (take k rs) ≤ length rs * m
unfolding total
sum_few f m zero rs h = omega arith
sum_few f m (suc k) [] h = omega arith
sum_few f m (suc k) (r ∷ rs) h = omega (arith, h.0, sum_few f m k rs h.1, suc-mul (length rs) m)

one_few : {A : Type 0} (m k : ℕ) (ls : List (List A)) → Each (λ l. length l ≤ m) ls → length (get_or ls k []) ≤ m
one_few m k [] h = omega arith
one_few m zero (l ∷ ls) h = h.0
one_few m (suc k) (l ∷ ls) h = one_few m k ls h.1

input_count_lem : (v : Input) → input_ok v ≡ true → length v.terms ≤ term_limit
unfolding input_ok
input_count_lem v h = at_most 1 _ _ (passed _ h).1.0

input_terms_lem : (v : Input) → input_ok v ≡ true → Each (λ t. term_ok t ≡ true) v.terms
unfolding input_ok
input_terms_lem v h = each_passes term_ok v.terms (passed _ h).1.1.0

term_count : (t : Term) → term_ok t ≡ true → length t.points ≤ point_limit
unfolding term_ok
term_count t h = at_most point_least _ _ (passed _ h).1.0

record Counted (b : Block) : Type 0 where
  inputs : length b.inputs ≤ input_limit
  outputs : length b.outputs ≤ output_limit
  input_terms' : length (input_terms b) ≤ input_term_limit
  output_terms' : length (output_terms b) ≤ output_term_limit
  terms' : length (terms b) ≤ all_term_limit
  points' : length (points b) ≤ all_term_limit * point_limit
  rules : length b.rules ≤ rule_limit
  words' : sizes b.rules ≤ word_limit
  conclusions' : length (conclusions b) ≤ conclusion_limit
  of_output : Each (λ v. length v.terms ≤ term_limit) b.outputs

module _ (b : Block) (h : well_formed b ≡ true) where
  counted : Counted b
  unfolding well_formed gather
  counted =
      let r = passed _ h in
      let i : length b.inputs ≤ input_limit = at_most 1 _ _ r.1.1.0 in
      let o : length b.outputs ≤ output_limit = at_most 1 _ _ r.1.1.1.0 in
      let is = each_passes input_ok b.inputs r.1.1.1.1.0 in
      let oo = each_so own_few b.outputs (each_passes output_ok b.outputs r.1.1.1.1.1.0) in
      let it : length (input_terms b) ≤ length b.inputs * term_limit = few (λ v. v.terms) term_limit b.inputs (each_so input_count_lem b.inputs is) in
      let ot : length (output_terms b) ≤ length b.outputs * term_limit = few (λ v. v.terms) term_limit b.outputs oo in
      let lt : length (terms b) ≤ all_term_limit =
      omega (arith, length-append (input_terms b) (map singleton_term (output_terms b)), length-map (output_terms b) singleton_term) in
      let ts = each_gather (λ t. term_ok t ≡ true) (λ v. v.terms) b.inputs (each_so input_terms_lem b.inputs is) in
      let ps : Each (λ t. length t.points ≤ point_limit) (terms b) =
      each_append _ (input_terms b) (map singleton_term (output_terms b)) (each_so term_count (input_terms b) ts)
      (each_map _ singleton_term (output_terms b) (always (output_terms b))) in
      let lp : length (points b) ≤ length (terms b) * point_limit = few (λ t. t.points) point_limit (terms b) ps in
      let q = r.1.1.1.1.1.1.1 in
      record {
        inputs = i;
        outputs = o;
        input_terms' = omega arith;
        output_terms' = omega arith;
        terms' = lt;
        points' = omega arith;
        rules = at_most 1 _ _ q.0;
        words' = leb-true _ _ q.1.1.1.0;
        conclusions' = leb-true _ _ q.1.1.1.1.0;
        of_output = oo;
      }
    where
      always : (ss : List Singleton) → Each (λ s. 1 ≤ point_limit) ss
      always [] = tt
      always (s ∷ ss) = (omega arith, always ss)

  header_fits : Each InWord (header b)
  unfolding header offsets end_of well_formed
  header_fits =
      let c = counted in
      let f = fine b h in
      let i = c.inputs in
      let o = c.outputs in
      let t = c.terms' in
      let p = c.points' in
      let r = c.rules in
      let w = c.words' in
      let k = c.conclusions' in
      let names = each_append InWord (name_words b.name) (name_words b.rule_block)
      (name_fits b.name f.name) (name_fits b.rule_block f.rule_block) in (
        omega arith,
        (
          omega arith,
          (
            omega arith,
            (
              omega arith,
              (
                omega arith,
                (
                  omega arith,
                  (
                    omega arith,
                    (
                      omega arith,
                      (
                        omega arith,
                        (
                          omega arith,
                          (
                            omega arith,
                            (
                              omega arith,
                              (
                                omega arith,
                                (
                                  omega arith,
                                  (
                                    omega arith,
                                    (
                                      omega arith,
                                      (pair_fits b.pair, (accu_fits b.accu, (act_fits b.act, (omega arith, names)))),
                                    ),
                                  ),
                                ),
                              ),
                            ),
                          ),
                        ),
                      ),
                    ),
                  ),
                ),
              ),
            ),
          ),
        ),
      )

  -- POINTS, RULES AND CONCLUSIONS
  points_fit : Each InWord (gather point_words (points b))
  points_fit = each_gather InWord point_words (points b) (each_so (λ p k. (crisp_fits p.at k.0, (omega arith, tt))) (points b) (fine b h).points')

  rules_ok : Each (λ r. rule_ok b r ≡ true) b.rules
  unfolding well_formed
  rules_ok = each_passes (rule_ok b) b.rules (passed _ h).1.1.1.1.1.1.1.1.0

  rule_small : (r : Rule) → rule_ok b r ≡ true → Small r
  unfolding rule_ok unit_ok
  rule_small r k =
      let q = passed _ k in
      (at_most rule_number_least _ _ q.0, leb-true _ _ (both (leb r.weight M) (eqb (r.weight % 1000) 0) q.1.1.1.1.0).0)

  condition_fits : (r : Rule) → rule_ok b r ≡ true → Each InWord (postfix r.condition)
  unfolding rule_ok condition_ok
  condition_fits r k =
      let n = length (input_terms b) in
      let t = counted.input_terms' in
      let q = both (terms_below n r.condition) (leb (depth r.condition) depth_limit) (passed _ k).1.0 in
      postfix_fits n r.condition (omega arith) q.0

  conclusion_fits : (k : Conclusion) → conclusion_ok b k ≡ true → Each InWord (conclusion_words k)
  unfolding conclusion_ok output_first singletons_of
  conclusion_fits k e =
      let q = passed _ e in
      let c = counted in
      let o : k.output < length b.outputs = ltb-true _ _ q.0 in
      let t : k.term < output_first k.output b + length (singletons_of k.output b) = ltb-true _ _ q.1.1.0 in
      let s = sum_few (λ v. length v.terms) term_limit k.output b.outputs c.of_output in
      let u = one_few term_limit k.output (map (λ v. v.terms) b.outputs) (each_map _ (λ v. v.terms) b.outputs c.of_output) in
      (omega (arith, c.outputs), (omega (arith, c.outputs, c.input_terms'), tt))

  conclusions_ok : (r : Rule) → rule_ok b r ≡ true → Each (λ k. conclusion_ok b k ≡ true) r.conclusions
  unfolding rule_ok
  conclusions_ok r k = each_passes (conclusion_ok b) r.conclusions (passed _ k).1.1.1.0

  conclusions_fit : Each InWord (gather conclusion_words (conclusions b))
  conclusions_fit =
      each_gather InWord conclusion_words (conclusions b)
      (each_so conclusion_fits (conclusions b) (each_gather _ (λ r. r.conclusions) b.rules (each_so conclusions_ok b.rules rules_ok)))

  words_fit : Each InWord (words b)
  unfolding words
  words_fit =
      let f = fine b h in
      let c = counted in
      let i : InWord (0 + length (input_terms b)) = omega (arith, c.input_terms') in
      let o : InWord (length (input_terms b) + length (output_terms b)) = omega (arith, c.input_terms', c.output_terms') in
      let p : InWord (0 + length (points b)) = omega (arith, c.points') in
      let n : InWord (0 + sizes b.rules) = omega (arith, c.words') in
      let k : InWord (0 + length (conclusions b)) = omega (arith, c.conclusions') in
      each_append InWord (header b) _ header_fits
      (each_append InWord (input_table 0 b.inputs) _ (inputs_fit 0 b.inputs f.inputs i)
      (each_append InWord (output_table b 0 b.outputs) _ (outputs_fit b f.outputs o)
      (each_append InWord (term_table 0 (terms b)) _ (terms_fit 0 (terms b) f.terms' p)
      (each_append InWord (gather point_words (points b)) _ points_fit
      (each_append InWord (rule_table 0 0 b.rules) _ (rules_fit 0 0 b.rules (each_so rule_small b.rules rules_ok) n k)
      (each_append InWord (gather (λ r. postfix r.condition) b.rules) _
      (each_gather InWord (λ r. postfix r.condition) b.rules (each_so condition_fits b.rules rules_ok))
      conclusions_fit))))))

  pub image_bytes : Each (λ c. c < 256) (image b)
  unfolding image
  image_bytes = bytes_small (words b) words_fit

  -- the same by place, as the laws of the load check ask for it
  pub image_byte : (k : ℕ) → get_or (image b) k 0 < 256
  image_byte = each_at (λ c. c < 256) 0 (omega arith) (image b) image_bytes
