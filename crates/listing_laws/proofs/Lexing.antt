-- A listing is cut into exactly the tokens of `listing_items`.
use mathlib.Core.Path.{◌≡◌, refl, sym, ap, ◌∙◌}
use mathlib.Core.List.{List, [], ◌∷◌, ◌++◌, map, append_assoc, append-nil}
use mathlib.Core.Bool.{Bool, true, false}
use mathlib.Core.Option.{Option, none, some}
use Prim.Native.Nat.{ℕ, ◌/◌, ◌<◌}
use Prim.Native.String.{String}
use borrow.Author.Tests.{ltb-true}
use lib.Dec.{ltb, eqb}
use lib.IntN.{ℤ}
use lib.ListN.{length}
use Rattle.model.specs.Basic.{bytes, all, gather}
use Rattle.model.specs.Bounds.{M}
use Rattle.model.specs.Tokens.{is_name_byte, starts, is_name, tokens}
use Rattle.model.specs.Block.{Point, Term, Singleton, Input, Range, Output, Op, and, or, Condition, term, neg, two, Conclusion, Rule, Block, input_terms}
use Rattle.model.specs.declared.InputType.{InputType}
use Rattle.model.specs.declared.InputType.TheVariants.{Real as real, Int as int}
use Rattle.model.specs.declared.Pair.{Pair}
use Rattle.model.specs.declared.Pair.TheVariants.{MinMax as min-max, ProdAsum as prod-asum, BdifBsum as bdif-bsum}
use Rattle.model.specs.declared.Accumulation.{Accumulation}
use Rattle.model.specs.declared.Accumulation.TheVariants.{Max as by-max, Bsum as by-bsum}
use Rattle.model.specs.declared.Activation.{Activation}
use Rattle.model.specs.declared.Activation.TheVariants.{Min as by-min, Prod as by-prod}
use Rattle.model.specs.Listing.{commaed, digits, crisp_text, thousandths_text, TermNames, input_term_name, operator, wrapped, condition_text, type_text, input_line, output_line, point_text, term_line, fuzzify_text, range_line, singleton_line, default_text, defuzzify_text, and_text, or_text, act_text, accu_text, conclusion_text, weight_text, rule_line, rule_block_text, listing}
use Rattle.model.specs.Parentheses.{form, bare_behind_not, bare_left, bare_right}
use Rattle.model.specs.WellFormed.{point_ok, term_ok, input_ok, singleton_ok, output_ok, terms_below, figure_ok, conclusion_ok, rule_ok, well_formed}
use Rattle.laws.proofs.Tests.{both, passed}
use Rattle.listing_laws.proofs.Items
use Rattle.listing_laws.proofs.Items.{Item, item_of, name, number, word, word_of, colon, comma, semicolon, assign, dots, closing, opening, commas, within, condition_items, type_item, input_items, output_items, point_items, term_items, fuzzify_items, range_items, singleton_items, default_item, defuzzify_items, conclusion_items, weight_items, rule_items, rule_block_items, listing_items}
use Rattle.listing_laws.proofs.Pieces.{cut, cut_is, cutting, Ends, Keyword, spelt, keyword, name_cut, keyword_cut, digits_cut, thousandths_cut, crisp_cut, opening_cut, crisp_start, name_start}
use Rattle.listing_laws.proofs.Facts.{term_facts, input_facts, output_facts, rule_facts, block_facts}
use Rattle.listing_laws.proofs.Names.{input_named, output_named, conclusion_named}

-- the text w, in front of s, is cut into xs, and s into zs
pub record CutsTo (w : List ℕ) (xs : List Item) (s : List ℕ) (zs : List Item) : Type 0 where
  pub cuts : cut 0 (w ++ s) ≡ xs ++ zs

abbrev pub Cuts : List ℕ → List Item → List ℕ → Type 0
Cuts w xs s = CutsTo w xs s (cut 0 s)

-- ONE PIECE, AND THE REST
module _ {v : List ℕ} {ys : List Item} {s : List ℕ} {zs : List Item} where
  pub part : (w : List ℕ) (xs : List Item) → Cuts w xs (v ++ s) → CutsTo v ys s zs → CutsTo (w ++ v) (xs ++ ys) s zs
  part w xs a b = record {
    cuts = ap (cut 0) (append_assoc w v s) ∙ a.cuts ∙ ap (λ (l : List Item). xs ++ l) b.cuts ∙ sym (append_assoc xs ys zs);
  }

  pub text : (w : String) (xs : List Item) → ((s : List ℕ) → cut 0 (bytes w ++ s) ≡ xs ++ cut 0 s) → CutsTo v ys s zs → CutsTo (bytes w ++ v) (xs ++ ys) s zs
  text w xs e b = part (bytes w) xs (record { cuts = e (v ++ s) }) b

  -- a text that ends in an opening parenthesis
  opened : (w : String) (xs : List Item) → ((s : List ℕ) → starts (eqb 42) s ≡ false → cut 0 (bytes w ++ s) ≡ xs ++ cut 0 s)
      → starts (eqb 42) (v ++ s) ≡ false → CutsTo v ys s zs → CutsTo (bytes w ++ v) (xs ++ ys) s zs
  opened w xs e h b = part (bytes w) xs (record { cuts = e (v ++ s) h }) b

  named : (w : List ℕ) → is_name w ≡ true → starts is_name_byte (v ++ s) ≡ false → CutsTo v ys s zs → CutsTo (w ++ v) (name w ∷ ys) s zs
  named w h e b = part w (name w ∷ []) (record { cuts = name_cut w (v ++ s) h e }) b

  keyed : (w : List ℕ) → Keyword w → starts is_name_byte (v ++ s) ≡ false → CutsTo v ys s zs → CutsTo (w ++ v) (word_of w ∷ ys) s zs
  keyed w h e b = part w (word_of w ∷ []) (record { cuts = keyword_cut w (v ++ s) h e }) b

  crisp : (z : ℤ) → Ends (v ++ s) → CutsTo v ys s zs → CutsTo (crisp_text z ++ v) (number (crisp_text z) ∷ ys) s zs
  crisp z e b = part (crisp_text z) (number (crisp_text z) ∷ []) (record { cuts = crisp_cut z (v ++ s) e }) b

  thousandths : (n : ℕ) → Ends (v ++ s) → CutsTo v ys s zs → CutsTo (thousandths_text n ++ v) (number (thousandths_text n) ∷ ys) s zs
  thousandths n e b = part (thousandths_text n) (number (thousandths_text n) ∷ []) (record { cuts = thousandths_cut n (v ++ s) e }) b

  counted : (n : ℕ) → Ends (v ++ s) → CutsTo v ys s zs → CutsTo (digits n ++ v) (number (digits n) ∷ ys) s zs
  counted n e b = part (digits n) (number (digits n) ∷ []) (record { cuts = digits_cut n (v ++ s) e }) b

last : {s : List ℕ} (w : String) (xs : List Item) → ((s : List ℕ) → cut 0 (bytes w ++ s) ≡ xs ++ cut 0 s) → Cuts (bytes w) xs s
last {s} w xs e = record { cuts = e s }

-- LISTS of parts
module _ {A : Type 0} (f : A → List ℕ) (g : A → List Item) (ok : A → Bool) where
  gather_cuts : ((x : A) (s : List ℕ) → ok x ≡ true → Cuts (f x) (g x) s) → (xs : List A) (s : List ℕ) → all ok xs ≡ true → Cuts (gather f xs) (gather g xs) s
  unfolding gather all
  gather_cuts k [] s h = record { cuts = refl }
  gather_cuts k (x ∷ xs) s h =
      let b = both (ok x) (all ok xs) h in
      part (f x) (g x) (k x (gather f xs ++ s) b.0) (gather_cuts k xs s b.1)

  commaed_cuts : ((x : A) (s : List ℕ) → ok x ≡ true → Ends s → Cuts (f x) (g x) s)
      → (xs : List A) (s : List ℕ) → all ok xs ≡ true → Ends s → Cuts (commaed (map f xs)) (commas (map g xs)) s
  unfolding commaed commas all cutting
  commaed_cuts k [] s h e = record { cuts = refl }
  commaed_cuts k (x ∷ []) s h e = k x s (both (ok x) true h).0 e
  commaed_cuts k (x ∷ y ∷ xs) s h e =
      let b = both (ok x) (all ok (y ∷ xs)) h in
      part (f x) (g x) (k x (bytes ", " ++ (commaed (map f (y ∷ xs)) ++ s)) b.0 (refl, refl))
      (text ", " (comma ∷ []) (λ s. refl) (commaed_cuts k (y ∷ xs) s b.1 e))

-- DECLARATIONS
type_keyword : (t : InputType) → Keyword (type_text t)
unfolding spelt
type_keyword real = keyword (bytes "REAL") refl
type_keyword int = keyword (bytes "INT") refl

type_item_lem : (t : InputType) → word_of (type_text t) ≡ type_item t
type_item_lem real = refl
type_item_lem int = refl

pub input_cuts : (v : Input) (s : List ℕ) → input_ok v ≡ true → Cuts (input_line v) (input_items v) s
unfolding cutting input_ok
input_cuts v s h =
    rw (← type_item_lem v.type)
    (text "  " [] (λ s. refl)
    (named v.name (passed _ h).0 refl
    (text " : " (colon ∷ []) (λ s. refl)
    (keyed (type_text v.type) (type_keyword v.type) refl
    (last ";\n" (semicolon ∷ []) (λ s. refl))))))

pub output_cuts : (v : Output) (s : List ℕ) → output_ok v ≡ true → Cuts (output_line v) (output_items v) s
unfolding cutting output_ok
output_cuts v s h =
    text "  " [] (λ s. refl)
    (named v.name (passed _ h).0 refl
    (last " : REAL;\n" (colon ∷ word "REAL" ∷ semicolon ∷ []) (λ s. refl)))

-- TERMS
point_cuts : (p : Point) (s : List ℕ) → Cuts (point_text p) (point_items p) s
unfolding cutting
point_cuts p s =
    opened "(" (opening ∷ []) opening_cut (crisp_start p.at _ s)
    (crisp p.at (refl, refl)
    (text ", " (comma ∷ []) (λ s. refl)
    (thousandths (p.degree / 1000) (refl, refl)
    (last ")" (closing ∷ []) (λ s. refl)))))

term_cuts : (t : Term) (s : List ℕ) → term_ok t ≡ true → Cuts (term_line t) (term_items t) s
unfolding cutting term_ok term_line term_items
term_cuts t s h =
    text "  TERM " (word "TERM" ∷ []) (λ s. refl)
    (named t.name (passed _ h).0 refl
    (text " := " (assign ∷ []) (λ s. refl)
    (part (commaed (map point_text t.points)) (commas (map point_items t.points))
    (commaed_cuts point_text point_items point_ok (λ p s h e. point_cuts p s) t.points _ (term_facts t h).points (refl, refl))
    (last ";\n" (semicolon ∷ []) (λ s. refl)))))

pub fuzzify_cuts : (v : Input) (s : List ℕ) → input_ok v ≡ true → Cuts (fuzzify_text v) (fuzzify_items v) s
unfolding cutting input_ok fuzzify_text fuzzify_items
fuzzify_cuts v s h =
    text "FUZZIFY " (word "FUZZIFY" ∷ []) (λ s. refl)
    (named v.name (passed _ h).0 refl
    (text "\n" [] (λ s. refl)
    (part (gather term_line v.terms) (gather term_items v.terms)
    (gather_cuts term_line term_items term_ok term_cuts v.terms _ (input_facts v h).terms)
    (last "END_FUZZIFY\n" (word "END_FUZZIFY" ∷ []) (λ s. refl)))))

-- SINGLETONS
range_cuts : (g : Option Range) (s : List ℕ) → Cuts (range_line g) (range_items g) s
unfolding cutting
range_cuts none s = record { cuts = refl }
range_cuts (some g) s =
    opened "  RANGE(" (word "RANGE" ∷ opening ∷ []) (λ s e. ap (λ (l : List Item). word "RANGE" ∷ l) (opening_cut s e)) (crisp_start g.least _ s)
    (crisp g.least (refl, refl)
    (text ".." (dots ∷ []) (λ s. refl)
    (crisp g.most (refl, refl)
    (last ");\n" (closing ∷ semicolon ∷ []) (λ s. refl)))))

singleton_cuts : (g : Option Range) (t : Singleton) (s : List ℕ) → singleton_ok g t ≡ true → Cuts (singleton_line t) (singleton_items t) s
unfolding cutting singleton_ok singleton_line singleton_items
singleton_cuts g t s h =
    text "  TERM " (word "TERM" ∷ []) (λ s. refl)
    (named t.name (both (is_name t.name) (figure_ok g t.at) h).0 refl
    (text " := " (assign ∷ []) (λ s. refl)
    (crisp t.at (refl, refl)
    (last ";\n" (semicolon ∷ []) (λ s. refl)))))

default_cuts : (d : Option ℤ) (s : List ℕ) → Ends s → Cuts (default_text d) (default_item d ∷ []) s
unfolding spelt
default_cuts none s e = record { cuts = keyword_cut (bytes "NC") s (keyword (bytes "NC") refl) e.0 }
default_cuts (some x) s e = record { cuts = crisp_cut x s e }

pub defuzzify_cuts : (v : Output) (s : List ℕ) → output_ok v ≡ true → Cuts (defuzzify_text v) (defuzzify_items v) s
unfolding cutting output_ok defuzzify_text defuzzify_items
defuzzify_cuts v s h =
    text "DEFUZZIFY " (word "DEFUZZIFY" ∷ []) (λ s. refl)
    (named v.name (passed _ h).0 refl
    (text "\n" [] (λ s. refl)
    (part (range_line v.range) (range_items v.range) (range_cuts v.range _)
    (part (gather singleton_line v.terms) (gather singleton_items v.terms)
    (gather_cuts singleton_line singleton_items (singleton_ok v.range) (singleton_cuts v.range) v.terms _ (output_facts v h).terms)
    (text "  METHOD : CoGS;\n  DEFAULT := " (word "METHOD" ∷ colon ∷ word "CoGS" ∷ semicolon ∷ word "DEFAULT" ∷ assign ∷ []) (λ s. refl)
    (part (default_text v.default) (default_item v.default ∷ []) (default_cuts v.default _ (refl, refl))
    (last ";\nEND_DEFUZZIFY\n" (semicolon ∷ word "END_DEFUZZIFY" ∷ []) (λ s. refl))))))))

-- CONDITIONS
wrapped_cuts : (l k : ℕ) (w : List ℕ) (xs : List Item) (s : List ℕ) → starts is_name_byte s ≡ false
    → ((s : List ℕ) → starts is_name_byte s ≡ false → Cuts w xs s) → ((s : List ℕ) → starts (eqb 42) (w ++ s) ≡ false)
    → Cuts (wrapped l k w) (within l k xs) s
unfolding cutting
wrapped_cuts l k w xs s e f g = go (ltb l k) refl
  where
    go : (b : Bool) → ltb l k ≡ b → Cuts (wrapped l k w) (within l k xs) s
    go true q =
        rw q
        (opened "(" (opening ∷ []) opening_cut (rw (append_assoc w (bytes ")") s) (g (bytes ")" ++ s)))
        (part w xs (f (bytes ")" ++ s) refl)
        (last ")" (closing ∷ []) (λ s. refl))))
    go false q = rw q (f s e)

pub operator_cuts : (o : Op) (s : List ℕ) → Cuts (operator o) (Items.operator o ∷ []) s
unfolding cutting
operator_cuts and s = record { cuts = refl }
operator_cuts or s = record { cuts = refl }

pub operator_ends : (o : Op) (v s : List ℕ) → starts is_name_byte ((operator o ++ v) ++ s) ≡ false
operator_ends and v s = refl
operator_ends or v s = refl

-- two names and a text between
names_cut : (w v : List ℕ) (u : String) (xs : List Item) (s : List ℕ) → is_name w ≡ true → is_name v ≡ true
    → starts is_name_byte s ≡ false → starts is_name_byte (bytes u ++ (v ++ s)) ≡ false → ((s : List ℕ) → cut 0 (bytes u ++ s) ≡ xs ++ cut 0 s)
    → Cuts (w ++ (bytes u ++ v)) (name w ∷ (xs ++ (name v ∷ []))) s
names_cut w v u xs s h k e i g =
    named w h (rw (append_assoc (bytes u) v s) i) (text u xs g (record { cuts = name_cut v s k e }))

-- names of the first n input terms
abbrev pub Named : (ℕ → TermNames) → ℕ → Type 0
Named f n = (t : ℕ) → t < n → (is_name (f t).variable ≡ true) × (is_name (f t).term ≡ true)

module _ (f : ℕ → TermNames) (n : ℕ) (ok : Named f n) where
  condition_start : (c : Condition) (s : List ℕ) → terms_below n c ≡ true → starts (eqb 42) (condition_text f c ++ s) ≡ false
  unfolding condition_text terms_below
  condition_start (term t) s h = name_start (f t).variable _ s (ok t (ltb-true t n h)).0
  condition_start (neg (term t)) s h = name_start (f t).variable _ s (ok t (ltb-true t n h)).0
  condition_start (neg (neg c)) s h = refl
  condition_start (neg (two o a b)) s h = refl
  condition_start (two o a b) s h =
      go (λ s. condition_start a s (both (terms_below n a) (terms_below n b) h).0) (ltb (bare_left o) (form a)) refl
    where
      rest : List ℕ
      rest = operator o ++ wrapped (bare_right o) (form b) (condition_text f b)

      go : ((s : List ℕ) → starts (eqb 42) (condition_text f a ++ s) ≡ false) → (q : Bool) → ltb (bare_left o) (form a) ≡ q
          → starts (eqb 42) ((wrapped (bare_left o) (form a) (condition_text f a) ++ rest) ++ s) ≡ false
      go g true q = rw q
      go g false q = rw q (rw (append_assoc (condition_text f a) rest s) (g (rest ++ s)))

  -- where forms up to l stand bare
  pub placed_cuts : (l : ℕ) (c : Condition) (s : List ℕ) → terms_below n c ≡ true → starts is_name_byte s ≡ false
      → ((s : List ℕ) → starts is_name_byte s ≡ false → Cuts (condition_text f c) (condition_items f c) s)
      → Cuts (wrapped l (form c) (condition_text f c)) (within l (form c) (condition_items f c)) s
  placed_cuts l c s h e k = wrapped_cuts l (form c) (condition_text f c) (condition_items f c) s e k (λ s. condition_start c s h)

  pub condition_cuts : (c : Condition) (s : List ℕ) → terms_below n c ≡ true → starts is_name_byte s ≡ false → Cuts (condition_text f c) (condition_items f c) s
  unfolding cutting condition_text condition_items terms_below
  condition_cuts (term t) s h e =
      let o = ok t (ltb-true t n h) in
      names_cut (f t).variable (f t).term " IS " (word "IS" ∷ []) s o.0 o.1 e refl (λ s. refl)
  condition_cuts (neg (term t)) s h e =
      let o = ok t (ltb-true t n h) in
      names_cut (f t).variable (f t).term " IS NOT " (word "IS" ∷ word "NOT" ∷ []) s o.0 o.1 e refl (λ s. refl)
  condition_cuts (neg (neg c)) s h e =
      text "NOT " (word "NOT" ∷ []) (λ s. refl)
      (placed_cuts bare_behind_not (neg c) s h e (λ s e. condition_cuts (neg c) s h e))
  condition_cuts (neg (two o a b)) s h e =
      text "NOT " (word "NOT" ∷ []) (λ s. refl)
      (placed_cuts bare_behind_not (two o a b) s h e (λ s e. condition_cuts (two o a b) s h e))
  condition_cuts (two o a b) s h e =
      let c = both (terms_below n a) (terms_below n b) h in
      part (wrapped (bare_left o) (form a) (condition_text f a)) (within (bare_left o) (form a) (condition_items f a))
      (placed_cuts (bare_left o) a _ c.0 (operator_ends o _ s) (λ s e. condition_cuts a s c.0 e))
      (part (operator o) (Items.operator o ∷ []) (operator_cuts o _)
      (placed_cuts (bare_right o) b s c.1 e (λ s e. condition_cuts b s c.1 e)))

-- RULES
and_keyword : (p : Pair) → Keyword (and_text p)
unfolding spelt
and_keyword min-max = keyword (bytes "MIN") refl
and_keyword prod-asum = keyword (bytes "PROD") refl
and_keyword bdif-bsum = keyword (bytes "BDIF") refl

or_keyword : (p : Pair) → Keyword (or_text p)
unfolding spelt
or_keyword min-max = keyword (bytes "MAX") refl
or_keyword prod-asum = keyword (bytes "ASUM") refl
or_keyword bdif-bsum = keyword (bytes "BSUM") refl

act_keyword : (a : Activation) → Keyword (act_text a)
unfolding spelt
act_keyword by-min = keyword (bytes "MIN") refl
act_keyword by-prod = keyword (bytes "PROD") refl

accu_keyword : (a : Accumulation) → Keyword (accu_text a)
unfolding spelt
accu_keyword by-max = keyword (bytes "MAX") refl
accu_keyword by-bsum = keyword (bytes "BSUM") refl

module _ (b : Block) (h : well_formed b ≡ true) where
  conclusion_cuts : (k : Conclusion) (s : List ℕ) → conclusion_ok b k ≡ true → Ends s → Cuts (conclusion_text b k) (conclusion_items b k) s
  unfolding cutting conclusion_text conclusion_items
  conclusion_cuts k s o e = names_cut _ _ " IS " (word "IS" ∷ []) s (output_named b h k o) (conclusion_named b h k o) e.0 refl (λ s. refl)

  weight_ends : (w : ℕ) (s : List ℕ) → Ends ((weight_text w ++ bytes ";\n") ++ s)
  weight_ends w s = go (eqb w M) refl
    where
      go : (q : Bool) → eqb w M ≡ q → Ends ((weight_text w ++ bytes ";\n") ++ s)
      go true q = rw q (refl, refl)
      go false q = rw q (refl, refl)

  weight_cuts : (w : ℕ) (s : List ℕ) → Ends s → Cuts (weight_text w) (weight_items w) s
  unfolding cutting
  weight_cuts w s e = go (eqb w M) refl
    where
      go : (q : Bool) → eqb w M ≡ q → Cuts (weight_text w) (weight_items w) s
      go true q = rw q (record { cuts = refl })
      go false q = rw q (text " WITH " (word "WITH" ∷ []) (λ s. refl) (record { cuts = thousandths_cut (w / 1000) s e }))

  rule_cuts : (r : Rule) (s : List ℕ) → rule_ok b r ≡ true → Cuts (rule_line b r) (rule_items b r) s
  unfolding cutting rule_line rule_items
  rule_cuts r s o =
      let f = rule_facts b r o in
      text "  RULE " (word "RULE" ∷ []) (λ s. refl)
      (counted r.number (refl, refl)
      (text " : IF " (colon ∷ word "IF" ∷ []) (λ s. refl)
      (part (condition_text (input_term_name b) r.condition) (condition_items (input_term_name b) r.condition)
      (condition_cuts (input_term_name b) (length (input_terms b)) (input_named b h) r.condition _ f.terms refl)
      (text " THEN " (word "THEN" ∷ []) (λ s. refl)
      (part (commaed (map (conclusion_text b) r.conclusions)) (commas (map (conclusion_items b) r.conclusions))
      (commaed_cuts (conclusion_text b) (conclusion_items b) (conclusion_ok b) conclusion_cuts r.conclusions _ f.conclusions (weight_ends r.weight s))
      (part (weight_text r.weight) (weight_items r.weight) (weight_cuts r.weight _ (refl, refl))
      (last ";\n" (semicolon ∷ []) (λ s. refl))))))))

  rule_block_cuts : (s : List ℕ) → Cuts (rule_block_text b) (rule_block_items b) s
  unfolding cutting well_formed rule_block_text rule_block_items
  rule_block_cuts s =
      text "RULEBLOCK " (word "RULEBLOCK" ∷ []) (λ s. refl)
      (named b.rule_block (passed _ h).1.0 refl
      (text "\n  AND : " (word "AND" ∷ colon ∷ []) (λ s. refl)
      (keyed (and_text b.pair) (and_keyword b.pair) refl
      (text ";\n  OR : " (semicolon ∷ word "OR" ∷ colon ∷ []) (λ s. refl)
      (keyed (or_text b.pair) (or_keyword b.pair) refl
      (text ";\n  ACT : " (semicolon ∷ word "ACT" ∷ colon ∷ []) (λ s. refl)
      (keyed (act_text b.act) (act_keyword b.act) refl
      (text ";\n  ACCU : " (semicolon ∷ word "ACCU" ∷ colon ∷ []) (λ s. refl)
      (keyed (accu_text b.accu) (accu_keyword b.accu) refl
      (text ";\n" (semicolon ∷ []) (λ s. refl)
      (part (gather (rule_line b) b.rules) (gather (rule_items b) b.rules)
      (gather_cuts (rule_line b) (rule_items b) (rule_ok b) rule_cuts b.rules _ (block_facts b h).rules_ok)
      (last "END_RULEBLOCK\n" (word "END_RULEBLOCK" ∷ []) (λ s. refl)))))))))))))

  whole_cuts : CutsTo (listing b) (listing_items b) [] []
  unfolding cutting well_formed listing listing_items
  whole_cuts =
      let is = (block_facts b h).inputs_ok in
      let os = (block_facts b h).outputs_ok in
      text "FUNCTION_BLOCK " (word "FUNCTION_BLOCK" ∷ []) (λ s. refl)
      (named b.name (passed _ h).0 refl
      (text "\nVAR_INPUT\n" (word "VAR_INPUT" ∷ []) (λ s. refl)
      (part (gather input_line b.inputs) (gather input_items b.inputs) (gather_cuts input_line input_items input_ok input_cuts b.inputs _ is)
      (text "END_VAR\nVAR_OUTPUT\n" (word "END_VAR" ∷ word "VAR_OUTPUT" ∷ []) (λ s. refl)
      (part (gather output_line b.outputs) (gather output_items b.outputs) (gather_cuts output_line output_items output_ok output_cuts b.outputs _ os)
      (text "END_VAR\n" (word "END_VAR" ∷ []) (λ s. refl)
      (part (gather fuzzify_text b.inputs) (gather fuzzify_items b.inputs) (gather_cuts fuzzify_text fuzzify_items input_ok fuzzify_cuts b.inputs _ is)
      (part (gather defuzzify_text b.outputs) (gather defuzzify_items b.outputs)
      (gather_cuts defuzzify_text defuzzify_items output_ok defuzzify_cuts b.outputs _ os)
      (part (rule_block_text b) (rule_block_items b) (rule_block_cuts _)
      (record { cuts = refl }))))))))))

pub listing_lexes : (b : Block) → well_formed b ≡ true → map item_of (tokens (listing b)) ≡ listing_items b
unfolding tokens
listing_lexes b h =
    cut_is 0 0 (listing b) ∙ ap (cut 0) (sym (append-nil (listing b))) ∙ (whole_cuts b h).cuts ∙ append-nil (listing_items b)
