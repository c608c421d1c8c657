-- The fuel of repetitions and of chains never runs out: in the reader's rules a repetition ends because its token does not follow.
use Rattle.std.specs.Prelude.{if◌then◌else◌}
use mathlib.Core.Path.{◌≡◌, refl, sym, ap, ◌∙◌}
use mathlib.Core.Bool.{Bool, true, false}
use mathlib.Core.List.{List, [], ◌∷◌}
use Prim.Native.Nat.{ℕ, zero, suc, ◌≤◌}
use native.Mathlib.Omega.{arith}
use lib.Dec.{eqb, ltb}
use lib.ListN.{length}
use Rattle.model.specs.Bounds.{word_limit, input_limit, output_limit}
use Rattle.model.specs.Block.{Block, Op, and, or, two}
use Rattle.model.specs.Keywords.{END, NAME, ASSIGN, COMMA, COLON, SEMICOLON, REAL, AND, DEFUZZIFY, FUZZIFY, OR, RULE, TERM}
use Rattle.model.specs.Tokens.{Token}
use Rattle.model.specs.Parse.{Parse, Part, Checks, no_token, head_of, rest_of, kind, here, is, refuse, advance, change, judged, expect, repeat_on, repeated, listed}
use Rattle.model.specs.Declarations.{add_input, add_output, variable, input_count, output_count, input_declaration, output_declaration, point, input_term, fuzzify_variable, fuzzify, output_term, defuzzify_variable, defuzzify}
use Rattle.model.specs.Rules.{ConditionRead, condition_read, word, chain_on, chain, operand, parenthesis, conclusion, rule}
use Rattle.model.specs.Reader.{function_block, start}
use Rattle.laws.proofs.Walk.{counted, Steps, Keeps, KeepsTree, keeps_expect, keeps_repeated, keeps_listed, keeps_variable, keeps_input_type, keeps_point, keeps_term_name, keeps_end_of_points, keeps_fuzzify_of, keeps_singleton_body, keeps_defuzzify_of, keeps_chain, keeps_operand, keeps_parenthesis, keeps_conclusion, keeps_rule_from, keeps_function_block}

-- nothing is left but the end
abbrev pub Ends : List Token → Type 0
Ends [] = Unit {0}
Ends (t ∷ ts) = (t.kind ≡ END) × Ends ts

-- a reading with n tokens left at most, or one that is at the end, as every refused one is
pub data Left (n : ℕ) (r : Parse) : Type 0 where
  within : r.why ≡ 0 → length r.rest ≤ n → Left n r
  over : Ends r.rest → Left n r

shorter : (ts : List Token) (n : ℕ) → length ts ≤ suc n → length (rest_of ts) ≤ n
shorter [] n h = omega arith
shorter (t ∷ ts) n h = omega arith

shrinks : (ts : List Token) (n : ℕ) → length ts ≤ n → length (rest_of ts) ≤ n
shrinks [] n h = omega arith
shrinks (t ∷ ts) n h = omega arith

ends_on : (ts : List Token) → Ends ts → Ends (rest_of ts)
ends_on [] h = tt
ends_on (t ∷ ts) h = h.1

module _ (n : ℕ) where
  left_refuse : (m : ℕ) (r : Parse) → Left n r → Left n (refuse m r)
  unfolding refuse
  left_refuse m r k = go (eqb r.why 0)
    where
      go : (b : Bool) → Left n (if b then record { rest = no_token ∷ []; why = m; place = here r; block = r.block; words = r.words } else r)
      go true = over (refl, tt)
      go false = k

  left_advance : (r : Parse) → Left n r → Left n (advance r)
  unfolding advance
  left_advance r (within w l) = within w (shrinks r.rest n l)
  left_advance r (over e) = over (ends_on r.rest e)

  left_change : (f : Block → Block) (r : Parse) → Left n r → Left n (change f r)
  unfolding change
  left_change f r k = go (eqb r.why 0) k
    where
      go : (b : Bool) → Left n r → Left n (if b then record { rest = r.rest; why = r.why; place = r.place; block = f r.block; words = r.words } else r)
      go true (within w l) = within w l
      go true (over e) = over e
      go false h = h

  left_word : (r : Parse) → Left n r → Left n (word r)
  unfolding word
  left_word r k = go (ltb r.words word_limit) k
    where
      go : (b : Bool) → Left n r → Left n (if b then counted r else refuse 6 r)
      go true (within w l) = within w (shrinks r.rest n l)
      go true (over e) = over (ends_on r.rest e)
      go false h = left_refuse 6 r h

  pub left_steps : Steps (Left n)
  left_steps = record { refused = λ m e. left_refuse m; advanced = left_advance; changed = left_change; worded = left_word }

-- PARTS MOVE ON by a token, or refuse
abbrev pub Moves : Part → Type 0
Moves part = (n : ℕ) (r : Parse) → r.why ≡ 0 → length r.rest ≤ suc n → Left n (part r)

abbrev Kept : Part → Type 0
Kept part = (n : ℕ) → Keeps (Left n) (left_steps n) part

-- a part that moves on, and any part after it
followed : (f g : Part) → Moves f → Kept g → Moves (λ r. g (f r))
followed f g m k n r w l = k n (f r) (m n r w l)

refuse_moves : (m : ℕ) → Moves (refuse m)
unfolding refuse
refuse_moves m n r w l = rw w (over (refl, tt))

advance_moves : Moves advance
unfolding advance
advance_moves n r w l = within w (shorter r.rest n l)

change_moves : (f : Block → Block) → Moves (λ r. advance (change f r))
unfolding change advance
change_moves f n r w l = go (eqb r.why 0)
  where
    go : (b : Bool) → Left n (advance (if b then record { rest = r.rest; why = r.why; place = r.place; block = f r.block; words = r.words } else r))
    go true = within w (shorter r.rest n l)
    go false = within w (shorter r.rest n l)

word_moves : Moves word
unfolding word
word_moves n r w l = go (ltb r.words word_limit)
  where
    go : (b : Bool) → Left n (if b then counted r else refuse 6 r)
    go true = within w (shorter r.rest n l)
    go false = refuse_moves 6 n r w l

expect_moves : (k : ℕ) → Moves (expect k)
unfolding expect
expect_moves k n r w l = go (is k r)
  where
    go : (b : Bool) → Left n (if b then advance r else refuse 2 r)
    go true = advance_moves n r w l
    go false = refuse_moves 2 n r w l

judged_moves : (cs : Checks) (n : ℕ) (r next : Parse) → r.why ≡ 0 → length r.rest ≤ suc n → Left n next → Left n (judged cs r next)
unfolding judged
judged_moves [] n r next w l k = k
judged_moves ((ok, m) ∷ cs) n r next w l k = go ok (judged_moves cs n r next w l k)
  where
    go : (b : Bool) → Left n (judged cs r next) → Left n (if b then judged cs r next else refuse m r)
    go true h = h
    go false h = refuse_moves m n r w l

-- THE TOKEN of a repetition is never the end
at_end : (k : ℕ) (r : Parse) → eqb END k ≡ false → Ends r.rest → is k r ≡ false
unfolding kind
at_end k r z = go r.rest
  where
    go : (ts : List Token) → Ends ts → eqb (head_of ts).kind k ≡ false
    go [] e = z
    go (t ∷ ts) e = rw e.0 z

none_left : (ts : List Token) → length ts ≤ 0 → Ends ts
none_left [] h = tt
none_left (t ∷ ts) h = absurd (omega arith)

done : (k : ℕ) (r : Parse) → eqb END k ≡ false → Left 0 r → is k r ≡ false
done k r z (within w l) = at_end k r z (none_left r.rest l)
done k r z (over e) = at_end k r z e

clash : {X : Type 0} {b : Bool} → b ≡ true → b ≡ false → X
clash p q = let z : ◌≡◌ {A = ℕ} 0 1 = cc in absurd (omega arith)

-- one turn more, and no more turns
module _ (k : ℕ) (part : Part) where
  pub turn : (f : ℕ) (r : Parse) → is k r ≡ true → repeat_on (suc f) k part r ≡ repeat_on f k part (part r)
  unfolding repeat_on
  turn f r e = rw (e, repeat_on) refl

  pub no_turn : (f : ℕ) (r : Parse) → is k r ≡ false → repeat_on f k part r ≡ r
  unfolding repeat_on
  no_turn zero r e = refl
  no_turn (suc f) r e = rw (e, repeat_on) refl

-- REPETITIONS of a part that moves on
module _ (k : ℕ) (z : eqb END k ≡ false) (part : Part) (m : Moves part) where
  moved : (f : ℕ) (r : Parse) → is k r ≡ true → Left (suc f) r → Left f (part r)
  moved f r e (within w l) = m f r w l
  moved f r e (over h) = clash e (at_end k r z h)

  ends : (f : ℕ) (r : Parse) → Left f r → is k (repeat_on (suc f) k part r) ≡ false
  ends zero r h = ap (is k) (no_turn k part 1 r (done k r z h)) ∙ done k r z h
  ends (suc f) r h = go (is k r) refl (ends f (part r))
    where
      go : (b : Bool) → is k r ≡ b → (Left f (part r) → is k (repeat_on (suc f) k part (part r)) ≡ false) → is k (repeat_on (suc (suc f)) k part r) ≡ false
      go true e ih = ap (is k) (turn k part (suc f) r e) ∙ ih (moved f r e h)
      go false e ih = ap (is k) (no_turn k part (suc (suc f)) r e) ∙ e

  enough : (f g : ℕ) (r : Parse) → Left f r → Left g r → repeat_on (suc f) k part r ≡ repeat_on (suc g) k part r
  enough zero g r h l = let e = done k r z h in no_turn k part 1 r e ∙ sym (no_turn k part (suc g) r e)
  enough (suc f) zero r h l = let e = done k r z l in no_turn k part (suc (suc f)) r e ∙ sym (no_turn k part 1 r e)
  enough (suc f) (suc g) r h l = go (is k r) refl (enough f g (part r))
    where
      go : (b : Bool) → is k r ≡ b → (Left f (part r) → Left g (part r) → repeat_on (suc f) k part (part r) ≡ repeat_on (suc g) k part (part r))
          → repeat_on (suc (suc f)) k part r ≡ repeat_on (suc (suc g)) k part r
      go true e ih = turn k part (suc f) r e ∙ ih (moved f r e h) (moved g r e l) ∙ sym (turn k part (suc g) r e)
      go false e ih = no_turn k part (suc (suc f)) r e ∙ sym (no_turn k part (suc (suc g)) r e)

-- a reading that is not refused, or is at the end: all that the reader's rules meet
pub data Steady (r : Parse) : Type 0 where
  reading : r.why ≡ 0 → Steady r
  over : Ends r.rest → Steady r

left_of : {r : Parse} (n : ℕ) → length r.rest ≤ n → Steady r → Left n r
left_of n l (reading w) = within w l
left_of n l (over e) = over e

steady_of : {n : ℕ} {r : Parse} → Left n r → Steady r
steady_of (within w l) = reading w
steady_of (over e) = over e

-- every part keeps to such readings, as it does to every number of tokens left
pub steady : (part : Part) → ((n : ℕ) → Keeps (Left n) (left_steps n) part) → (r : Parse) → Steady r → Steady (part r)
steady part f r s = steady_of (f (length r.rest) r (left_of (length r.rest) (omega arith) s))

-- the fuel that `repeated` gives is enough: k does not follow, and more fuel changes nothing
pub record Enough (k : ℕ) (part : Part) : Type 0 where
  pub ends : (r : Parse) → Steady r → is k (repeated k part r) ≡ false
  pub spare : (r : Parse) → Steady r → (f : ℕ) → length r.rest ≤ f → repeat_on (suc f) k part r ≡ repeated k part r

pub repeated_enough : (k : ℕ) (part : Part) → eqb END k ≡ false → Moves part → Enough k part
unfolding repeated
repeated_enough k part z m = record {
  ends = λ r s. ends k z part m (length r.rest) r (left_of (length r.rest) (omega arith) s);
  spare = λ r s f l. enough k z part m f (length r.rest) r (left_of f l s) (left_of (length r.rest) (omega arith) s);
}

-- CHAINS: an operator, which is a condition word, and what it joins
abbrev pub joined : (Parse → ConditionRead) → Op → ConditionRead → ConditionRead
joined part o g = condition_read (part (word g.parse)).parse (two o g.tree (part (word g.parse)).tree)

module _ (k : ℕ) (part : Parse → ConditionRead) (o : Op) where
  pub join : (f : ℕ) (g : ConditionRead) → is k g.parse ≡ true → chain_on (suc f) part k o g ≡ chain_on f part k o (joined part o g)
  unfolding chain_on
  join f g e = rw (e, chain_on) refl

  pub no_join : (f : ℕ) (g : ConditionRead) → is k g.parse ≡ false → chain_on f part k o g ≡ g
  unfolding chain_on
  no_join zero g e = refl
  no_join (suc f) g e = rw (e, chain_on) refl

module _ (k : ℕ) (z : eqb END k ≡ false) (part : Parse → ConditionRead) (c : (n : ℕ) → KeepsTree (Left n) (left_steps n) part) (o : Op) where
  joined_left : (f : ℕ) (g : ConditionRead) → is k g.parse ≡ true → Left (suc f) g.parse → Left f (joined part o g).parse
  joined_left f g e (within w l) = c f (word g.parse) (word_moves f g.parse w l)
  joined_left f g e (over h) = clash e (at_end k g.parse z h)

  chain_ends : (f : ℕ) (g : ConditionRead) → Left f g.parse → is k (chain_on (suc f) part k o g).parse ≡ false
  chain_ends zero g h = ap (λ (x : ConditionRead). is k x.parse) (no_join k part o 1 g (done k g.parse z h)) ∙ done k g.parse z h
  chain_ends (suc f) g h = go (is k g.parse) refl (chain_ends f (joined part o g))
    where
      go : (b : Bool) → is k g.parse ≡ b → (Left f (joined part o g).parse → is k (chain_on (suc f) part k o (joined part o g)).parse ≡ false)
          → is k (chain_on (suc (suc f)) part k o g).parse ≡ false
      go true e ih = ap (λ (x : ConditionRead). is k x.parse) (join k part o (suc f) g e) ∙ ih (joined_left f g e h)
      go false e ih = ap (λ (x : ConditionRead). is k x.parse) (no_join k part o (suc (suc f)) g e) ∙ e

  chain_same : (f h : ℕ) (g : ConditionRead) → Left f g.parse → Left h g.parse → chain_on (suc f) part k o g ≡ chain_on (suc h) part k o g
  chain_same zero h g a b = let e = done k g.parse z a in no_join k part o 1 g e ∙ sym (no_join k part o (suc h) g e)
  chain_same (suc f) zero g a b = let e = done k g.parse z b in no_join k part o (suc (suc f)) g e ∙ sym (no_join k part o 1 g e)
  chain_same (suc f) (suc h) g a b = go (is k g.parse) refl (chain_same f h (joined part o g))
    where
      go : (t : Bool) → is k g.parse ≡ t
          → (Left f (joined part o g).parse → Left h (joined part o g).parse
          → chain_on (suc f) part k o (joined part o g) ≡ chain_on (suc h) part k o (joined part o g))
          → chain_on (suc (suc f)) part k o g ≡ chain_on (suc (suc h)) part k o g
      go true e ih = join k part o (suc f) g e ∙ ih (joined_left f g e a) (joined_left h g e b) ∙ sym (join k part o (suc h) g e)
      go false e ih = no_join k part o (suc (suc f)) g e ∙ sym (no_join k part o (suc (suc h)) g e)

-- the fuel that `chain` gives is enough
pub record ChainEnough (part : Parse → ConditionRead) (k : ℕ) (o : Op) : Type 0 where
  pub ends : (r : Parse) → Steady r → is k (chain part k o r).parse ≡ false
  pub spare : (r : Parse) → Steady r → (f : ℕ) → length r.rest ≤ f → chain_on (suc f) part k o (part r) ≡ chain part k o r

pub chain_enough : (part : Parse → ConditionRead) (k : ℕ) (o : Op) → eqb END k ≡ false → ((n : ℕ) → KeepsTree (Left n) (left_steps n) part)
    → ChainEnough part k o
unfolding chain
chain_enough part k o z c = record {
  ends = λ r s. let n = length r.rest in chain_ends k z part c o n (part r) (c n r (left_of n (omega arith) s));
  spare = λ r s f l.
      let n = length r.rest in
      chain_same k z part c o f n (part r) (c f r (left_of f l s)) (c n r (left_of n (omega arith) s));
}

-- THE READER'S REPETITIONS
listed_moves : (part : Part) → Moves part → Kept part → Moves (listed part)
unfolding listed
listed_moves part m k n r w l =
    let s = left_steps n in
    keeps_repeated (Left n) s COMMA (λ q h. k n (expect COMMA q) (keeps_expect (Left n) s COMMA q h)) (part r) (m n r w l)

-- part again after each comma
pub listed_enough : (part : Part) → Kept part → Enough COMMA (λ q. part (expect COMMA q))
listed_enough part k = repeated_enough COMMA _ refl (followed (expect COMMA) part (expect_moves COMMA) k)

variable_moves : (add : List ℕ → Block → Block) (count : Block → ℕ) (limit : ℕ) → Moves (variable add count limit)
unfolding variable
variable_moves add count limit n r w l = judged_moves _ n r _ w l (change_moves _ n r w l)

variables_move : (add : List ℕ → Block → Block) (count : Block → ℕ) (limit : ℕ) → Moves (listed (variable add count limit))
variables_move add count limit = listed_moves _ (variable_moves add count limit) (λ n. keeps_variable (Left n) (left_steps n) add count limit)

pub inputs_enough : Enough NAME input_declaration
unfolding input_declaration
inputs_enough = repeated_enough NAME input_declaration refl λ n r w l.
    let s = left_steps n in
    let v = variables_move add_input input_count input_limit n r w l in
    keeps_expect (Left n) s SEMICOLON _ (keeps_input_type (Left n) s _ _ (keeps_expect (Left n) s COLON _ v))

pub outputs_enough : Enough NAME output_declaration
unfolding output_declaration
outputs_enough = repeated_enough NAME output_declaration refl λ n r w l.
    let s = left_steps n in
    let v = variables_move add_output output_count output_limit n r w l in
    keeps_expect (Left n) s SEMICOLON _ (keeps_expect (Left n) s REAL _ (keeps_expect (Left n) s COLON _ v))

pub fuzzify_enough : Enough FUZZIFY fuzzify
unfolding fuzzify fuzzify_variable
fuzzify_enough = repeated_enough FUZZIFY fuzzify refl λ n r w l. keeps_fuzzify_of (Left n) (left_steps n) _ _ (expect_moves FUZZIFY n r w l)

pub defuzzify_enough : Enough DEFUZZIFY defuzzify
unfolding defuzzify defuzzify_variable
defuzzify_enough = repeated_enough DEFUZZIFY defuzzify refl λ n r w l. keeps_defuzzify_of (Left n) (left_steps n) _ _ (expect_moves DEFUZZIFY n r w l)

pub input_terms_enough : (i : ℕ) → Enough TERM (input_term i)
unfolding input_term
input_terms_enough i = repeated_enough TERM (input_term i) refl λ n r w l.
    let s = left_steps n in
    let a = keeps_expect (Left n) s ASSIGN _ (keeps_term_name (Left n) s i _ (advance_moves n r w l)) in
    judged_moves _ n r _ w l (keeps_end_of_points (Left n) s i _ (keeps_listed (Left n) s (keeps_point (Left n) s i) _ a))

pub output_terms_enough : (o : ℕ) → Enough TERM (output_term o)
unfolding output_term
output_terms_enough o = repeated_enough TERM (output_term o) refl λ n r w l.
    judged_moves _ n r _ w l (keeps_singleton_body (Left n) (left_steps n) o _ (advance_moves n r w l))

pub rules_enough : Enough RULE rule
unfolding rule
rules_enough = repeated_enough RULE rule refl λ n r w l.
    judged_moves _ n r _ w l (keeps_rule_from (Left n) (left_steps n) _ (advance_moves n r w l))

-- after each comma: a variable, a point, a conclusion
pub variables_enough : (add : List ℕ → Block → Block) (count : Block → ℕ) (limit : ℕ) → Enough COMMA (λ q. variable add count limit (expect COMMA q))
variables_enough add count limit = listed_enough _ (λ n. keeps_variable (Left n) (left_steps n) add count limit)

pub points_enough : (i : ℕ) → Enough COMMA (λ q. point i (expect COMMA q))
points_enough i = listed_enough _ (λ n. keeps_point (Left n) (left_steps n) i)

pub conclusions_enough : Enough COMMA (λ q. conclusion (expect COMMA q))
conclusions_enough = listed_enough _ (λ n. keeps_conclusion (Left n) (left_steps n))

-- AND and OR, where d more parentheses may be open
module _ (d : ℕ) where
  operand_kept : (n : ℕ) → KeepsTree (Left n) (left_steps n) (operand (parenthesis d))
  operand_kept n = keeps_operand (Left n) (left_steps n) _ (keeps_parenthesis (Left n) (left_steps n) d)

  pub ands_enough : ChainEnough (operand (parenthesis d)) AND and
  ands_enough = chain_enough _ AND and refl operand_kept

  pub ors_enough : ChainEnough (chain (operand (parenthesis d)) AND and) OR or
  ors_enough = chain_enough _ OR or refl (λ n. keeps_chain (Left n) (left_steps n) _ (operand_kept n) AND and)

-- and no text leads the reader elsewhere
pub text_steady : (s : List ℕ) → Steady (function_block (start s))
text_steady s = steady function_block (λ n. keeps_function_block (Left n) (left_steps n)) (start s) (reading refl)
