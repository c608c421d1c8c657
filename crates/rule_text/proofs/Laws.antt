-- The laws of reading rules.
use Rattle.std.specs.Prelude.{None, if◌then◌else◌}
use mathlib.Core.Path.{◌≡◌, refl, sym, ap, ◌∙◌, subst}
use mathlib.Core.Bool.{Bool, true, false, ◌&&◌, not}
use mathlib.Core.List.{List, [], ◌∷◌, ◌++◌, append_assoc, append-nil}
use Prim.Native.Nat.{ℕ, zero, suc, ◌+◌, ◌-◌, ◌*◌, ◌≤◌, ◌<◌}
use native.Mathlib.Omega.{arith}
use borrow.Author.Tests.{eq-eqb, ne_eqb, lt-ltb, le-ltb}
use lib.Dec.{ltb, eqb}
use lib.ListN.{length, drop, get_or, set, length-append, drop_of_length-le}
use lib.Seq.{get_or-take, drop-cons, sets, length-sets}
use Rattle.model.specs.Basic.{all, gather}
use Rattle.model.specs.Block.{Block, Rule, Condition, Conclusion, size, term, input_first, output_first, terms_of, singletons_of, conclusions, with_conclusion, with_weight}
use Rattle.model.specs.Bounds.{M, rule_limit, conclusion_limit, depth_limit, input_limit, variable_limit, term_limit}
use Rattle.model.specs.Image.{postfix, conclusion_words}
use Rattle.model.specs.Keywords.{NUMBER, NAME, COMMA, SEMICOLON, IS, IF, COLON, RULE, THEN, WITH}
use Rattle.model.specs.Parse.{Parse, Part, text, is, refuse, advance, change, judged, expect, repeat_on, repeated, listed, a_name, a_unit}
use Rattle.model.specs.Tokens.{decimal, unit_of, is_rule_number}
use Rattle.model.specs.Declarations.{input_of, output_of, term_of, singleton_of, is_output, is_singleton}
use Rattle.model.specs.Rules.{ConditionRead, add_rule, change_rule, rule_number, concluded_term, conclusion, weight, weighted, condition, condition_with, parenthesis, rule_given, rule_from, rule}
use Rattle.laws.proofs.Tests.{clash}
use Rattle.laws.proofs.Conditions.{length_postfix}
use Rattle.laws.proofs.Lists.{gather_append, gather_last, total_last, update_last_snoc}
use Rattle.laws.proofs.Again.{Again, again_more, again_end, repeats}
use Rattle.laws.proofs.Repetition.{turn, no_turn}
use Rattle.cursor.specs.declared.Cursor.{Cursor}
use Rattle.cursor.specs.View.{seen, text_of, Fits, left, Step, fault}
use Rattle.cursor.proofs.Laws.{kind_seen, text_seen, block_seen, changed, unchanged, judged_bad, judged_good, numbered, lost_is, lost_expect, lost_judged, lost_repeated}
use Rattle.block_tables.specs.declared.Totals.{Totals}
use Rattle.block_tables.specs.Stored.{rule_row}
use Rattle.lookup.specs.Names.{among}
use Rattle.symbol_table.specs.Symbols.{Describes, output_count, term_count, first}
use Rattle.condition_text.specs.Pending.{Adds}
use Rattle.condition_text.proofs.Laws.{adds, words_put}
use Rattle.rule_text.specs.declared.Concluded.{Concluded}
use Rattle.rule_text.specs.declared.Progress.{Progress}
use Rattle.rule_text.specs.Progress.{Kept, FewKept, Rows, Concludes, Onward, Goes, Within, holding, midst, gives}

-- OTHER RULES: the names are declared as before
pub describes : {s names symbols : List ℕ} {b : Block} (rs : List Rule) → Describes s names symbols b → Describes s names symbols (holding rs b)
unfolding input_of output_of term_of singleton_of terms_of singletons_of input_first output_first
describes rs d = record {
  inputs = d.inputs;
  outputs = d.outputs;
  input = d.input;
  output = d.output;
  terms = d.terms;
  singletons = d.singletons;
  term = d.term;
  singleton = d.singleton;
  input_first = d.input_first;
  output_first = d.output_first;
}

-- THE NUMBERS OF THE RULES
abbrev no_rule : Rule
no_rule = record { number = 0; condition = term 0; conclusions = []; weight = 0 }

row_number : (rs : List Rule) (k : ℕ) → k < length rs → get_or (gather rule_row rs) (k * 4) 0 ≡ (get_or rs k no_rule).number
unfolding gather
row_number [] k h = absurd (omega arith)
row_number (r ∷ rs) zero h = refl
row_number (r ∷ rs) (suc k) h =
    let e : suc k * 4 ≡ suc (suc (suc (suc (k * 4)))) = omega arith in
    ap (λ (i : ℕ). get_or (gather rule_row (r ∷ rs)) i 0) e ∙ row_number rs k (omega arith)

module _ (rs : List Rule) (rules : List ℕ) (n x : ℕ) (w : Rows rs rules n) where
  abbrev free : Rule → Bool
  free q = not (eqb q.number x)

  the_number : (k : ℕ) → k < n → get_or rules (k * 4) 0 ≡ (get_or rs k no_rule).number
  the_number k h =
      sym (get_or-take (n * 4) rules (k * 4) 0 (omega arith)) ∙ ap (λ (l : List ℕ). get_or l (k * 4) 0) w.rows
      ∙ row_number rs k (let e = w.count in omega arith)

  at_row : (k : ℕ) → k < n → all free (drop k rs) ≡ free (get_or rs k no_rule) && all free (drop (suc k) rs)
  unfolding all
  at_row k h = ap (λ (l : List Rule). all free l) (drop-cons rs k no_rule (let e = w.count in omega arith))

  pub used_more : (k : ℕ) → k < n → (get_or rules (k * 4) 0 ≡ x → ⊥) → all free (drop k rs) ≡ all free rs → all free (drop (k + 1) rs) ≡ all free rs
  used_more k h z e =
      let q : free (get_or rs k no_rule) ≡ true = simp (sym (the_number k h), ne_eqb _ _ z) in
      let m : k + 1 ≡ suc k = omega arith in
      ap (λ (i : ℕ). all free (drop i rs)) m ∙ sym (at_row k h ∙ ap (λ (t : Bool). t && all free (drop (suc k) rs)) q) ∙ e

  pub used_here : (k : ℕ) → k < n → get_or rules (k * 4) 0 ≡ x → all free (drop k rs) ≡ all free rs → true ≡ not (all free rs)
  used_here k h z e =
      let q : free (get_or rs k no_rule) ≡ false = simp (sym (the_number k h), eq-eqb _ _ z) in
      sym (ap not (sym e ∙ at_row k h ∙ ap (λ (t : Bool). t && all free (drop (suc k) rs)) q))

  pub used_none : (k : ℕ) → n ≤ k → all free (drop k rs) ≡ all free rs → false ≡ not (all free rs)
  unfolding all
  used_none k h e = sym (ap not (sym e ∙ ap (λ (l : List Rule). all free l) (drop_of_length-le rs {i = k} (let u = w.count in omega arith))))

module _ (s : List ℕ) (c : Cursor) (b : Block) (m : ℕ) where
  abbrev now : Parse
  now = seen s c b m

  pub number_fault : (w : ℕ) → w ≡ fault ((is NUMBER now, 2) ∷ (is_rule_number (text now), 3) ∷ []) → (w ≡ 0 → ⊥) → rule_number now ≡ refuse w now
  unfolding rule_number
  number_fault w e h = judged_bad now (advance now) w ((is NUMBER now, 2) ∷ (is_rule_number (text now), 3) ∷ [])
      ((all (λ q. not (eqb q.number (decimal (text now)))) now.block.rules, 4) ∷ []) (sym e) h

  module _ (e : 0 ≡ fault ((is NUMBER now, 2) ∷ (is_rule_number (text now), 3) ∷ [])) (x : ℕ) (v : x ≡ decimal (text_of s c)) where
    number_formed : rule_number now ≡ (if all (λ q. not (eqb q.number x)) b.rules then advance now else refuse 4 now)
    unfolding rule_number judged numbered
    number_formed =
        judged_good now (advance now) ((is NUMBER now, 2) ∷ (is_rule_number (text now), 3) ∷ [])
        ((all (λ q. not (eqb q.number (decimal (text now)))) now.block.rules, 4) ∷ []) refl (sym e)
        ∙ ap (λ (y : ℕ). if all (λ q. not (eqb q.number y)) now.block.rules then advance now else refuse 4 now) (ap decimal (text_seen s c b m) ∙ sym v)
        ∙ ap (λ (y : Block). if all (λ q. not (eqb q.number x)) y.rules then advance now else refuse 4 now) (block_seen s c b m)

    pub number_used : true ≡ not (all (λ q. not (eqb q.number x)) b.rules) → rule_number now ≡ refuse 4 now
    number_used h = number_formed ∙ by (all (λ q. not (eqb q.number x)) b.rules) h
      where
        by : (t : Bool) → true ≡ not t → (if t then advance now else refuse 4 now) ≡ refuse 4 now
        by false h = refl
        by true h = clash (sym h)

    pub number_free : false ≡ not (all (λ q. not (eqb q.number x)) b.rules) → rule_number now ≡ advance now
    number_free h = number_formed ∙ by (all (λ q. not (eqb q.number x)) b.rules) h
      where
        by : (t : Bool) → false ≡ not t → (if t then advance now else refuse 4 now) ≡ advance now
        by true h = refl
        by false h = clash h

-- WORDS PUT, one by one
pub two_put : (l : List ℕ) (i a b : ℕ) → set (set l i a) (i + 1) b ≡ sets l i (a ∷ b ∷ [])
two_put l i a b = let e : i + 1 ≡ suc i = omega arith in ap (λ (j : ℕ). set (set l i a) j b) e

pub four_put : (l : List ℕ) (i a b c d : ℕ) → set (set (set (set l i a) (i + 1) b) (i + 2) c) (i + 3) d ≡ sets l i (a ∷ b ∷ c ∷ d ∷ [])
four_put l i a b c d =
    let e : i + 2 ≡ suc (suc i) = omega arith in
    let f : i + 3 ≡ suc (suc (suc i)) = omega arith in
    ap (λ (x : List ℕ). set (set x (i + 2) c) (i + 3) d) (two_put l i a b)
    ∙ ap (λ (j : ℕ). set (set (set (set l i a) (suc i) b) j c) (i + 3) d) e
    ∙ ap (λ (j : ℕ). set (set (set (set l i a) (suc i) b) (suc (suc i)) c) j d) f

same_size : {m n : ℕ} {ws old new : List ℕ} → Adds m n ws old new → length new ≡ length old
same_size {m} {n} {ws} {old} {new} a = ap length a.said ∙ length-sets old m ws

pub same_words : {m n n' : ℕ} {ws ws' old new : List ℕ} → n ≡ n' → ws ≡ ws' → Adds m n ws old new → Adds m n' ws' old new
same_words {m} {n} {n'} {ws} {ws'} {old} {new} e f a =
    record { put = sym e ∙ a.put ∙ ap (λ (l : List ℕ). m + length l) f; said = a.said ∙ ap (λ (l : List ℕ). sets old m l) f }

-- CONCLUSIONS
gives_none : (q : Rule) → gives [] q ≡ q
gives_none q = ap (λ (l : List Conclusion). record { number = q.number; condition = q.condition; conclusions = l; weight = q.weight })
    (append-nil q.conclusions)

gives_more : (q : Rule) (xs ys : List Conclusion) → gives (xs ++ ys) q ≡ gives ys (gives xs q)
gives_more q xs ys = ap (λ (l : List Conclusion). record { number = q.number; condition = q.condition; conclusions = l; weight = q.weight })
    (sym (append_assoc q.conclusions xs ys))

pub given_count : (rs : List Rule) (q : Rule) (ks : List Conclusion)
    → length (gather (λ r. r.conclusions) (rs ++ (gives ks q ∷ []))) ≡ length (gather (λ r. r.conclusions) (rs ++ (q ∷ []))) + length ks
given_count rs q ks =
    let f : Rule → List Conclusion = λ r. r.conclusions in
    ap length (gather_last f rs (gives ks q)) ∙ length-append (gather f rs) (q.conclusions ++ ks)
    ∙ (let e = length-append q.conclusions ks in let g = ap length (gather_last f rs q) ∙ length-append (gather f rs) q.conclusions in omega arith)

pub concludes_none : {part : Part} {s : List ℕ} {b : Block} {rs : List Rule} {q : Rule} {m : ℕ} {p r : Concluded} (w : ℕ) (l : List ℕ)
    → Step (refuse w) s p.cursor r.cursor → r.count ≡ p.count
    → part (seen s p.cursor (midst b rs q) m) ≡ refuse w (seen s p.cursor (midst b rs q) m) → Concludes part s b rs q m p r l l
unfolding gather
concludes_none {part} {s} {b} {rs} {q} {m} {p} {r} w l a e f = record {
  more = [];
  reads = ap (λ (x : Rule). seen s r.cursor (midst b rs x) m) (gives_none q) ∙ a.reads (midst b rs q) m ∙ sym f;
  count = omega arith;
  put = record { put = omega arith; said = refl };
}

pub onward_none : {s : List ℕ} {p r : Concluded} (w : ℕ) → Step (refuse w) s p.cursor r.cursor → r.count ≡ p.count → p.count ≤ conclusion_limit → Onward s p r
onward_none w a e h = record { fewer = a.fewer; fits = a.fits; grows = omega arith; count = omega arith }

pub concludes_then : {f g : Part} {s : List ℕ} {b : Block} {rs : List Rule} {q : Rule} {m : ℕ} {p o r : Concluded} {old mid new : List ℕ}
    (x : Concludes f s b rs q m p o old mid) → Concludes g s b rs (gives x.more q) m o r mid new → Concludes (λ y. g (f y)) s b rs q m p r old new
concludes_then {f} {g} {s} {b} {rs} {q} {m} {p} {o} {r} {old} {mid} {new} x y = record {
  more = x.more ++ y.more;
  reads = ap (λ (z : Rule). seen s r.cursor (midst b rs z) m) (gives_more q x.more y.more) ∙ y.reads ∙ ap g x.reads;
  count = let e = length-append x.more y.more in let u = x.count in let v = y.count in omega arith;
  put = subst (λ (l : List ℕ). Adds (p.count * 2) (r.count * 2) l old new) (sym (gather_append conclusion_words x.more y.more)) (adds x.put y.put);
}

pub onward_then : {s : List ℕ} {p o r : Concluded} → Onward s p o → Onward s o r → Onward s p r
onward_then {s} {p} {o} {r} x y = record {
  fewer = let u = x.fewer in let v = y.fewer in omega arith;
  fits = y.fits;
  grows = let u = x.grows in let v = y.grows in omega arith;
  count = y.count;
}

-- after a part that looks at no block
pub step_concludes : {f g : Part} {s : List ℕ} {b : Block} {rs : List Rule} {q : Rule} {m : ℕ} {p r : Concluded} {d : Cursor} {old new : List ℕ}
    → Step f s p.cursor d → Concludes g s b rs q m (record { cursor = d; count = p.count }) r old new → Concludes (λ y. g (f y)) s b rs q m p r old new
step_concludes {f} {g} {s} {b} {rs} {q} {m} a x = record { more = x.more; reads = x.reads ∙ ap g (a.reads (midst b rs q) m); count = x.count; put = x.put }

pub as_well : {part other : Part} {s : List ℕ} {b : Block} {rs : List Rule} {q : Rule} {m : ℕ} {p r : Concluded} {old new : List ℕ}
    → other (seen s p.cursor (midst b rs q) m) ≡ part (seen s p.cursor (midst b rs q) m) → Concludes part s b rs q m p r old new
    → Concludes other s b rs q m p r old new
as_well e x = record { more = x.more; reads = x.reads ∙ sym e; count = x.count; put = x.put }

pub step_onward : {f : Part} {s : List ℕ} {p r : Concluded} {d : Cursor} → Step f s p.cursor d
    → Onward s (record { cursor = d; count = p.count }) r → Onward s p r
step_onward {f} {s} {p} {r} {d} a x = record { fewer = let u = x.fewer in let v = a.fewer in omega arith; fits = x.fits; grows = x.grows; count = x.count }

module _ (s names symbols : List ℕ) (b : Block) (D : Describes s names symbols b) (rs : List Rule) (q : Rule) (c : Cursor) (m : ℕ) where
  abbrev here : Parse
  here = seen s c (midst b rs q) m

  D' : Describes s names symbols (midst b rs q)
  D' = describes (rs ++ (q ∷ [])) D

  module _ (w : ℕ) (e : w ≡ fault (a_name here [])) (h : w ≡ 0 → ⊥) where
    pub term_fault : (o : ℕ) → concluded_term o here ≡ refuse w here
    unfolding concluded_term
    term_fault o =
        judged_bad here
        (advance (change (change_rule (with_conclusion (record
        { output = o; term = output_first o here.block + singleton_of o (text here) here.block }))) here))
        w (a_name here []) ((is_singleton o (text here) here.block, 5) ∷ []) (sym e) h

    pub output_fault : conclusion here ≡ refuse w here
    unfolding conclusion
    output_fault =
        judged_bad here (concluded_term (output_of (text here) here.block) (expect IS (advance here)))
        w (a_name here []) ((is_output (text here) here.block, 5) ∷ (ltb (length (conclusions here.block)) conclusion_limit, 6) ∷ []) (sym e) h

  module _ (e : 0 ≡ fault (a_name here [])) (o : ℕ) (f : o ≡ among s names (text_of s c) (output_count symbols) input_limit) where
    the_output : output_of (text here) here.block ≡ o
    the_output = simp (text_seen, block_seen) (D'.output (text_of s c) ∙ sym f)

    output_named : conclusion here ≡ judged ((ltb o (output_count symbols), 5) ∷ (ltb (length (conclusions here.block)) conclusion_limit, 6) ∷ []) here
        (concluded_term o (expect IS (advance here)))
    unfolding conclusion numbered
    output_named =
        judged_good here (concluded_term (output_of (text here) here.block) (expect IS (advance here)))
        (a_name here []) ((is_output (text here) here.block, 5) ∷ (ltb (length (conclusions here.block)) conclusion_limit, 6) ∷ []) refl (sym e)
        ∙ simp (the_output, ap (λ (y : Block). length y.outputs) (block_seen s c (midst b rs q) m) ∙ D'.outputs)

    pub output_unknown : output_count symbols ≤ o → conclusion here ≡ refuse 5 here
    unfolding judged
    output_unknown h = output_named ∙ simp (le-ltb _ _ h)

    module _ (n : ℕ) (k : length (gather (λ x. x.conclusions) (midst b rs q).rules) ≡ n) (g : o < output_count symbols) where
      how_many : length (conclusions here.block) ≡ n
      how_many = ap (λ (y : Block). length (conclusions y)) (block_seen s c (midst b rs q) m) ∙ k

      pub output_full : conclusion_limit ≤ n → conclusion here ≡ refuse 6 here
      unfolding judged
      output_full h = output_named ∙ simp (lt-ltb _ _ g, how_many, le-ltb _ _ h)

      pub output_known : n < conclusion_limit → conclusion here ≡ concluded_term o (expect IS (advance here))
      unfolding judged
      output_known h = output_named ∙ simp (lt-ltb _ _ g, how_many, lt-ltb _ _ h)

  module _ (e : 0 ≡ fault (a_name here [])) (o : ℕ) (g : o < output_count symbols) (j : ℕ)
      (f : j ≡ among s names (text_of s c) (term_count symbols (input_limit + o)) (variable_limit + (input_limit + o) * term_limit)) where
    the_term : singleton_of o (text here) here.block ≡ j
    the_term = simp (text_seen, block_seen) (D'.singleton (text_of s c) o g ∙ sym f)

    abbrev its : Conclusion
    its = record { output = o; term = first symbols (input_limit + o) + j }

    term_named : concluded_term o here ≡ (if ltb j (term_count symbols (input_limit + o)) then advance (change (change_rule (with_conclusion its)) here) else refuse 5 here)
    unfolding concluded_term judged numbered
    term_named =
        judged_good here
        (advance (change (change_rule (with_conclusion (record
        { output = o; term = output_first o here.block + singleton_of o (text here) here.block }))) here))
        (a_name here []) ((is_singleton o (text here) here.block, 5) ∷ []) refl (sym e)
        ∙ simp (
          the_term,
          ap (λ (y : Block). length (singletons_of o y)) (block_seen s c (midst b rs q) m) ∙ D'.singletons o g,
          ap (output_first o) (block_seen s c (midst b rs q) m) ∙ D'.output_first o g,
        )

    pub term_unknown : term_count symbols (input_limit + o) ≤ j → concluded_term o here ≡ refuse 5 here
    term_unknown h = term_named ∙ simp (le-ltb _ _ h)

    pub term_known : j < term_count symbols (input_limit + o) → c.refused ≡ None → concluded_term o here ≡ advance (seen s c (midst b rs (gives (its ∷ []) q)) m)
    unfolding change_rule
    term_known h z =
        term_named ∙ simp (lt-ltb _ _ h)
        (ap advance (changed s c (midst b rs q) m (change_rule (with_conclusion its)) z
        ∙ ap (λ (l : List Rule). seen s c (holding l b) m) (update_last_snoc (with_conclusion its) rs q)))

-- one conclusion is put
pub concludes_one : {s : List ℕ} {b : Block} {rs : List Rule} {q : Rule} {d : Cursor} (m o t : ℕ) (p : Concluded) (old : List ℕ) → Step advance s p.cursor d
    → concluded_term o (seen s p.cursor (midst b rs q) m) ≡ advance (seen s p.cursor (midst b rs (gives (record { output = o; term = t } ∷ []) q)) m)
    → (new : List ℕ) → new ≡ sets old (p.count * 2) (o ∷ t ∷ [])
    → Concludes (concluded_term o) s b rs q m p (record { cursor = d; count = p.count + 1 }) old new
unfolding gather
concludes_one {s} {b} {rs} {q} {d} m o t p old a e new f = record {
  more = record { output = o; term = t } ∷ [];
  reads = a.reads (midst b rs (gives (record { output = o; term = t } ∷ []) q)) m ∙ sym e;
  count = refl;
  put = record { put = omega arith; said = f };
}

-- REPEATED PARTS
unfoldable pub another : Part
another y = conclusion (expect COMMA y)

-- at p, conclusions have been added to the rule q that was there at p₀, and the loop that began there with n to spend has its answer before it
pub record Lists (s : List ℕ) (b : Block) (rs : List Rule) (q : Rule) (m n : ℕ) (p₀ p : Concluded) (l₀ l : List ℕ) : Type 0 where
  pub more : List Conclusion
  pub again : Again (repeats COMMA another) (left s p.cursor) (seen s p.cursor (midst b rs (gives more q)) m)
      (repeat_on n COMMA another (seen s p₀.cursor (midst b rs q) m))
  pub count : p.count ≡ p₀.count + length more
  pub put : Adds (p₀.count * 2) (p.count * 2) (gather conclusion_words more) l₀ l

module _ (s : List ℕ) (b : Block) (rs : List Rule) (q : Rule) (m n : ℕ) where
  pub lists_begin : (p : Concluded) (l : List ℕ) → left s p.cursor < n → Lists s b rs q m n p p l l
  unfolding gather
  lists_begin p l h = record {
    more = [];
    again = (n, h, ap (λ (x : Rule). repeat_on n COMMA another (seen s p.cursor (midst b rs x) m)) (gives_none q));
    count = omega arith;
    put = record { put = omega arith; said = refl };
  }

  pub lists_go : (p₀ p r : Concluded) (d : Cursor) (l₀ l l' : List ℕ) (x : Lists s b rs q m n p₀ p l₀ l) → p.cursor.kind ≡ COMMA
      → Step advance s p.cursor d
      → Concludes conclusion s b rs (gives x.more q) m (record { cursor = d; count = p.count }) r l l' → left s r.cursor < left s p.cursor
      → Lists s b rs q m n p₀ r l₀ l'
  unfolding another expect
  lists_go p₀ p r d l₀ l l' x k a y lt = record {
    more = x.more ++ y.more;
    again = again_more (repeats COMMA another) (λ f. turn COMMA another f (seen s p.cursor at m)
        (eq-eqb _ _ (kind_seen s p.cursor at m ∙ k)) ∙ ap (repeat_on f COMMA another) (sym one)) lt x.again;
    count = let u = length-append x.more y.more in let v = x.count in let w = y.count in omega arith;
    put = subst (λ (z : List ℕ). Adds (p₀.count * 2) (r.count * 2) z l₀ l') (sym (gather_append conclusion_words x.more y.more))
        (adds x.put y.put);
  }
    where
      at : Block
      at = midst b rs (gives x.more q)

      one : seen s r.cursor (midst b rs (gives (x.more ++ y.more) q)) m ≡ another (seen s p.cursor at m)
      one =
          ap (λ (z : Rule). seen s r.cursor (midst b rs z) m) (gives_more q x.more y.more) ∙ y.reads ∙ ap conclusion (a.reads at m)
          ∙ simp (kind_seen, eq-eqb _ _ k)

  pub lists_end : (p₀ p : Concluded) (l₀ l : List ℕ) → n ≡ suc (length (seen s p₀.cursor (midst b rs q) m).rest) → Lists s b rs q m n p₀ p l₀ l
      → (p.cursor.kind ≡ COMMA → ⊥)
      → Concludes (repeated COMMA another) s b rs q m p₀ p l₀ l
  unfolding repeated
  lists_end p₀ p l₀ l e x k = record {
    more = x.more;
    reads =
        again_end (repeats COMMA another)
        (λ f. no_turn COMMA another f (seen s p.cursor (midst b rs (gives x.more q)) m)
        (ne_eqb _ _ (λ z. k (sym (kind_seen s p.cursor (midst b rs (gives x.more q)) m) ∙ z))))
        x.again ∙ ap (λ (i : ℕ). repeat_on i COMMA another (seen s p₀.cursor (midst b rs q) m)) e;
    count = x.count;
    put = x.put;
  }

-- WEIGHTS
module _ (s : List ℕ) (b : Block) (rs : List Rule) (q : Rule) (m : ℕ) (c : Cursor) where
  abbrev whole : Block
  whole = midst b rs q

  unweighed : (d : Cursor) → q.weight ≡ M → seen s d (midst b rs (with_weight M q)) m ≡ seen s d whole m
  unweighed d h = ap (λ (w : ℕ). seen s d (midst b rs (with_weight w q)) m) (sym h)

  pub weight_none : (c.kind ≡ WITH → ⊥) → q.weight ≡ M → seen s c (midst b rs (with_weight M q)) m ≡ weighted (seen s c whole m)
  unfolding weighted
  weight_none k h = unweighed c h ∙ sym (simp (kind_seen, ne_eqb _ _ k))

  module _ (d : Cursor) (k : c.kind ≡ WITH) (a : Step advance s c d) where
    weight_follows : weighted (seen s c whole m) ≡ weight (seen s d whole m)
    unfolding weighted
    weight_follows = simp (kind_seen, eq-eqb _ _ k) (ap weight (sym (a.reads whole m)))

    pub weight_fault : (w : ℕ) (e : Cursor) → w ≡ fault (a_unit (seen s d whole m)) → (w ≡ 0 → ⊥) → Step (refuse w) s d e → q.weight ≡ M
        → seen s e (midst b rs (with_weight M q)) m ≡ weighted (seen s c whole m)
    unfolding weight
    weight_fault w e f z x h =
        unweighed e h ∙ x.reads whole m
        ∙ sym (weight_follows ∙ judged_bad (seen s d whole m)
        (advance (change (change_rule (with_weight (unit_of (text (seen s d whole m))))) (seen s d whole m))) w (a_unit (seen s d whole m)) [] (sym f) z)

    pub weight_given : (w : ℕ) (e : Cursor) → 0 ≡ fault (a_unit (seen s d whole m)) → Step advance s d e → d.refused ≡ None → w ≡ unit_of (text_of s d)
        → seen s e (midst b rs (with_weight w q)) m ≡ weighted (seen s c whole m)
    unfolding weight judged numbered change_rule
    weight_given w e f x z v =
        let u : unit_of (text (seen s d whole m)) ≡ w = ap unit_of (text_seen s d whole m) ∙ sym v in
        x.reads (midst b rs (with_weight w q)) m
        ∙ ap advance (sym (changed s d whole m (change_rule (with_weight w)) z
        ∙ ap (λ (l : List Rule). seen s d (holding l b) m) (update_last_snoc (with_weight w) rs q)))
        ∙ ap (λ (y : ℕ). advance (change (change_rule (with_weight y)) (seen s d whole m))) (sym u)
        ∙ sym (weight_follows ∙ judged_good (seen s d whole m)
        (advance (change (change_rule (with_weight (unit_of (text (seen s d whole m))))) (seen s d whole m))) (a_unit (seen s d whole m)) [] refl (sym f))

-- A RULE, whole
-- after a refused condition nothing more is read
pub given_lost : (s : List ℕ) (d : Cursor) (b : Block) (m n : ℕ) (g : ConditionRead) → Fits s d → (d.refused ≡ None → ⊥) → seen s d b m ≡ g.parse
    → rule_given n g ≡ seen s d b m
unfolding rule_given listed conclusion weighted
given_lost s d b m n g f h e =
    ap (λ (y : Parse). expect SEMICOLON (weighted (listed conclusion (expect THEN (change (add_rule n g.tree) y))))) (sym e)
    ∙ ap (λ (y : Parse). expect SEMICOLON (weighted (listed conclusion (expect THEN y)))) (unchanged s d b m (add_rule n g.tree) h)
    ∙ ap (λ (y : Parse). expect SEMICOLON (weighted (listed conclusion y))) (lost_expect s d f h b m THEN (λ z. omega arith))
    ∙ ap (λ (y : Parse). expect SEMICOLON (weighted (repeated COMMA (λ q. conclusion (expect COMMA q)) y)))
    (lost_judged s d f h b m NAME _ _ (λ z. omega arith))
    ∙ ap (λ (y : Parse). expect SEMICOLON (weighted y)) (lost_repeated s d f h b m COMMA (λ q. conclusion (expect COMMA q)) (λ z. omega arith))
    ∙ ap (expect SEMICOLON) lost_weighted
    ∙ lost_expect s d f h b m SEMICOLON (λ z. omega arith)
  where
    lost_weighted : weighted (seen s d b m) ≡ seen s d b m
    lost_weighted = simp (lost_is s d f h b m WITH (λ z. omega arith))

pub from_number : (s : List ℕ) (c f : Cursor) (b : Block) (m : ℕ) → seen s f b m ≡ expect IF (expect COLON (rule_number (seen s c b m)))
    → rule_from (seen s c b m) ≡ rule_given (decimal (text_of s c)) (condition_with (parenthesis depth_limit) (seen s f b m))
unfolding rule_from condition
from_number s c f b m e =
    ap (λ (w : List ℕ). rule_given (decimal w) (condition (expect IF (expect COLON (rule_number (seen s c b m)))))) (text_seen s c b m)
    ∙ ap (λ (y : Parse). rule_given (decimal (text_of s c)) (condition y)) (sym e)

-- a rule begun
abbrev pub begun : ℕ → Condition → Rule
begun n t = record { number = n; condition = t; conclusions = []; weight = M }

pub given_begun : (s : List ℕ) (d : Cursor) (b : Block) (m n : ℕ) (g : ConditionRead) → d.refused ≡ None → seen s d b m ≡ g.parse
    → rule_given n g ≡ expect SEMICOLON (weighted (listed conclusion (expect THEN (seen s d (midst b b.rules (begun n g.tree)) m))))
unfolding rule_given add_rule
given_begun s d b m n g h e =
    ap (λ (y : Parse). expect SEMICOLON (weighted (listed conclusion (expect THEN (change (add_rule n g.tree) y))))) (sym e)
    ∙ ap (λ (y : Parse). expect SEMICOLON (weighted (listed conclusion (expect THEN y)))) (changed s d b m (add_rule n g.tree) h)

pub begun_count : (rs : List Rule) (n k : ℕ) (t : Condition) → length (gather (λ r. r.conclusions) rs) ≡ k
    → length (gather (λ r. r.conclusions) (rs ++ (begun n t ∷ []))) ≡ k
begun_count rs n k t e = ap length (gather_last (λ r. r.conclusions) rs (begun n t) ∙ append-nil (gather (λ r. r.conclusions) rs)) ∙ e

module _ (rs : List Rule) (rows ws ks rows' ws' ks' : List ℕ) (n n' : Totals) (K : Kept rs rows ws ks n) where
  pub keeps : (x w v : ℕ) (t : Condition) (more : List Conclusion) → FewKept n' → n'.rules ≡ n.rules + 1 → n'.conclusions ≡ n.conclusions + length more
      → Adds (n.rules * 4) (n'.rules * 4) (x ∷ w ∷ length more ∷ v ∷ []) rows rows' → w ≡ n'.words - n.words
      → Adds n.words n'.words (postfix t) ws ws'
      → Adds (n.conclusions * 2) (n'.conclusions * 2) (gather conclusion_words more) ks ks'
      → Kept (rs ++ (with_weight v (gives more (begun x t)) ∷ [])) rows' ws' ks' n'
  keeps x w v t more few er ec ar ew aw ac =
      let q : Rule = with_weight v (gives more (begun x t)) in
      let z = length_postfix t in
      let y = aw.put in
      let ez : w ≡ size t = omega arith in
      let sr = K.rules_size in
      let sw = K.words_size in
      let sk = K.conclusions_size in
      let u = few.rules in
      let i = few.words in
      let j = few.conclusions in
      let f : Rule → List Conclusion = λ r. r.conclusions in
      record {
        stored = record {
          rows =
              words_put ar (omega arith) ∙ ap (λ (l : List ℕ). l ++ (x ∷ w ∷ length more ∷ v ∷ [])) K.stored.rows
              ∙ ap (λ (k : ℕ). gather rule_row rs ++ (x ∷ k ∷ length more ∷ v ∷ [])) ez ∙ sym (gather_last rule_row rs q);
          words = words_put aw (omega arith) ∙ ap (λ (l : List ℕ). l ++ postfix t) K.stored.words ∙ sym (gather_last (λ r. postfix r.condition) rs q);
          conclusions =
              words_put ac (omega arith) ∙ ap (λ (l : List ℕ). l ++ gather conclusion_words more) K.stored.conclusions
              ∙ sym (ap (gather conclusion_words) (gather_last f rs q) ∙ gather_append conclusion_words (gather f rs) more);
          few_rules = u;
          few_words = i;
          few_conclusions = j;
        };
        rules_size = same_size ar ∙ sr;
        words_size = same_size aw ∙ sw;
        conclusions_size = same_size ac ∙ sk;
        rules_count = length-append rs (q ∷ []) ∙ (let h = K.rules_count in omega arith);
        words_count = total_last (λ r. size r.condition) rs q ∙ (let h = K.words_count in omega arith);
        conclusions_count = ap length (gather_last f rs q) ∙ length-append (gather f rs) more ∙ (let h = K.conclusions_count in omega arith);
      }

-- RULES, one after the other
module _ (s : List ℕ) (b : Block) (c : Cursor) (m : ℕ) where
  pub rule_none : (c.kind ≡ RULE → ⊥) → rule (seen s c b m) ≡ refuse 2 (seen s c b m)
  unfolding rule judged
  rule_none k = simp (kind_seen, ne_eqb _ _ k)

  module _ (k : c.kind ≡ RULE) (n : ℕ) (l : length b.rules ≡ n) where
    how_many_rules : length (seen s c b m).block.rules ≡ n
    how_many_rules = ap (λ (y : Block). length y.rules) (block_seen s c b m) ∙ l

    pub rule_full : rule_limit ≤ n → rule (seen s c b m) ≡ refuse 6 (seen s c b m)
    unfolding rule judged
    rule_full h = simp (kind_seen, eq-eqb _ _ k, how_many_rules, le-ltb _ _ h)

    pub rule_room : n < rule_limit → rule (seen s c b m) ≡ rule_from (advance (seen s c b m))
    unfolding rule judged
    rule_room h = simp (kind_seen, eq-eqb _ _ k, how_many_rules, lt-ltb _ _ h)

pub goes_none : {part : Part} {s : List ℕ} {b : Block} {p r : Progress} {rows ws ks : List ℕ} (w : ℕ) → Step (refuse w) s p.cursor r.cursor
    → r.totals ≡ p.totals → (r.cursor.refused ≡ None → ⊥)
    → part (seen s p.cursor b p.totals.words) ≡ refuse w (seen s p.cursor b p.totals.words) → Goes part s b p r rows ws ks
goes_none {part} {s} {b} {p} {r} w a e z f = record {
  rules = b.rules;
  reads = ap (λ (t : Totals). seen s r.cursor b t.words) e ∙ a.reads b p.totals.words ∙ sym f;
  kept = λ h. absurd (z h);
}

pub within_none : {s : List ℕ} {p r : Progress} (w : ℕ) → Step (refuse w) s p.cursor r.cursor → r.totals ≡ p.totals → FewKept p.totals → Within s p r
within_none w a e f = record { fewer = a.fewer; fits = a.fits; few = subst FewKept (sym e) f }

pub within_then : {s : List ℕ} {p q r : Progress} → Within s p q → Within s q r → Within s p r
within_then {s} {p} {q} {r} x y = record { fewer = let u = x.fewer in let v = y.fewer in omega arith; fits = y.fits; few = y.few }

-- at q, rules have been read since q₀, and the loop that began there with n to spend has its answer before it
pub record Runs (s : List ℕ) (b : Block) (rs₀ : List Rule) (n : ℕ) (q₀ q : Progress) (rows ws ks : List ℕ) : Type 0 where
  pub rules : List Rule
  pub again : Again (repeats RULE rule) (left s q.cursor) (seen s q.cursor (holding rules b) q.totals.words)
      (repeat_on n RULE rule (seen s q₀.cursor (holding rs₀ b) q₀.totals.words))
  pub kept : q.cursor.refused ≡ None → Kept rules rows ws ks q.totals

module _ (s : List ℕ) (b : Block) (rs₀ : List Rule) (n : ℕ) where
  pub runs_begin : (q : Progress) (rows ws ks : List ℕ) → left s q.cursor < n → (q.cursor.refused ≡ None → Kept rs₀ rows ws ks q.totals)
      → Runs s b rs₀ n q q rows ws ks
  runs_begin q rows ws ks h k = record { rules = rs₀; again = (n, h, refl); kept = k }

  pub runs_go : (q₀ q r : Progress) (rows ws ks rows' ws' ks' : List ℕ) (x : Runs s b rs₀ n q₀ q rows ws ks) → q.cursor.kind ≡ RULE
      → Goes rule s (holding x.rules b) q r rows' ws' ks'
      → left s r.cursor < left s q.cursor → Runs s b rs₀ n q₀ r rows' ws' ks'
  runs_go q₀ q r rows ws ks rows' ws' ks' x k y lt =
      let at = seen s q.cursor (holding x.rules b) q.totals.words in
      let stands = kind_seen s q.cursor (holding x.rules b) q.totals.words ∙ k in
      let one : (f : ℕ) → repeat_on (suc f) RULE rule at ≡ repeat_on f RULE rule (seen s r.cursor (holding y.rules b) r.totals.words) =
      λ f. turn RULE rule f at (eq-eqb _ _ stands) ∙ ap (repeat_on f RULE rule) (sym y.reads) in
      record { rules = y.rules; again = again_more (repeats RULE rule) one lt x.again; kept = y.kept }

pub runs_end : (s : List ℕ) (b : Block) (p q₀ q : Progress) (rows₀ ws₀ ks₀ rows ws ks : List ℕ) (g : Goes rule s b p q₀ rows₀ ws₀ ks₀)
    → Runs s b g.rules (suc (length (seen s q₀.cursor (holding g.rules b) q₀.totals.words).rest)) q₀ q rows ws ks → (q.cursor.kind ≡ RULE → ⊥)
    → Goes (λ y. repeated RULE rule (rule y)) s b p q rows ws ks
unfolding repeated
runs_end s b p q₀ q rows₀ ws₀ ks₀ rows ws ks g x k = record {
  rules = x.rules;
  reads =
      again_end (repeats RULE rule)
      (λ f. no_turn RULE rule f (seen s q.cursor (holding x.rules b) q.totals.words)
      (ne_eqb _ _ (λ z. k (sym (kind_seen s q.cursor (holding x.rules b) q.totals.words) ∙ z))))
      x.again ∙ ap (repeated RULE rule) g.reads;
  kept = x.kept;
}
