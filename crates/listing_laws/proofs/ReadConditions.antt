-- The items of a condition read back to the condition, with its words counted.
use Rattle.std.specs.Prelude.{if◌then◌else◌}
use mathlib.Core.Path.{◌≡◌, refl, sym, ap, ◌∙◌}
use mathlib.Core.Bool.{Bool, true, false}
use mathlib.Core.List.{List, [], ◌∷◌, ◌++◌, append_assoc}
use Prim.Native.Nat.{ℕ, zero, suc, ◌+◌, ◌<◌, ◌≤◌}
use native.Mathlib.Omega.{arith}
use borrow.Author.Tests.{eq-eqb, lt-ltb, ltb-true}
use lib.Dec.{leb, ltb, eqb}
use lib.ListN.{length, length-append}
use Rattle.model.specs.Bounds.{name_limit, word_limit, depth_limit}
use Rattle.model.specs.Keywords.{AND, OR, NOT, IS, CLOSE}
use Rattle.model.specs.Block.{Block, Op, and, or, Condition, term, neg, two, size, input_first}
use Rattle.model.specs.Parentheses.{form, depth, opened}
use Rattle.model.specs.Parse.{Parse, kind, text, advance, expect}
use Rattle.model.specs.Declarations.{input_of, is_input, term_of, is_term}
use Rattle.model.specs.Rules.{ConditionRead, condition_read, negated_read, closed, word, condition_term, term_or_not, subcondition, chain_on, chain, plain, operand, condition_with, parenthesis, condition}
use Rattle.model.specs.WellFormed.{terms_below}
use Rattle.model.specs.Listing.{TermNames}
use Rattle.laws.proofs.Tests.{both, clash}
use Rattle.listing_laws.proofs.Items.{Item, item, name, word as keyword, opening, closing, within, condition_items}
use Rattle.listing_laws.proofs.Reading.{at, head_kind, is_head, length_rest, expects, judged_pass}

-- the names of input term t lead back to it
pub record Named (b : Block) (n : TermNames) (t : ℕ) : Type 0 where
  pub variable_fits : leb (length n.variable) name_limit ≡ true
  pub term_fits : leb (length n.term) name_limit ≡ true
  pub declared : is_input n.variable b ≡ true
  pub has : is_term (input_of n.variable b) n.term b ≡ true
  pub place : input_first (input_of n.variable b) b + term_of (input_of n.variable b) n.term b ≡ t

pair_read : {p q : Parse} {c d : Condition} → p ≡ q → c ≡ d → condition_read p c ≡ condition_read q d
pair_read e h = λ j. condition_read (e j) (h j)

-- FORMS
pub bare : (c : Condition) → ltb 4 (form c) ≡ false
unfolding form
bare (term t) = refl
bare (neg c) = go (eqb (form c) 0)
  where
    go : (t : Bool) → ltb 4 (if t then 1 else 2) ≡ false
    go true = refl
    go false = refl
bare (two and a b) = refl
bare (two or a b) = refl

-- a negation is not of the first form
neg_not_term : (c : Condition) → eqb (form (neg c)) 0 ≡ false
unfolding form
neg_not_term c = go (eqb (form c) 0)
  where
    go : (t : Bool) → eqb (if t then 1 else 2) 0 ≡ false
    go true = refl
    go false = refl

two_not_term : (o : Op) (a e : Condition) → eqb (form (two o a e)) 0 ≡ false
unfolding form
two_not_term and a e = refl
two_not_term or a e = refl

neg_form : (c : Condition) → eqb (form c) 0 ≡ false → form (neg c) ≡ 2
unfolding form
neg_form c h = rw h

module _ (f : ℕ → ℕ) (b : Block) (g : ℕ → TermNames) where
  abbrev pub read : List Item → ℕ → Condition → ConditionRead
  read rest w c = condition_read (at f rest b w) c

  word_at : (x : Item) (xs : List Item) (w : ℕ) → w < word_limit → word (at f (x ∷ xs) b w) ≡ at f xs b (w + 1)
  unfolding word at
  word_at x xs w h = rw (lt-ltb w word_limit h)

  -- TERMS
  term_read : (i : ℕ) (n : TermNames) (t : ℕ) → i ≡ input_of n.variable b → Named b n t → (rest : List Item) (w : ℕ)
      → condition_term i (at f (name n.term ∷ rest) b w) ≡ read rest w (term t)
  unfolding condition_term at kind text advance
  term_read i n t e h rest w =
      rw e (pair_read (judged_pass _ _ _ (refl, (h.term_fits, (h.has, tt)))) (ap term h.place))

  module _ (n : TermNames) (t : ℕ) (h : Named b n t) (rest : List Item) (w : ℕ) where
    abbrev i : ℕ
    i = input_of n.variable b

    plain_term : term_or_not i (at f (name n.term ∷ rest) b w) ≡ read rest w (term t)
    unfolding term_or_not at kind
    plain_term = term_read i n t refl h rest w

    not_term : w < word_limit → term_or_not i (at f (keyword "NOT" ∷ name n.term ∷ rest) b w) ≡ read rest (w + 1) (neg (term t))
    unfolding term_or_not at kind
    not_term l =
        ap (λ (r : Parse). negated_read (condition_term i r)) (word_at (keyword "NOT") (name n.term ∷ rest) w l)
        ∙ ap negated_read (term_read i n t refl h rest (w + 1))

  variable_read : (n : TermNames) (t : ℕ) → Named b n t → (xs : List Item) (w : ℕ) → w < word_limit
      → subcondition (at f (name n.variable ∷ keyword "IS" ∷ xs) b w) ≡ term_or_not (input_of n.variable b) (at f xs b (w + 1))
  unfolding subcondition at kind text
  variable_read n t h xs w l =
      ap (λ (r : Parse). term_or_not (input_of n.variable b) (expect IS r))
      (judged_pass _ _ _ (refl, (h.variable_fits, (h.declared, tt))) ∙ word_at (name n.variable) (keyword "IS" ∷ xs) w l)
      ∙ ap (term_or_not (input_of n.variable b)) (expects IS f _ xs b (w + 1))

  -- OPERANDS
  module _ (inner : Parse → ConditionRead) where
    operand_plain : (xs : List Item) (w : ℕ) → eqb (head_kind xs) NOT ≡ false → operand inner (at f xs b w) ≡ plain inner (at f xs b w)
    unfolding operand
    operand_plain xs w h = rw (is_head NOT f xs b w ∙ h)

    pub operand_not : (xs : List Item) (w : ℕ) → w < word_limit
        → operand inner (at f (keyword "NOT" ∷ xs) b w) ≡ negated_read (plain inner (at f xs b (w + 1)))
    unfolding operand at kind
    operand_not xs w l = ap (λ (r : Parse). negated_read (plain inner r)) (word_at (keyword "NOT") xs w l)

    plain_name : (v : List ℕ) (xs : List Item) (w : ℕ) → plain inner (at f (name v ∷ xs) b w) ≡ subcondition (at f (name v ∷ xs) b w)
    unfolding plain at kind
    plain_name v xs w = refl

  plain_open : (d : ℕ) (xs : List Item) (w : ℕ)
      → plain (parenthesis (suc d)) (at f (opening ∷ xs) b w) ≡ closed (condition_with (parenthesis d) (at f xs b w))
  unfolding plain parenthesis at kind advance
  plain_open d xs w = refl

  -- CHAINS
  module _ (part : Parse → ConditionRead) (k : ℕ) (o : Op) where
    chain_stop : (n : ℕ) (rest : List Item) (w : ℕ) (c : Condition) → eqb (head_kind rest) k ≡ false → chain_on n part k o (read rest w c) ≡ read rest w c
    unfolding chain_on
    chain_stop zero rest w c h = refl
    chain_stop (suc n) rest w c h = rw (chain_on, is_head k f rest b w ∙ h)

    chain_more : (n : ℕ) (t : List ℕ) (xs : List Item) (w : ℕ) (c e : Condition) (rest : List Item) (v : ℕ) → w < word_limit
        → part (at f xs b (w + 1)) ≡ read rest v e
        → chain_on (suc n) part k o (read (item k t ∷ xs) w c) ≡ chain_on n part k o (read rest v (two o c e))
    unfolding chain_on
    chain_more n t xs w c e rest v l h =
        rw (chain_on, is_head k f (item k t ∷ xs) b w ∙ eq-eqb k k refl)
        (ap (λ (r : ConditionRead). chain_on n part k o (condition_read r.parse (two o c r.tree))) (ap part (word_at (item k t) xs w l) ∙ h))

    chain_reads : (xs : List Item) (w n : ℕ) (x : ConditionRead) → n ≤ suc (length xs)
        → ((m : ℕ) → n ≤ m → chain_on m part k o (part (at f xs b w)) ≡ x) → chain part k o (at f xs b w) ≡ x
    unfolding chain
    chain_reads xs w n x l h = h (suc (length (at f xs b w).rest)) (omega (arith, length_rest f xs b w))

  -- WHAT EACH LEVEL READS, where forms up to l stand bare
  abbrev pub shown : ℕ → Condition → List Item
  shown l c = within l (form c) (condition_items g c)

  abbrev pub deep : ℕ → Condition → ℕ
  deep l c = opened l (form c) (depth c)

  abbrev pub op : ℕ → Parse → ConditionRead
  op d = operand (parenthesis d)

  abbrev pub ands : ℕ → Parse → ConditionRead
  ands d = chain (op d) AND and

  abbrev pub POk : Condition → Type 0
  POk c = (d w : ℕ) (rest : List Item) → deep 1 c ≤ d → w + size c ≤ word_limit
      → plain (parenthesis d) (at f (shown 1 c ++ rest) b w) ≡ read rest (w + size c) c

  abbrev pub NOk : Condition → Type 0
  NOk c = (d w : ℕ) (rest : List Item) → deep 2 c ≤ d → w + size c ≤ word_limit
      → op d (at f (shown 2 c ++ rest) b w) ≡ read rest (w + size c) c

  -- a chain goes on from x as it goes on from c
  abbrev pub AOk : Condition → Type 0
  AOk c = (d w j : ℕ) (rest : List Item) (x : ConditionRead) → deep 3 c ≤ d → w + size c ≤ word_limit
      → ((n : ℕ) → j ≤ n → chain_on n (op d) AND and (read rest (w + size c) c) ≡ x)
      → (n : ℕ) → j + length (shown 3 c) ≤ n → chain_on n (op d) AND and (op d (at f (shown 3 c ++ rest) b w)) ≡ x

  abbrev pub OOk : Condition → Type 0
  OOk c = (d w j : ℕ) (rest : List Item) (x : ConditionRead) → eqb (head_kind rest) AND ≡ false → deep 4 c ≤ d → w + size c ≤ word_limit
      → ((n : ℕ) → j ≤ n → chain_on n (ands d) OR or (read rest (w + size c) c) ≡ x)
      → (n : ℕ) → j + length (shown 4 c) ≤ n → chain_on n (ands d) OR or (ands d (at f (shown 4 c ++ rest) b w)) ≡ x

  pub record Ok (c : Condition) : Type 0 where
    pub p_ok : POk c
    pub n_ok : NOk c
    pub a_ok : AOk c
    pub o_ok : OOk c

  -- a whole condition
  abbrev pub COk : Condition → Type 0
  COk c = (d w : ℕ) (rest : List Item) → eqb (head_kind rest) AND ≡ false → eqb (head_kind rest) OR ≡ false → depth c ≤ d → w + size c ≤ word_limit
      → condition_with (parenthesis d) (at f (condition_items g c ++ rest) b w) ≡ read rest (w + size c) c

  -- A LEVEL UP
  and_read : (c : Condition) → AOk c → (d w : ℕ) (rest : List Item) → eqb (head_kind rest) AND ≡ false → deep 3 c ≤ d → w + size c ≤ word_limit
      → ands d (at f (shown 3 c ++ rest) b w) ≡ read rest (w + size c) c
  and_read c a d w rest h hd hw =
      chain_reads (op d) AND and (shown 3 c ++ rest) w (length (shown 3 c)) (read rest (w + size c) c) (omega (arith, length-append (shown 3 c) rest))
      (λ n l. a d w 0 rest (read rest (w + size c) c) hd hw (λ m k. chain_stop (op d) AND and m rest (w + size c) c h) n (omega arith))

  from_not : (c : Condition) → shown 3 c ≡ shown 2 c → deep 3 c ≡ deep 2 c → NOk c → AOk c
  from_not c e e' o d w j rest x hd hw go n h =
      ap (λ (l : List Item). chain_on n (op d) AND and (op d (at f (l ++ rest) b w))) e
      ∙ ap (chain_on n (op d) AND and) (o d w rest (omega arith) hw) ∙ go n (omega arith)

  from_and : (c : Condition) → shown 4 c ≡ shown 3 c → deep 4 c ≡ deep 3 c → AOk c → OOk c
  from_and c e e' a d w j rest x t hd hw go n h =
      ap (λ (l : List Item). chain_on n (ands d) OR or (ands d (at f (l ++ rest) b w))) e
      ∙ ap (chain_on n (ands d) OR or) (and_read c a d w rest t (omega arith) hw) ∙ go n (omega arith)

  pub whole : (c : Condition) → OOk c → COk c
  unfolding condition_with
  whole c o d w rest u v hd hw =
      let x = read rest (w + size c) c in
      let e : shown 4 c ≡ condition_items g c = rw (bare c) in
      let e' : deep 4 c ≡ depth c = rw (bare c) in
      ap (λ (l : List Item). chain (ands d) OR or (at f (l ++ rest) b w)) (sym e)
      ∙ chain_reads (ands d) OR or (shown 4 c ++ rest) w (length (shown 4 c)) x (omega (arith, length-append (shown 4 c) rest))
      (λ n l. o d w 0 rest x u (omega arith) hw (λ m k. chain_stop (ands d) OR or m rest (w + size c) c v) n (omega arith))

  -- IN PARENTHESES
  module _ (l : ℕ) (c : Condition) (loose : ltb l (form c) ≡ true) (o : COk c) where
    in_parentheses : shown l c ≡ opening ∷ (condition_items g c ++ (closing ∷ []))
    in_parentheses = rw loose

    pub paren_read : (d w : ℕ) (rest : List Item) → deep l c ≤ d → w + size c ≤ word_limit
        → plain (parenthesis d) (at f (shown l c ++ rest) b w) ≡ read rest (w + size c) c
    paren_read zero w rest hd hw = let e : deep l c ≡ suc (depth c) = rw loose in absurd (omega arith)
    paren_read (suc d) w rest hd hw =
        let e : deep l c ≡ suc (depth c) = rw loose in
        let s = condition_items g c in
        ap (λ (k : List Item). plain (parenthesis (suc d)) (at f (k ++ rest) b w)) in_parentheses
        ∙ plain_open d ((s ++ (closing ∷ [])) ++ rest) w
        ∙ ap (λ (k : List Item). closed (condition_with (parenthesis d) (at f k b w))) (append_assoc s (closing ∷ []) rest)
        ∙ ap closed (o d w (closing ∷ rest) refl refl (omega arith) hw)
        ∙ ap (λ (r : Parse). condition_read r c) (expects CLOSE f _ rest b (w + size c))

    paren_operand : (d w : ℕ) (rest : List Item) → deep l c ≤ d → w + size c ≤ word_limit
        → op d (at f (shown l c ++ rest) b w) ≡ read rest (w + size c) c
    paren_operand d w rest hd hw =
        operand_plain (parenthesis d) (shown l c ++ rest) w (ap (λ (k : List Item). eqb (head_kind (k ++ rest)) NOT) in_parentheses)
        ∙ paren_read d w rest hd hw

  -- TERMS
  module _ (t : ℕ) (h : Named b (g t) t) where
    ok_term : Ok (term t)
    unfolding form depth size condition_items
    ok_term = record { p_ok = p; n_ok = n; a_ok = a; o_ok = from_and (term t) refl refl a }
      where
        p : POk (term t)
        p d w rest hd hw =
            plain_name (parenthesis d) (g t).variable (keyword "IS" ∷ name (g t).term ∷ rest) w
            ∙ variable_read (g t) t h (name (g t).term ∷ rest) w (omega arith) ∙ plain_term (g t) t h rest (w + 1)

        n : NOk (term t)
        n d w rest hd hw = operand_plain (parenthesis d) (shown 2 (term t) ++ rest) w refl ∙ p d w rest hd hw

        a : AOk (term t)
        a = from_not (term t) refl refl n

    ok_not_term : Ok (neg (term t))
    unfolding form depth size condition_items
    ok_not_term = record { p_ok = p; n_ok = n; a_ok = a; o_ok = from_and (neg (term t)) refl refl a }
      where
        p : POk (neg (term t))
        p d w rest hd hw =
            plain_name (parenthesis d) (g t).variable (keyword "IS" ∷ keyword "NOT" ∷ name (g t).term ∷ rest) w
            ∙ variable_read (g t) t h (keyword "NOT" ∷ name (g t).term ∷ rest) w (omega arith)
            ∙ not_term (g t) t h rest (w + 1) (omega arith)
            ∙ ap (λ (v : ℕ). read rest v (neg (term t))) (omega arith)

        n : NOk (neg (term t))
        n d w rest hd hw = operand_plain (parenthesis d) (shown 2 (neg (term t)) ++ rest) w refl ∙ p d w rest hd hw

        a : AOk (neg (term t))
        a = from_not (neg (term t)) refl refl n

  -- NEGATIONS
  neg_items : (c : Condition) → eqb (form c) 0 ≡ false → condition_items g (neg c) ≡ keyword "NOT" ∷ shown 1 c
  unfolding condition_items form
  neg_items (term t) h = clash (sym h)
  neg_items (neg c) h = refl
  neg_items (two o a e) h = refl

  ok_neg : (c : Condition) → eqb (form c) 0 ≡ false → POk c → Ok (neg c)
  unfolding size depth
  ok_neg c h q = record { p_ok = paren_read 1 (neg c) (rw (neg_form c h)) (whole (neg c) o); n_ok = n; a_ok = a; o_ok = o }
    where
      n : NOk (neg c)
      n d w rest hd hw =
          let e : shown 2 (neg c) ≡ keyword "NOT" ∷ shown 1 c = rw (neg_form c h) (neg_items c h) in
          let e' : deep 2 (neg c) ≡ deep 1 c = rw (neg_form c h) in
          ap (λ (k : List Item). op d (at f (k ++ rest) b w)) e
          ∙ operand_not (parenthesis d) (shown 1 c ++ rest) w (omega arith)
          ∙ ap negated_read (q d (w + 1) rest (omega arith) (omega arith))
          ∙ ap (λ (v : ℕ). read rest v (neg c)) (omega arith)

      a : AOk (neg c)
      a = from_not (neg c) (rw (neg_form c h)) (rw (neg_form c h)) n

      o : OOk (neg c)
      o = from_and (neg c) (rw (neg_form c h)) (rw (neg_form c h)) a

  -- OPERATORS
  module _ (a e : Condition) (oa : Ok a) (oe : Ok e) where
    ok_and : Ok (two and a e)
    unfolding form depth size condition_items
    ok_and = record { p_ok = paren_read 1 (two and a e) refl c; n_ok = paren_operand 2 (two and a e) refl c; a_ok = q; o_ok = o }
      where
        q : AOk (two and a e)
        q d w j rest x hd hw go n h =
            ap (λ (k : List Item). chain_on n (op d) AND and (op d (at f k b w))) (append_assoc (shown 3 a) (keyword "AND" ∷ shown 2 e) rest)
            ∙ oa.a_ok d w (suc j) (keyword "AND" ∷ (shown 2 e ++ rest)) x (omega arith) (omega arith) step n
            (omega (arith, length-append (shown 3 a) (keyword "AND" ∷ shown 2 e)))
          where
            step : (n : ℕ) → suc j ≤ n → chain_on n (op d) AND and (read (keyword "AND" ∷ (shown 2 e ++ rest)) (w + size a) a) ≡ x
            step zero l = absurd (omega arith)
            step (suc n) l =
                chain_more (op d) AND and n _ (shown 2 e ++ rest) (w + size a) a e rest (w + (size a + size e + 1)) (omega arith)
                (oe.n_ok d (w + size a + 1) rest (omega arith) (omega arith) ∙ ap (λ (v : ℕ). read rest v e) (omega arith))
                ∙ go n (omega arith)

        o : OOk (two and a e)
        o = from_and (two and a e) refl refl q

        c : COk (two and a e)
        c = whole (two and a e) o

    ok_or : Ok (two or a e)
    unfolding form depth size condition_items
    ok_or = record { p_ok = paren_read 1 (two or a e) refl (whole (two or a e) o); n_ok = n; a_ok = from_not (two or a e) refl refl n; o_ok = o }
      where
        o : OOk (two or a e)
        o d w j rest x t hd hw go n h =
            ap (λ (k : List Item). chain_on n (ands d) OR or (ands d (at f k b w))) (append_assoc (shown 4 a) (keyword "OR" ∷ shown 3 e) rest)
            ∙ oa.o_ok d w (suc j) (keyword "OR" ∷ (shown 3 e ++ rest)) x refl (omega arith) (omega arith) step n
            (omega (arith, length-append (shown 4 a) (keyword "OR" ∷ shown 3 e)))
          where
            step : (n : ℕ) → suc j ≤ n → chain_on n (ands d) OR or (read (keyword "OR" ∷ (shown 3 e ++ rest)) (w + size a) a) ≡ x
            step zero l = absurd (omega arith)
            step (suc n) l =
                chain_more (ands d) OR or n _ (shown 3 e ++ rest) (w + size a) a e rest (w + (size a + size e + 1)) (omega arith)
                (and_read e oe.a_ok d (w + size a + 1) rest t (omega arith) (omega arith) ∙ ap (λ (v : ℕ). read rest v e) (omega arith))
                ∙ go n (omega arith)

        n : NOk (two or a e)
        n = paren_operand 2 (two or a e) refl (whole (two or a e) o)

  -- ALL FORMS
  module _ (m : ℕ) (named : (t : ℕ) → t < m → Named b (g t) t) where
    pub all_ok : (c : Condition) → terms_below m c ≡ true → Ok c
    unfolding terms_below
    all_ok (term t) h = ok_term t (named t (ltb-true t m h))
    all_ok (neg (term t)) h = ok_not_term t (named t (ltb-true t m h))
    all_ok (neg (neg c)) h = ok_neg (neg c) (neg_not_term c) (all_ok (neg c) h).p_ok
    all_ok (neg (two o a e)) h = ok_neg (two o a e) (two_not_term o a e) (all_ok (two o a e) h).p_ok
    all_ok (two and a e) h = let q = both (terms_below m a) (terms_below m e) h in ok_and a e (all_ok a q.0) (all_ok e q.1)
    all_ok (two or a e) h = let q = both (terms_below m a) (terms_below m e) h in ok_or a e (all_ok a q.0) (all_ok e q.1)

    pub condition_reads : (c : Condition) → terms_below m c ≡ true → depth c ≤ depth_limit
        → (w : ℕ) (rest : List Item) → eqb (head_kind rest) AND ≡ false → eqb (head_kind rest) OR ≡ false → w + size c ≤ word_limit
        → condition (at f (condition_items g c ++ rest) b w) ≡ condition_read (at f rest b (w + size c)) c
    unfolding condition
    condition_reads c h hd w rest u v hw = whole c (all_ok c h).o_ok depth_limit w rest u v hd hw
