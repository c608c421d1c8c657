-- The laws of reading a condition.
use Rattle.std.specs.Prelude.{None, if◌then◌else◌}
use mathlib.Core.Path.{◌≡◌, refl, sym, ap, ◌∙◌, subst}
use mathlib.Core.Bool.{Bool, true, false}
use mathlib.Core.List.{List, [], ◌∷◌, ◌++◌}
use Prim.Native.Nat.{ℕ, zero, suc, ◌+◌, ◌-◌, ◌*◌, ◌≤◌, ◌<◌}
use native.Mathlib.Omega.{arith}
use native.Mathlib.Numerals.{sub-one}
use borrow.Author.Tests.{eq-eqb, ne_eqb, lt-ltb, le-ltb}
use lib.ListN.{length, take, drop, length-append}
use lib.Seq.{take-take, take_at, length-take-le, sets, sets-eq}
use Rattle.model.specs.Bounds.{word_limit, variable_limit, term_limit}
use Rattle.model.specs.Block.{Block, Op, Condition, term, two, empty_block}
use Rattle.model.specs.Image.{postfix, op_word}
use Rattle.model.specs.Keywords.{CLOSE, IS, END}
use Rattle.model.specs.Parse.{Parse, Part, kind, text, refuse, advance, judged, expect, a_name}
use Rattle.model.specs.Declarations.{input_of, term_of, is_input, is_term}
use Rattle.model.specs.Rules.{ConditionRead, condition_read, word, condition_term, term_or_not, subcondition, negated_read, closed, chain_on, chain, condition_with, parenthesis}
use Rattle.laws.proofs.Lists.{sets_append}
use Rattle.laws.proofs.Again.{Again, again_more, again_end}
use Rattle.laws.proofs.Repetition.{join, no_join}
use Rattle.cursor.specs.declared.Cursor.{Cursor}
use Rattle.cursor.specs.View.{seen, text_of, Fits, left, Step, fault}
use Rattle.cursor.proofs.Laws.{enough, kind_seen, text_seen, block_seen, words_seen, lost_kind, lost_refuse, lost_expect, judged_bad, judged_good, numbered}
use Rattle.lookup.specs.Names.{among}
use Rattle.symbol_table.specs.Symbols.{Describes, input_count, term_count, first}
use Rattle.condition_text.specs.declared.Pending.{Pending}
use Rattle.condition_text.specs.Pending.{Room, Adds, ReadsCondition, Balanced, Stops, Counts, Puts}

abbrev pub at : Pending → Cursor → Pending
at p d = record { cursor = d; words = p.words; put = p.put }

-- A REFUSED READING
module _ (s : List ℕ) (d : Cursor) (g : Fits s d) (h : d.refused ≡ None → ⊥) where
  module _ (b : Block) (n : ℕ) where
    term_stays : (i : ℕ) → (term_or_not i (seen s d b n)).parse ≡ seen s d b n
    unfolding term_or_not condition_term judged
    term_stays i = simp (kind_seen, lost_kind s d g h) (lost_refuse s d g h b n 2)

    pub here_stays : (i : ℕ) → (term_or_not i (expect IS (seen s d b n))).parse ≡ seen s d b n
    here_stays i = ap (λ (r : Parse). (term_or_not i r).parse) (lost_expect s d g h b n IS (λ z. omega arith)) ∙ term_stays i

-- no token follows a refusal
pub refused_left : (s : List ℕ) (w : ℕ) (c d : Cursor) → c.refused ≡ None → Step (refuse w) s c d → left s d ≡ 0
unfolding refuse seen kind left
refused_left s w c d h a =
    let q = ap kind (a.reads empty_block 0) in
    let e : d.kind ≡ END = simp h at q in
    simp (eq-eqb _ _ e)

-- WHATEVER THE BLOCK
pub within_then : {s : List ℕ} {j k : ℕ} {p q r : Pending} {old mid new : List ℕ} → Balanced s j p q old mid → Balanced s k q r mid new
    → Balanced s (j + k) p r old new
within_then {s} {j} {k} {p} {q} {r} {old} {mid} {new} a b = record {
  fewer = let u = a.fewer in let v = b.fewer in omega arith;
  room = b.room;
  sticky = λ h. a.sticky (b.sticky h);
  even = λ h. let u = a.even (b.sticky h) in let v = b.even h in omega arith;
  grows = let u = a.grows in let v = b.grows in omega arith;
  stays = sym (take-take p.put q.put new a.grows) ∙ ap (λ (l : List ℕ). take p.put l) b.stays
      ∙ take-take p.put q.put mid a.grows ∙ a.stays;
}

-- a word that was counted is put
pub counted_then : {s : List ℕ} {p q r : Pending} {old new : List ℕ} (k : ℕ) → p.cursor.refused ≡ None → Counts s p q → Balanced s (k + 1) q r old new
    → Balanced s k p r old new
counted_then {s} {p} {q} {r} {old} {new} k h a b = record {
  fewer = let u = a.fewer in let v = b.fewer in omega arith;
  room = b.room;
  sticky = λ e. h;
  even = λ e. let u = a.words (b.sticky e) in let v = b.even e in let w = a.put in omega arith;
  grows = let u = a.put in let v = b.grows in omega arith;
  stays = rw a.put at b.stays;
}

pub stepped : {f : Part} {s : List ℕ} {d : Cursor} (p : Pending) (l : List ℕ) → Room s p → Step f s p.cursor d → Balanced s 0 p (at p d) l l
stepped p l g a = record {
  fewer = a.fewer;
  room = record { fits = a.fits; put = g.put; words = g.words };
  sticky = a.sticky;
  even = λ e. omega arith;
  grows = omega arith;
  stays = refl;
}

pub stopped : {f : Part} {s : List ℕ} {p r : Pending} (k : ℕ) (l : List ℕ) → Room s p → Step f s p.cursor r.cursor → Stops p r → Balanced s k p r l l
stopped k l g a z = record {
  fewer = a.fewer;
  room = record {
    fits = a.fits;
    put = let u = z.put in let v = z.words in let w = g.put in omega arith;
    words = let v = z.words in let w =
        g.words in omega arith;
  };
  sticky = λ e. absurd (z.why e);
  even = λ e. absurd (z.why e);
  grows = let u = z.put in omega arith;
  stays = refl;
}

pub put_within : {s : List ℕ} {p r : Pending} {w : ℕ} {old new : List ℕ} → Room s p → Puts p r w old new → Balanced s 1 p r old new
put_within {s} {p} {r} {w} {old} {new} g a = record {
  fewer = rw a.cursor (omega arith);
  room = record { fits = rw a.cursor g.fits; put = a.most; words = let u = a.words in let v = g.words in omega arith };
  sticky = λ e. rw a.cursor at e;
  even = λ e. let u = (a.adds (rw a.cursor at e)).put in let v = a.words in omega arith;
  grows = a.grows;
  stays = a.stays;
}

pub put_seen : {p r : Pending} {w : ℕ} {old new : List ℕ} (s : List ℕ) (b : Block) → Puts p r w old new
    → seen s r.cursor b r.words ≡ seen s p.cursor b p.words
put_seen s b a = rw (a.cursor, a.words)

-- a token is counted, what follows it read, its word put
pub turned : {s : List ℕ} {k : ℕ} {p q m r : Pending} {w : ℕ} {old mid new : List ℕ} → p.cursor.refused ≡ None → Counts s p q → Balanced s k q m old mid
    → Puts m r w mid new → Balanced s k p r old new
turned {s} {k} h n a u = counted_then k h n (within_then a (put_within a.room u))

pub unmoved : {s : List ℕ} {p : Pending} (l : List ℕ) → Room s p → Balanced s 0 p p l l
unmoved l g = record { fewer = omega arith; room = g; sticky = λ e. e; even = λ e. omega arith; grows = omega arith; stays = refl }

-- WORDS PUT
pub adds : {a b c : ℕ} {v w old mid new : List ℕ} → Adds a b v old mid → Adds b c w mid new → Adds a c (v ++ w) old new
adds {a} {b} {c} {v} {w} {old} {mid} {new} x y = record {
  put = let p = x.put in let q = y.put in simp length-append (omega arith);
  said = y.said ∙ ap (λ (l : List ℕ). sets l b w) x.said ∙ ap (λ (n : ℕ). sets (sets old a v) n w) x.put ∙ sym (sets_append old a v w);
}

-- the words that are put, where the array has room for them
pub words_put : {m n : ℕ} {ws old new : List ℕ} → Adds m n ws old new → n ≤ length old → take n new ≡ take m old ++ ws
words_put {m} {n} {ws} {old} {new} a h =
    let e = a.put in
    let k : length (take m old ++ ws) ≡ n = simp length-append (omega (arith, length-take-le m old (omega arith))) in
    ap (λ (l : List ℕ). take n l) (a.said ∙ sets-eq ws old m (omega arith))
    ∙ take_at (take m old ++ ws) (drop (m + length ws) old) n k

pub from : {s : List ℕ} {b : Block} {p q r : Pending} {g : ConditionRead} {old new : List ℕ} → q.put ≡ p.put → ReadsCondition s b q r g old new
    → ReadsCondition s b p r g old new
from {s} {b} {p} {q} {r} {g} {old} {new} e a = record { seen = a.seen; adds = λ h. rw e at (a.adds h) }

-- nothing is said of the words of a refused reading
pub refuses : {s : List ℕ} {b : Block} {p r : Pending} {g : ConditionRead} {old new : List ℕ} (w : ℕ) → Stops p r
    → Step (refuse w) s p.cursor r.cursor → g.parse ≡ refuse w (seen s p.cursor b p.words) → ReadsCondition s b p r g old new
refuses {s} {b} {p} w z a e = record { seen = rw z.words (a.reads b p.words) ∙ sym e; adds = λ h. absurd (z.why h) }

-- a word behind what was read
pub negates : {s : List ℕ} {b : Block} {p m r : Pending} {g : ConditionRead} {old mid new : List ℕ} → ReadsCondition s b p m g old mid → Puts m r 0 mid new
    → ReadsCondition s b p r (negated_read g) old new
unfolding postfix
negates {s} {b} a u = record { seen = put_seen s b u ∙ a.seen; adds = λ h. let e = rw u.cursor at h in adds (a.adds e) (u.adds e) }

pub closes : {s : List ℕ} {b : Block} {p m : Pending} {d : Cursor} {g : ConditionRead} {old new : List ℕ} → ReadsCondition s b p m g old new
    → Step (expect CLOSE) s m.cursor d → ReadsCondition s b p (at m d) (closed g) old new
closes {s} {b} {p} {m} a e = record { seen = e.reads b m.words ∙ ap (expect CLOSE) a.seen; adds = λ h. a.adds (e.sticky h) }

-- THE COUNTED TOKEN
module _ (s : List ℕ) (c d : Cursor) (n : ℕ) (b : Block) where
  pub word_more : n < word_limit → Step advance s c d → seen s d b (n + 1) ≡ word (seen s c b n)
  unfolding word seen advance
  word_more h a = simp (lt-ltb _ _ h) (a.reads b (n + 1))

  pub word_full : word_limit ≤ n → Step (refuse 6) s c d → seen s d b n ≡ word (seen s c b n)
  unfolding word
  word_full h a = simp (words_seen, le-ltb _ _ h) (a.reads b n)

-- NAMES
module _ (s names symbols : List ℕ) (b : Block) (D : Describes s names symbols b) (c : Cursor) (n : ℕ) where
  abbrev here : Parse
  here = seen s c b n

  named : 0 ≡ fault (a_name here []) → (ok : Bool) (next : Parse) → judged (a_name here ((ok, 5) ∷ [])) here next ≡ (if ok then next else refuse 5 here)
  unfolding numbered judged
  named e ok next = judged_good here next (a_name here []) ((ok, 5) ∷ []) refl (sym e)

  module _ (w : ℕ) (e : w ≡ fault (a_name here [])) (h : w ≡ 0 → ⊥) where
    pub term_fault : (i : ℕ) → (condition_term i here).parse ≡ refuse w here
    unfolding condition_term
    term_fault i = judged_bad here (advance here) w (a_name here []) ((is_term i (text here) here.block, 5) ∷ []) (sym e) h

    pub input_fault : (d : Cursor) → Step (refuse w) s c d → (d.refused ≡ None → ⊥) → (subcondition here).parse ≡ refuse w here
    unfolding subcondition
    input_fault d a z =
        ap (λ (r : Parse). (term_or_not (input_of (text here) here.block) (expect IS r)).parse)
        (judged_bad here (word here) w (a_name here []) ((is_input (text here) here.block, 5) ∷ []) (sym e) h ∙ sym (a.reads b n))
        ∙ here_stays s d a.fits z b n (input_of (text here) here.block) ∙ a.reads b n

  module _ (e : 0 ≡ fault (a_name here [])) (i : ℕ) (f : i ≡ among s names (text_of s c) (input_count symbols) 0) where
    the_input : input_of (text here) b ≡ i
    the_input = simp text_seen (D.input (text_of s c) ∙ sym f)

    pub input_unknown : (d : Cursor) → input_count symbols ≤ i → Step (refuse 5) s c d → (d.refused ≡ None → ⊥) → (subcondition here).parse ≡ refuse 5 here
    unfolding subcondition
    input_unknown d h a z =
        let q : is_input (text here) here.block ≡ false = simp (the_input, block_seen, D.inputs) (le-ltb _ _ h) in
        ap (λ (r : Parse). (term_or_not (input_of (text here) here.block) (expect IS r)).parse)
        (named e (is_input (text here) here.block) (word here) ∙ simp q (sym (a.reads b n)))
        ∙ here_stays s d a.fits z b n (input_of (text here) here.block) ∙ a.reads b n

    pub input_known : i < input_count symbols → term_or_not i (expect IS (word here)) ≡ subcondition here
    unfolding subcondition
    input_known h =
        let q : is_input (text here) here.block ≡ true = simp (the_input, block_seen, D.inputs) (lt-ltb _ _ h) in
        let x : input_of (text here) here.block ≡ i = simp block_seen the_input in
        sym (ap (λ (r : Parse). term_or_not (input_of (text here) here.block) (expect IS r)) (named e (is_input (text here) here.block) (word here) ∙ simp q)
        ∙ ap (λ (j : ℕ). term_or_not j (expect IS (word here))) x)

  module _ (e : 0 ≡ fault (a_name here [])) (i : ℕ) (g : i < input_count symbols) (j : ℕ)
      (f : j ≡ among s names (text_of s c) (term_count symbols i) (variable_limit + i * term_limit)) where
    the_term : term_of i (text here) b ≡ j
    the_term = simp text_seen (D.term (text_of s c) i g ∙ sym f)

    pub term_unknown : term_count symbols i ≤ j → (condition_term i here).parse ≡ refuse 5 here
    unfolding condition_term
    term_unknown h =
        let q : is_term i (text here) here.block ≡ false = simp (the_term, block_seen, D.terms i g) (le-ltb _ _ h) in
        named e (is_term i (text here) here.block) (advance here) ∙ simp q

    pub term_known : j < term_count symbols i → (condition_term i here).parse ≡ advance here
    unfolding condition_term
    term_known h =
        let q : is_term i (text here) here.block ≡ true = simp (the_term, block_seen, D.terms i g) (lt-ltb _ _ h) in
        named e (is_term i (text here) here.block) (advance here) ∙ simp q

    pub term_words : (w : ℕ) → w ≡ 16 + first symbols i + j → w ∷ [] ≡ postfix (condition_term i here).tree
    unfolding condition_term postfix
    term_words w h =
        let q : w ≡ 16 + (first symbols i + j) = omega arith in
        simp (the_term, block_seen, D.input_first i g) (ap (λ (x : ℕ). x ∷ []) q)

-- the term's word behind those that are put
pub names_term : {s : List ℕ} {b : Block} {p r : Pending} {d : Cursor} {g : ConditionRead} {w : ℕ} {old new : List ℕ}
    → Step advance s p.cursor d → Puts (at p d) r w old new → g.parse ≡ advance (seen s p.cursor b p.words) → w ∷ [] ≡ postfix g.tree
    → ReadsCondition s b p r g old new
names_term {s} {b} {p} {r} {d} {g} {w} {old} {new} a u e f = record {
  seen = put_seen s b u ∙ a.reads b p.words ∙ sym e;
  adds = λ h. rw f at (u.adds (rw u.cursor at h));
}

-- PARENTHESES
pub paren_none : (d : ℕ) → d ≡ 0 → (r : Parse) → parenthesis d r ≡ condition_read (refuse 6 r) (term 0)
unfolding parenthesis
paren_none zero e r = refl
paren_none (suc d) e r = absurd (omega arith)

pub paren_more : (d : ℕ) → (d ≡ 0 → ⊥) → (r : Parse) → parenthesis d r ≡ closed (condition_with (parenthesis (d - 1)) (advance r))
unfolding parenthesis
paren_more zero n r = absurd (n refl)
paren_more (suc d) n r = simp sub-one

-- part {k part}: at p, with the words l, the loop that began at p₀ with l₀ still has its answer before it, and a tree for the words so far
abbrev pub Going : (Parse → ConditionRead) → ℕ → Op → List ℕ → Block → Pending → List ℕ → Pending → List ℕ → Type 0
Going part k o s b p₀ l₀ p l =
    (n : ℕ) (t₀ : Condition) → left s p₀.cursor < n →
    (t : Condition)
    × Again (λ f. chain_on f part k o) (left s p.cursor) (condition_read (seen s p.cursor b p.words) t)
    (chain_on n part k o (condition_read (seen s p₀.cursor b p₀.words) t₀))
    × ((m : ℕ) (old : List ℕ) → (p₀.cursor.refused ≡ None → Adds m p₀.put (postfix t₀) old l₀) → p.cursor.refused ≡ None → Adds m p.put (postfix t) old l)

module _ (part : Parse → ConditionRead) (k : ℕ) (o : Op) (s : List ℕ) (b : Block) where
  abbrev view : Pending → Parse
  view p = seen s p.cursor b p.words

  pub begins : (p : Pending) (l : List ℕ) → Going part k o s b p l p l
  begins p l n t₀ h = (t₀, (n, h, refl), λ m old a. a)

  -- q is p with its token counted, m what part reads from there, r that with the word put
  pub goes : (p₀ p q m r : Pending) (l₀ l mid new : List ℕ) → Going part k o s b p₀ l₀ p l → p.cursor.kind ≡ k → p.cursor.refused ≡ None
      → view q ≡ word (view p) → q.put ≡ p.put → ReadsCondition s b q m (part (view q)) l mid → Puts m r (op_word o) mid new
      → left s r.cursor < left s p.cursor → Going part k o s b p₀ l₀ r new
  unfolding postfix
  goes p₀ p q m r l₀ l mid new G e z v w a u lt n t₀ h = (tree, again_more (λ f. chain_on f part k o) turn lt (G n t₀ h).1, whole)
    where
      before : ConditionRead
      before = condition_read (view p) (G n t₀ h).0

      tree : Condition
      tree = two o (G n t₀ h).0 (part (view q)).tree

      whole : (i : ℕ) (old : List ℕ) → (p₀.cursor.refused ≡ None → Adds i p₀.put (postfix t₀) old l₀) → r.cursor.refused ≡ None
          → Adds i r.put (postfix tree) old new
      whole i old x y =
          let y' : m.cursor.refused ≡ None = rw u.cursor at y in
          adds ((G n t₀ h).2 i old x z) (adds (rw w at (a.adds y')) (u.adds y'))

      turn : (f : ℕ) → chain_on (suc f) part k o before ≡ chain_on f part k o (condition_read (view r) tree)
      turn f =
          join k part o f before (eq-eqb _ _ (kind_seen s p.cursor b p.words ∙ e))
          ∙ ap (λ (x : Parse). chain_on f part k o (condition_read (part x).parse (two o (G n t₀ h).0 (part x).tree))) (sym v)
          ∙ ap (λ (x : Parse). chain_on f part k o (condition_read x tree)) (sym (put_seen s b u ∙ a.seen))

  pub stops : (e p₀ p : Pending) (old l₀ l : List ℕ) → Going part k o s b p₀ l₀ p l → (p.cursor.kind ≡ k → ⊥)
      → ReadsCondition s b e p₀ (part (view e)) old l₀ → left s p₀.cursor ≤ left s e.cursor → ReadsCondition s b e p (chain part k o (view e)) old l
  unfolding chain
  stops e p₀ p old l₀ l G n r lt =
      let z = enough s e.cursor b e.words in
      let g = G (suc (length (view e).rest)) (part (view e)).tree (omega arith) in
      subst (λ (x : ConditionRead). ReadsCondition s b e p x old l)
      (again_end (λ f. chain_on f part k o) (λ f. no_join k part o f (condition_read (view p) g.0)
      (ne_eqb _ _ (λ z. n (sym (kind_seen s p.cursor b p.words) ∙ z)))) g.1
      ∙ ap (λ (x : Parse). chain_on (suc (length (view e).rest)) part k o (condition_read x (part (view e)).tree)) r.seen)
      (record { seen = refl; adds = g.2 e.put old r.adds })
