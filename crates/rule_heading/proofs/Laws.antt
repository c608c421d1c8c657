-- The laws of reading a heading.
use Rattle.std.specs.Prelude.{None, if◌then◌else◌}
use mathlib.Core.Path.{◌≡◌, refl, sym, ap, ◌∙◌}
use mathlib.Core.Bool.{Bool, true, false, ◌||◌, not}
use mathlib.Core.List.{List, []}
use mathlib.Core.Option.{Option, none, some}
use Prim.Native.Nat.{ℕ}
use native.Mathlib.Omega.{arith}
use borrow.Author.Tests.{eq-eqb, ne_eqb}
use lib.Dec.{eqb}
use lib.Seq.{slice_empty}
use Rattle.model.specs.Block.{Block, with_rule_block, with_pair, with_act, with_accu}
use Rattle.model.specs.declared.Pair.{Pair}
use Rattle.model.specs.declared.Pair.TheVariants.{MinMax as min-max, ProdAsum as prod-asum, BdifBsum as bdif-bsum}
use Rattle.model.specs.contracts.Pair.{the_type}
use denote.Enum.Bare.{sameb}
use Rattle.model.specs.declared.Activation.{Activation}
use Rattle.model.specs.declared.Activation.TheVariants.{Min as by-min, Prod as by-prod}
use Rattle.model.specs.declared.Accumulation.{Accumulation}
use Rattle.model.specs.declared.Accumulation.TheVariants.{Max as by-max, Bsum as by-bsum}
use Rattle.model.specs.Keywords.{ACT, AND, BSUM, COLON, MAX, MIN, OR, PROD, SEMICOLON}
use Rattle.model.specs.Parse.{Parse, Part, kind, text, is, refuse, advance, change, judged, expect, a_name, own_name}
use Rattle.model.specs.Rules.{same_pair, and_pair, or_pair, algorithm, algorithm_line, algorithms, activation, activation_line, accumulation}
use Rattle.cursor.specs.declared.Cursor.{Cursor}
use Rattle.cursor.specs.View.{seen, text_of, Fits, Step, fault}
use Rattle.cursor.proofs.Laws.{kind_seen, text_seen, changed, judged_bad, judged_good, numbered}
use Rattle.block_tables.specs.declared.Heading.{Heading}
use Rattle.block_tables.specs.View.{Headed}
use Rattle.rule_heading.specs.declared.Opened.{Opened}
use Rattle.rule_heading.specs.Opening.{headed, Bare, Opens, pairs}

abbrev pub view : List ℕ → Opened → Block → ℕ → Parse
view s p b n = seen s p.cursor (headed s p.heading b) n

abbrev pub none_yet : Heading
none_yet = record { start = 0; end = 0; pair = min-max; accu = by-max; act = by-min }

pub bare : (s : List ℕ) (b : Block) → Bare b → headed s none_yet b ≡ b
bare s b h =
    ap (λ (w : List ℕ). record {
      name = b.name;
      inputs = b.inputs;
      outputs = b.outputs;
      rule_block = w;
      pair = min-max;
      act = by-min;
      accu =
          by-max;
      rules = b.rules;
    }) (slice_empty 0 s ∙ sym h.rule_block)
    ∙ ap (λ (w : Pair). record {
      name = b.name;
      inputs = b.inputs;
      outputs = b.outputs;
      rule_block = b.rule_block;
      pair = w;
      act = by-min;
      accu =
          by-max;
      rules = b.rules;
    }) (sym h.pair)
    ∙ ap (λ (w : Activation). record {
      name = b.name;
      inputs = b.inputs;
      outputs = b.outputs;
      rule_block = b.rule_block;
      pair = b.pair;
      act =
          w;
      accu = by-max;
      rules = b.rules;
    }) (sym h.act)
    ∙ ap (λ (w : Accumulation). record {
      name = b.name;
      inputs = b.inputs;
      outputs = b.outputs;
      rule_block = b.rule_block;
      pair = b.pair;
      act =
          b.act;
      accu = w;
      rules = b.rules;
    }) (sym h.accu)

-- PARTS ONE AFTER THE OTHER
pub stepped : {f : Part} {s : List ℕ} {d : Cursor} (p : Opened) → Step f s p.cursor d → Headed s p.heading
    → Opens f s p (record { cursor = d; heading = p.heading })
stepped {f} {s} p a h = record { reads = λ b n. a.reads (headed s p.heading b) n; fewer = a.fewer; fits = a.fits; headed = h }

pub opens_then : {f g : Part} {s : List ℕ} {p q r : Opened} → Opens f s p q → Opens g s q r → Opens (λ y. g (f y)) s p r
opens_then {f} {g} {s} {p} {q} {r} x y = record {
  reads = λ b n. y.reads b n ∙ ap g (x.reads b n);
  fewer = let u = x.fewer in let v = y.fewer in
      omega arith;
  fits = y.fits;
  headed = y.headed;
}

pub opens_as : {f g : Part} {s : List ℕ} {p r : Opened} → ((b : Block) (n : ℕ) → g (view s p b n) ≡ f (view s p b n)) → Opens f s p r → Opens g s p r
opens_as e x = record { reads = λ b n. x.reads b n ∙ sym (e b n); fewer = x.fewer; fits = x.fits; headed = x.headed }

-- a token is passed that the heading h is kept of
pub passed : {g : Part} {s : List ℕ} {d : Cursor} (p : Opened) (h : Heading) → Step advance s p.cursor d → Headed s h
    → ((b : Block) (n : ℕ) → g (view s p b n) ≡ advance (seen s p.cursor (headed s h b) n)) → Opens g s p (record { cursor = d; heading = h })
passed {g} {s} p h a k e = record { reads = λ b n. a.reads (headed s h b) n ∙ sym (e b n); fewer = a.fewer; fits = a.fits; headed = k }

pub stays : {s : List ℕ} {g : Part} (p : Opened) → Fits s p.cursor → Headed s p.heading
    → ((b : Block) (n : ℕ) → g (view s p b n) ≡ view s p b n) → Opens g s p p
stays p f h e = record { reads = λ b n. sym (e b n); fewer = omega arith; fits = f; headed = h }

module _ (s : List ℕ) (p : Opened) where
  abbrev h : Heading
  h = p.heading

  -- THE NAME
  abbrev with_name : Heading
  with_name = record { start = p.cursor.start; end = p.cursor.end; pair = h.pair; accu = h.accu; act = h.act }

  pub name_headed : Fits s p.cursor → Headed s with_name
  name_headed f = record { order = f.order; inside = f.inside }

  pub name_fault : (w : ℕ) (b : Block) (n : ℕ) → w ≡ fault (a_name (view s p b n) []) → (w ≡ 0 → ⊥)
      → own_name with_rule_block (view s p b n) ≡ refuse w (view s p b n)
  unfolding own_name
  name_fault w b n e z = let y = view s p b n in judged_bad y (advance (change (with_rule_block (text y)) y)) w (a_name y []) [] (sym e) z

  pub name_given : (b : Block) (n : ℕ) → 0 ≡ fault (a_name (view s p b n) []) → p.cursor.refused ≡ None
      → own_name with_rule_block (view s p b n) ≡ advance (seen s p.cursor (headed s with_name b) n)
  unfolding own_name judged numbered
  name_given b n e z =
      let y = view s p b n in
      judged_good y (advance (change (with_rule_block (text y)) y)) (a_name y []) [] refl (sym e)
      ∙ ap (λ (w : List ℕ). advance (change (with_rule_block w) y)) (text_seen s p.cursor (headed s h b) n)
      ∙ ap advance (changed s p.cursor (headed s h b) n (with_rule_block (text_of s p.cursor)) z)

  -- ALGORITHMS
  abbrev with_pair_lem : Pair → Heading
  with_pair_lem a = record { start = h.start; end = h.end; pair = a; accu = h.accu; act = h.act }

  pub pair_headed : (a : Pair) → Headed s h → Headed s (with_pair_lem a)
  pair_headed a k = record { order = k.order; inside = k.inside }

  module _ (second : Bool) (k : ℕ) (b : Block) (n : ℕ) where
    abbrev judged_pair : Parse
    judged_pair = algorithm second (pairs k (kind (view s p b n))) (view s p b n)

    this_pair : (o : Option Pair) → pairs k p.cursor.kind ≡ o → judged_pair ≡ algorithm second o (view s p b n)
    this_pair o e = ap (λ (x : Option Pair). algorithm second x (view s p b n)) (ap (pairs k) (kind_seen s p.cursor (headed s h b) n) ∙ e)

    pub algorithm_none : pairs k p.cursor.kind ≡ none → judged_pair ≡ refuse 2 (view s p b n)
    unfolding algorithm
    algorithm_none e = this_pair none e

    pub algorithm_other : (a : Pair) → pairs k p.cursor.kind ≡ some a → second ≡ true → same_pair a h.pair ≡ false → judged_pair ≡ refuse 8 (view s p b n)
    unfolding algorithm judged seen
    algorithm_other a e u z = this_pair (some a) e ∙ simp (u, z)

    pub algorithm_set : (a : Pair) → pairs k p.cursor.kind ≡ some a → p.cursor.refused ≡ None → not second || same_pair a h.pair ≡ true
        → judged_pair ≡ advance (seen s p.cursor (headed s (with_pair_lem a) b) n)
    unfolding algorithm judged seen
    algorithm_set a e z u = this_pair (some a) e ∙ simp u (ap advance (changed s p.cursor (headed s h b) n (with_pair a) z))

  -- pairs compared in the code, and in the rules
  same_by : (a c : Pair) → sameb the_type c a ≡ same_pair a c
  same_by min-max min-max = refl
  same_by min-max prod-asum = refl
  same_by min-max bdif-bsum = refl
  same_by prod-asum min-max = refl
  same_by prod-asum prod-asum = refl
  same_by prod-asum bdif-bsum = refl
  same_by bdif-bsum min-max = refl
  same_by bdif-bsum prod-asum = refl
  same_by bdif-bsum bdif-bsum = refl

  pub other_pair : (a : Pair) → not (sameb the_type h.pair a) ≡ true → same_pair a h.pair ≡ false
  other_pair a e = go (same_pair a h.pair) (rw (same_by a h.pair) at e)
    where
      go : (t : Bool) → not t ≡ true → t ≡ false
      go false q = refl
      go true q = cc

  pub this_one : (a : Pair) → not (sameb the_type h.pair a) ≡ false → same_pair a h.pair ≡ true
  this_one a e = go (same_pair a h.pair) (rw (same_by a h.pair) at e)
    where
      go : (t : Bool) → not t ≡ false → t ≡ true
      go false q = cc
      go true q = refl

  pub may_first : (second : Bool) (a : Pair) → second ≡ false → not second || same_pair a h.pair ≡ true
  may_first second a e = simp e

  pub may_second : (second : Bool) (a : Pair) → same_pair a h.pair ≡ true → not second || same_pair a h.pair ≡ true
  may_second true a e = e
  may_second false a e = refl

  pub no_end : (k : ℕ) (a : Pair) → pairs k p.cursor.kind ≡ some a → p.cursor.kind ≡ 0 → ⊥
  no_end k a e z = go (eqb k AND) (sym (ap (pairs k) z) ∙ e)
    where
      go : (t : Bool) → (if t then and_pair 0 else or_pair 0) ≡ some a → ⊥
      go true q = cc
      go false q = cc

  -- ACTIVATION AND ACCUMULATION
  abbrev with_act_lem : Activation → Heading
  with_act_lem a = record { start = h.start; end = h.end; pair = h.pair; accu = h.accu; act = a }

  abbrev with_accu_lem : Accumulation → Heading
  with_accu_lem a = record { start = h.start; end = h.end; pair = h.pair; accu = a; act = h.act }

  pub act_headed : (a : Activation) → Headed s h → Headed s (with_act_lem a)
  act_headed a k = record { order = k.order; inside = k.inside }

  pub accu_headed : (a : Accumulation) → Headed s h → Headed s (with_accu_lem a)
  accu_headed a k = record { order = k.order; inside = k.inside }

  module _ (b : Block) (n : ℕ) where
    -- one of two algorithms, or a wrong token
    module _ (k : ℕ) (f : Block → Block) (l : ℕ) (g : Block → Block) where
      abbrev one_of : Part
      one_of r = if is k r then advance (change f r) else if is l r then advance (change g r) else refuse 2 r

      the_first : p.cursor.kind ≡ k → p.cursor.refused ≡ None → one_of (view s p b n) ≡ advance (seen s p.cursor (f (headed s h b)) n)
      the_first e z = simp (kind_seen, eq-eqb _ _ e) (ap advance (changed s p.cursor (headed s h b) n f z))

      the_second : eqb l k ≡ false → p.cursor.kind ≡ l → p.cursor.refused ≡ None
          → one_of (view s p b n) ≡ advance (seen s p.cursor (g (headed s h b)) n)
      the_second q e z = simp (kind_seen, e, q, eq-eqb l l refl) (ap advance (changed s p.cursor (headed s h b) n g z))

      neither : (p.cursor.kind ≡ k → ⊥) → (p.cursor.kind ≡ l → ⊥) → one_of (view s p b n) ≡ refuse 2 (view s p b n)
      neither u v = simp (kind_seen, ne_eqb _ _ u, ne_eqb _ _ v)

    pub act_min : p.cursor.kind ≡ MIN → p.cursor.refused ≡ None → activation (view s p b n) ≡ advance (seen s p.cursor (headed s (with_act_lem by-min) b) n)
    unfolding activation
    act_min = the_first MIN (with_act by-min) PROD (with_act by-prod)

    pub act_prod : p.cursor.kind ≡ PROD → p.cursor.refused ≡ None → activation (view s p b n) ≡ advance (seen s p.cursor (headed s (with_act_lem by-prod) b) n)
    unfolding activation
    act_prod = the_second MIN (with_act by-min) PROD (with_act by-prod) refl

    pub act_none : (p.cursor.kind ≡ MIN → ⊥) → (p.cursor.kind ≡ PROD → ⊥) → activation (view s p b n) ≡ refuse 2 (view s p b n)
    unfolding activation
    act_none = neither MIN (with_act by-min) PROD (with_act by-prod)

    pub accu_max : p.cursor.kind ≡ MAX → p.cursor.refused ≡ None → accumulation (view s p b n) ≡ advance (seen s p.cursor (headed s (with_accu_lem by-max) b) n)
    unfolding accumulation
    accu_max = the_first MAX (with_accu by-max) BSUM (with_accu by-bsum)

    pub accu_bsum : p.cursor.kind ≡ BSUM → p.cursor.refused ≡ None → accumulation (view s p b n) ≡ advance (seen s p.cursor (headed s (with_accu_lem by-bsum) b) n)
    unfolding accumulation
    accu_bsum = the_second MAX (with_accu by-max) BSUM (with_accu by-bsum) refl

    pub accu_none : (p.cursor.kind ≡ MAX → ⊥) → (p.cursor.kind ≡ BSUM → ⊥) → accumulation (view s p b n) ≡ refuse 2 (view s p b n)
    unfolding accumulation
    accu_none = neither MAX (with_accu by-max) BSUM (with_accu by-bsum)

    -- ACT stands here
    pub act_line : p.cursor.kind ≡ ACT → activation_line (view s p b n) ≡ expect SEMICOLON (activation (expect COLON (expect ACT (view s p b n))))
    unfolding activation_line expect
    act_line k = simp (kind_seen, eq-eqb _ _ k)

    pub act_absent : (p.cursor.kind ≡ ACT → ⊥) → activation_line (view s p b n) ≡ view s p b n
    unfolding activation_line
    act_absent k = simp (kind_seen, ne_eqb _ _ k)

    -- AND and OR, where q stands after the first
    pub absent : (p.cursor.kind ≡ AND → ⊥) → (p.cursor.kind ≡ OR → ⊥) → algorithms (view s p b n) ≡ view s p b n
    unfolding algorithms
    absent u v = simp (kind_seen, ne_eqb _ _ u, ne_eqb _ _ v)

    module _ (q : Opened) where
      module _ (k : p.cursor.kind ≡ AND) (x : Opens (algorithm_line false AND and_pair) s p q) where
        then_kind : kind (algorithm_line false AND and_pair (view s p b n)) ≡ q.cursor.kind
        then_kind = ap kind (sym (x.reads b n)) ∙ kind_seen s q.cursor (headed s q.heading b) n

        pub and_or : q.cursor.kind ≡ OR → algorithms (view s p b n) ≡ algorithm_line true OR or_pair (algorithm_line false AND and_pair (view s p b n))
        unfolding algorithms
        and_or l = simp (kind_seen, eq-eqb _ _ k, then_kind, eq-eqb _ _ l)

        pub and_alone : (q.cursor.kind ≡ OR → ⊥) → algorithms (view s p b n) ≡ algorithm_line false AND and_pair (view s p b n)
        unfolding algorithms
        and_alone l = simp (kind_seen, eq-eqb _ _ k, then_kind, ne_eqb _ _ l)

      module _ (k : p.cursor.kind ≡ OR) (x : Opens (algorithm_line false OR or_pair) s p q) where
        next_kind : kind (algorithm_line false OR or_pair (view s p b n)) ≡ q.cursor.kind
        next_kind = ap kind (sym (x.reads b n)) ∙ kind_seen s q.cursor (headed s q.heading b) n

        pub or_and : q.cursor.kind ≡ AND → algorithms (view s p b n) ≡ algorithm_line true AND and_pair (algorithm_line false OR or_pair (view s p b n))
        unfolding algorithms
        or_and l = simp (kind_seen, k, next_kind, eq-eqb _ _ l)

        pub or_alone : (q.cursor.kind ≡ AND → ⊥) → algorithms (view s p b n) ≡ algorithm_line false OR or_pair (view s p b n)
        unfolding algorithms
        or_alone l = simp (kind_seen, k, next_kind, ne_eqb _ _ l)
