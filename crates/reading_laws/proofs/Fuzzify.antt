-- FUZZIFY: the terms of an input have names of their own, and points in their order, as many as there may be.
use mathlib.Core.Path.{◌≡◌, refl, sym, ap, ◌∙◌}
use mathlib.Core.Bool.{true}
use mathlib.Core.List.{List, [], ◌∷◌, ◌++◌, map, map-append}
use Prim.Native.Nat.{ℕ, ◌≤◌}
use native.Mathlib.Omega.{arith}
use borrow.Author.Tests.{ltb-true, not-true, le-leb}
use lib.Dec.{leb, ltb}
use lib.IntN.{ℤ}
use lib.ListN.{length, length-append, length-map}
use Rattle.model.specs.Basic.{all, distinct, update_last, update}
use Rattle.model.specs.Bounds.{term_limit, point_least, point_limit}
use Rattle.model.specs.Keywords.{ASSIGN, COMMA, CLOSE, TERM, FUZZIFY, END_FUZZIFY}
use Rattle.model.specs.Tokens.{is_name, same_name, in_crisp, unit_of}
use Rattle.model.specs.Block.{Point, Term, Input, Block, terms_of, may_follow, with_inputs, with_terms, with_point}
use Rattle.model.specs.WellFormed.{point_ok, in_order, term_ok}
use Rattle.model.specs.Parse.{Parse, text, advance, value_here}
use Rattle.model.specs.Declarations.{term_of, add_term, add_point, last_points, points_of, point_position, point_degree, point_body, point, end_of_points, term_name, input_term, fuzzify_of, fuzzify_variable, fuzzify}
use Rattle.laws.proofs.Tests.{pass, and_i}
use Rattle.laws.proofs.Each.{Each}
use Rattle.laws.proofs.Lists.{update_last_snoc}
use Rattle.laws.proofs.Lists.{last_points_lem}
use Rattle.laws.proofs.Finding.{none_of, named}
use Rattle.reading_laws.proofs.Steps.{Fact, Good, Leads, ◌▹◌, good_so, good_advance, good_change, good_judged, name_here, good_expect, good_repeated, good_listed}
use Rattle.reading_laws.proofs.Numbers.{crisp_value, unit_value, order_last}
use Rattle.reading_laws.proofs.Focus.{Except, focus, unfocus, except_update, except_so, except_at, map_update, map_update_last, all_last, absent, named_last}
use Rattle.reading_laws.proofs.Declarations.{InputFine, OutputFine, Declared, Outputs, declared_so, renamed}

-- an input whose last term has its points so far
record Growing (v : Input) : Type 0 where
  before : List Term
  last : Term
  split : v.terms ≡ before ++ (last ∷ [])
  name : is_name v.name ≡ true
  count : length v.terms ≤ term_limit
  apart : distinct same_name (map (λ t. t.name) v.terms) ≡ true
  terms : all term_ok before ≡ true
  called : is_name last.name ≡ true
  points : all point_ok last.points ≡ true
  ordered : in_order [] (map (λ p. p.at) last.points) ≡ true
  most : length last.points ≤ point_limit

module _ (v : Input) where
  term_begun : (n : List ℕ) → is_name n ≡ true → InputFine v → ltb (length v.terms) term_limit ≡ true
      → none_of (named (λ (t : Term). t.name) n) v.terms ≡ true → Growing (with_terms (λ ts. ts ++ (record { name = n; points = [] } ∷ [])) v)
  unfolding all in_order
  term_begun n e f l a =
      let t : Term = record { name = n; points = [] } in
      let j = ltb-true (length v.terms) term_limit l in
      let k = length-append v.terms (t ∷ []) in
      record {
        before = v.terms;
        last = t;
        split = refl;
        name = f.name;
        count = omega arith;
        apart = named_last (λ t. t.name) v.terms t f.apart a;
        terms = f.terms;
        called = e;
        points = refl;
        ordered = refl;
        most = omega arith;
      }

  module _ (g : Growing v) where
    so_far : last_points v.terms ≡ g.last.points
    so_far = ap last_points g.split ∙ last_points_lem g.before g.last

    point_more : (p : Point) → ltb (length (last_points v.terms)) point_limit ≡ true → may_follow (map (λ p. p.at) (last_points v.terms)) p.at ≡ true
        → point_ok p ≡ true → Growing (with_terms (update_last (with_point p)) v)
    point_more p l f o =
        let e : map (λ t. t.name) (update_last (with_point p) v.terms) ≡ map (λ t. t.name) v.terms =
        map_update_last (λ t. t.name) (with_point p) (λ t. refl) v.terms in
        let c : length (update_last (with_point p) v.terms) ≡ length v.terms =
        sym (length-map (update_last (with_point p) v.terms) (λ t. t.name)) ∙ ap length e ∙ length-map v.terms (λ t. t.name) in
        let j = ltb-true (length (last_points v.terms)) point_limit l in
        let i = ap length so_far in
        let k = length-append g.last.points (p ∷ []) in
        record {
          before = g.before;
          last = with_point p g.last;
          split = ap (update_last (with_point p)) g.split ∙ update_last_snoc (with_point p) g.before g.last;
          name = g.name;
          count = rw c g.count;
          apart = ap (distinct same_name) e ∙ g.apart;
          terms = g.terms;
          called = g.called;
          points = all_last point_ok g.last.points p g.points o;
          ordered =
              ap (in_order []) (map-append (λ p. p.at) g.last.points (p ∷ []))
              ∙ order_last [] (map (λ p. p.at) g.last.points) p.at g.ordered
              (sym (ap (λ (ps : List Point). may_follow (map (λ p. p.at) ps) p.at) so_far) ∙ f);
          most = omega arith;
        }

    term_done : leb point_least (length (last_points v.terms)) ≡ true → InputFine v
    unfolding term_ok
    term_done l =
        let m : leb point_least (length g.last.points) ≡ true = sym (ap (λ (ps : List Point). leb point_least (length ps)) so_far) ∙ l in
        let o : term_ok g.last ≡ true =
        pass _ (g.called, (and_i _ _ m (le-leb (length g.last.points) point_limit g.most), (g.points, (g.ordered, tt)))) in
        record { name = g.name; count = g.count; terms = ap (all term_ok) g.split ∙ all_last term_ok g.before g.last g.terms o; apart = g.apart }

-- while input i has R
abbrev Fuzzy : ℕ → (Input → Type 0) → Fact
Fuzzy i R = Declared 1 1 (Except InputFine R i) (Each OutputFine)

module _ (i : ℕ) where
  -- what is known of its terms
  known : {R : Input → Type 0} {w : ℕ} {b : Block} (T : List Term → Type 0) → T (terms_of i b) → Fuzzy i R w b → Fuzzy i (λ v. R v × T v.terms) w b
  unfolding terms_of
  known {R} {w} {b} T t = declared_so (except_at InputFine R (λ v. v.terms) T [] i b.inputs t) (λ x. x)

  changed : {R S : Input → Type 0} {w : ℕ} {b : Block} (f : List Term → List Term) → ((v : Input) → R v → S (with_terms f v))
      → Fuzzy i R w b → Fuzzy i S w (with_inputs (update (with_terms f) i) b)
  changed {R} {S} {w} {b} f m s =
      let v = s.variables in
      record {
        variables =
            renamed (map_update (λ v. v.name) (with_terms f) (λ v. refl) i b.inputs) refl
            (except_update InputFine R S (with_terms f) m i b.inputs v.inputs) v.outputs v;
        words = s.words;
        rules = s.rules;
      }

  -- room for one more
  abbrev Roomy : Input → Type 0
  Roomy v = InputFine v × (ltb (length v.terms) term_limit ≡ true)

  good_term_name : Leads (Fuzzy i Roomy) (Fuzzy i Growing) (term_name i)
  unfolding term_name add_term term_of
  good_term_name r k =
      good_judged _ r refl (λ c.
      good_advance _ (good_change _ r (λ g.
      changed _ (λ v h. term_begun v (text r) (name_here g c.0 c.1.0) h.0.0 h.0.1 h.1)
      (known (λ ts. none_of (named (λ (t : Term). t.name) (text r)) ts ≡ true)
      (absent (named (λ (t : Term). t.name) (text r)) (terms_of i r.block) (not-true _ c.1.1.0)) g.fact)) k))

  abbrev Fewer : Input → Type 0
  Fewer v = Growing v × (ltb (length (last_points v.terms)) point_limit ≡ true)

  abbrev Placed : ℤ → Input → Type 0
  Placed x v = Fewer v × ((may_follow (map (λ p. p.at) (last_points v.terms)) x ≡ true) × (in_crisp x ≡ true))

  good_position : (r : Parse) → Good (Fuzzy i Fewer) r → Good (Fuzzy i (Placed (value_here r))) (point_position i r)
  unfolding point_position points_of
  good_position r k =
      good_judged _ r refl (λ c.
      good_advance r (good_so (λ g.
      known (λ ts. (may_follow (map (λ p. p.at) (last_points ts)) (value_here r) ≡ true) × (in_crisp (value_here r) ≡ true))
      (c.1.1.0, crisp_value (text r) c.1.0) g.fact) k))

  good_degree : (x : ℤ) → Leads (Fuzzy i (Placed x)) (Fuzzy i Growing) (point_degree i x)
  unfolding point_degree add_point point_ok
  good_degree x r k =
      good_judged _ r refl (λ c.
      good_advance _ (good_change _ r (λ g.
      changed _ (λ v h.
      point_more v h.0.0 (record { at = x; degree = unit_of (text r) }) h.0.1 h.1.0 (and_i _ _ h.1.1 (unit_value (text r) c.1.0)))
      g.fact) k))

  good_body : Leads (Fuzzy i Fewer) (Fuzzy i Growing) (point_body i)
  unfolding point_body
  good_body r k = good_position r k ▹ good_expect COMMA ▹ good_degree (value_here r) ▹ good_expect CLOSE

  good_point : Leads (Fuzzy i Growing) (Fuzzy i Growing) (point i)
  unfolding point points_of
  good_point r k =
      good_judged _ r refl (λ c.
      good_body (advance r) (good_advance r (good_so (λ g. known (λ ts. ltb (length (last_points ts)) point_limit ≡ true) c.1.0 g.fact) k)))

  abbrev Enough : Input → Type 0
  Enough v = Growing v × (leb point_least (length (last_points v.terms)) ≡ true)

  good_end : Leads (Fuzzy i Growing) (Outputs 1) (end_of_points i)
  unfolding end_of_points points_of
  good_end r k =
      good_judged _ r refl (λ c.
      good_advance r (good_so (λ g.
      declared_so (λ x.
      unfocus InputFine i r.block.inputs (except_so InputFine Enough InputFine (λ v h. term_done v h.0 h.1) i r.block.inputs x)) (λ x. x)
      (known (λ ts. leb point_least (length (last_points ts)) ≡ true) c.1.0 g.fact)) k))

  good_input_term : Leads (Outputs 1) (Outputs 1) (input_term i)
  unfolding input_term
  good_input_term r k =
      good_judged _ r refl (λ c.
      good_advance r (good_so (λ g.
      known (λ ts. ltb (length ts) term_limit ≡ true) c.1.0 (declared_so (focus InputFine i r.block.inputs) (λ x. x) g.fact)) k)
      ▹ good_term_name ▹ good_expect ASSIGN ▹ good_listed good_point good_point ▹ good_end)

  good_fuzzify_of : Leads (Outputs 1) (Outputs 1) (fuzzify_of i)
  unfolding fuzzify_of
  good_fuzzify_of r k =
      good_judged _ r refl (λ c. good_advance r k ▹ good_input_term ▹ good_repeated TERM good_input_term ▹ good_expect END_FUZZIFY)

pub good_fuzzify : Leads (Outputs 1) (Outputs 1) fuzzify
unfolding fuzzify fuzzify_variable
good_fuzzify r k = k ▹ good_expect FUZZIFY ▹ good_fuzzify_of _
