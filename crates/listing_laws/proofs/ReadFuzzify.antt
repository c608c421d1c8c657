-- The items of FUZZIFY read back to an input.
use mathlib.Core.Path.{◌≡◌, refl, sym, ap, ◌∙◌}
use mathlib.Core.Bool.{true, false, not}
use mathlib.Core.List.{List, [], ◌∷◌, ◌++◌, map, append_assoc, map-append}
use Prim.Native.Nat.{ℕ}
use native.Mathlib.Omega.{arith}
use borrow.Author.Tests.{lt-ltb, le-leb}
use lib.Dec.{leb, ltb, eqb}
use lib.IntN.{ℤ}
use lib.ListN.{length, length-append}
use Rattle.model.specs.Basic.{is_empty, gather, index_of, update_last}
use Rattle.model.specs.Bounds.{term_limit, point_least, point_limit}
use Rattle.model.specs.Keywords.{CLOSE, COMMA, ASSIGN, FUZZIFY, END_FUZZIFY, TERM}
use Rattle.model.specs.Tokens.{in_crisp, value_of}
use Rattle.model.specs.Block.{Point, Term, Input, Output, Block, terms_of, may_follow, with_terms, with_point}
use Rattle.model.specs.Parse.{Parse, Part, kind, text, advance, change, expect, repeated, listed}
use Rattle.model.specs.Declarations.{input_of, is_input, term_of, is_term, add_term, add_point, last_points, points_of, point_position, point_degree, point_body, point, end_of_points, term_name, input_term, fuzzify_of, fuzzify_variable, fuzzify}
use Rattle.model.specs.Listing.{crisp_text, unit_text}
use Rattle.model.specs.WellFormed.{unit_ok, point_ok, in_order, term_ok}
use Rattle.laws.proofs.Lists.{update_last_snoc}
use Rattle.laws.proofs.Positions.{order_at}
use Rattle.laws.proofs.Tests.{both}
use Rattle.laws.proofs.Lists.{last_points_lem}
use Rattle.laws.proofs.Finding.{get_d_cut, update_at, all_split, distinct_split, named, none_of, index_at, found, not_found, name_self, filled}
use Rattle.listing_laws.proofs.Items.{Item, name, number, word, comma, closing, semicolon, assign, commas, point_items, term_items, fuzzify_items}
use Rattle.listing_laws.proofs.Numbers.{value_crisp, is_crisp_lem, is_unit_lem, unit_back}
use Rattle.listing_laws.proofs.Facts.{InputFacts, TermFacts, term_facts}
use Rattle.listing_laws.proofs.Reading.{at, head_kind, judged_pass, expects, listed_reads, some_read}
use Rattle.listing_laws.proofs.Stages.{staged, focus, bare_input}

body_start : (f : ℕ → ℕ) (i : ℕ) (t : List ℕ) (xs : List Item) (c : Block) (w : ℕ) → point_body i (at f (number t ∷ xs) c w)
    ≡ expect CLOSE (point_degree i (value_of t) (expect COMMA (point_position i (at f (number t ∷ xs) c w))))
unfolding point_body at text
body_start f i t xs c w = refl

variable_start : (f : ℕ → ℕ) (v : List ℕ) (xs : List Item) (c : Block) (w : ℕ)
    → fuzzify_variable (at f (name v ∷ xs) c w) ≡ fuzzify_of (input_of v c) (at f (name v ∷ xs) c w)
unfolding fuzzify_variable at text
variable_start f v xs c w = refl

module _ (f : ℕ → ℕ) (n : List ℕ) (os : List Output) (ds rest : List Input) (v : Input) (h : InputFacts v)
    (apart : none_of (named (λ u. u.name) v.name) ds ≡ true) where
  -- the input with the terms so far, among the others
  abbrev part : List Term → Input
  part ts = record { name = v.name; type = v.type; terms = ts }

  abbrev having : List Term → Block
  having ts = staged n (ds ++ (part ts ∷ rest)) os

  abbrev i : ℕ
  i = length ds

  terms_here : (ts : List Term) → terms_of i (having ts) ≡ ts
  unfolding terms_of
  terms_here ts = get_d_cut (focus ds (part ts) rest) (λ u. u.terms) []

  points_here : (ts : List Term) (t : Term) → points_of i (having (ts ++ (t ∷ []))) ≡ t.points
  unfolding points_of
  points_here ts t = ap last_points (terms_here (ts ++ (t ∷ []))) ∙ last_points_lem ts t

  term_added : (w : List ℕ) (ts : List Term) → add_term i w (having ts) ≡ having (ts ++ (record { name = w; points = [] } ∷ []))
  unfolding add_term
  term_added w ts =
      ap (λ (is : List Input). staged n is os) (update_at (with_terms (λ us. us ++ (record { name = w; points = [] } ∷ []))) ds (part ts) rest)

  point_added : (p : Point) (ts : List Term) (t : Term) → add_point i p (having (ts ++ (t ∷ []))) ≡ having (ts ++ (with_point p t ∷ []))
  unfolding add_point
  point_added p ts t =
      ap (λ (is : List Input). staged n is os) (update_at (with_terms (update_last (with_point p))) ds (part (ts ++ (t ∷ []))) rest)
      ∙ ap having (update_last_snoc (with_point p) ts t)

  -- ONE TERM
  module _ (ts : List Term) (t : Term) (es : List Term) (e : v.terms ≡ ts ++ (t ∷ es)) where
    facts : TermFacts t
    facts = term_facts t (all_split term_ok ts t es e h.terms)

    -- with the points so far
    abbrev drawn : List Point → Block
    drawn ps = having (ts ++ (record { name = t.name; points = ps } ∷ []))

    module _ (ps : List Point) (p : Point) (qs : List Point) (z : t.points ≡ ps ++ (p ∷ qs)) where
      ok : (in_crisp p.at ≡ true) × (unit_ok p.degree ≡ true)
      unfolding point_ok
      ok = both (in_crisp p.at) (unit_ok p.degree) (all_split point_ok ps p qs z facts.points)

      follows : may_follow (map (λ q. q.at) ps) p.at ≡ true
      follows =
          order_at [] (map (λ q. q.at) ps) p.at (map (λ q. q.at) qs)
          (sym (ap (in_order []) (ap (map (λ q. q.at)) z ∙ map-append (λ q. q.at) ps (p ∷ qs))) ∙ facts.ordered)

      position_read : (xs : List Item) (w : ℕ) → point_position i (at f (number (crisp_text p.at) ∷ xs) (drawn ps) w) ≡ at f xs (drawn ps) w
      unfolding point_position at kind text advance
      position_read xs w =
          judged_pass _ _ _ (
            refl,
            (
              is_crisp_lem p.at ok.0,
              ((λ j. may_follow (map (λ q. q.at) (points_here ts (record { name = t.name; points = ps }) j)) (value_crisp p.at j)) ∙ follows, tt),
            ),
          )

      degree_read : (xs : List Item) (w : ℕ)
          → point_degree i p.at (at f (number (unit_text p.degree) ∷ xs) (drawn ps) w) ≡ at f xs (drawn (ps ++ (p ∷ []))) w
      unfolding point_degree at kind text advance change
      degree_read xs w =
          judged_pass _ _ _ (refl, (is_unit_lem p.degree ok.1, tt))
          ∙ ap (λ (m : ℕ). at f xs (add_point i (record { at = p.at; degree = m }) (drawn ps)) w) (unit_back p.degree ok.1)
          ∙ ap (λ (c : Block). at f xs c w) (point_added p ts (record { name = t.name; points = ps }))

      fewer : ltb (length (points_of i (drawn ps))) point_limit ≡ true
      fewer =
          ap (λ (l : List Point). ltb (length l) point_limit) (points_here ts (record { name = t.name; points = ps }))
          ∙ lt-ltb (length ps) point_limit (omega (arith, ap length z, length-append ps (p ∷ qs), facts.count.1))

      point_read : (xs : List Item) (w : ℕ) → point i (at f (point_items p ++ xs) (drawn ps) w) ≡ at f xs (drawn (ps ++ (p ∷ []))) w
      unfolding point at kind advance
      point_read xs w =
          let x₁ = number (unit_text p.degree) ∷ closing ∷ xs in
          let s = crisp_text p.at in
          judged_pass _ _ _ (refl, (fewer, tt))
          ∙ body_start f i s (comma ∷ x₁) (drawn ps) w
          ∙ ap (λ (r : Parse). expect CLOSE (point_degree i (value_of s) (expect COMMA r))) (position_read (comma ∷ x₁) w)
          ∙ ap (λ (r : Parse). expect CLOSE (point_degree i (value_of s) r)) (expects COMMA f _ x₁ (drawn ps) w)
          ∙ ap (λ (x : ℤ). expect CLOSE (point_degree i x (at f x₁ (drawn ps) w))) (value_crisp p.at)
          ∙ ap (expect CLOSE) (degree_read (closing ∷ xs) w)
          ∙ expects CLOSE f _ xs (drawn (ps ++ (p ∷ []))) w

    end_read : (xs : List Item) (w : ℕ) → end_of_points i (at f (semicolon ∷ xs) (drawn t.points) w) ≡ at f xs (having (ts ++ (t ∷ []))) w
    unfolding end_of_points at kind advance
    end_read xs w =
        judged_pass _ _ _
        (refl, (ap (λ (l : List Point). leb point_least (length l)) (points_here ts t) ∙ le-leb point_least (length t.points) facts.count.0, tt))

    new : not (is_term i t.name (having ts)) ≡ true
    unfolding term_of
    new =
        ap (λ (l : List Term). not (ltb (index_of (named (λ u. u.name) t.name) l) (length l))) (terms_here ts)
        ∙ ap not (not_found (named (λ u. u.name) t.name) ts (distinct_split (λ u. u.name) ts t es e h.apart))

    name_read : (xs : List Item) (w : ℕ) → term_name i (at f (name t.name ∷ xs) (having ts) w) ≡ at f xs (drawn []) w
    unfolding term_name at kind text advance change
    name_read xs w =
        judged_pass _ _ _ (refl, (facts.name, (new, tt))) ∙ ap (λ (c : Block). at f xs c w) (term_added t.name ts)

    term_read : (xs : List Item) (w : ℕ) → input_term i (at f (term_items t ++ xs) (having ts) w) ≡ at f xs (having (ts ++ (t ∷ []))) w
    unfolding input_term term_items at kind advance
    term_read xs w =
        let k = commas (map point_items t.points) in
        let x₁ = k ++ (semicolon ∷ xs) in
        let first = filled t.points (omega (arith, facts.count.0)) in
        let parts : Part = λ r. end_of_points i (listed (point i) r) in
        judged_pass _ _ _ (
          refl,
          (
            ap (λ (l : List Term). ltb (length l) term_limit) (terms_here ts)
                ∙ lt-ltb (length ts) term_limit (omega (arith, ap length e, length-append ts (t ∷ es), h.count.1)),
            tt,
          ),
        )
        ∙ ap (λ (l : List Item). parts (expect ASSIGN (term_name i (at f (name t.name ∷ assign ∷ l) (having ts) w)))) (append_assoc k (semicolon ∷ []) xs)
        ∙ ap (λ (r : Parse). parts (expect ASSIGN r)) (name_read (assign ∷ x₁) w)
        ∙ ap parts (expects ASSIGN f _ x₁ (drawn []) w)
        ∙ ap (end_of_points i)
        (listed_reads (point i) point_items drawn (λ ps. w) f t.points (λ ps p qs ys z. point_read ps p qs z ys w) (semicolon ∷ xs) refl
        first.0 first.1 first.2)
        ∙ end_read xs w

  -- THE INPUT
  input_here : input_of v.name (having []) ≡ i
  unfolding input_of
  input_here = index_at (named (λ u. u.name) v.name) ds (bare_input v) rest apart (name_self v.name)

  declared : is_input v.name (having []) ≡ true
  unfolding input_of
  declared = found (named (λ u. u.name) v.name) ds (bare_input v) rest apart (name_self v.name)

  terms_read : (xs : List Item) (w : ℕ) → eqb (head_kind xs) TERM ≡ false
      → repeated TERM (input_term i) (input_term i (at f (gather term_items v.terms ++ xs) (having []) w)) ≡ at f xs (having v.terms) w
  unfolding term_items
  terms_read xs w stops =
      let first = filled v.terms h.count.0 in
      some_read TERM (input_term i) term_items having (λ ts. w) f v.terms (λ t. (_, _, refl))
      (λ ts t es ys e. term_read ts t es e ys w) xs stops first.0 first.1 first.2

  body : (xs : List Item) (w : ℕ)
      → fuzzify_of i (at f (name v.name ∷ (gather term_items v.terms ++ (word "END_FUZZIFY" ∷ xs))) (having []) w)
      ≡ at f xs (staged n (ds ++ (v ∷ rest)) os) w
  unfolding fuzzify_of at kind text advance
  body xs w =
      judged_pass _ _ _ (refl, (h.name, (ap is_empty (terms_here []), (declared, tt))))
      ∙ ap (expect END_FUZZIFY) (terms_read (word "END_FUZZIFY" ∷ xs) w refl)
      ∙ expects END_FUZZIFY f _ xs (having v.terms) w

  pub fuzzify_read : (xs : List Item) (w : ℕ)
      → fuzzify (at f (fuzzify_items v ++ xs) (staged n (ds ++ (bare_input v ∷ rest)) os) w) ≡ at f xs (staged n (ds ++ (v ∷ rest)) os) w
  unfolding fuzzify fuzzify_items
  fuzzify_read xs w =
      let g = gather term_items v.terms in
      let more = g ++ (word "END_FUZZIFY" ∷ xs) in
      ap (λ (l : List Item). fuzzify (at f (word "FUZZIFY" ∷ name v.name ∷ l) (having []) w)) (append_assoc g (word "END_FUZZIFY" ∷ []) xs)
      ∙ ap fuzzify_variable (expects FUZZIFY f _ (name v.name ∷ more) (having []) w)
      ∙ variable_start f v.name more (having []) w
      ∙ ap (λ (o : ℕ). fuzzify_of o (at f (name v.name ∷ more) (having []) w)) input_here
      ∙ body xs w
