-- What each part of FUZZIFY comes to, by the tests that the code makes.
use Rattle.std.specs.Prelude.{Option, None, Some, is_some, if◌then◌else◌}
use mathlib.Core.Path.{◌≡◌, refl, sym, ap, ◌∙◌}
use mathlib.Core.Bool.{Bool, true, false, not, true≢false}
use mathlib.Core.List.{List, [], ◌∷◌, ◌++◌, map, map-append}
use Prim.Native.Nat.{ℕ, zero, suc, ◌+◌, ◌*◌, ◌≤◌, ◌<◌}
use native.Mathlib.Omega.{arith}
use borrow.Author.Tests.{eq-eqb, ne_eqb, lt-ltb, le-ltb, lt-leb, le-leb}
use lib.Dec.{ltb}
use lib.IntN.{ℤ}
use lib.ListN.{length, get_or, set, length-set, length-map}
use lib.Seq.{slice, get_or-set_same, get_or-set_other}
use Rattle.model.specs.Basic.{is_empty, index_of, update, update_last, tab}
use Rattle.model.specs.Block as block
use Rattle.model.specs.Block.{Block, terms_of, may_follow, with_inputs, with_terms, with_point}
use Rattle.model.specs.Bounds.{term_limit, point_least, point_limit, variable_limit}
use Rattle.model.specs.Keywords.{ASSIGN, CLOSE, COMMA, END_FUZZIFY, TERM, NUMBER, OPEN, SEMICOLON}
use Rattle.model.specs.Tokens.{value_of, unit_of, same_name}
use Rattle.model.specs.Parse.{Parse, Part, kind, text, refuse, advance, change, judged, expect, repeat_on, repeated, listed, a_name, a_crisp, a_unit, value_here}
use Rattle.model.specs.Declarations.{input_of, is_input, is_term, add_term, add_point, last_points, points_of, point_position, point_degree, point_body, point, end_of_points, term_name, input_term, fuzzify_of, fuzzify_variable}
use Rattle.laws.proofs.Again.{Again, again_more, again_end, repeats}
use Rattle.laws.proofs.Lists.{update_last_snoc, last_points_lem}
use Rattle.laws.proofs.Places.{length_tab}
use Rattle.laws.proofs.Repetition.{turn, no_turn}
use Rattle.lookup.specs.Names.{name_of}
use Rattle.cursor.specs.declared.Cursor.{Cursor}
use Rattle.cursor.specs.View.{seen, text_of, Fits, left, Step, fault}
use Rattle.cursor.proofs.Laws as cursor
use Rattle.cursor.proofs.Laws.{kind_seen, text_seen, block_seen, judged_bad, judged_good, numbered}
use Rattle.model.specs.declared.Point.{Point}
use Rattle.block_tables.specs.declared.Tables.{Tables}
use Rattle.block_tables.specs.View.{no_point, point_at, input_row, term_view, block_view, Holds}
use Rattle.block_tables.specs.Changes.{Changes}
use Rattle.block_tables.proofs.Tabs.{tab_more}
use Rattle.block_tables.proofs.Lookups as lookups
use Rattle.parse_state.specs.declared.ParseState.{ParseState}
use Rattle.parse_state.specs.Reads.{view, Reads}
use Rattle.parse_state.proofs.Laws as reading
use Rattle.parse_state.proofs.Laws.{at, text_view, block_view_lem}
use Rattle.term_rules.specs.declared.LastTwo.{LastTwo}
use Rattle.term_rules.specs.Positions.{may_stand, last_with, Ends}
use Rattle.term_rules.proofs.Laws.{ends_none, ends_more}
use Rattle.fuzzify_text.specs.declared.PointRead.{PointRead}
use Rattle.fuzzify_text.specs.declared.Shape.{Shape}
use Rattle.fuzzify_text.specs.declared.TermName.{TermName}
use Rattle.fuzzify_text.specs.Terms.{with_term, position_after, end_after, Place, block_with, view_with, point_of, points_with, and_point, positions, ReadsPoint, points_read, no_points, view_at, Room, ReadsShape, term_from, Terms, Names}

-- A POSITION, THE END OF THE POINTS
module _ (s : List ℕ) (c d : Cursor) where
  restep : {f g : Part} → Step f s c d → ((b : Block) (m : ℕ) → f (seen s c b m) ≡ g (seen s c b m)) → Step g s c d
  restep q e = record { reads = λ b m. q.reads b m ∙ e b m; fewer = q.fewer; fits = q.fits; sticky = q.sticky }

  module _ (n : ℕ) (last : LastTwo) where
    pub position_none : (w : ℕ) → ((b : Block) (m : ℕ) → w ≡ fault (a_crisp (seen s c b m) [])) → (w ≡ 0 → ⊥) → Step (refuse w) s c d
        → Step (position_after n last) s c d
    unfolding position_after
    position_none w e h q = restep q (λ b m. sym (judged_bad (seen s c b m) _ w (a_crisp (seen s c b m) []) _ (sym (e b m)) h))

    module _ (e : (b : Block) (m : ℕ) → 0 ≡ fault (a_crisp (seen s c b m) [])) where
      position_then : (b : Block) (m : ℕ) → position_after n last (seen s c b m)
          ≡ (if may_stand n last (value_of (text_of s c)) then advance (seen s c b m) else refuse 7 (seen s c b m))
      unfolding position_after judged numbered
      position_then b m =
          judged_good (seen s c b m) (advance (seen s c b m)) (a_crisp (seen s c b m) []) ((may_stand n last (value_here (seen s c b m)), 7) ∷ []) refl
          (sym (e b m)) ∙ simp (text_seen s c b m)

      pub position_low : may_stand n last (value_of (text_of s c)) ≡ false → Step (refuse 7) s c d → Step (position_after n last) s c d
      position_low h q = restep q (λ b m. sym (position_then b m ∙ simp h))

      pub position_good : may_stand n last (value_of (text_of s c)) ≡ true → Step advance s c d → Step (position_after n last) s c d
      position_good h q = restep q (λ b m. sym (position_then b m ∙ simp h))

  module _ (n : ℕ) where
    pub end_none : (c.kind ≡ SEMICOLON → ⊥) → Step (refuse 2) s c d → Step (end_after n) s c d
    unfolding end_after judged
    end_none h q = restep q (λ b m. sym (simp (kind_seen, ne_eqb _ _ h)))

    pub end_few : c.kind ≡ SEMICOLON → n < point_least → Step (refuse 7) s c d → Step (end_after n) s c d
    unfolding end_after judged
    end_few h l q = restep q (λ b m. sym (simp (kind_seen, eq-eqb _ _ h, lt-leb _ _ l)))

    pub end_good : c.kind ≡ SEMICOLON → point_least ≤ n → Step advance s c d → Step (end_after n) s c d
    unfolding end_after judged
    end_good h l q = restep q (λ b m. sym (simp (kind_seen, eq-eqb _ _ h, le-leb _ _ l)))

-- ONE TERM MORE IN A BLOCK
update_twice : {A : Type 0} (f g : A → A) (i : ℕ) (xs : List A) → update f i (update g i xs) ≡ update (λ v. f (g v)) i xs
unfolding update
update_twice f g i [] = refl
update_twice f g zero (x ∷ xs) = refl
update_twice {A} f g (suc i) (x ∷ xs) = ap (λ (l : List A). x ∷ l) (update_twice f g i xs)

terms_changed : (h : List block.Term → List block.Term) (i : ℕ) (vs : List block.Input) → i < length vs
    → get_or (map (λ v. v.terms) (update (with_terms h) i vs)) i [] ≡ h (get_or (map (λ v. v.terms) vs) i [])
unfolding update
terms_changed h i [] q = absurd (omega arith)
terms_changed h zero (v ∷ vs) q = refl
terms_changed h (suc i) (v ∷ vs) q = terms_changed h i vs (omega arith)

module _ (i : ℕ) (x : block.Term) (b : Block) where
  last_in : i < length b.inputs → points_of i (with_term i x b) ≡ x.points
  unfolding points_of terms_of with_term
  last_in h = ap last_points (terms_changed (λ ts. ts ++ (x ∷ [])) i b.inputs h) ∙ last_points_lem (terms_of i b) x

  point_in : (q : block.Point) → add_point i q (with_term i x b) ≡ with_term i (with_point q x) b
  unfolding add_point with_term
  point_in q =
      let e = update_twice (with_terms (update_last (with_point q))) (with_terms (λ ts. ts ++ (x ∷ []))) i b.inputs
      ∙ (λ j. update (λ v. record { name = v.name; type = v.type; terms = update_last_snoc (with_point q) v.terms x j }) i b.inputs) in
      ap (λ (vs : List block.Input). with_inputs (λ us. vs) b) e

-- THE POINTS SO FAR
as_many : {n : ℕ} {last : LastTwo} (ps : List block.Point) → Ends (positions ps) n last → length ps ≡ n
as_many ps e = sym (length-map ps (λ q. q.at)) ∙ e.count

points_count : (p : Shape) → length (points_read p) ≡ p.count
unfolding points_read
points_count p = length_tab (point_at p.points) p.count 0

-- one more
module _ (p : Shape) where
  abbrev pub longer : Cursor → Point → Shape
  longer d q = record { cursor = d; count = p.count + 1; points = set p.points p.count q }

  module _ (d : Cursor) (q : Point) (h : p.count < length p.points) where
    pub read_more : points_read (longer d q) ≡ points_read p ++ (point_of q ∷ [])
    unfolding points_read point_at
    read_more =
        let n = p.count in
        tab_more (point_at p.points) (point_at (set p.points n q)) n (point_of q)
        (λ k l. ap point_of (get_or-set_other p.points n k q no_point (λ z. omega arith))) (ap point_of (get_or-set_same p.points n q no_point h))

    pub still_ends : (last : LastTwo) → Ends (positions (points_read p)) p.count last
        → Ends (positions (points_read (longer d q))) (p.count + 1) (last_with last q.at.0)
    still_ends last e =
        let x = q.at.0 in
        let m : positions (points_read (longer d q)) ≡ positions (points_read p) ++ (x ∷ []) =
        ap positions read_more ∙ map-append (λ v. v.at) (points_read p) (point_of q ∷ []) in
        rw m (ends_more (positions (points_read p)) p.count last x e)

module _ (s : List ℕ) (x : Place) (ps : List block.Point) (c : Cursor) where
  kind_with : kind (view_with s x ps c) ≡ c.kind
  unfolding view_with
  kind_with = kind_seen s c (block_with x ps) 0

  text_with : text (view_with s x ps c) ≡ text_of s c
  unfolding view_with
  text_with = text_seen s c (block_with x ps) 0

  points_with_lem : points_of x.input (view_with s x ps c).block ≡ ps
  unfolding view_with
  points_with_lem =
      ap (points_of x.input) (block_seen s c (block_with x ps) 0) ∙ last_in x.input (record { name = x.name; points = ps }) x.block x.known

  step_with : {part : Part} {d : Cursor} → Step part s c d → view_with s x ps d ≡ part (view_with s x ps c)
  unfolding view_with
  step_with q = q.reads (block_with x ps) 0

clash_some : {A B : Type 0} {x : A} → Some x ≡ None → B
clash_some e = absurd (true≢false (ap is_some e))

-- A POINT
module _ (s : List ℕ) (c d : Cursor) (n : ℕ) (last : LastTwo) where
  -- refused
  refused : {part : ℕ → Part} (w : ℕ) → Step (refuse w) s c d → (d.refused ≡ None → ⊥)
      → ((x : Place) (ps : List block.Point) → Ends (positions ps) n last → part x.input (view_with s x ps c) ≡ refuse w (view_with s x ps c))
      → ReadsPoint part n last s c (record { cursor = d; point = None })
  refused w y h e = record {
    reads = λ x ps z. step_with s x ps c y ∙ sym (e x ps z);
    fewer = y.fewer;
    fits = y.fits;
    stops = λ z. h;
  }

  pub degree_bad : (v : ℤ) (w : ℕ) → ((b : Block) (m : ℕ) → w ≡ fault (a_unit (seen s c b m))) → (w ≡ 0 → ⊥) → Step (refuse w) s c d
      → (d.refused ≡ None → ⊥) → ReadsPoint (λ i. point_degree i v) n last s c (record { cursor = d; point = None })
  unfolding point_degree view_with
  degree_bad v w f h y k =
      refused w y k (λ x ps z. judged_bad (view_with s x ps c) _ w (a_unit (view_with s x ps c)) [] (sym (f (block_with x ps) 0)) h)

  pub degree_good : (q : Point) → ((b : Block) (m : ℕ) → 0 ≡ fault (a_unit (seen s c b m))) → q.degree.0 ≡ unit_of (text_of s c)
      → c.refused ≡ None → Step advance s c d → ReadsPoint (λ i. point_degree i q.at.0) n last s c (record { cursor = d; point = Some q })
  unfolding point_degree view_with numbered judged
  degree_good q f e k y = record {
    reads = λ x ps z.
        let b = block_with x ps in
        let add : ℕ → Block → Block = λ v. add_point x.input (record { at = q.at.0; degree = v }) in
        y.reads (block_with x (ps ++ (point_of q ∷ []))) 0
        ∙ ap (λ (a : Block). advance (seen s c a 0)) (sym (point_in x.input (record { name = x.name; points = ps }) x.block (point_of q)))
        ∙ ap advance (sym (cursor.changed s c b 0 (add q.degree.0) k))
        ∙ ap (λ (v : ℕ). advance (change (add v) (seen s c b 0))) (e ∙ ap unit_of (sym (text_seen s c b 0)))
        ∙ sym (judged_good (seen s c b 0) _ (a_unit (seen s c b 0)) [] refl (sym (f b 0)));
    fewer = y.fewer;
    fits = y.fits;
    stops = λ z k. clash_some z;
  }

  pub point_none : (c.kind ≡ OPEN → ⊥) → Step (refuse 2) s c d → (d.refused ≡ None → ⊥)
      → ReadsPoint point n last s c (record { cursor = d; point = None })
  unfolding point judged
  point_none h y k = refused 2 y k (λ x ps z. simp (kind_with, ne_eqb _ _ h))

  module _ (h : c.kind ≡ OPEN) where
    point_then : (x : Place) (ps : List block.Point) → length ps ≡ n → point x.input (view_with s x ps c)
        ≡ (if ltb n point_limit then point_body x.input (advance (view_with s x ps c)) else refuse 6 (view_with s x ps c))
    unfolding point judged
    point_then x ps e = simp (kind_with, eq-eqb _ _ h, points_with_lem, e)

    pub point_full : point_limit ≤ n → Step (refuse 6) s c d → (d.refused ≡ None → ⊥)
        → ReadsPoint point n last s c (record { cursor = d; point = None })
    point_full l y k = refused 6 y k (λ x ps z. point_then x ps (as_many ps z) ∙ simp (le-ltb _ _ l))

    pub point_good : (r : PointRead) → n < point_limit → Step advance s c d → ReadsPoint point_body n last s d r → ReadsPoint point n last s c r
    point_good r l y z = record {
      reads = λ x ps e.
          z.reads x ps e ∙ ap (point_body x.input) (step_with s x ps c y) ∙ sym (point_then x ps (as_many ps e) ∙ simp (lt-ltb _ _ l));
      fewer = let a = z.fewer in let b = y.fewer in omega arith;
      fits = z.fits;
      stops = z.stops;
    }

  position_is : (x : Place) (ps : List block.Point) → Ends (positions ps) n last → point_position x.input (view_with s x ps c) ≡ position_after n last (view_with s x ps c)
  unfolding point_position position_after
  position_is x ps z =
      ap (λ (b : Bool). judged (a_crisp (view_with s x ps c) ((b, 7) ∷ [])) (view_with s x ps c) (advance (view_with s x ps c)))
      (ap (λ (l : List block.Point). may_follow (map (λ q. q.at) l) (value_here (view_with s x ps c))) (points_with_lem s x ps c) ∙ z.may _)

  lost_from : Fits s d → (d.refused ≡ None → ⊥) → (v : ℤ) (x : Place) (ps : List block.Point)
      → view_with s x ps d ≡ expect CLOSE (point_degree x.input v (expect COMMA (view_with s x ps d)))
  unfolding point_degree view_with
  lost_from f h v x ps =
      let b = block_with x ps in
      let l = cursor.lost_expect s d f h b 0 in
      sym (ap (λ (r : Parse). expect CLOSE (point_degree x.input v r)) (l COMMA (λ q. omega arith))
      ∙ ap (expect CLOSE) (cursor.lost_judged s d f h b 0 NUMBER _ _ (λ q. omega arith))
      ∙ l CLOSE (λ q. omega arith))

  module _ (y : Step (position_after n last) s c d) where
    -- from behind the position on
    body_then : (v : ℤ) → v ≡ value_of (text_of s c) → (x : Place) (ps : List block.Point) → Ends (positions ps) n last
        → expect CLOSE (point_degree x.input v (expect COMMA (view_with s x ps d))) ≡ point_body x.input (view_with s x ps c)
    unfolding point_body
    body_then v o x ps z =
        ap (λ (a : Parse). expect CLOSE (point_degree x.input v (expect COMMA a))) (step_with s x ps c y ∙ sym (position_is x ps z))
        ∙ ap (λ (a : ℤ). expect CLOSE (point_degree x.input a (expect COMMA (point_position x.input (view_with s x ps c)))))
        (o ∙ sym (ap value_of (text_with s x ps c)))

    pub from_lost : (d.refused ≡ None → ⊥) → ReadsPoint point_body n last s c (record { cursor = d; point = None })
    from_lost h = record {
      reads = λ x ps z. lost_from y.fits h _ x ps ∙ body_then (value_of (text_of s c)) refl x ps z;
      fewer = y.fewer;
      fits = y.fits;
      stops = λ z. h;
    }

    pub from_good : (e : Cursor) (r : PointRead) (f : Cursor) (v : ℤ) → v ≡ value_of (text_of s c) → Step (expect COMMA) s d e
        → ReadsPoint (λ i. point_degree i v) n last s e r → Step (expect CLOSE) s r.cursor f
        → ReadsPoint point_body n last s c (record { cursor = f; point = r.point })
    from_good e r f v o k w l = record {
      reads = λ x ps z.
          step_with s x (points_with ps r) r.cursor l
          ∙ ap (expect CLOSE) (w.reads x ps z ∙ ap (point_degree x.input v) (step_with s x ps d k))
          ∙ body_then v o x ps z;
      fewer = let a = w.fewer in omega (arith, y.fewer, k.fewer, l.fewer);
      fits = l.fits;
      stops = λ z q. w.stops z (l.sticky q);
    }

-- one part after the other, a step of the cursor, the same part by another name
abbrev pub moved : Cursor → Shape → Shape
moved c p = record { cursor = c; count = p.count; points = p.points }

pub step : {part : Part} {s : List ℕ} {c d : Cursor} (p : Shape) → p.count ≤ point_limit → length p.points ≡ point_limit → Step part s c d
    → ReadsShape (λ i. part) s (moved c p) (moved d p)
unfolding points_read
step {part} {s} {c} p f l q = record {
  reads = λ x. step_with s x (points_read p) c q;
  fewer = q.fewer;
  room = record { fits = q.fits; few = f; size = l };
}

pub next : {f g : ℕ → Part} {s : List ℕ} {a b c : Shape} → ReadsShape f s a b → ReadsShape g s b c → ReadsShape (λ i r. g i (f i r)) s a c
next {f} {g} p q = record {
  reads = λ x. q.reads x ∙ ap (g x.input) (p.reads x);
  fewer = let u = p.fewer in let v = q.fewer in omega arith;
  room = q.room;
}

pub also : {f g : ℕ → Part} {s : List ℕ} {a b : Shape} → ReadsShape f s a b
    → ((x : Place) → f x.input (view_at s x a) ≡ g x.input (view_at s x a)) → ReadsShape g s a b
also p e = record { reads = λ x. p.reads x ∙ e x; fewer = p.fewer; room = p.room }

-- POINTS, one after each comma: they are read up to p, and what the next one comes to leads on
abbrev again : ℕ → Part
again i r = point i (expect COMMA r)

module _ (s : List ℕ) where
  abbrev Leads : Shape → Shape → Place → Type 0
  Leads p₀ r x = Again (repeats COMMA (again x.input)) (left s r.cursor) (view_at s x r) (listed (point x.input) (view_at s x p₀))

  abbrev pub Going : Shape → Shape → LastTwo → Type 0
  Going p₀ p last = Room s p × Ends (positions (points_read p)) p.count last × (left s p.cursor ≤ left s p₀.cursor)
      × ((r : Shape) (x : Place) → view_at s x r ≡ point x.input (view_at s x p) → left s r.cursor ≤ left s p.cursor → Leads p₀ r x)

  pub begins : (c : Cursor) (last : LastTwo) → Fits s c → Going (no_points c) (no_points c) last
  unfolding repeated listed view_with points_read tab
  begins c last f = (
    record { fits = f; few = omega arith; size = refl },
    ends_none last,
    omega arith,
    λ r x e m. (
      suc (length (view_at s x r).rest),
      cursor.enough s r.cursor (block_with x (points_read r)) 0,
      ap (repeated COMMA (again x.input)) e,
    ),
  )

  module _ (p₀ p : Shape) (last : LastTwo) (g : Going p₀ p last) (a : PointRead) (y : ReadsPoint point p.count last s p.cursor a) where
    read_with : (x : Place) → view_with s x (points_with (points_read p) a) a.cursor ≡ point x.input (view_at s x p)
    read_with x = y.reads x (points_read p) g.1

    ends_with : (r : Shape) → Room s r → left s r.cursor ≤ left s p.cursor
        → ((x : Place) → view_at s x r ≡ point x.input (view_at s x p)) → (r.cursor.kind ≡ COMMA → ⊥)
        → ReadsShape (λ i. listed (point i)) s p₀ r
    ends_with r o l e h = record {
      reads = λ x.
          again_end (repeats COMMA (again x.input))
          (λ f. no_turn COMMA (again x.input) f (view_at s x r) (ne_eqb _ _ (λ z. h (sym (kind_with s x (points_read r) r.cursor) ∙ z))))
          (g.3 r x (e x) l);
      fewer = omega (arith, g.2);
      room = o;
    }

    pub stops : a.point ≡ None → ReadsShape (λ i. listed (point i)) s p₀ (moved a.cursor p)
    unfolding points_read
    stops h =
        ends_with (moved a.cursor p) (record { fits = y.fits; few = g.0.few; size = g.0.size }) y.fewer
        (λ x. ap (λ (t : Option Point). view_with s x (and_point (points_read p) t) a.cursor) (sym h) ∙ read_with x)
        (λ z. omega (arith, cursor.lost_kind s a.cursor y.fits (y.stops h)))

    module _ (pt : Point) (h : a.point ≡ Some pt) (l : p.count < point_limit) where
      more_read : (x : Place) → view_at s x (longer p a.cursor pt) ≡ point x.input (view_at s x p)
      more_read x =
          ap (λ (ps : List block.Point). view_with s x ps a.cursor) (read_more p a.cursor pt (omega (arith, g.0.size)))
          ∙ ap (λ (t : Option Point). view_with s x (and_point (points_read p) t) a.cursor) (sym h) ∙ read_with x

      more_room : Room s (longer p a.cursor pt)
      more_room = record { fits = y.fits; few = omega arith; size = simp length-set g.0.size }

      pub leaves : (a.cursor.kind ≡ COMMA → ⊥) → ReadsShape (λ i. listed (point i)) s p₀ (longer p a.cursor pt)
      leaves k = ends_with (longer p a.cursor pt) more_room y.fewer more_read k

      pub goes : (d : Cursor) → a.cursor.kind ≡ COMMA → Step advance s a.cursor d → left s d < left s a.cursor
          → Going p₀ (longer p d pt) (last_with last pt.at.0)
      unfolding expect points_read
      goes d k q m = (
        record { fits = q.fits; few = omega arith; size = simp length-set g.0.size },
        still_ends p d pt (omega (arith, g.0.size)) last g.1,
        omega (arith, y.fewer, g.2),
        λ r x e n.
            let u = longer p a.cursor pt in
            let v = view_at s x u in
            again_more (repeats COMMA (again x.input))
            (λ f. turn COMMA (again x.input) f v (eq-eqb _ _ (kind_with s x (points_read u) a.cursor ∙ k))
            ∙ ap (λ (w : Parse). repeat_on f COMMA (again x.input) (point x.input w))
            (simp (kind_with, eq-eqb _ _ k) (sym (step_with s x (points_read u) a.cursor q)))
            ∙ ap (repeat_on f COMMA (again x.input)) (sym e))
            (omega arith) (g.3 u x (more_read x) y.fewer),
      )

-- A TERM
pub points_end : (s : List ℕ) (p : Shape) (x : Place) → end_after p.count (view_at s x p) ≡ end_of_points x.input (view_at s x p)
unfolding end_after end_of_points
points_end s p x = simp (points_with_lem, points_count)

-- refused at its name
pub term_lost : (s : List ℕ) (i : ℕ) (b : Block) (c d e : Cursor) → input_term i (seen s c b 0) ≡ term_from i (term_name i (seen s d b 0))
    → seen s e b 0 ≡ term_name i (seen s d b 0) → Fits s e → (e.refused ≡ None → ⊥) → seen s e b 0 ≡ input_term i (seen s c b 0)
unfolding end_of_points listed point
term_lost s i b c d e p q f w =
    sym (p ∙ ap (term_from i) (sym q)
    ∙ ap (λ (r : Parse). end_of_points i (listed (point i) r)) (cursor.lost_expect s e f w b 0 ASSIGN (λ x. omega arith))
    ∙ ap (λ (r : Parse). end_of_points i (repeated COMMA (λ y. point i (expect COMMA y)) r))
    (cursor.lost_judged s e f w b 0 40 _ _ (λ x. omega arith))
    ∙ ap (end_of_points i) (cursor.lost_repeated s e f w b 0 COMMA _ (λ x. omega arith))
    ∙ cursor.lost_judged s e f w b 0 59 _ _ (λ x. omega arith))

module _ (s names : List ℕ) (i n : ℕ) (b : Block) (t : Terms s names i n b) (c d : Cursor) where
  pub term_full : c.kind ≡ TERM → term_limit ≤ n → Step (refuse 6) s c d → seen s d b 0 ≡ input_term i (seen s c b 0)
  unfolding input_term judged
  term_full h k q = q.reads b 0 ∙ sym (simp (kind_seen, eq-eqb _ _ h, block_seen, t.count, le-ltb _ _ k))

  pub term_then : c.kind ≡ TERM → n < term_limit → Step advance s c d → input_term i (seen s c b 0) ≡ term_from i (term_name i (seen s d b 0))
  unfolding input_term judged
  term_then h k q =
      simp (kind_seen, eq-eqb _ _ h, block_seen, t.count, lt-ltb _ _ k) (ap (λ (r : Parse). term_from i (term_name i r)) (sym (q.reads b 0)))

  pub name_bad : (w : ℕ) → w ≡ fault (a_name (seen s c b 0) []) → (w ≡ 0 → ⊥) → Step (refuse w) s c d → seen s d b 0 ≡ term_name i (seen s c b 0)
  unfolding term_name
  name_bad w f h q = q.reads b 0 ∙ sym (judged_bad (seen s c b 0) _ w (a_name (seen s c b 0) []) _ (sym f) h)

  module _ (f : 0 ≡ fault (a_name (seen s c b 0) [])) (j : ℕ)
      (e : j ≡ index_of (same_name (text_of s c)) (tab (name_of s names) n (variable_limit + i * term_limit))) where
    found : is_term i (text (seen s c b 0)) (seen s c b 0).block ≡ ltb j n
    found = simp (text_seen, block_seen, t.count, t.found) (ap (λ (k : ℕ). ltb k n) (sym e))

    name_then : term_name i (seen s c b 0)
        ≡ (if not (ltb j n) then advance (change (add_term i (text_of s c)) (seen s c b 0)) else refuse 4 (seen s c b 0))
    unfolding term_name judged numbered
    name_then =
        let r = seen s c b 0 in
        judged_good r (advance (change (add_term i (text r)) r)) (a_name r []) ((not (is_term i (text r) r.block), 4) ∷ []) refl (sym f)
        ∙ ap (λ (x : Bool). if not x then advance (change (add_term i (text r)) r) else refuse 4 r) found
        ∙ ap (λ (w : List ℕ). if not (ltb j n) then advance (change (add_term i w) r) else refuse 4 r) (text_seen s c b 0)

    pub name_taken : j < n → Step (refuse 4) s c d → seen s d b 0 ≡ term_name i (seen s c b 0)
    name_taken h q = q.reads b 0 ∙ sym (name_then ∙ simp (lt-ltb _ _ h))

    pub name_good : n ≤ j → c.refused ≡ None → Step advance s c d
        → seen s d (with_term i (record { name = text_of s c; points = [] }) b) 0 ≡ term_name i (seen s c b 0)
    unfolding add_term with_term
    name_good h k q =
        q.reads _ 0 ∙ ap advance (sym (cursor.changed s c b 0 (add_term i (text_of s c)) k)) ∙ sym (name_then ∙ simp (le-ltb _ _ h))

-- TERMS, into the tables
module _ (s : List ℕ) (t : Tables) (i : ℕ) where
  pub terms_known : Holds s t → i < t.input_count → Terms s t.names i (input_row t i).terms (block_view s t)
  unfolding block_view
  terms_known g h = record {
    input = let z = lookups.inputs_count s t (block_view s t) refl in omega arith;
    count = lookups.terms_count s t (block_view s t) refl i h;
    found = λ w. lookups.term_of_lem s t (block_view s t) refl g w i h;
  }

  module _ (c : Cursor) (a : TermName) (k : Names s i (block_view s t) c a) where
    pub turn_lost : Holds s t → Fits s a.cursor → left s a.cursor < left s c → (a.cursor.refused ≡ None → ⊥)
        → Reads (input_term i) s (at c t) (at a.cursor t)
    unfolding view
    turn_lost h f m w = record { reads = k.lost w; fewer = omega arith; good = record { fits = f; holds = h } }

    pub turn_good : (q : Shape) (u : Tables) → Holds s t → i < t.input_count → a.cursor.refused ≡ None → left s a.cursor < left s c
        → ReadsShape term_from s (no_points a.cursor) q
        → Changes s t u (with_term i (record { name = slice a.start a.end s; points = tab (point_at q.points) q.count 0 }))
        → Reads (input_term i) s (at c t) (at q.cursor u)
    unfolding view view_with points_read tab
    turn_good q u g h w m y z =
        let x : Place = record { input = i; name = slice a.start a.end s; block = block_view s t; known = (terms_known g h).input } in
        record {
          reads = ap (λ (b : Block). seen s q.cursor b 0) z.view ∙ y.reads x ∙ sym (k.named w);
          fewer = let f = y.fewer in omega arith;
          good = record { fits = y.room.fits; holds = z.holds };
        }

pub terms_none : (s : List ℕ) (c : Cursor) (t : Tables) (d : Cursor) (i : ℕ) → Holds s t → (c.kind ≡ TERM → ⊥) → (d.refused ≡ None → ⊥)
    → Step (refuse 2) s c d → Reads (λ r. repeated TERM (input_term i) (input_term i r)) s (at c t) (at d t)
unfolding input_term judged view
terms_none s c t d i g h w q =
    reading.turns_none TERM (input_term i) s (at c t) d t (λ z. omega arith) w (reading.also (reading.step t g q) (sym (simp (kind_seen, ne_eqb _ _ h))))

-- A PART
module _ (s : List ℕ) (c : Cursor) (t : Tables) (d : Cursor) where
  pub part_bad : (w : ℕ) → w ≡ fault (a_name (seen s c (block_view s t) 0) []) → Holds s t → (w ≡ 0 → ⊥) → Step (refuse w) s c d
      → Reads fuzzify_variable s (at c t) (at d t)
  unfolding fuzzify_variable fuzzify_of view
  part_bad w f g h q = reading.also (reading.step t g q) (sym (judged_bad (view s (at c t)) _ w (a_name (view s (at c t)) []) _ (sym f) h))

  module _ (f : 0 ≡ fault (a_name (seen s c (block_view s t) 0) [])) (i : ℕ)
      (e : i ≡ index_of (same_name (text_of s c)) (tab (name_of s t.names) t.input_count 0)) (g : Holds s t) where
    input_is : input_of (text (view s (at c t))) (view s (at c t)).block ≡ i
    unfolding block_view
    input_is = simp (text_view, block_view_lem) (lookups.input_of_lem s t (block_view s t) refl g (text_of s c) ∙ sym e)

    abbrev part_from : Part
    part_from r = expect END_FUZZIFY (repeated TERM (input_term i) (input_term i r))

    known : is_input (text (view s (at c t))) (view s (at c t)).block ≡ ltb i t.input_count
    unfolding block_view
    known =
        ap (λ (k : ℕ). ltb k (length (view s (at c t)).block.inputs)) input_is
        ∙ ap (λ (b : Block). ltb i (length b.inputs)) (block_view_lem s (at c t))
        ∙ ap (ltb i) (lookups.inputs_count s t (block_view s t) refl)

    part_then : fuzzify_variable (view s (at c t))
        ≡ judged ((is_empty (terms_of i (block_view s t)), 4) ∷ (ltb i t.input_count, 5) ∷ []) (view s (at c t)) (part_from (advance (view s (at c t))))
    unfolding fuzzify_variable fuzzify_of numbered view
    part_then =
        ap (λ (k : ℕ). fuzzify_of k (view s (at c t))) input_is
        ∙ judged_good (view s (at c t)) _ (a_name (view s (at c t)) []) _ refl (sym f)
        ∙ ap (λ (b : Block). judged ((is_empty (terms_of i b), 4) ∷ (is_input (text (view s (at c t))) (view s (at c t)).block, 5) ∷ [])
        (view s (at c t)) (part_from (advance (view s (at c t))))) (block_view_lem s (at c t))
        ∙ ap (λ (x : Bool). judged ((is_empty (terms_of i (block_view s t)), 4) ∷ (x, 5) ∷ []) (view s (at c t)) (part_from (advance (view s (at c t))))) known

    pub part_unknown : t.input_count ≤ i → Step (refuse 5) s c d → Reads fuzzify_variable s (at c t) (at d t)
    unfolding judged block_view
    part_unknown h q = reading.also (reading.step t g q) (sym (part_then ∙ simp (lookups.terms_none s t (block_view s t) refl i h, le-ltb _ _ h)))

    module _ (h : i < t.input_count) where
      terms_are : terms_of i (block_view s t) ≡ tab (term_view s t i) (input_row t i).terms 0
      unfolding block_view
      terms_are = lookups.terms_are s t (block_view s t) refl i h

      some_terms : (n : ℕ) → (n ≡ 0 → ⊥) → is_empty (tab (term_view s t i) n 0) ≡ false
      unfolding tab
      some_terms zero z = absurd (z refl)
      some_terms (suc n) z = refl

      no_terms : (n : ℕ) → n ≡ 0 → is_empty (tab (term_view s t i) n 0) ≡ true
      unfolding tab
      no_terms zero z = refl
      no_terms (suc n) z = absurd (omega arith)

      pub part_again : ((input_row t i).terms ≡ 0 → ⊥) → Step (refuse 4) s c d → Reads fuzzify_variable s (at c t) (at d t)
      unfolding judged
      part_again z q = reading.also (reading.step t g q) (sym (part_then ∙ simp (terms_are, some_terms _ z)))

      pub part_good : (p : ParseState) (k : Cursor) → (input_row t i).terms ≡ 0 → Step advance s c d
          → Reads (λ r. repeated TERM (input_term i) (input_term i r)) s (at d t) p → Step (expect END_FUZZIFY) s p.cursor k
          → Reads fuzzify_variable s (at c t) (at k p.tables)
      unfolding judged
      part_good p k z q y x =
          reading.also (reading.next (reading.next (reading.step t g q) y) (reading.step p.tables y.good.holds x))
          (sym (part_then ∙ simp (terms_are, no_terms _ z, lt-ltb _ _ h)))
