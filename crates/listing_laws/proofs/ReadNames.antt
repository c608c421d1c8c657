-- The names that stand for an input term, and those that stand for a conclusion, lead back to it.
use mathlib.Core.Path.{◌≡◌, refl, sym, ap, ◌∙◌, subst}
use mathlib.Core.Bool.{Bool, true, false}
use mathlib.Core.List.{List, [], ◌∷◌, ◌++◌, map, map-append}
use Prim.Native.Nat.{ℕ, suc, ◌+◌, ◌-◌, ◌<◌, ◌≤◌}
use native.Mathlib.Omega.{arith}
use borrow.Author.Tests.{ltb-true, ltb-false}
use lib.Dec.{leb, ltb}
use lib.IntN.{pos}
use lib.ListN.{length, length-append, length-map, get_or, get_or-map}
use lib.Seq.{get_or-append-add}
use Rattle.model.specs.Basic.{all, total, gather, distinct, index_of}
use Rattle.model.specs.Bounds.{name_limit}
use Rattle.model.specs.Block.{Term, Singleton, Input, Output, Conclusion, Block, input_terms, output_terms, input_first, output_first, terms_of, singletons_of}
use Rattle.model.specs.Declarations.{input_of, output_of, is_input, is_output, term_of, singleton_of, is_term, is_singleton}
use Rattle.model.specs.Image.{singleton_term, terms}
use Rattle.model.specs.Listing.{TermNames, input_term_names, input_term_name}
use Rattle.model.specs.WellFormed.{input_ok, output_ok, term_ok, singleton_ok, figure_ok}
use Rattle.model.specs.Tokens.{is_name, same_name}
use Rattle.laws.proofs.Tests.{both}
use Rattle.laws.proofs.Lists.{length_gather}
use Rattle.laws.proofs.Finding.{Cut, cut, map_cut, all_cut, get_d_cut, take_cut, gather_cut, found_at, is_found, named}
use Rattle.listing_laws.proofs.Facts.{name_fits, InputFacts, input_facts, term_facts, OutputFacts, output_facts, ConclusionFacts}
use Rattle.listing_laws.proofs.ReadConditions.{Named}

-- INPUT TERMS
-- term t of all is a term of one input
record TermPlace (vs : List Input) (t : ℕ) : Type 0 where
  input : ℕ
  at_input : Cut vs input
  term : ℕ
  at_term : Cut at_input.mid.terms term
  counted : t ≡ total (λ v. length v.terms) at_input.before + term

locate : (vs : List Input) (t : ℕ) → t < length (gather (λ v. v.terms) vs) → TermPlace vs t
unfolding gather total
locate [] t h = absurd (omega arith)
locate (v ∷ vs) t h = go (λ u l. locate vs u l) (ltb t (length v.terms)) refl
  where
    more : TermPlace vs (t - length v.terms) → length v.terms ≤ t → TermPlace (v ∷ vs) t
    more p l =
        let c = p.at_input in
        record {
          input = suc p.input;
          at_input = record {
            before = v ∷ c.before;
            mid = c.mid;
            after = c.after;
            split = ap (λ (us : List Input). v ∷ us) c.split;
            counted = ap suc c.counted;
          };
          term = p.term;
          at_term = p.at_term;
          counted = omega (arith, p.counted);
        }

    go : ((u : ℕ) → u < length (gather (λ v. v.terms) vs) → TermPlace vs u) → (s : Bool) → ltb t (length v.terms) ≡ s → TermPlace (v ∷ vs) t
    go ih true e =
        record {
          input = 0;
          at_input = record { before = []; mid = v; after = vs; split = refl; counted = refl };
          term = t;
          at_term = cut v.terms t (ltb-true t (length v.terms) e);
          counted = omega arith;
        }
    go ih false e =
        let l = ltb-false t (length v.terms) e in
        more (ih (t - length v.terms) (omega (arith, length-append v.terms (gather (λ u. u.terms) vs)))) l

abbrev names_of : Input → Term → TermNames
names_of v t = record { variable = v.name; term = t.name }

module _ (b : Block) (oks : all input_ok b.inputs ≡ true) (apart : distinct same_name (map (λ v. v.name) b.inputs) ≡ true) (t : ℕ)
    (p : TermPlace b.inputs t) where
  abbrev v : Input
  v = p.at_input.mid

  abbrev a : Term
  a = p.at_term.mid

  facts : InputFacts v
  facts = input_facts v (all_cut p.at_input input_ok oks)

  called : input_term_name b t ≡ names_of v a
  unfolding input_term_name input_term_names
  called =
      let k : Cut (map (names_of v) v.terms) p.term = map_cut (names_of v) p.at_term in
      let n = length_gather (λ u. map (names_of u) u.terms) (λ u. length u.terms) (λ u. length-map u.terms (names_of u)) p.at_input.before in
      ap (λ (i : ℕ). get_or (input_term_names b) i (record { variable = []; term = [] })) (omega (arith, p.counted))
      ∙ gather_cut (λ u. map (names_of u) u.terms) p.at_input k (record { variable = []; term = [] })

  input_here : input_of v.name b ≡ p.input
  unfolding input_of
  input_here = found_at p.at_input (λ u. u.name) apart

  terms_here : terms_of p.input b ≡ v.terms
  unfolding terms_of
  terms_here = get_d_cut p.at_input (λ u. u.terms) []

  term_here : term_of p.input a.name b ≡ p.term
  unfolding term_of
  term_here = ap (index_of (named (λ u. u.name) a.name)) terms_here ∙ found_at p.at_term (λ u. u.name) facts.apart

  has_here : is_term p.input a.name b ≡ true
  unfolding term_of
  has_here =
      ap (λ (l : List Term). ltb (index_of (named (λ u. u.name) a.name) l) (length l)) terms_here
      ∙ is_found p.at_term (λ u. u.name) facts.apart

  first_here : input_first p.input b ≡ total (λ u. length u.terms) p.at_input.before
  unfolding input_first
  first_here = ap (total (λ u. length u.terms)) (take_cut p.at_input)

  declared_here : is_input v.name b ≡ true
  unfolding input_of
  declared_here = is_found p.at_input (λ u. u.name) apart

  named_here : Named b (names_of v a) t
  named_here =
      record {
        variable_fits = facts.name;
        term_fits = (term_facts a (all_cut p.at_term term_ok facts.terms)).name;
        declared = declared_here;
        has = ap (λ (i : ℕ). is_term i a.name b) input_here ∙ has_here;
        place =
            ap (λ (i : ℕ). input_first i b + term_of i a.name b) input_here
            ∙ (λ j. first_here j + term_here j) ∙ sym p.counted;
      }

pub named_term : (b : Block) → all input_ok b.inputs ≡ true → distinct same_name (map (λ v. v.name) b.inputs) ≡ true
    → (t : ℕ) → t < length (input_terms b) → Named b (input_term_name b t) t
named_term b oks apart t l =
    let p = locate b.inputs t l in
    subst (λ (n : TermNames). Named b n t) (sym (called b oks apart t p)) (named_here b oks apart t p)

-- CONCLUSIONS
pub record Concluded (b : Block) (k : Conclusion) (v w : List ℕ) : Type 0 where
  pub variable_fits : leb (length v) name_limit ≡ true
  pub term_fits : leb (length w) name_limit ≡ true
  pub declared : is_output v b ≡ true
  pub has : is_singleton (output_of v b) w b ≡ true
  pub output : output_of v b ≡ k.output
  pub term : output_first (output_of v b) b + singleton_of (output_of v b) w b ≡ k.term

module _ (b : Block) (oks : all output_ok b.outputs ≡ true) (apart : distinct same_name (map (λ v. v.name) b.outputs) ≡ true) (k : Conclusion)
    (c : Cut b.outputs k.output) (m : ℕ) (s : Cut c.mid.terms m) (z : k.term ≡ output_first k.output b + m) where
  output_facts_here : OutputFacts c.mid
  output_facts_here = output_facts c.mid (all_cut c output_ok oks)

  output_here : output_of c.mid.name b ≡ k.output
  unfolding output_of
  output_here = found_at c (λ u. u.name) apart

  output_declared : is_output c.mid.name b ≡ true
  unfolding output_of
  output_declared = is_found c (λ u. u.name) apart

  singletons_here : singletons_of k.output b ≡ c.mid.terms
  unfolding singletons_of
  singletons_here = get_d_cut c (λ u. u.terms) []

  singleton_here : singleton_of k.output s.mid.name b ≡ m
  unfolding singleton_of
  singleton_here = ap (index_of (named (λ u. u.name) s.mid.name)) singletons_here ∙ found_at s (λ u. u.name) output_facts_here.apart

  singleton_declared : is_singleton k.output s.mid.name b ≡ true
  unfolding singleton_of
  singleton_declared =
      ap (λ (l : List Singleton). ltb (index_of (named (λ u. u.name) s.mid.name) l) (length l)) singletons_here
      ∙ is_found s (λ u. u.name) output_facts_here.apart

  output_called : get_or (map (λ v. v.name) b.outputs) k.output [] ≡ c.mid.name
  output_called = get_d_cut c (λ v. v.name) []

  first_output : output_first k.output b ≡ length (input_terms b) + total (λ v. length v.terms) c.before
  unfolding output_first
  first_output = ap (λ (l : List Output). length (input_terms b) + total (λ v. length v.terms) l) (take_cut c)

  term_called : get_or (map (λ t. t.name) (terms b)) k.term [] ≡ s.mid.name
  term_called =
      let nothing : Singleton = record { name = []; at = pos 0 } in
      let u = length (gather (λ v. v.terms) c.before) + m in
      let n = length_gather (λ v. v.terms) (λ v. length v.terms) (λ v. refl) c.before in
      ap (λ (l : List (List ℕ)). get_or l k.term []) (map-append (λ t. t.name) (input_terms b) (map singleton_term (output_terms b)))
      ∙ ap (λ (i : ℕ). get_or (map (λ t. t.name) (input_terms b) ++ map (λ t. t.name) (map singleton_term (output_terms b))) i [])
      (omega (arith, z, first_output, length-map (input_terms b) (λ t. t.name)))
      ∙ get_or-append-add (map (λ t. t.name) (input_terms b)) (map (λ t. t.name) (map singleton_term (output_terms b))) u []
      ∙ get_or-map (λ (t : Term). t.name) (map singleton_term (output_terms b)) u (singleton_term nothing)
      ∙ ap (λ (t : Term). t.name) (get_or-map singleton_term (output_terms b) u nothing)
      ∙ ap (λ (x : Singleton). x.name) (gather_cut (λ v. v.terms) c s nothing)

  concluded_here : Concluded b k c.mid.name s.mid.name
  unfolding singleton_ok
  concluded_here =
      let ok = all_cut s (singleton_ok c.mid.range) output_facts_here.terms in
      record {
        variable_fits = output_facts_here.name;
        term_fits = name_fits s.mid.name (both (is_name s.mid.name) (figure_ok c.mid.range s.mid.at) ok).0;
        declared = output_declared;
        has = ap (λ (i : ℕ). is_singleton i s.mid.name b) output_here ∙ singleton_declared;
        output = output_here;
        term =
            ap (λ (i : ℕ). output_first i b + singleton_of i s.mid.name b) output_here
            ∙ ap (λ (i : ℕ). output_first k.output b + i) singleton_here ∙ sym z;
      }

pub concluded : (b : Block) → all output_ok b.outputs ≡ true → distinct same_name (map (λ v. v.name) b.outputs) ≡ true
    → (k : Conclusion) → ConclusionFacts b k
    → Concluded b k (get_or (map (λ v. v.name) b.outputs) k.output []) (get_or (map (λ t. t.name) (terms b)) k.term [])
unfolding singletons_of
concluded b oks apart k h =
    let c = cut b.outputs k.output h.output in
    let first = output_first k.output b in
    let n : length (singletons_of k.output b) ≡ length c.mid.terms = ap length (get_d_cut c (λ u. u.terms) []) in
    let s = cut c.mid.terms (k.term - first) (omega (arith, h.least, h.most)) in
    let z : k.term ≡ first + (k.term - first) = omega (arith, h.least) in
    subst (λ (v : List ℕ). Concluded b k v (get_or (map (λ t. t.name) (terms b)) k.term [])) (sym (output_called b oks apart k c _ s z))
    (subst (λ (w : List ℕ). Concluded b k c.mid.name w) (sym (term_called b oks apart k c _ s z)) (concluded_here b oks apart k c _ s z))
