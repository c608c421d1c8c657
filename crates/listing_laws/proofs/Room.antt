-- Room for the parts of a listing: each is bytes, and at most so many.
use mathlib.Core.Path.{◌≡◌, refl}
use mathlib.Core.List.{List, [], ◌∷◌, ◌++◌, map}
use mathlib.Core.Bool.{Bool, true, false, ◌&&◌, and-false}
use mathlib.Core.Option.{Option, none, some}
use Prim.Native.Nat.{ℕ, suc, ◌+◌, ◌*◌, ◌-◌, ◌/◌, ◌≤◌, ◌<◌}
use Prim.Native.String.{String}
use native.Mathlib.Omega.{arith}
use native.Mathlib.Nat.{mul-suc}
use borrow.Author.Tests.{leb-true, ltb-true, ltb-false, eqb-true, eqb-false, lt-leb, lt-ltb, le-ltb, ne_eqb}
use lib.Dec.{leb, ltb, eqb}
use lib.IntN.{ℤ, pos, negsuc}
use lib.ListN.{length, length-append}
use lib.Signed.{lt_z}
use Rattle.model.specs.Basic.{bytes, all, total, gather}
use Rattle.model.specs.Bounds.{crisp_limit}
use Rattle.model.specs.Tokens.{is_digit, is_name_byte, is_name, in_crisp}
use Rattle.model.specs.Block.{Point, Term, Singleton, Input, Range, Output, Op, and, or, Condition, term, neg, two, size, in_range}
use Rattle.model.specs.declared.InputType.{InputType}
use Rattle.model.specs.declared.InputType.TheVariants.{Real as real, Int as int}
use Rattle.model.specs.Parentheses.{form, rank, bare_behind_not, bare_left, bare_right}
use Rattle.model.specs.Listing.{commaed, digits_on, digits, trimmed, after_point, thousandths_text, crisp_text, unit_text, TermNames, operator, wrapped, condition_text, type_text, input_line, output_line, point_text, term_line, fuzzify_text, range_line, singleton_line, default_text, defuzzify_text}
use Rattle.model.specs.WellFormed.{unit_ok, point_ok, term_ok, input_ok, range_ok, figure_ok, singleton_ok, default_ok, output_ok, terms_below}
use Rattle.laws.proofs.Tests.{both, passed, clash}
use Rattle.laws.proofs.Lists.{all_append}
use Rattle.laws.proofs.Finding.{all_imp}
use Rattle.listing_laws.proofs.Numbers.{tens, digits_all, digits_length, behind, behind_all, behind_length, unit_facts}
use Rattle.listing_laws.proofs.Pieces.{name_facts}
use Rattle.listing_laws.proofs.Facts.{term_facts, input_facts, output_facts}
use Rattle.listing_laws.proofs.Lexing.{Named}

abbrev pub is_byte : ℕ → Bool
is_byte c = ltb c 256

-- w is bytes, at most n of them
pub record AtMost (n : ℕ) (w : List ℕ) : Type 0 where
  pub small : all is_byte w ≡ true
  pub short : length w ≤ n

pub weaken : {w : List ℕ} (m n : ℕ) → m ≤ n → AtMost m w → AtMost n w
weaken m n h p = record { small = p.small; short = omega (arith, p.short) }

pub join : {v w : List ℕ} (m n : ℕ) → AtMost m v → AtMost n w → AtMost (m + n) (v ++ w)
join {v} {w} m n p q = record {
  small = rw (all_append is_byte v w, p.small, q.small);
  short = omega (arith, length-append v w, p.short, q.short);
}

-- NAMES AND NUMBERS
name_byte : (c : ℕ) → is_name_byte c ≡ true → is_byte c ≡ true
name_byte c h = go (ltb c 256) refl
  where
    go : (b : Bool) → ltb c 256 ≡ b → ltb c 256 ≡ true
    go true e = e
    go false e =
        let l = ltb-false c 256 e in
        clash (simp (lt-leb c 90 (omega arith), lt-leb c 122 (omega arith), ne_eqb c 95 (λ q. omega arith), lt-leb c 57 (omega arith), and-false) at h)

digit_byte : (c : ℕ) → is_digit c ≡ true → is_byte c ≡ true
digit_byte c h = let l = leb-true c 57 (both (leb 48 c) (leb c 57) h).1 in lt-ltb c 256 (omega arith)

pub name_room : (w : List ℕ) → is_name w ≡ true → AtMost 16 w
name_room w h = let f = name_facts w h in record { small = all_imp is_name_byte is_byte name_byte w f.bytes; short = f.short }

pub digits_room : (m n : ℕ) → n < tens (suc m) → AtMost (suc m) (digits n)
digits_room m n h = record { small = all_imp is_digit is_byte digit_byte (digits n) (digits_all n); short = digits_length m n h }

point_room : (f : List ℕ) → all is_digit f ≡ true → length f ≤ 3 → AtMost 4 (after_point f)
unfolding all
point_room [] a h = record { small = refl; short = omega arith }
point_room (c ∷ f) a h = record { small = all_imp is_digit is_byte digit_byte (c ∷ f) a; short = omega arith }

thousandths_room : (m n : ℕ) → n / 1000 < tens (suc m) → AtMost (suc m + 4) (thousandths_text n)
unfolding thousandths_text
thousandths_room m n h =
    join (suc m) 4 (digits_room m (n / 1000) h) (point_room (behind n) (behind_all n) (behind_length n))

crisp_unsigned : (n : ℕ) → n ≤ crisp_limit → AtMost 10 (thousandths_text n)
unfolding thousandths_text digits digits_on trimmed all
crisp_unsigned n h = go (eqb n crisp_limit) refl
  where
    go : (b : Bool) → eqb n crisp_limit ≡ b → AtMost 10 (thousandths_text n)
    go true e = rw (eqb-true n crisp_limit e) (record { small = refl; short = omega arith })
    go false e = let l = eqb-false n crisp_limit e in thousandths_room 5 n (omega arith)

crisp_room : (z : ℤ) → in_crisp z ≡ true → AtMost 11 (crisp_text z)
unfolding crisp_text all
crisp_room (pos n) h = weaken 10 11 (omega arith) (crisp_unsigned n (leb-true n crisp_limit h))
crisp_room (negsuc n) h = let f = crisp_unsigned (suc n) (leb-true (suc n) crisp_limit h) in record { small = f.small; short = omega (arith, f.short) }

pub unit_room : (d : ℕ) → unit_ok d ≡ true → AtMost 5 (unit_text d)
unit_room d h = let f = unit_facts d h in thousandths_room 0 (d / 1000) (omega arith)

-- LISTS of parts
module _ {A : Type 0} (f : A → List ℕ) (ok : A → Bool) (m : A → ℕ) (k : (x : A) → ok x ≡ true → AtMost (m x) (f x)) where
  pub gather_room : (xs : List A) → all ok xs ≡ true → AtMost (total m xs) (gather f xs)
  unfolding all gather total
  gather_room [] h = record { small = refl; short = omega arith }
  gather_room (x ∷ xs) h =
      let b = both (ok x) (all ok xs) h in
      join (m x) (total m xs) (k x b.0) (gather_room xs b.1)

total_same : {A : Type 0} (n : ℕ) (xs : List A) → total (λ x. n) xs ≡ n * length xs
unfolding total
total_same n [] = omega arith
total_same n (x ∷ xs) = omega (arith, mul-suc n (length xs), total_same n xs)

module _ {A : Type 0} (f : A → List ℕ) (ok : A → Bool) (n : ℕ) (k : (x : A) → ok x ≡ true → AtMost n (f x)) where
  pub lines_room : (xs : List A) → all ok xs ≡ true → AtMost (n * length xs) (gather f xs)
  lines_room xs h = rw (total_same n xs) at (gather_room f ok (λ x. n) k xs h)

  pub commaed_room : (xs : List A) → all ok xs ≡ true → AtMost ((n + 2) * length xs - 2) (commaed (map f xs))
  unfolding all commaed
  commaed_room [] h = record { small = refl; short = omega arith }
  commaed_room (x ∷ []) h =
      let p = k x (both (ok x) true h).0 in
      record { small = p.small; short = omega (arith, p.short, mul-suc (n + 2) 0) }
  commaed_room (x ∷ y ∷ xs) h =
      let b = both (ok x) (all ok (y ∷ xs)) h in
      let p = k x b.0 in
      let q = commaed_room (y ∷ xs) b.1 in
      record {
        small = rw (all_append is_byte (f x) (bytes ", " ++ commaed (map f (y ∷ xs))), p.small, q.small);
        short =
            omega (
              arith,
              p.short,
              q.short,
              length-append (f x) (bytes ", " ++ commaed (map f (y ∷ xs))),
              mul-suc (n + 2) (suc (length xs)),
              mul-suc (n + 2) (length xs),
            );
      }

-- DECLARATIONS
type_room : (t : InputType) → AtMost 4 (type_text t)
unfolding all
type_room real = record { small = refl; short = omega arith }
type_room int = record { small = refl; short = omega arith }

pub input_room : (v : Input) → input_ok v ≡ true → AtMost 27 (input_line v)
unfolding all input_ok
input_room v h =
    let n = name_room v.name (passed _ h).0 in
    let t = type_room v.type in
    record { small = simp (all_append, n.small, t.small); short = simp length-append (omega (arith, n.short, t.short)) }

pub output_room : (v : Output) → output_ok v ≡ true → AtMost 27 (output_line v)
unfolding all output_ok
output_room v h =
    let n = name_room v.name (passed _ h).0 in
    record { small = simp (all_append, n.small); short = simp length-append (omega (arith, n.short)) }

-- TERMS
point_text_room : (p : Point) → point_ok p ≡ true → AtMost 20 (point_text p)
unfolding all point_ok
point_text_room p h =
    let b = both (in_crisp p.at) (unit_ok p.degree) h in
    let c = crisp_room p.at b.0 in
    let u = unit_room p.degree b.1 in
    record { small = simp (all_append, c.small, u.small); short = simp length-append (omega (arith, c.short, u.short)) }

term_room : (t : Term) → term_ok t ≡ true → AtMost 115 (term_line t)
unfolding all term_ok term_line
term_room t h =
    let f = term_facts t h in
    let n = name_room t.name (passed _ h).0 in
    let p = commaed_room point_text point_ok 20 point_text_room t.points f.points in
    record { small = simp (all_append, n.small, p.small); short = simp length-append (omega (arith, n.short, p.short, f.count.1)) }

pub fuzzify_room : (v : Input) → input_ok v ≡ true → AtMost 842 (fuzzify_text v)
unfolding all input_ok fuzzify_text
fuzzify_room v h =
    let f = input_facts v h in
    let n = name_room v.name (passed _ h).0 in
    let t = lines_room term_line term_ok 115 term_room v.terms f.terms in
    record { small = simp (all_append, n.small, t.small); short = simp length-append (omega (arith, n.short, t.short, f.count.1)) }

-- SINGLETONS
range_room : (g : Option Range) → range_ok g ≡ true → AtMost 35 (range_line g)
unfolding all
range_room none h = record { small = refl; short = omega arith }
range_room (some g) h =
    let b = both (in_crisp g.least) (in_crisp g.most && lt_z g.least g.most) h in
    let l = crisp_room g.least b.0 in
    let m = crisp_room g.most (both (in_crisp g.most) (lt_z g.least g.most) b.1).0 in
    record { small = simp (all_append, l.small, m.small); short = simp length-append (omega (arith, l.short, m.short)) }

figure_room : (g : Option Range) (x : ℤ) → figure_ok g x ≡ true → AtMost 11 (crisp_text x)
figure_room g x h = crisp_room x (both (in_crisp x) (in_range g x) h).0

singleton_room : (g : Option Range) (t : Singleton) → singleton_ok g t ≡ true → AtMost 40 (singleton_line t)
unfolding all singleton_ok singleton_line
singleton_room g t h =
    let b = both (is_name t.name) (figure_ok g t.at) h in
    let n = name_room t.name b.0 in
    let x = figure_room g t.at b.1 in
    record { small = simp (all_append, n.small, x.small); short = simp length-append (omega (arith, n.short, x.short)) }

default_room : (g : Option Range) (d : Option ℤ) → default_ok g d ≡ true → AtMost 11 (default_text d)
unfolding all
default_room g none h = record { small = refl; short = omega arith }
default_room g (some x) h = figure_room g x h

pub defuzzify_room : (v : Output) → output_ok v ≡ true → AtMost 399 (defuzzify_text v)
unfolding all output_ok defuzzify_text
defuzzify_room v h =
    let f = output_facts v h in
    let n = name_room v.name (passed _ h).0 in
    let g = range_room v.range f.range in
    let t = lines_room singleton_line (singleton_ok v.range) 40 (singleton_room v.range) v.terms f.terms in
    let d = default_room v.range v.default f.default in
    record {
      small = simp (all_append, n.small, g.small, t.small, d.small);
      short = simp length-append (omega (arith, n.short, g.short, t.short, f.count.1, d.short));
    }

-- CONDITIONS
-- two names and a text between
pub names_room : (w v : List ℕ) (u : String) (k : ℕ) → is_name w ≡ true → is_name v ≡ true → AtMost k (bytes u) → AtMost (16 + (k + 16)) (w ++ (bytes u ++ v))
names_room w v u k p q r = join 16 (k + 16) (name_room w p) (join k 16 r (name_room v q))

wrapped_room : (l k m : ℕ) (w : List ℕ) → AtMost m w → AtMost (m + 2) (wrapped l k w)
unfolding all
wrapped_room l k m w p = go (ltb l k) refl
  where
    go : (b : Bool) → ltb l k ≡ b → AtMost (m + 2) (wrapped l k w)
    go true e = rw e (record { small = simp (all_append, p.small); short = simp length-append (omega (arith, p.short)) })
    go false e = rw e (weaken m (m + 2) (omega arith) p)

operator_room : (o : Op) → AtMost 5 (operator o)
unfolding all
operator_room and = record { small = refl; short = omega arith }
operator_room or = record { small = refl; short = omega arith }

-- room for a condition, wherever it stands
abbrev pub condition_size : Condition → ℕ
condition_size c = (43 * size c + 29) / 2

module _ (f : ℕ → TermNames) (n : ℕ) (ok : Named f n) where
  negated_room : (l : ℕ) (c : Condition) (k : ℕ) → AtMost (condition_size c) (wrapped bare_behind_not (form c) (condition_text f c))
      → AtMost (condition_size (neg c)) (wrapped l k (bytes "NOT " ++ wrapped bare_behind_not (form c) (condition_text f c)))
  unfolding all size
  negated_room l c k p =
      let q : AtMost 4 (bytes "NOT ") = record { small = refl; short = omega arith } in
      weaken (4 + condition_size c + 2) (condition_size (neg c)) (omega arith) (wrapped_room l k (4 + condition_size c) _ (join 4 (condition_size c) q p))

  pub condition_room : (l : ℕ) (c : Condition) → terms_below n c ≡ true → AtMost (condition_size c) (wrapped l (form c) (condition_text f c))
  unfolding all condition_text terms_below size form
  condition_room l (term t) h =
      let o = ok t (ltb-true t n h) in
      rw (le-ltb l 0 (omega arith)) (names_room (f t).variable (f t).term " IS " 4 o.0 o.1 (record { small = refl; short = omega arith }))
  condition_room l (neg (term t)) h =
      let o = ok t (ltb-true t n h) in
      let p = names_room (f t).variable (f t).term " IS NOT " 8 o.0 o.1 (record { small = refl; short = omega arith }) in
      weaken 42 57 (omega arith) (wrapped_room l 1 40 ((f t).variable ++ (bytes " IS NOT " ++ (f t).term)) p)
  condition_room l (neg (neg c)) h = negated_room l (neg c) (form (neg (neg c))) (condition_room bare_behind_not (neg c) h)
  condition_room l (neg (two o a b)) h = negated_room l (two o a b) (form (neg (two o a b))) (condition_room bare_behind_not (two o a b) h)
  condition_room l (two o a b) h =
      let c = both (terms_below n a) (terms_below n b) h in
      let p = condition_room (bare_left o) a c.0 in
      let q = condition_room (bare_right o) b c.1 in
      let m = condition_size a + (5 + condition_size b) in
      weaken (m + 2) (condition_size (two o a b)) (omega arith)
      (wrapped_room l (rank o) m _ (join (condition_size a) (5 + condition_size b) p (join 5 (condition_size b) (operator_room o) q)))

  pub bare_room : (c : Condition) → terms_below n c ≡ true → AtMost (condition_size c) (condition_text f c)
  bare_room c h = rw (le-ltb (form c) (form c) (omega arith)) at (condition_room (form c) c h)
