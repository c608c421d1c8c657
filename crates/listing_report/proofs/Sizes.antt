-- How long the image of a well-formed block and the line of a refusal can be; the end of a line.
use mathlib.Core.Path.{◌≡◌, refl, sym, ap, ◌∙◌}
use mathlib.Core.Bool.{Bool, true}
use mathlib.Core.List.{List, [], ◌∷◌, ◌++◌, map}
use Prim.Native.Nat.{ℕ, ◌*◌, ◌-◌, ◌≤◌, ◌<◌}
use native.Mathlib.Nat.{suc-mul}
use native.Mathlib.Omega.{arith}
use lib.ListN.{length, take, drop, length-append, length-drop, length-map}
use lib.Seq.{length-take-le, take_all}
use Rattle.std.specs.Prelude.{Option, Some, None, IfSome}
use Rattle.model.specs.Bounds.{image_limit}
use Rattle.model.specs.Basic.{all, gather}
use Rattle.model.specs.Block.{Singleton, Input, Block, input_terms, output_terms}
use Rattle.model.specs.Image.{image, words, end_of, singleton_term}
use Rattle.model.specs.Printed.{place_text, refused_line}
use Rattle.model.specs.WellFormed.{well_formed, input_ok, output_ok, term_ok}
use Rattle.words.proofs.Bytes.{length_bytes}
use Rattle.laws.proofs.Lists.{gather_append}
use Rattle.laws.proofs.Tests.{both}
use Rattle.refusals.specs.Told.{place_of}
use Rattle.image.proofs.Whole.{length_words}
use Rattle.listing_laws.proofs.Facts.{term_facts, input_facts, output_facts, block_facts}
use Rattle.listing_laws.proofs.Room.{digits_room}

-- THE LINE OF A REFUSAL
place_short : (place : Option ℕ) → IfSome place (λ n. n < 18446744073709551616) → length (place_text (place_of place)) ≤ 20
place_short None h = omega arith
place_short (Some n) h = (digits_room 19 n (omega (arith, h))).short

pub line_short : (n : ℕ) (place : Option ℕ) → n < 256 → IfSome place (λ m. m < 18446744073709551616) → length (refused_line n (place_of place)) ≤ 64
unfolding refused_line
line_short n place h k = simp length-append (omega (arith, (digits_room 2 n (omega arith)).short, place_short place k))

-- THE END OF A LINE of m bytes: its last n
module _ (m n : ℕ) (line : List ℕ) (room : length line ≡ m) (short : n ≤ m) where
  abbrev end : List ℕ
  end = take (m - (m - n)) (drop (m - n) line)

  pub end_length : length end ≡ n
  end_length =
      let e : m - (m - n) ≡ n = omega arith in
      let d = length-drop (m - n) line in
      length-take-le (m - (m - n)) (drop (m - n) line) (omega (arith, d)) ∙ e

  -- it is all that is copied
  pub whole_end : (out : List ℕ) → end ++ drop n out ≡ take (length end) end ++ drop (length end) out
  whole_end out = (λ i. sym (take_all (length end) end (omega arith)) i ++ drop (sym end_length i) out)

-- THE IMAGE
gather_few : {A B : Type 0} (g : A → List B) (ok : A → Bool) (m : ℕ) → ((x : A) → ok x ≡ true → length (g x) ≤ m)
    → (xs : List A) → all ok xs ≡ true → length (gather g xs) ≤ length xs * m
unfolding gather all
gather_few g ok m f [] h = omega arith
gather_few g ok m f (x ∷ xs) h =
    let b = both (ok x) (all ok xs) h in
    omega (arith, length-append (g x) (gather g xs), f x b.0, gather_few g ok m f xs b.1, suc-mul (length xs) m)

own_points : (v : Input) → input_ok v ≡ true → length (gather (λ t. t.points) v.terms) ≤ 28
own_points v h =
    let f = input_facts v h in
    let p = gather_few (λ t. t.points) term_ok 4 (λ t k. (term_facts t k).count.1) v.terms f.terms in
    omega (arith, p, f.count.1)

input_points : (vs : List Input) → all input_ok vs ≡ true → length (gather (λ t. t.points) (gather (λ v. v.terms) vs)) ≤ length vs * 28
unfolding gather all
input_points [] h = omega arith
input_points (v ∷ vs) h =
    let b = both (input_ok v) (all input_ok vs) h in
    let e = ap length (gather_append (λ t. t.points) v.terms (gather (λ u. u.terms) vs)) in
    let l = length-append (gather (λ t. t.points) v.terms) (gather (λ t. t.points) (gather (λ u. u.terms) vs)) in
    omega (arith, e, l, own_points v b.0, input_points vs b.1)

one_point : (ss : List Singleton) → length (gather (λ t. t.points) (map singleton_term ss)) ≡ length ss
unfolding gather
one_point [] = refl
one_point (s ∷ ss) = omega (arith, one_point ss)

pub image_short : (b : Block) → well_formed b ≡ true → length (image b) ≤ image_limit
unfolding image end_of
image_short b h =
    let f = block_facts b h in
    let inputs = gather_few (λ v. v.terms) input_ok 7 (λ v k. (input_facts v k).count.1) b.inputs f.inputs_ok in
    let outputs = gather_few (λ v. v.terms) output_ok 7 (λ v k. (output_facts v k).count.1) b.outputs f.outputs_ok in
    let ts = length-append (input_terms b) (map singleton_term (output_terms b)) in
    let one = length-map (output_terms b) singleton_term in
    let ps = ap length (gather_append (λ t. t.points) (input_terms b) (map singleton_term (output_terms b))) in
    let qs = length-append (gather (λ t. t.points) (input_terms b)) (gather (λ t. t.points) (map singleton_term (output_terms b))) in
    omega (
      arith,
      length_bytes (words b),
      length_words b,
      inputs,
      outputs,
      ts,
      one,
      ps,
      qs,
      input_points b.inputs f.inputs_ok,
      one_point (output_terms b),
      f.inputs.1,
      f.outputs.1,
      f.rules.1,
      f.words,
      f.conclusions,
    )
