-- A listing is bytes, at most 31,421 of them.
use mathlib.Core.Path.{◌≡◌, refl}
use mathlib.Core.List.{List, [], ◌∷◌}
use mathlib.Core.Bool.{Bool, true, false}
use Prim.Native.Nat.{ℕ, zero, suc, ◌+◌, ◌*◌, ◌/◌, ◌≤◌, ◌<◌}
use native.Mathlib.Omega.{arith}
use borrow.Author.Tests.{leb-true, ltb-true}
use lib.Dec.{leb, eqb}
use lib.ListN.{length, get_or, length-append}
use Rattle.model.specs.Basic.{all, total, gather}
use Rattle.model.specs.Bounds.{M, rule_number_least, rule_number_limit, listing_limit, rule_limit, word_limit, conclusion_limit}
use Rattle.model.specs.Block.{Conclusion, Rule, Block, input_terms, size}
use Rattle.model.specs.declared.Pair.{Pair}
use Rattle.model.specs.declared.Pair.TheVariants.{MinMax as min-max, ProdAsum as prod-asum, BdifBsum as bdif-bsum}
use Rattle.model.specs.declared.Accumulation.{Accumulation}
use Rattle.model.specs.declared.Accumulation.TheVariants.{Max as by-max, Bsum as by-bsum}
use Rattle.model.specs.declared.Activation.{Activation}
use Rattle.model.specs.declared.Activation.TheVariants.{Min as by-min, Prod as by-prod}
use Rattle.model.specs.Listing.{input_term_name, input_line, output_line, fuzzify_text, defuzzify_text, and_text, or_text, act_text, accu_text, conclusion_text, weight_text, rule_line, rule_block_text, listing}
use Rattle.model.specs.WellFormed.{unit_ok, input_ok, output_ok, conclusion_ok, rule_ok, well_formed}
use Rattle.laws.proofs.Tests.{both, passed}
use Rattle.laws.proofs.Lists.{all_append}
use Rattle.laws.proofs.Finding.{not_empty}
use Rattle.listing_laws.proofs.Facts.{rule_facts, block_facts}
use Rattle.listing_laws.proofs.Names.{input_named, output_named, conclusion_named}
use Rattle.listing_laws.proofs.LongConditions.{condition_short}
use Rattle.listing_laws.proofs.Room.{is_byte, AtMost, name_room, digits_room, unit_room, gather_room, lines_room, commaed_room, input_room, output_room, fuzzify_room, defuzzify_room, names_room, bare_room}

-- RULES
weight_room : (w : ℕ) → unit_ok w ≡ true → AtMost 11 (weight_text w)
unfolding all
weight_room w h = go (eqb w M) refl
  where
    go : (q : Bool) → eqb w M ≡ q → AtMost 11 (weight_text w)
    go true q = rw q (record { small = refl; short = omega arith })
    go false q = let u = unit_room w h in rw q (record { small = u.small; short = omega (arith, u.short) })

-- a rule, by the words of its condition and its conclusions
abbrev rule_size : Rule → ℕ
rule_size r = 35 + (385 * size r.condition + 263) / 18 + 38 * length r.conclusions

rules_size : (rs : List Rule)
    → 18 * total rule_size rs ≤ 893 * length rs + 385 * total (λ r. size r.condition) rs + 684 * length (gather (λ r. r.conclusions) rs)
unfolding total gather
rules_size [] = omega arith
rules_size (r ∷ rs) = omega (arith, rules_size rs, length-append r.conclusions (gather (λ r. r.conclusions) rs))

and_room : (p : Pair) → AtMost 4 (and_text p)
unfolding all
and_room min-max = record { small = refl; short = omega arith }
and_room prod-asum = record { small = refl; short = omega arith }
and_room bdif-bsum = record { small = refl; short = omega arith }

or_room : (p : Pair) → AtMost 4 (or_text p)
unfolding all
or_room min-max = record { small = refl; short = omega arith }
or_room prod-asum = record { small = refl; short = omega arith }
or_room bdif-bsum = record { small = refl; short = omega arith }

act_room : (a : Activation) → AtMost 4 (act_text a)
unfolding all
act_room by-min = record { small = refl; short = omega arith }
act_room by-prod = record { small = refl; short = omega arith }

accu_room : (a : Accumulation) → AtMost 4 (accu_text a)
unfolding all
accu_room by-max = record { small = refl; short = omega arith }
accu_room by-bsum = record { small = refl; short = omega arith }

-- of all rules, and of what stands before and behind them
abbrev rule_block_room : ℕ
rule_block_room = (893 * rule_limit + 385 * word_limit + 684 * conclusion_limit) / 18 + 97

module _ (b : Block) (h : well_formed b ≡ true) where
  conclusion_room : (k : Conclusion) → conclusion_ok b k ≡ true → AtMost 36 (conclusion_text b k)
  unfolding all conclusion_text
  conclusion_room k o =
      names_room _ _ " IS " 4 (output_named b h k o) (conclusion_named b h k o) (record { small = refl; short = omega arith })

  rule_room : (r : Rule) → rule_ok b r ≡ true → AtMost (rule_size r) (rule_line b r)
  unfolding all rule_line
  rule_room r o =
      let f = rule_facts b r o in
      let i = leb-true r.number rule_number_limit (both (leb rule_number_least r.number) (leb r.number rule_number_limit) f.number).1 in
      let n = digits_room 4 r.number (omega arith) in
      let c = bare_room (input_term_name b) (length (input_terms b)) (input_named b h) r.condition f.terms in
      let t = condition_short (input_term_name b) (length (input_terms b)) (input_named b h) r.condition f.terms f.deep in
      let k = commaed_room (conclusion_text b) (conclusion_ok b) 36 conclusion_room r.conclusions f.conclusions in
      let w = weight_room r.weight f.weight in
      record {
        small = simp (all_append, n.small, c.small, k.small, w.small);
        short = simp length-append (omega (arith, n.short, t, k.short, w.short, not_empty r.conclusions f.some));
      }

  rule_block_room_lem : AtMost rule_block_room (rule_block_text b)
  unfolding all well_formed rule_block_text
  rule_block_room_lem =
      let f = block_facts b h in
      let n = name_room b.rule_block (passed _ h).1.0 in
      let p = and_room b.pair in
      let q = or_room b.pair in
      let a = act_room b.act in
      let c = accu_room b.accu in
      let r = gather_room (rule_line b) (rule_ok b) rule_size rule_room b.rules f.rules_ok in
      record {
        small = simp (all_append, n.small, p.small, q.small, a.small, c.small, r.small);
        short =
            simp length-append
            (omega (arith, n.short, p.short, q.short, a.short, c.short, r.short, rules_size b.rules, f.rules.1, f.words, f.conclusions));
      }

  listing_room : AtMost listing_limit (listing b)
  unfolding all well_formed listing
  listing_room =
      let f = block_facts b h in
      let n = name_room b.name (passed _ h).0 in
      let i = lines_room input_line input_ok 27 input_room b.inputs f.inputs_ok in
      let o = lines_room output_line output_ok 27 output_room b.outputs f.outputs_ok in
      let u = lines_room fuzzify_text input_ok 842 fuzzify_room b.inputs f.inputs_ok in
      let d = lines_room defuzzify_text output_ok 399 defuzzify_room b.outputs f.outputs_ok in
      let r = rule_block_room_lem in
      record {
        small = simp (all_append, n.small, i.small, o.small, u.small, d.small, r.small);
        short = simp length-append (omega (arith, n.short, i.short, o.short, u.short, d.short, r.short, f.inputs.1, f.outputs.1));
      }

  pub listing_bytes : all is_byte (listing b) ≡ true
  listing_bytes = listing_room.small

  pub listing_short : length (listing b) ≤ listing_limit
  listing_short = listing_room.short

-- each byte by its place
pub byte_at : (s : List ℕ) → all is_byte s ≡ true → (k : ℕ) → get_or s k 0 < 256
unfolding all
byte_at [] h k = omega arith
byte_at (c ∷ s) h zero = ltb-true c 256 (both (is_byte c) (all is_byte s) h).0
byte_at (c ∷ s) h (suc k) = byte_at s (both (is_byte c) (all is_byte s) h).1 k
