-- What every block that was read satisfies, as a test.
use Rattle.std.specs.Prelude.{Bool, true, ◌&&◌, not, List, [], ◌∷◌, ◌++◌, map, ℕ, ◌+◌, ◌%◌, leb, ltb, eqb, ℤ, length}
use Rattle.std.proofs.Math.Option.{Option, none, some}
use Rattle.std.specs.Int.Signed.{lt_z}
use Rattle.model.specs.Basic.{between, is_empty, every, all, distinct}
use Rattle.model.specs.Bounds.{M, input_limit, output_limit, term_limit, point_least, point_limit, rule_limit, word_limit, conclusion_limit, rule_number_least, rule_number_limit, depth_limit}
use Rattle.model.specs.Tokens.{is_name, same_name, in_crisp}
use Rattle.model.specs.Block.{Point, Term, Singleton, Input, Range, Output, Condition, term, neg, two, Conclusion, Rule, Block, input_terms, output_first, conclusions, word_total, singletons_of, in_range, may_follow}
use Rattle.model.specs.Parentheses.{depth}

-- a degree or a weight of a text: whole thousandths, 0 to 1
unfoldable pub unit_ok : ℕ → Bool
unit_ok d = leb d M && eqb (d % 1000) 0

unfoldable pub point_ok : Point → Bool
point_ok p = in_crisp p.at && unit_ok p.degree

-- each position may stand after those before it
unfoldable pub in_order : List ℤ → List ℤ → Bool
in_order before [] = true
in_order before (x ∷ xs) = may_follow before x && in_order (before ++ (x ∷ [])) xs

unfoldable pub term_ok : Term → Bool
term_ok t = every (
    is_name t.name
    ∷ between point_least point_limit (length t.points)
    ∷ all point_ok t.points
    ∷ in_order [] (map (λ p. p.at) t.points)
    ∷ [])

unfoldable pub input_ok : Input → Bool
input_ok v = every (
    is_name v.name
    ∷ between 1 term_limit (length v.terms)
    ∷ all term_ok v.terms
    ∷ distinct same_name (map (λ t. t.name) v.terms)
    ∷ [])

abbrev pub range_ok : Option Range → Bool
range_ok none = true
range_ok (some g) = in_crisp g.least && (in_crisp g.most && lt_z g.least g.most)

abbrev pub figure_ok : Option Range → ℤ → Bool
figure_ok g x = in_crisp x && in_range g x

abbrev pub default_ok : Option Range → Option ℤ → Bool
default_ok g none = true
default_ok g (some x) = figure_ok g x

unfoldable pub singleton_ok : Option Range → Singleton → Bool
singleton_ok g s = is_name s.name && figure_ok g s.at

unfoldable pub output_ok : Output → Bool
output_ok v = every (
    is_name v.name
    ∷ between 1 term_limit (length v.terms)
    ∷ range_ok v.range
    ∷ all (singleton_ok v.range) v.terms
    ∷ distinct same_name (map (λ t. t.name) v.terms)
    ∷ default_ok v.range v.default
    ∷ [])

-- every term is one of the first n
unfoldable pub terms_below : ℕ → Condition → Bool
terms_below n (term t) = ltb t n
terms_below n (neg c) = terms_below n c
terms_below n (two o a b) = terms_below n a && terms_below n b

unfoldable pub condition_ok : Block → Condition → Bool
condition_ok b c = terms_below (length (input_terms b)) c && leb (depth c) depth_limit

-- the output is there, and the term is its own
unfoldable pub conclusion_ok : Block → Conclusion → Bool
conclusion_ok b k = every (
    ltb k.output (length b.outputs)
    ∷ leb (output_first k.output b) k.term
    ∷ ltb k.term (output_first k.output b + length (singletons_of k.output b))
    ∷ [])

unfoldable pub rule_ok : Block → Rule → Bool
rule_ok b r = every (
    between rule_number_least rule_number_limit r.number
    ∷ condition_ok b r.condition
    ∷ not (is_empty r.conclusions)
    ∷ all (conclusion_ok b) r.conclusions
    ∷ unit_ok r.weight
    ∷ [])

unfoldable pub well_formed : Block → Bool
well_formed b = every (
    is_name b.name
    ∷ is_name b.rule_block
    ∷ between 1 input_limit (length b.inputs)
    ∷ between 1 output_limit (length b.outputs)
    ∷ all input_ok b.inputs
    ∷ all output_ok b.outputs
    ∷ distinct same_name (map (λ v. v.name) b.inputs ++ map (λ v. v.name) b.outputs)
    ∷ between 1 rule_limit (length b.rules)
    ∷ all (rule_ok b) b.rules
    ∷ distinct eqb (map (λ r. r.number) b.rules)
    ∷ leb (word_total b) word_limit
    ∷ leb (length (conclusions b)) conclusion_limit
    ∷ [])
