-- A function block as document 01 speaks of it: variables, terms, points, rules with conditions as trees.
-- Names are their bytes, crisp values thousandths, degrees and weights millionths.
use Rattle.std.specs.Prelude.{Bool, true, ◌&&◌, List, [], ◌∷◌, ◌++◌, map, ℕ, ◌+◌, ℤ, length, take, get_or}
use Rattle.std.proofs.Math.Option.{Option, none, some}
use Rattle.std.specs.Int.Signed.{lt_z, le_z}
use Rattle.model.specs.Basic.{total, gather}
pub use Rattle.model.specs.declared.InputType.{InputType}
pub use Rattle.model.specs.declared.InputType.TheVariants.{Real as real, Int as int}
pub use Rattle.model.specs.declared.Pair.{Pair}
pub use Rattle.model.specs.declared.Pair.TheVariants.{MinMax as min-max, ProdAsum as prod-asum, BdifBsum as bdif-bsum}
pub use Rattle.model.specs.declared.Accumulation.{Accumulation}
pub use Rattle.model.specs.declared.Accumulation.TheVariants.{Max as by-max, Bsum as by-bsum}
pub use Rattle.model.specs.declared.Activation.{Activation}
pub use Rattle.model.specs.declared.Activation.TheVariants.{Min as by-min, Prod as by-prod}

pub record Point : Type 0 where
  pub at : ℤ
  pub degree : ℕ

-- a term of an input
pub record Term : Type 0 where
  pub name : List ℕ
  pub points : List Point

-- a term of an output
pub record Singleton : Type 0 where
  pub name : List ℕ
  pub at : ℤ

pub record Input : Type 0 where
  pub name : List ℕ
  pub type : InputType
  pub terms : List Term

pub record Range : Type 0 where
  pub least : ℤ
  pub most : ℤ

-- default: none is NC
pub record Output : Type 0 where
  pub name : List ℕ
  pub terms : List Singleton
  pub range : Option Range
  pub default : Option ℤ

pub data Op : Type 0 where
  and or : Op

-- input terms are counted from 0 over all inputs
pub data Condition : Type 0 where
  term : ℕ → Condition
  neg : Condition → Condition
  two : Op → Condition → Condition → Condition

-- outputs are counted from 0; terms from 0 over all inputs, then all outputs
pub record Conclusion : Type 0 where
  pub output : ℕ
  pub term : ℕ

pub record Rule : Type 0 where
  pub number : ℕ
  pub condition : Condition
  pub conclusions : List Conclusion
  pub weight : ℕ

pub record Block : Type 0 where
  pub name : List ℕ
  pub inputs : List Input
  pub outputs : List Output
  pub rule_block : List ℕ
  pub pair : Pair
  pub act : Activation
  pub accu : Accumulation
  pub rules : List Rule

-- COUNTS
abbrev pub input_terms : Block → List Term
input_terms b = gather (λ v. v.terms) b.inputs

abbrev pub output_terms : Block → List Singleton
output_terms b = gather (λ v. v.terms) b.outputs

-- the first term of input i, of output o
unfoldable pub input_first : ℕ → Block → ℕ
input_first i b = total (λ v. length v.terms) (take i b.inputs)

unfoldable pub output_first : ℕ → Block → ℕ
output_first o b = length (input_terms b) + total (λ v. length v.terms) (take o b.outputs)

abbrev pub conclusions : Block → List Conclusion
conclusions b = gather (λ r. r.conclusions) b.rules

-- each NOT, AND, OR and input name is one condition word
unfoldable pub size : Condition → ℕ
size (term t) = 1
size (neg c) = size c + 1
size (two o a b) = size a + size b + 1

abbrev pub word_total : Block → ℕ
word_total b = total (λ r. size r.condition) b.rules

-- the terms of input i, of output o
unfoldable pub terms_of : ℕ → Block → List Term
terms_of i b = get_or (map (λ v. v.terms) b.inputs) i []

unfoldable pub singletons_of : ℕ → Block → List Singleton
singletons_of o b = get_or (map (λ v. v.terms) b.outputs) o []

unfoldable pub range_of : ℕ → Block → Option Range
range_of o b = get_or (map (λ v. v.range) b.outputs) o none

abbrev pub in_range : Option Range → ℤ → Bool
in_range none x = true
in_range (some g) x = le_z g.least x && le_z x g.most

-- whether x may stand after the positions ps: not below the last, which it may share, and above the last but one
unfoldable pub may_follow : List ℤ → ℤ → Bool
may_follow [] x = true
may_follow (p ∷ []) x = le_z p x
may_follow (p ∷ q ∷ []) x = le_z q x && lt_z p x
may_follow (p ∷ q ∷ r ∷ ps) x = may_follow (q ∷ r ∷ ps) x

-- A BLOCK, CHANGED
abbrev pub block_of : List ℕ → List Input → List Output → List ℕ → Pair → Activation → Accumulation → List Rule → Block
block_of n is os w p a c rs =
    record { name = n; inputs = is; outputs = os; rule_block = w; pair = p; act = a; accu = c; rules = rs }

-- none given means MIN/MAX; ACT absent means MIN
abbrev pub empty_block : Block
empty_block = block_of [] [] [] [] min-max by-min by-max []

abbrev pub with_name : List ℕ → Block → Block
with_name w b = block_of w b.inputs b.outputs b.rule_block b.pair b.act b.accu b.rules

abbrev pub with_rule_block : List ℕ → Block → Block
with_rule_block w b = block_of b.name b.inputs b.outputs w b.pair b.act b.accu b.rules

abbrev pub with_inputs : (List Input → List Input) → Block → Block
with_inputs f b = block_of b.name (f b.inputs) b.outputs b.rule_block b.pair b.act b.accu b.rules

abbrev pub with_outputs : (List Output → List Output) → Block → Block
with_outputs f b = block_of b.name b.inputs (f b.outputs) b.rule_block b.pair b.act b.accu b.rules

abbrev pub with_pair : Pair → Block → Block
with_pair p b = block_of b.name b.inputs b.outputs b.rule_block p b.act b.accu b.rules

abbrev pub with_act : Activation → Block → Block
with_act a b = block_of b.name b.inputs b.outputs b.rule_block b.pair a b.accu b.rules

abbrev pub with_accu : Accumulation → Block → Block
with_accu a b = block_of b.name b.inputs b.outputs b.rule_block b.pair b.act a b.rules

abbrev pub with_rules : (List Rule → List Rule) → Block → Block
with_rules f b = block_of b.name b.inputs b.outputs b.rule_block b.pair b.act b.accu (f b.rules)

abbrev pub as_int : Input → Input
as_int v = record { name = v.name; type = int; terms = v.terms }

abbrev pub with_terms : (List Term → List Term) → Input → Input
with_terms f v = record { name = v.name; type = v.type; terms = f v.terms }

abbrev pub with_point : Point → Term → Term
with_point p t = record { name = t.name; points = t.points ++ (p ∷ []) }

abbrev pub with_singleton : Singleton → Output → Output
with_singleton s v = record { name = v.name; terms = v.terms ++ (s ∷ []); range = v.range; default = v.default }

abbrev pub with_range : Range → Output → Output
with_range g v = record { name = v.name; terms = v.terms; range = some g; default = v.default }

abbrev pub with_default : ℤ → Output → Output
with_default x v = record { name = v.name; terms = v.terms; range = v.range; default = some x }

abbrev pub with_conclusion : Conclusion → Rule → Rule
with_conclusion k r =
    record { number = r.number; condition = r.condition; conclusions = r.conclusions ++ (k ∷ []); weight = r.weight }

abbrev pub with_weight : ℕ → Rule → Rule
with_weight w r = record { number = r.number; condition = r.condition; conclusions = r.conclusions; weight = w }
