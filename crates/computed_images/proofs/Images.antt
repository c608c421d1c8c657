-- Images: the words of the header, and images that are not accepted, the worked example with one word changed, cut short or drawn out.
use mathlib.Core.List.{List, [], ◌∷◌, ◌++◌, map}
use mathlib.Core.Option.{none}
use mathlib.Core.Path.{◌≡◌, refl}
use Prim.Native.Nat.{ℕ}
use lib.ListN.{set, take, drop}
use Rattle.model.specs.Block.{Block, with_pair, with_accu, with_act}
use Rattle.model.specs.declared.Pair.{Pair}
use Rattle.model.specs.declared.Pair.TheVariants.{MinMax as min-max, ProdAsum as prod-asum, BdifBsum as bdif-bsum}
use Rattle.model.specs.declared.Accumulation.{Accumulation}
use Rattle.model.specs.declared.Accumulation.TheVariants.{Max as by-max, Bsum as by-bsum}
use Rattle.model.specs.declared.Activation.{Activation}
use Rattle.model.specs.declared.Activation.TheVariants.{Min as by-min, Prod as by-prod}
use Rattle.model.specs.Outcome.{Outcome, refused}
use Rattle.model.specs.Image
use Rattle.model.specs.Image.{words, bytes_of, image, loads}
use Rattle.model.specs.Evaluation.{fresh}
use Rattle.model.proofs.Opened.{opened}
use Rattle.model.proofs.Texts.{numbers_from}
use Rattle.model.proofs.Example.{trust}

-- HEADER: the counts in the order of the tables, their offsets, pair, ACCU, ACT, the two names
header_places :
    Image.INPUTS ∷ Image.OUTPUTS ∷ Image.TERMS ∷ Image.POINTS ∷ Image.RULES ∷ Image.WORDS ∷ Image.CONCLUSIONS
    ∷ Image.INPUT_TABLE ∷ Image.OUTPUT_TABLE ∷ Image.TERM_TABLE ∷ Image.POINT_TABLE ∷ Image.RULE_TABLE ∷ Image.WORD_TABLE ∷ Image.CONCLUSION_TABLE
    ∷ Image.PAIR_WORD ∷ Image.ACCU_WORD ∷ Image.ACT_WORD ∷ Image.BLOCK_NAME ∷ Image.RULE_BLOCK_NAME ∷ []
    ≡ numbers_from 17 2 ++ (20 ∷ 24 ∷ [])
header_places = refl

-- pair, ACCU, ACT and a zero
abbrev codes : Pair → Accumulation → Activation → List ℕ
codes p c a = take 4 (drop 16 (words (with_pair p (with_accu c (with_act a trust)))))

header_codes : codes min-max by-max by-min ∷ codes prod-asum by-bsum by-min ∷ codes bdif-bsum by-max by-prod ∷ []
    ≡ (0 ∷ 0 ∷ 0 ∷ 0 ∷ []) ∷ (1 ∷ 1 ∷ 0 ∷ 0 ∷ []) ∷ (2 ∷ 0 ∷ 1 ∷ 0 ∷ []) ∷ []
unfolding opened
header_codes = refl

pub record Edit : Type 0 where
  pub at : ℕ
  pub word : ℕ

abbrev to : ℕ → ℕ → Edit
to i w = record { at = i; word = w }

abbrev edits : List Edit
edits =
    -- layout, total, offsets into another table and outside, the spare word, pair, ACCU, ACT
    to 0 2 ∷ to 1 92 ∷ to 15 86 ∷ to 15 1000 ∷ to 19 1 ∷ to 16 3 ∷ to 17 2 ∷ to 18 2
    -- a name of one underscore, an empty name, bytes behind the padding, the keyword IF, a name that is taken
    ∷ to 24 0x5f ∷ to 24 0 ∷ to 26 0x72 ∷ to 24 0x4649 ∷ to 58 0x776f6c
    -- type, first term, term count, an unused field
    ∷ to 32 2 ∷ to 33 1 ∷ to 34 2 ∷ to 42 1 ∷ to 45 1
    -- first point, points that fall, a degree of 500 millionths and one above 1, a singleton whose degree is not 1
    ∷ to 50 1 ∷ to 66 19999 ∷ to 65 500 ∷ to 65 1001000 ∷ to 69 0
    -- rule number 0 and a repeated one, first condition word, no conclusion, a weight of 500 millionths
    ∷ to 72 0 ∷ to 78 1 ∷ to 79 0 ∷ to 76 0 ∷ to 77 500
    -- an output's term in a condition, a word that is none, an operator without operands, another output, an input's term
    ∷ to 84 17 ∷ to 84 3 ∷ to 84 1 ∷ to 87 1 ∷ to 88 0
    ∷ []

abbrev refused_all : {A : Type 0} → List A → List (Outcome Block)
refused_all xs = map (λ x. refused 11 none) xs

edited_refused : map (λ e. loads (bytes_of (set (words trust) e.at e.word))) edits ≡ refused_all edits
unfolding opened
edited_refused = refl

-- a word between the condition words and the conclusions, its offset and the total to match
gap_refused : loads (bytes_of (take 87 (set (set (words trust) 15 88) 1 92) ++ (0 ∷ drop 87 (words trust)))) ≡ refused 11 none
unfolding opened
gap_refused = refl

abbrev lengths : List (List ℕ)
lengths = [] ∷ take 363 (image trust) ∷ take 360 (image trust) ∷ (image trust ++ (0 ∷ [])) ∷ (image trust ++ (0 ∷ 0 ∷ 0 ∷ 0 ∷ [])) ∷ []

lengths_refused : map loads lengths ≡ refused_all lengths
unfolding opened
lengths_refused = refl

fresh_refused : fresh [] ≡ refused 11 none
unfolding opened
fresh_refused = refl
