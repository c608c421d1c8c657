-- A helper: what reading rules adds: the rules' reading of the text, and each rule's words behind those that are kept.
-- `Goes`, which `rules` ensures, ties both to the model's `rule`.
use Rattle.std.specs.Prelude.{None, ◌≡◌, List, [], ◌∷◌, ◌++◌, ℕ, ◌+◌, ◌*◌, ◌≤◌, length, take}
use Rattle.model.specs.Basic.{gather, total}
use Rattle.model.specs.Bounds.{rule_limit, word_limit, conclusion_limit}
use Rattle.model.specs.Block.{Block, Rule, Conclusion, size, with_rules, with_weight}
use Rattle.model.specs.Image.{conclusion_words, conclusion_width}
use Rattle.model.specs.Parse.{Part}
use Rattle.cursor.specs.View.{seen, Fits, left}
use Rattle.block_tables.specs.declared.Totals.{Totals}
use Rattle.block_tables.specs.Stored.{Stored, kept_width, rule_row}
use Rattle.symbol_table.specs.declared.Declarations.{Declarations}
use Rattle.symbol_table.specs.Declarations.{Declares}
use Rattle.condition_text.specs.Pending.{Adds}
use Rattle.rule_text.specs.declared.Concluded.{Concluded}
use Rattle.rule_text.specs.declared.Progress.{Progress}

-- the rules rs are kept: their words, and how many there are
pub record Kept (rs : List Rule) (rules ws ks : List ℕ) (n : Totals) : Type 0 where
  pub stored : Stored rs rules ws ks n.rules n.words n.conclusions
  pub rules_size : length rules ≡ rule_limit * kept_width
  pub words_size : length ws ≡ word_limit
  pub conclusions_size : length ks ≡ conclusion_limit * conclusion_width
  pub rules_count : length rs ≡ n.rules
  pub words_count : total (λ r. size r.condition) rs ≡ n.words
  pub conclusions_count : length (gather (λ r. r.conclusions) rs) ≡ n.conclusions

-- some block declares these names, and its rules are kept, so that what is said of every such block is said of one
pub record Standing (d : Declarations) (rules ws ks : List ℕ) (n : Totals) : Type 0 where
  pub block : Block
  pub describes : Declares d block
  pub kept : Kept block.rules rules ws ks n

-- no more than the limits
pub record FewKept (n : Totals) : Type 0 where
  pub rules : n.rules ≤ rule_limit
  pub words : n.words ≤ word_limit
  pub conclusions : n.conclusions ≤ conclusion_limit

-- b with the rules rs
abbrev pub holding : List Rule → Block → Block
holding rs b = with_rules (λ qs. rs) b

-- b in the midst of the rule q, behind the rules rs
abbrev pub midst : Block → List Rule → Rule → Block
midst b rs q = holding (rs ++ (q ∷ [])) b

-- q with the conclusions ks more
abbrev pub gives : List Conclusion → Rule → Rule
gives ks q = record {
  number = q.number;
  condition = q.condition;
  conclusions =
      q.conclusions ++ ks;
  weight = q.weight;
}

-- n rows in rules are those of rs
pub record Rows (rs : List Rule) (rules : List ℕ) (n : ℕ) : Type 0 where
  pub rows : take (n * kept_width) rules ≡ gather rule_row rs
  pub count : length rs ≡ n

-- in the midst of the rule q, part reads conclusions more, and their words are put
pub record Concludes (part : Part) (s : List ℕ) (b : Block) (rs : List Rule) (q : Rule) (m : ℕ)
    (p r : Concluded) (old new : List ℕ) : Type 0 where
  pub more : List Conclusion
  pub reads : seen s r.cursor (midst b rs (gives more q)) m ≡ part (seen s p.cursor (midst b rs q) m)
  pub count : r.count ≡ p.count + length more
  pub put : Adds (p.count * conclusion_width) (r.count * conclusion_width) (gather conclusion_words more) old new

-- whatever the block
pub record Onward (s : List ℕ) (p r : Concluded) : Type 0 where
  pub fewer : left s r.cursor ≤ left s p.cursor
  pub fits : Fits s r.cursor
  pub grows : p.count ≤ r.count
  pub count : r.count ≤ conclusion_limit

-- part reads the rest of the rule q, and its conclusions and its row are put
pub record EndsRule (part : Part) (s : List ℕ) (b : Block) (rs : List Rule) (q : Rule) (p r : Progress) (n w : ℕ)
    (rows rows' ks ks' : List ℕ) : Type 0 where
  pub more : List Conclusion
  pub weight : ℕ
  pub reads : seen s r.cursor (midst b rs (with_weight weight (gives more q))) r.totals.words
      ≡ part (seen s p.cursor (midst b rs q) p.totals.words)
  pub rules : r.totals.rules ≡ p.totals.rules + 1
  pub words : r.totals.words ≡ p.totals.words
  pub conclusions : r.totals.conclusions ≡ p.totals.conclusions + length more
  pub row : Adds (p.totals.rules * kept_width) (r.totals.rules * kept_width) (n ∷ w ∷ length more ∷ weight ∷ []) rows rows'
  pub put : Adds (p.totals.conclusions * conclusion_width) (r.totals.conclusions * conclusion_width) (gather conclusion_words more) ks ks'

-- in b, part is read from p to r, and where it does not refuse, the rules that it leaves are kept
pub record Goes (part : Part) (s : List ℕ) (b : Block) (p r : Progress) (rules' ws' ks' : List ℕ) : Type 0 where
  pub rules : List Rule
  pub reads : seen s r.cursor (holding rules b) r.totals.words ≡ part (seen s p.cursor b p.totals.words)
  pub kept : r.cursor.refused ≡ None → Kept rules rules' ws' ks' r.totals

-- whatever the block
pub record Within (s : List ℕ) (p r : Progress) : Type 0 where
  pub fewer : left s r.cursor ≤ left s p.cursor
  pub fits : Fits s r.cursor
  pub few : FewKept r.totals
