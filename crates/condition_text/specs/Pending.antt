-- A helper: what reading a condition adds: the rules' reading of its text, and its words in postfix order.
-- `ReadsCondition` ties both to the model's `ConditionRead` and `postfix`.
use Rattle.std.specs.Prelude.{None, ◌≡◌, List, [], ◌∷◌, ℕ, ◌+◌, ◌≤◌, ◌<◌, length, take}
use Rattle.std.proofs.lemmas.List.Edits.{sets}
use Rattle.model.specs.Bounds.{word_limit}
use Rattle.model.specs.Block.{Block}
use Rattle.model.specs.Rules.{ConditionRead}
use Rattle.model.specs.Image.{postfix}
use Rattle.cursor.specs.View.{seen, Fits, left}
use Rattle.symbol_table.specs.declared.Declarations.{Declarations}
use Rattle.symbol_table.specs.Declarations.{Declares}
use Rattle.condition_text.specs.declared.Pending.{Pending}

-- some block declares these names, so that what is said of every such block is said of one
pub record Declared (d : Declarations) : Type 0 where
  pub block : Block
  pub describes : Declares d block

-- no more words are put than counted, and none past the limit
pub record Room (s : List ℕ) (p : Pending) : Type 0 where
  pub fits : Fits s p.cursor
  pub put : p.put ≤ p.words
  pub words : p.words ≤ word_limit

-- the words ws are stored from place m on, and then there are n
pub record Adds (m n : ℕ) (ws old new : List ℕ) : Type 0 where
  pub put : n ≡ m + length ws
  pub said : new ≡ sets old m ws

-- in block b, the rules read g from p on, and where they do not refuse, its words are put
pub record ReadsCondition (s : List ℕ) (b : Block) (p r : Pending) (g : ConditionRead) (old new : List ℕ) : Type 0 where
  pub seen : seen s r.cursor b r.words ≡ g.parse
  pub adds : r.cursor.refused ≡ None → Adds p.put r.put (postfix g.tree) old new

-- whatever the block: a refusal stays, the words before p stay, and as many words are put as counted, and k more
pub record Balanced (s : List ℕ) (k : ℕ) (p r : Pending) (old new : List ℕ) : Type 0 where
  pub fewer : left s r.cursor ≤ left s p.cursor
  pub room : Room s r
  pub sticky : r.cursor.refused ≡ None → p.cursor.refused ≡ None
  pub even : r.cursor.refused ≡ None → r.words + p.put + k ≡ p.words + r.put
  pub grows : p.put ≤ r.put
  pub stays : take p.put new ≡ take p.put old

-- r is refused
pub record Stops (p r : Pending) : Type 0 where
  pub why : r.cursor.refused ≡ None → ⊥
  pub words : r.words ≡ p.words
  pub put : r.put ≡ p.put

-- the current token is counted
pub record Counts (s : List ℕ) (p r : Pending) : Type 0 where
  pub fewer : left s r.cursor < left s p.cursor
  pub room : Room s r
  pub words : r.cursor.refused ≡ None → r.words ≡ p.words + 1
  pub put : r.put ≡ p.put

-- where p is not refused, the word w is put
pub record Puts (p r : Pending) (w : ℕ) (old new : List ℕ) : Type 0 where
  pub cursor : r.cursor ≡ p.cursor
  pub words : r.words ≡ p.words
  pub grows : p.put ≤ r.put
  pub most : r.put ≤ r.words
  pub stays : take p.put new ≡ take p.put old
  pub adds : p.cursor.refused ≡ None → Adds p.put r.put (w ∷ []) old new
