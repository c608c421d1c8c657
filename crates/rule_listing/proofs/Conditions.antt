-- Where the condition of a rule lies in an accepted image.
use mathlib.Core.Path.{◌≡◌, sym, ◌∙◌}
use Prim.Native.Nat.{ℕ, ◌+◌, ◌<◌}
use Rattle.model.specs.Basic.{tab}
use Rattle.model.specs.Image.{postfix, rule_at, RULES, WORD_TABLE}
use Rattle.laws.proofs.Places.{same_eq, tab_from}
use Rattle.layout.specs.Tables.{word_count, condition_exact}
use Rattle.layout.specs.Groups.{Sound}
use Rattle.layout.proofs.Parts.{word_first}
use Rattle.layout.proofs.Rules.{condition_exact_lem}
use Rattle.operator_listing.specs.Spans.{Spans}
use Rattle.operator_listing.proofs.Spans.{spans_words}

module _ (w : ℕ → ℕ) (ok : Sound w) (i : ℕ) (h : i < w RULES) where
  words_are : tab w (word_count w i) (w WORD_TABLE + word_first w i) ≡ postfix (rule_at w i).condition
  unfolding condition_exact
  words_are = sym (tab_from w (w WORD_TABLE) (word_count w i) (word_first w i)) ∙ same_eq _ _ (condition_exact_lem w ok i h)

  -- by the words that the code reads
  pub rule_spans : (d n : ℕ) → d ≡ w WORD_TABLE + word_first w i → n ≡ word_count w i → Spans w d (d + n) (rule_at w i).condition
  rule_spans d n ed en = spans_words w d n (rule_at w i).condition (rw (ed, en) words_are)
