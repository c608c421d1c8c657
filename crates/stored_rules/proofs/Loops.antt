-- One turn of each loop.
use mathlib.Core.Path.{◌≡◌}
use mathlib.Core.Bool.{true, false, ◌&&◌}
use Prim.Native.Nat.{ℕ, suc, ◌+◌, ◌-◌, ◌≤◌, ◌<◌}
use native.Mathlib.Omega.{arith}
use native.Mathlib.Numerals.{add-one}
use lib.Dec.{eqb}
use Rattle.layout.specs.Tables.{word_count, conclusion_count}
use Rattle.rule_rows.specs.Rows.{row_stored}
use Rattle.stored_rules.specs.Walk.{rules_walk}
use Rattle.model.specs.Image.{CONCLUSIONS, WORDS}

module _ (w : ℕ → ℕ) (e i n k : ℕ) where
  pub walk_more : (a b : ℕ) → a ≡ n + word_count w i → b ≡ k + conclusion_count w i → i < e → row_stored w i n k ≡ true
      → rules_walk w (e - i) i n k ≡ rules_walk w (e - (i + 1)) (i + 1) a b
  unfolding rules_walk
  walk_more a b ea eb h q =
      let s : e - i ≡ suc (e - (i + 1)) = omega arith in
      rw (s, ea, eb) (simp (q, add-one))

  pub walk_stop : i < e → row_stored w i n k ≡ false → rules_walk w (e - i) i n k ≡ false
  unfolding rules_walk
  walk_stop h q = let s : e - i ≡ suc (e - (i + 1)) = omega arith in rw s (simp q)

  pub walk_end : e ≤ i → rules_walk w (e - i) i n k ≡ eqb n (w WORDS) && eqb k (w CONCLUSIONS)
  unfolding rules_walk
  walk_end h = let s : e - i ≡ 0 = omega arith in rw s
