use Rattle.std.proofs.Common.{◌≡◌, ◌+◌, ◌*◌, ◌-◌, ◌≤◌, ◌<◌, Bool, ℕ}
use Rattle.stored_tables.specs.Tests.{up_to}
use Rattle.stored_tables.proofs.end_of.Given as goal

abbrev pub invariant-loop-i : goal.invariant-loop-i
invariant-loop-i g l =
    record {
      small : l.next ≤ 4294967295 + l.i * 4294967295;
      same : (t : ℕ → ℕ → Bool) (c : ℕ → ℕ) → ((i n : ℕ) (b : Bool) → i < l.i-end → goal.T-post g l.is_laid i n b → b ≡ t i n)
          → ((i n : ℕ) → i < l.i-end → goal.C-post g l.count i n → n ≡ c i)
          → up_to t c (l.i-end - l.i) l.i l.next ≡ up_to t c (l.fn.rows.end - l.fn.rows.start) l.fn.rows.start l.fn.first;
    }
