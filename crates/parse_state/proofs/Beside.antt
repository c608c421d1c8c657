-- Again and again, whatever the tables beside a reading.
use mathlib.Core.Path.{◌≡◌}
use mathlib.Core.List.{List}
use Prim.Native.Nat.{ℕ, ◌<◌}
use Rattle.model.specs.Keywords.{COMMA}
use Rattle.model.specs.Parse.{Part, advance, repeated, listed}
use Rattle.cursor.specs.declared.Cursor.{Cursor}
use Rattle.cursor.specs.View.{left, Step}
use Rattle.block_tables.specs.declared.Tables.{Tables}
use Rattle.parse_state.specs.declared.ParseState.{ParseState}
use Rattle.parse_state.specs.Reads.{Good}
use Rattle.parse_state.specs.Beside.{Ready, Collects}
use Rattle.parse_state.proofs.Laws as reading

pub record Gathering (k : ℕ) (part : Part) (s : List ℕ) (f₀ f : Tables → ParseState) : Type 0 where
  pub from : Ready s f₀
  pub going : (t : Tables) → Good s (f₀ t) → reading.Going k part s (f₀ t) (f t)

pub ready_after : {part : Part} {s : List ℕ} {f g : Tables → ParseState} → Ready s f → Collects part s f g → Ready s g
ready_after {part} {s} {f} {g} r x = record { tables = r.tables; good = (x r.tables r.good).good }

pub begins : {k : ℕ} {part : Part} {s : List ℕ} {f : Tables → ParseState} → Ready s f → Gathering k part s f f
begins {k} {part} {s} {f} r = record { from = r; going = λ t g. reading.begins k part s (f t) g }

module _ {k : ℕ} {part : Part} {s : List ℕ} {f₀ f : Tables → ParseState} (g : Gathering k part s f₀ f) where
  pub gathered : Ready s f
  gathered = record { tables = g.from.tables; good = (g.going g.from.tables g.from.good).1 }

  pub goes : {h : Tables → ParseState} → ((t : Tables) → (f t).cursor.kind ≡ k) → Collects part s f h
      → ((t : Tables) → left s (h t).cursor < left s (f t).cursor) → Gathering k part s f₀ h
  goes {h} e x m = record {
    from = g.from;
    going = λ t y. let z = g.going t y in reading.goes k part s (f₀ t) (f t) (h t) z (e t) (x t z.1) (m t);
  }

  pub leaves : {h : Tables → ParseState} → Collects part s h f₀ → ((t : Tables) → (f t).cursor.kind ≡ k → ⊥)
      → Collects (λ r. repeated k part (part r)) s h f
  leaves {h} x e = λ t y. let w = x t y in reading.next w (reading.leaves k part s (f₀ t) (f t) (g.going t w.good) (e t))

-- part, and part again after each comma
module _ {part : Part} {s : List ℕ} {f₀ f : Tables → ParseState} (g : Gathering COMMA (λ r. reading.again part s r) s f₀ f) where
  pub list_goes : {h : Tables → ParseState} (d : Cursor) → ((t : Tables) → (f t).cursor.kind ≡ COMMA) → ((t : Tables) → Step advance s (f t).cursor d)
      → ((t : Tables) → left s d < left s (f t).cursor) → Collects part s (λ t. reading.at d (f t).tables) h
      → Gathering COMMA (λ r. reading.again part s r) s f₀ h
  list_goes {h} d e a m x = record {
    from = g.from;
    going = λ t y. let z = g.going t y in
        reading.list_goes part s (f₀ t) (f t) (h t) d z (e t) (a t) (m t) (x t (record { fits = (a t).fits; holds = z.1.holds }));
  }

  pub list_leaves : {h : Tables → ParseState} → Collects part s h f₀ → ((t : Tables) → (f t).cursor.kind ≡ COMMA → ⊥) → Collects (listed part) s h f
  list_leaves {h} x e = λ t y. let w = x t y in reading.list_leaves part s (h t) (f₀ t) (f t) w (g.going t w.good) (e t)

-- one or more, the first still ahead
pub record Turns (k : ℕ) (part : Part) (s : List ℕ) (f₀ f : Tables → ParseState) : Type 0 where
  pub from : Ready s f₀
  pub turning : (t : Tables) → Good s (f₀ t) → reading.Turning k part s (f₀ t) (f t)

pub turned : {k : ℕ} {part : Part} {s : List ℕ} {f₀ f : Tables → ParseState} → Turns k part s f₀ f → Ready s f
turned g = record { tables = g.from.tables; good = (g.turning g.from.tables g.from.good).0 }

-- the same where a loop tests at its end
pub record Leads (k : ℕ) (part : Part) (s : List ℕ) (f₀ f : Tables → ParseState) : Type 0 where
  pub from : Ready s f₀
  pub leading : (t : Tables) → Good s (f₀ t) → reading.Leading k part s (f₀ t) (f t)

pub led : {k : ℕ} {part : Part} {s : List ℕ} {f₀ f : Tables → ParseState} → Leads k part s f₀ f → Ready s f
led g = record { tables = g.from.tables; good = (g.leading g.from.tables g.from.good).0 }
