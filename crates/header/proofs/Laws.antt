-- The numbers of a header fit in 32 bits.
use Prim.Native.Nat.{ℕ, ◌≤◌}
use Rattle.header.specs.declared.Table.{Table}
use Rattle.header.specs.declared.Header.{Header}
use Rattle.header.specs.Header.{IsTable, Heads}

pub record SmallTable {WIDTH : ℕ} (t : Table WIDTH) : Type 0 where
  pub rows : t.rows ≤ 4294967295
  pub start : t.start ≤ 4294967295

pub record Small (h : Header) : Type 0 where
  pub inputs : SmallTable h.inputs
  pub outputs : SmallTable h.outputs
  pub terms : SmallTable h.terms
  pub points : SmallTable h.points
  pub rules : SmallTable h.rules
  pub words : SmallTable h.words
  pub conclusions : SmallTable h.conclusions

module _ {w : ℕ → ℕ} where
  small_table : {WIDTH : ℕ} {t : Table WIDTH} (n o : ℕ) → ((i : ℕ) → w i ≤ 4294967295) → IsTable w n o t → SmallTable t
  small_table n o fits e = record { rows = rw e.rows (fits n); start = rw e.start (fits o) }

  pub small : {h : Header} → Heads w h → Small h
  small e =
      record {
        inputs = small_table 2 9 e.fits e.inputs;
        outputs = small_table 3 10 e.fits e.outputs;
        terms = small_table 4 11 e.fits e.terms;
        points = small_table 5 12 e.fits e.points;
        rules = small_table 6 13 e.fits e.rules;
        words = small_table 7 14 e.fits e.words;
        conclusions = small_table 8 15 e.fits e.conclusions;
      }
