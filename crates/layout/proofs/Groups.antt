-- The number of bytes and the three groups of tests are what the load check has to test.
use mathlib.Core.Path.{◌≡◌, ◌∙◌}
use mathlib.Core.List.{List, [], ◌∷◌}
use mathlib.Core.Bool.{Bool, true, ◌&&◌}
use Prim.Native.Nat.{ℕ, ◌*◌, ◌<◌}
use lib.Dec.{eqb}
use lib.ListN.{length, get_or}
use Rattle.model.specs.Basic.{every}
use Rattle.model.specs.WellFormed.{well_formed}
use Rattle.model.specs.Image.{word_at, decode, is_image_of}
use Rattle.laws.proofs.Tests.{both, and_i, passed, pass, iff}
use Rattle.layout.specs.Groups.{tables_ok, variables_ok, rules_ok}
use Rattle.layout.proofs.Bytes.{image_tests}
use Rattle.layout.proofs.Shape.{shape_ok, counts_ok}

abbrev pub grouped : List ℕ → List Bool
grouped img = eqb (length img) (word_at img 1 * 4) ∷ tables_ok (word_at img) ∷ variables_ok (word_at img) ∷ rules_ok (word_at img) ∷ []

module _ (img : List ℕ) where
  abbrev whole : Bool
  whole = well_formed (decode (word_at img)) && (eqb (length img) (word_at img 1 * 4) && shape_ok (word_at img))

  to : whole ≡ true → every (grouped img) ≡ true
  unfolding well_formed shape_ok counts_ok tables_ok variables_ok rules_ok
  to h =
      let a = both (well_formed (decode (word_at img))) (eqb (length img) (word_at img 1 * 4) && shape_ok (word_at img)) h in
      let f = passed _ a.0 in
      let b = both (eqb (length img) (word_at img 1 * 4)) (shape_ok (word_at img)) a.1 in
      let s = passed _ b.1 in
      let c = passed _ s.1.1.1.1.1.1.1.1.0 in
      let r = f.1.1.1.1.1.1.1 in
      pass _ (
        b.0,
        (
          pass _ (s.0, (s.1.0, (s.1.1.0, (s.1.1.1.0, (s.1.1.1.1.0, (s.1.1.1.1.1.0, (c.0, (c.1.0, tt)))))))),
          (
            pass _ (f.0, (f.1.0, (f.1.1.0, (f.1.1.1.0, (f.1.1.1.1.0, (f.1.1.1.1.1.0, (f.1.1.1.1.1.1.0, tt))))))),
            (
              pass _ (
                s.1.1.1.1.1.1.0,
                (s.1.1.1.1.1.1.1.0, (c.1.1.0, (c.1.1.1.0, (r.0, (r.1.0, (r.1.1.0, (r.1.1.1.0, (r.1.1.1.1.0, tt)))))))),
              ),
              tt,
            ),
          ),
        ),
      )

  from : every (grouped img) ≡ true → whole ≡ true
  unfolding well_formed shape_ok counts_ok tables_ok variables_ok rules_ok
  from h =
      let g = passed _ h in
      let s = passed _ g.1.0 in
      let v = passed _ g.1.1.0 in
      let r = passed _ g.1.1.1.0 in
      let q = r.1.1.1.1 in
      and_i _ _
      (pass _ (v.0, (v.1.0, (v.1.1.0, (v.1.1.1.0, (v.1.1.1.1.0, (v.1.1.1.1.1.0, (v.1.1.1.1.1.1.0, q)))))))) (and_i _ _ g.0
      (pass _ (
        s.0,
        (
          s.1.0,
          (
            s.1.1.0,
            (
              s.1.1.1.0,
              (
                s.1.1.1.1.0,
                (
                  s.1.1.1.1.1.0,
                  (
                    r.0,
                    (
                      r.1.0,
                      (pass _ (s.1.1.1.1.1.1.0, (s.1.1.1.1.1.1.1.0, (r.1.1.0, (r.1.1.1.0, tt)))), tt),
                    ),
                  ),
                ),
              ),
            ),
          ),
        ),
      )))

pub groups : (img : List ℕ) → ((k : ℕ) → get_or img k 0 < 256) → is_image_of img (decode (word_at img)) ≡ every (grouped img)
groups img f = image_tests img f ∙ iff (whole img) (every (grouped img)) (to img) (from img)
