use mathlib.Core.Path.{◌≡◌, refl, ap, ◌∙◌}
use mathlib.Core.List.{[], ◌∷◌}
use Prim.Native.Nat.{ℕ, ◌-◌}
use native.Mathlib.Omega.{arith}
use lib.ListN.{length}
use Rattle.model.specs.Block.{with_weight}
use Rattle.model.specs.Keywords.{SEMICOLON}
use Rattle.model.specs.Parse.{expect, listed}
use Rattle.model.specs.Rules.{conclusion, weighted}
use Rattle.rule_text.specs.Progress.{midst, gives}
use Rattle.rule_text.proofs.Laws as laws
use Rattle.rule_text.proofs.rule_given.Goals as goal

pub returns : goal.returns
returns c =
    let p = c.args.p in
    let a = c.expect.ensures.step in
    let l = c.conclusion_list-q.ensures in
    let w = c.weighted-x.ensures in
    let z = c.expect-2.ensures.step in
    let v = c.weighted-x.result.weight.0 in
    record {
      ends_rule = (λ b rs q d n h.
          let x = l.concludes b rs q p.totals.words d n in
          let y = gives x.more q in
          let e : c.conclusion_list-q.result.count - p.totals.conclusions ≡ length x.more = let u = x.count in omega arith in
          record {
            more = x.more;
            weight = v;
            reads =
                z.reads (midst b rs (with_weight v y)) p.totals.words
                ∙ ap (expect SEMICOLON) (w.m_value b rs y p.totals.words h
                ∙ ap weighted (x.reads ∙ ap (listed conclusion) (a.reads (midst b rs q) p.totals.words)));
            rules = refl;
            words = refl;
            conclusions = x.count;
            row = laws.same_words refl (ap (λ (i : ℕ). c.args.number ∷ c.args.words ∷ i ∷ v ∷ []) e) c.put_row.ensures;
            put = x.put;
          });
      within = record {
        fewer = omega (arith, a.fewer, l.onward.fewer, w.within.0, z.fewer);
        fits = z.fits;
        few = record { rules = omega (arith, c.requires.2); words = c.requires.1.words; conclusions = l.onward.count };
      };
    }
