use mathlib.Core.Path.{◌≡◌, refl, sym, ap, ◌∙◌}
use mathlib.Core.List.{[], ◌∷◌, ◌++◌}
use Prim.Native.Nat.{ℕ, ◌-◌}
use lib.ListN.{length}
use native.Mathlib.Omega.{arith}
use Rattle.model.specs.Bounds.{depth_limit}
use Rattle.model.specs.Block.{with_weight}
use Rattle.model.specs.Keywords.{COLON, IF}
use Rattle.model.specs.Parse.{expect}
use Rattle.model.specs.Rules.{condition_with, parenthesis}
use Rattle.model.specs.Tokens.{decimal}
use Rattle.cursor.specs.View.{seen, text_of}
use Rattle.cursor.proofs.Laws.{steps, was_refused, stands}
use Rattle.rule_text.specs.Progress.{gives}
use Rattle.rule_text.proofs.Laws as laws
use Rattle.rule_text.proofs.rule_from.Goals as goal

pub returns-then-is_some : goal.returns-then-is_some
returns-then-is_some c =
    let s = c.args.d.now.text.now in
    let p = c.args.p in
    let n = c.rule_number-n.ensures in
    let a = steps c.expect-e.ensures.step c.expect-f.ensures.step in
    let q = c.condition-q.ensures in
    record {
      goes = (λ b d k.
          let f = a.reads b p.totals.words ∙ ap (λ y. expect IF (expect COLON y))
          (n.m_value b p.totals.words (record { rows = k.stored.rows; count = k.rules_count })) in
          record {
            rules = b.rules;
            reads = sym (laws.from_number s p.cursor _ b p.totals.words f
                ∙ laws.given_lost s _ b _ _ _ q.within.room.fits (was_refused c.is_some.ensures c.if-is_some.true) (q.reads_condition b d).seen);
            kept = λ h. absurd (was_refused c.is_some.ensures c.if-is_some.true h);
          });
      within = record {
        fewer = omega (arith, n.within.0, a.fewer, q.within.fewer);
        fits = q.within.room.fits;
        few = record { rules = c.requires.1.rules; words = q.within.room.words; conclusions = c.requires.1.conclusions };
      };
    }

pub returns : goal.returns
returns c =
    let s = c.args.d.now.text.now in
    let p = c.args.p in
    let m = p.totals.words in
    let n = c.rule_number-n.ensures in
    let x = decimal (text_of s p.cursor) in
    let a = steps c.expect-e.ensures.step c.expect-f.ensures.step in
    let q = c.condition-q.ensures in
    let h = stands c.is_some.ensures c.if-is_some.false in
    let w = c.condition-q.result.put - m in
    let r = c.rule_given.result in
    record {
      goes = (λ b d k.
          let f = a.reads b m ∙ ap (λ y. expect IF (expect COLON y)) (n.m_value b m (record { rows = k.stored.rows; count = k.rules_count })) in
          let g = condition_with (parenthesis depth_limit) (seen s c.expect-f.result b m) in
          let e = c.rule_given.ensures.ends_rule b b.rules (laws.begun x g.tree) d (laws.begun_count b.rules x _ g.tree k.conclusions_count) refl in
          let v : c.condition-q.result.put ≡ r.totals.words = let i = q.within.even h in let j = e.words in omega arith in
          record {
            rules = b.rules ++ (with_weight e.weight (gives e.more (laws.begun x g.tree)) ∷ []);
            reads = e.reads ∙ sym (laws.from_number s p.cursor _ b m f ∙ laws.given_begun s _ b _ _ g h (q.reads_condition b d).seen);
            kept = λ _. laws.keeps b.rules _ _ _ _ _ _ p.totals r.totals k x _ _ g.tree e.more c.rule_given.ensures.within.few
                e.rules e.conclusions
                (laws.same_words refl (ap (λ (i : ℕ). i ∷ w ∷ length e.more ∷ e.weight ∷ []) (n.within.2 (a.sticky (q.within.sticky h)))) e.row)
                (omega arith)
                (laws.same_words v refl ((q.reads_condition b d).adds h)) e.put;
          });
      within = record {
        fewer = omega (arith, n.within.0, a.fewer, q.within.fewer, c.rule_given.ensures.within.fewer);
        fits = c.rule_given.ensures.within.fits;
        few =
            c.rule_given.ensures.within.few;
      };
    }
