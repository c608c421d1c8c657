use Prim.Native.Nat.{◌+◌, ◌*◌}
use lib.ListN.{get_or}
use native.Mathlib.Omega.{arith}
use Rattle.model.specs.Bounds.{input_limit}
use Rattle.rule_text.specs.Progress.{midst}
use Rattle.cursor.proofs.Laws.{never_zero}
use Rattle.rule_text.proofs.Laws as laws
use borrow.Author.Rules.{rules}
use Rattle.rule_text.proofs.concluded_term.Goals as goal

pub returns-in-Err : goal.returns-in-Err
returns-in-Err c = let p = c.args.p in
    let g = c.requires in
    let s = c.args.d.now.text.now in
    let a = c.not_concluded.ensures.by_index s g.0 in
    let z = c.not_concluded.ensures.count in
    record {
      concludes = (λ b rs q m d. laws.concludes_none _ _ a z
          (laws.term_fault s _ _ b d rs q p.cursor m _ (c.in-Err.ensures.by_index s g.0 (midst b rs q) m) (never_zero c.in-Err.fault) _));
      onward = laws.onward_none _ a z (search rules);
    }

pub returns-in_default-term_of-clause-concludes : goal.returns-in_default-term_of-clause-concludes
returns-in_default-term_of-clause-concludes c =
    let p = c.args.p in
    let g = c.requires in
    let s = c.args.d.now.text.now in
    let r = c.not_concluded-in_default-term_of.ensures in
    λ b rs q m d. laws.concludes_none _ _ (r.by_index s g.0) r.count
    (laws.term_unknown s _ _ b d rs q p.cursor m (c.in_default.ensures.by_index s g.0 (midst b rs q) m) _ g.1 _
    c.in_default-term_of.ensures (omega arith))

pub returns-in_default-term_of-clause-onward : goal.returns-in_default-term_of-clause-onward
returns-in_default-term_of-clause-onward c =
    let r = c.not_concluded-in_default-term_of.ensures in
    laws.onward_none _ (r.by_index c.args.d.now.text.now c.requires.0) r.count (search rules)

pub returns : goal.returns
returns c =
    let p = c.args.p in
    let g = c.requires in
    let s = c.args.d.now.text.now in
    let a = c.advance.ensures.step in
    let k = c.in_default.ensures.kind in
    record {
      concludes = (λ b rs q m d. laws.concludes_one m _ _ p _ a
          (laws.term_known s _ _ b d rs q p.cursor m (c.in_default.ensures.by_index s g.0 (midst b rs q) m) _ g.1 _
          c.in-Some.ensures.0 c.in-Some.ensures.1 (g.0.halted (λ z. omega (arith, k)))) _
          (laws.two_put c.args.conclusions.now (p.count * 2) c.args.o (get_or c.args.d.now.symbols.now (input_limit + c.args.o) 0 + c.in-Some.j)));
      onward = record { fewer = a.fewer; fits = a.fits; grows = search rules; count = search rules };
    }
