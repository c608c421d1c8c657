use native.Mathlib.Omega.{arith}
use lib.ListN.{length-drop}
use Rattle.laws.proofs.Slices.{rest}
use Rattle.tokens.specs.Tokens.{behind}
use Rattle.tokens.proofs.Laws.{carried}
use Rattle.cursor.proofs.Laws as laws
use Rattle.cursor.proofs.advance.Goals as goal

pub returns : goal.returns
returns c =
    let s = c.args.s.now in
    let p = c.args.c in
    let g = c.requires in
    let e = simp rest at c.next-t.ensures in
    let r = behind p.end c.next-t.result in
    let q = carried s p.end c.next-t.result e.rest_value in
    record {
      step = laws.advances s p r g.1 q g.0 (omega (arith, e.within)) (omega (arith, e.within, length-drop p.end s));
      moves = (laws.moves s p r g.1 q, g.0.halted g.1);
    }
