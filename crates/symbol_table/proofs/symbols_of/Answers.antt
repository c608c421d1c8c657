use mathlib.Core.Path.{refl}
use native.Mathlib.Omega.{arith}
use borrow.Author.Rules.{rules}
use lib.ListN.{length-set}
use Rattle.symbol_table.specs.Firsts.{terms_at}
use Rattle.symbol_table.proofs.Laws as laws
use Rattle.symbol_table.proofs.Sums as sums
use Rattle.symbol_table.proofs.symbols_of.Goals as goal

pub loop-v-init : goal.loop-v-init
loop-v-init c = record { size = search rules; small = omega arith; firsts = laws.firsts_none _ _ refl }

pub overflow_add-r : goal.overflow_add-r
overflow_add-r c =
    let l = c.loop-v in
    omega (arith, l.invariant.small, c.terms_at.ensures, laws.most c.args.t.now c.requires.0 c.requires.1 l.v)

pub loop-v-preserved : goal.loop-v-preserved
loop-v-preserved c =
    let l = c.loop-v in
    let i = l.invariant in
    let m = laws.most c.args.t.now c.requires.0 c.requires.1 l.v in
    record {
      size = simp length-set i.size;
      small = laws.bounded l.r l.v _ i.size (omega arith) i.small (omega (arith, c.terms_at.ensures, m));
      firsts = sums.firsts_more l.r l.v _ i.size (omega arith) (terms_at c.args.t.now) i.firsts c.terms_at.ensures;
    }

pub returns : goal.returns
returns c =
    let l = c.loop-v in
    let i = l.invariant in
    laws.closed_is c.args.t.now l.r i.size (record { first = λ v h. i.firsts.first v (omega arith) })
