use native.Mathlib.Omega.{arith}
use borrow.Author.Rules.{rules}
use Rattle.symbol_table.proofs.term_of.Goals as goal

pub overflow_sub-symbols : goal.overflow_sub-symbols
overflow_sub-symbols c = omega (arith, c.requires.1.rises _ c.requires.2)

pub find-requires : goal.find-requires
find-requires c = let g = c.requires.1.rises _ c.requires.2 in search rules

pub returns : goal.returns
returns c = let g = c.requires.1.rises _ c.requires.2 in search rules
