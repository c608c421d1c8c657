-- A helper: the names and symbols of a text say what a block declares. `describes` of proofs/Laws has it of those of
-- the tables that stand for a block of the model.
use Rattle.model.specs.Block.{Block}
use Rattle.symbol_table.specs.declared.Declarations.{Declarations}
use Rattle.symbol_table.specs.Symbols.{Describes}

abbrev pub Declares : Declarations → Block → Type 0
Declares d b = Describes d.text.now d.names.now d.symbols.now b
