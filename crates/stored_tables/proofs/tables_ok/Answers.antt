use Rattle.std.proofs.Common.{sym, ◌∙◌}
use Rattle.layout.proofs.Within.{holds}
use Rattle.stored_tables.proofs.tables_ok.Goals as goal

pub invariant_of-stored : goal.invariant_of-stored
invariant_of-stored c =
    let heads = c.requires.0 in
    record { heads = heads; covers = holds _ c.requires.1 (sym c.header_ok.ensures ∙ c.if-not-header_ok.false) _ heads }
