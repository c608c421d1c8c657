use Rattle.std.proofs.Common.{rules, arith}
use lib.Ieee.{nan}
use lib.IntN.{pos}
use Rattle.model.specs.declared.Reading.TheVariants.{Absent}
use Rattle.call_crossing.specs.Values.{reading_of}
use Rattle.call_crossing.specs.declared.GrillenhelmReading.{GrillenhelmReading}
use Rattle.call_crossing.proofs.Arrays.{all_told}
use Rattle.call_crossing.proofs.readings_of.Goals as goal

-- what an element past the end would be
abbrev no_reading : GrillenhelmReading
no_reading = record { kind = 0; real = nan; whole = pos 0 }

pub returns : goal.returns
returns c =
    let m = c.map.ensures.items in
    all_told reading_of no_reading c.args.rs.at c.map.result 8 (omega (arith, c.well_formed)) m.long
    (λ i l. let q = m.at i no_reading Absent l in search rules)
