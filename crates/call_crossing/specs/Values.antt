-- A helper: how the readings and answers of a call cross to a host, as numbers. `unknown_refused` of proofs/Readings says
-- what model makes of an unknown kind; crossing_back has that nothing of an answer is lost.
use Rattle.std.specs.Prelude.{ℕ, eqb, if◌then◌else◌}
use Rattle.model.specs.declared.Answer.{Answer}
use Rattle.model.specs.declared.Mark.{Mark}
use Rattle.model.specs.declared.Mark.TheVariants.{None, Fired, Default, Held as HeldMark}
use Rattle.model.specs.declared.Reading.{Reading}
use Rattle.model.specs.declared.Reading.TheVariants.{Real, Int, Absent}
use Rattle.call_crossing.specs.declared.GrillenhelmReading.{GrillenhelmReading}
use Rattle.call_crossing.specs.declared.GrillenhelmAnswer.{GrillenhelmAnswer}

-- 1 REAL, 2 INT; 0 and every unknown kind are no reading: refused 14 at its index (`unknown_refused`)
abbrev pub reading_of : GrillenhelmReading → Reading
reading_of r = if eqb r.kind 1 then Real r.real else if eqb r.kind 2 then Int r.whole else Absent

abbrev pub mark_number : Mark → ℕ
mark_number None = 0
mark_number Fired = 1
mark_number Default = 2
mark_number HeldMark = 3

abbrev pub answer_of : Answer → GrillenhelmAnswer
answer_of a =
    record { mark = mark_number a.mark; thousandths = a.thousandths.0; sum = a.sum; value = a.value }
