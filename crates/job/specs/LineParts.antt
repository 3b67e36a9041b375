-- What the borrowed parts of a line hold. Assumes nothing.
use Rattle.job.specs.declared.line.Line.{Line}
use Rattle.job.specs.declared.line.Line.TheVariants.{Keyed, Run, Call, Malformed}
use Rattle.job.specs.declared.line.Four.{Four}
use Rattle.job.specs.Lines.{LineParts, keyed, run, call, malformed, FourParts}

abbrev pub four_parts : Four → FourParts
four_parts f = record { first = f.first.now; second = f.second.now; third = f.third.now; fourth = f.fourth.now }

abbrev pub line_parts : Line → LineParts
line_parts (Keyed key value) = keyed key.now value.now
line_parts (Run count demand) = run count.now demand.now
line_parts (Call date kind start hours) = call date.now kind.now start.now hours.now
line_parts (Malformed bytes) = malformed bytes.now
