-- A job text as it is read, line by line. Assumes nothing.
use Rattle.std.specs.Prelude.{◌≡◌, ◌+◌, ◌<◌, List, ◌∷◌, length, Some, Option}
use Rattle.job.specs.declared.reader.Reader.{Reader}
use Rattle.job.specs.declared.stop.Stop.{Stop}
use Rattle.job.specs.JobLines.{said}
use Rattle.job.specs.Jobs.{Goes, Stops}
use Rattle.job.specs.Statements.{Says}

-- what the lines say that are still to be read
abbrev pub told : Reader → List (Option Says)
told r = said r.text.now

-- the next line says this, and the rest is left
abbrev pub Reads : Reader → Says → Reader → Type 0
Reads r s rest = (told r ≡ Some s ∷ told rest) × (rest.number ≡ r.number + 1) × (length rest.text.now < length r.text.now)

-- the next line changes nothing that a job holds, and the rest decides
abbrev pub GoesOn : Reader → Reader → Type 0
GoesOn r rest = Goes r.number (told r) (r.number + 1) (told rest) × (rest.number ≡ r.number + 1) × (length rest.text.now < length r.text.now)

-- a job stops so at what is still to be read, and adds no reading
abbrev pub StopsAt : Reader → Stop → Type 0
StopsAt r e = Stops r.number (told r) e
