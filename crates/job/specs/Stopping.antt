-- Why a job stops. Assumes nothing.
use Rattle.std.specs.Prelude.{ℕ, Ok, Err, Result}
use Rattle.calendar.specs.declared.refusal.Refusal.{Refusal}
use Rattle.job.specs.declared.stop.Stop.{Stop}
use Rattle.job.specs.declared.stop.Stop.TheVariants.{Refused}

-- a refusal that names no line
abbrev pub refused_whole : Refusal → Stop
refused_whole e = Refused e 0

-- what was made of line n, whose refusal names it
abbrev pub naming : {T : Type 0} → ℕ → Result T Refusal → Result T Stop
naming n (Ok v) = Ok v
naming n (Err e) = Err (Refused e n)
