-- How a job goes on from line to line. Assumes nothing.
use Rattle.std.proofs.Common.{◌≡◌, ℕ, ◌≤◌, List, [], ◌∷◌, None, Option, ap, ◌∙◌}
use Rattle.std.proofs.lemmas.Bool.{lt-leb, cond-false}
use Rattle.calendar.specs.declared.refusal.Refusal.TheVariants.{MalformedLine}
use Rattle.job.specs.declared.stop.Stop.TheVariants.{Refused}
use Rattle.job.specs.Jobs.{JobState, ending, job_from, Stops}
use Rattle.job.specs.Statements.{Says}

-- a line that is not of the form stops the job
pub malformed_stops : (n : ℕ) (lines more : List (Option Says)) → lines ≡ None ∷ more → Stops n lines (Refused MalformedLine n)
malformed_stops n lines more e room places s =
    (ap (λ ls. (job_from room places n s ls).why) e, ap (λ ls. (job_from room places n s ls).state.sheet.readings) e)

-- a job that ends from its seventh line on leaves what it holds
pub ends : (n : ℕ) (lines : List (Option Says)) → lines ≡ [] → 7 ≤ n → (room places : ℕ) (s : JobState) → job_from room places n s lines ≡ ending s None
ends n lines e h room places s = ap (job_from room places n s) e ∙ ap (ending s) (cond-false _ _ _ (lt-leb n 6 h))
