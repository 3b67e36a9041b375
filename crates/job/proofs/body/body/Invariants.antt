use Rattle.std.proofs.Common.{◌≡◌, ℕ, ◌≤◌, length}
use Rattle.job.specs.JobModels.{Keeps, book_room, ends_over, job_model}
use Rattle.job.specs.Jobs.{job_from}
use Rattle.job.specs.Reading.{told}
use Rattle.job.proofs.body.body.Given as goal

-- what is left of the text decides over what sheet and book hold
abbrev pub invariant-loop-rest : goal.invariant-loop-rest
invariant-loop-rest l =
    record {
      decides : (room : ℕ) → job_from room (book_room l.initial.off_peak) l.rest.number (job_model l.sheet l.off_peak) (told l.rest) ≡ ends_over room l.initial.sheet l.initial.off_peak l.reader;
      later : 7 ≤ l.rest.number;
      keeps : Keeps l.initial.sheet l.initial.off_peak l.sheet l.off_peak;
    }

abbrev pub decreases-loop-rest : goal.decreases-loop-rest
decreases-loop-rest l = length l.rest.text.now
