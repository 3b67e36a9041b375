-- How a job goes on from its first lines. Assumes nothing.
use Rattle.std.proofs.Common.{◌≡◌, ℕ, ◌≤◌, List, [], ◌∷◌, length, Some, None, Ok, Err, Option, Result, ap, ◌∙◌}
use Rattle.std.proofs.lemmas.Bool.{le-ltb, cond-false}
use Rattle.calendar.specs.Gregorian.{month_refusal}
use Rattle.calendar.specs.declared.refusal.Refusal.{Refusal}
use Rattle.readings.specs.Codes.{code_refusal}
use Rattle.readings.specs.Sheets.{opened}
use Rattle.job.specs.declared.stop.Stop.{Stop}
use Rattle.job.specs.JobLines.{said}
use Rattle.job.specs.Jobs.{JobState, opening, book_places, Ending, ending, job_from, job_ending, unless}
use Rattle.job.specs.Statements.{Says, code, month}

module _ (room : ℕ) where
  -- the job goes on so, where it is granted
  abbrev going : JobState → ℕ → List (Option Says) → Result JobState Stop → Ending
  going s n lines r = elim r [ Ok t ↦ job_from room book_places n t lines | Err e ↦ ending s (Some e) ]

  -- a code line that is granted
  pub after_code : (xs bytes : List ℕ) (more : List (Option Says)) → length xs ≤ 60000 → said xs ≡ Some (code bytes) ∷ more → code_refusal bytes ≡ None → job_ending xs room ≡ job_from room book_places 2 (opening (opened bytes 0 0 room)) more
  after_code xs bytes more short first a_code =
      cond-false _ _ _ (le-ltb 60000 (length xs) short)
      ∙ (ap (job_from room book_places 1 (opening (opened [] 0 0 room))) first
      ∙ ap (λ (o : Option Refusal). going (opening (opened [] 0 0 room)) 2 more (unless 1 o (opening (opened bytes 0 0 room)))) a_code)

  -- and a month line that is granted
  pub after_month : (bytes : List ℕ) (year number : ℕ) (more rest : List (Option Says)) → more ≡ Some (month year number) ∷ rest → month_refusal year number ≡ None → job_from room book_places 2 (opening (opened bytes 0 0 room)) more ≡ job_from room book_places 3 (opening (opened bytes year number room)) rest
  after_month bytes year number more rest second granted =
      ap (job_from room book_places 2 (opening (opened bytes 0 0 room))) second
      ∙ ap (λ (o : Option Refusal). going (opening (opened bytes 0 0 room)) 3 rest (unless 2 o (opening (opened bytes year number room)))) granted
