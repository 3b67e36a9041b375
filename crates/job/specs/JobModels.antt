-- What the sheet and the book of a job hold, and what its lines make of them. Assumes nothing.
use Rattle.std.specs.Prelude.{◌≡◌, ℕ, ◌+◌, ◌<◌, ◌≤◌, length, None}
use Rattle.books.specs.BookModels.{book_entries, book_storage}
use Rattle.books.specs.declared.book.Book.{Book}
use Rattle.books.specs.declared.off_peak.OffPeakDay.{OffPeakDay}
use Rattle.readings.specs.declared.sheet.Sheet.{Sheet}
use Rattle.readings.specs.SheetModels.{KeepsStorage, sheet_model, sheet_held}
use Rattle.job.specs.declared.reader.Reader.{Reader}
use Rattle.job.specs.declared.stop.Stop.{Stop}
use Rattle.job.specs.Jobs.{JobState, Ending, ending, job_from, Halts}
use Rattle.job.specs.Reading.{told}

abbrev pub job_model : Sheet → Book OffPeakDay → JobState
job_model sheet book = record { sheet = sheet_model sheet; off_peak = book_entries book }

-- how many places a book has
abbrev pub book_room : Book OffPeakDay → ℕ
book_room book = length (book_storage book)

-- the sheet keeps its storage and drops no reading, and the book has as many places as before
pub record Keeps (s : Sheet) (b : Book OffPeakDay) (t : Sheet) (d : Book OffPeakDay) : Type 0 where
  pub storage : KeepsStorage s t
  pub grows : sheet_held s ≤ sheet_held t
  pub places : book_room d ≡ book_room b

-- how the lines of a reader end over a sheet and a book, in storage with so much room
abbrev pub ends_over : ℕ → Sheet → Book OffPeakDay → Reader → Ending
ends_over room s b r = job_from room (book_room b) r.number (job_model s b) (told r)

-- a line is carried out, and the lines behind it decide over what sheet and book then hold
abbrev pub LeadsTo : Sheet → Book OffPeakDay → Reader → Sheet → Book OffPeakDay → Reader → Type 0
LeadsTo s b r t d rest =
    ((room : ℕ) → ends_over room s b r ≡ job_from room (book_room b) (r.number + 1) (job_model t d) (told rest))
    × (rest.number ≡ r.number + 1)
    × (length rest.text.now < length r.text.now)

-- the lines stop the job so, with the readings that the sheet then has
abbrev pub HaltsAt : Sheet → Book OffPeakDay → Reader → Sheet → Stop → Type 0
HaltsAt s b r t e = (room : ℕ) → Halts (ends_over room s b r) (sheet_model t) e

-- the lines are all carried out, and leave what sheet and book then hold
abbrev pub EndsAs : Sheet → Book OffPeakDay → Reader → Sheet → Book OffPeakDay → Type 0
EndsAs s b r t d = (room : ℕ) → ends_over room s b r ≡ ending (job_model t d) None
