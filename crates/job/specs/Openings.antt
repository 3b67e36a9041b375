-- The six lines that a job begins with. Assumes nothing.
use Rattle.std.specs.Prelude.{◌≡◌, ℕ, List, [], Some}
use Rattle.calendar.specs.declared.month.Month.{Month}
use Rattle.readings.specs.CodeBytes.{code_bytes}
use Rattle.readings.specs.declared.code.MeterCode.{MeterCode}
use Rattle.readings.specs.Sheets.{opened}
use Rattle.job.specs.declared.reader.Reader.{Reader}
use Rattle.job.specs.declared.stop.Stop.{Stop}
use Rattle.job.specs.Jobs.{opening, book_places, job_ending, job_from}
use Rattle.job.specs.Reading.{told}

-- a job text opens a sheet with this code and this month, and its lines from the seventh on decide, whatever room the storage has
abbrev pub Opens : List ℕ → MeterCode → Month → Reader → Type 0
Opens text code month rest =
    ((room : ℕ) → job_ending text room ≡ job_from room book_places 7 (opening (opened (code_bytes code) month.year month.month room)) (told rest))
    × (rest.number ≡ 7)

-- a job text stops so before its seventh line, and no reading is held
abbrev pub StopsEarly : List ℕ → Stop → Type 0
StopsEarly text e = (room : ℕ) → ((job_ending text room).why ≡ Some e) × ((job_ending text room).state.sheet.readings ≡ [])
