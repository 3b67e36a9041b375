-- What a job comes to. Assumes nothing.
use Rattle.std.specs.Prelude.{◌≡◌, ℕ, suc, min, cond, List, [], ◌∷◌, ◌++◌, length, drop, Some, None, Ok, Err, Option, Result, ◌==◌, nat_le, nat_lt}
use Rattle.calendar.specs.Gregorian.{month_refusal}
use Rattle.books.specs.OffPeak.{off_peak_answer, after_off_peak}
use Rattle.books.specs.declared.off_peak.OffPeakDay.{OffPeakDay}
use Rattle.calendar.specs.declared.refusal.Refusal.{Refusal}
use Rattle.calendar.specs.declared.refusal.Refusal.TheVariants.{JobTextTooLong, MalformedLine, LineOutOfOrder, JobIncomplete, PrintBufferTooShort}
use Rattle.readings.specs.Codes.{code_refusal}
use Rattle.readings.specs.Runs.{run_answer, after_run}
use Rattle.readings.specs.Sheets.{SheetModel, opened}
use Rattle.tariffs.specs.S3.{s3_meaning}
use Rattle.bill.specs.PrintText.{rendered}
use Rattle.bill.specs.Quotes.{plain_quote}
use Rattle.job.specs.declared.statement.TariffName.{TariffName}
use Rattle.job.specs.declared.statement.TariffName.TheVariants.{H3, L2, S3}
use Rattle.job.specs.declared.stop.Stop.{Stop}
use Rattle.job.specs.declared.stop.Stop.TheVariants as stop
use Rattle.job.specs.JobLines.{said}
use Rattle.job.specs.Statements.{Says, place_of, code, month, tariff, capacities, programme, flexible, lead, off_peak, call_on, run_of}

-- what a job holds so far: its sheet, and the off-peak days that are booked
pub record JobState : Type 0 where
  pub sheet : SheetModel
  pub off_peak : List OffPeakDay

-- a job that opens a sheet has no off-peak day yet
abbrev pub opening : SheetModel → JobState
opening sheet = record { sheet = sheet; off_peak = [] }

-- a step that is refused names its line
abbrev pub unless : ℕ → Option Refusal → JobState → Result JobState Stop
unless n None s = Ok s
unless n (Some e) s = Err (stop.Refused e n)

-- S3 alone is carried out
abbrev pub under : ℕ → TariffName → JobState → Result JobState Stop
under n H3 s = Err (stop.Unsupported n)
under n L2 s = Err (stop.Unsupported n)
under n S3 s = Ok s

-- a step with an answer of its own goes on or is refused
abbrev pub answering : {A : Type 0} → ℕ → Result A Refusal → JobState → Result JobState Stop
answering n (Ok a) s = Ok s
answering n (Err e) s = Err (stop.Refused e n)

-- what the statement of line n makes of a job, over storage with so much room and a book of so many places. Code and month open the
-- sheet; capacities, programme and flex are read for their form alone
abbrev pub step : ℕ → ℕ → ℕ → JobState → Says → Result JobState Stop
step room places n s (code bytes) = unless n (code_refusal bytes) (opening (opened bytes 0 0 room))
step room places n s (month y m) = unless n (month_refusal y m) (opening (opened s.sheet.code y m room))
step room places n s (tariff t) = under n t s
step room places n s (capacities a b c d) = Ok s
step room places n s (programme p) = Ok s
step room places n s (flexible b) = Ok s
step room places n s (lead count demand) = Err (stop.Unsupported n)
step room places n s (off_peak day) = answering n (off_peak_answer s.off_peak places day) (record { sheet = s.sheet; off_peak = after_off_peak s.off_peak places day })
step room places n s (call_on day kind start hours) = Err (stop.Unsupported n)
step room places n s (run_of count demand) = answering n (run_answer s.sheet count demand) (record { sheet = after_run s.sheet count demand; off_peak = s.off_peak })

-- line n is judged by its form, by its place, and then by its step
abbrev pub line_step : ℕ → ℕ → ℕ → JobState → Option Says → Result JobState Stop
line_step room places n s None = Err (stop.Refused MalformedLine n)
line_step room places n s (Some x) = cond (place_of x == min n 7) (step room places n s x) (Err (stop.Refused LineOutOfOrder n))

-- how a job's lines end: with what the job then holds, and why it stopped, if it did
pub record Ending : Type 0 where
  pub state : JobState
  pub why : Option Stop

abbrev pub ending : JobState → Option Stop → Ending
ending s why = record { state = s; why = why }

-- how the lines from line n on end; a job has its six first lines
abbrev pub job_from : ℕ → ℕ → ℕ → JobState → List (Option Says) → Ending
job_from room places n s [] = ending s (cond (nat_le n 6) (Some (stop.Refused JobIncomplete 0)) None)
job_from room places n s (line ∷ more) = elim (line_step room places n s line) [ Ok t ↦ job_from room places (suc n) t more | Err e ↦ ending s (Some e) ]

-- a job's books have 64 places
abbrev pub book_places : ℕ
book_places = 64

-- how a whole job text ends, of at most 60,000 bytes
abbrev pub job_ending : List ℕ → ℕ → Ending
job_ending text room =
    cond (nat_lt 60000 (length text))
    (ending (opening (opened [] 0 0 room)) (Some (stop.Refused JobTextTooLong 0)))
    (job_from room book_places 1 (opening (opened [] 0 0 room)) (said text))

-- what a job holds that did not stop
abbrev pub whole_state : JobState → Option Stop → Result JobState Stop
whole_state s None = Ok s
whole_state s (Some e) = Err e

-- the printed bill of what a job holds, issued with serial 1; a refused quote names line 0
abbrev pub bill_of : JobState → Result (List ℕ) Stop
bill_of s =
    elim (plain_quote s3_meaning s.sheet.year s.sheet.month s.off_peak s.sheet.readings) [
      | Ok items ↦ Ok (rendered 1 s.sheet.code items)
      | Err e ↦ Err (stop.Refused e 0)
    ]

-- a print goes into 512 bytes or more
abbrev pub fitting : ℕ → List ℕ → Result (List ℕ) Stop
fitting room print = cond (nat_lt room 512) (Err (stop.Refused PrintBufferTooShort 0)) (Ok print)

-- one behind the other
abbrev pub and_then : {A B : Type 0} → Result A Stop → (A → Result B Stop) → Result B Stop
and_then (Ok x) next = next x
and_then (Err e) next = Err e

-- what a job that ends so prints into a buffer with so much room, or why it does not
abbrev pub print_of : ℕ → Ending → Result (List ℕ) Stop
print_of room e = and_then (whole_state e.state e.why) (λ s. and_then (bill_of s) (fitting room))

-- what a job prints, over storage and a buffer with so much room, or why it does not
abbrev pub job_print : List ℕ → ℕ → ℕ → Result (List ℕ) Stop
job_print text room print_room = print_of print_room (job_ending text room)

-- how many bytes are printed
abbrev pub printed_bytes : Result (List ℕ) Stop → Result ℕ Stop
printed_bytes (Ok print) = Ok (length print)
printed_bytes (Err e) = Err e

-- what the buffer holds then: the print and behind it what it held, or what it held
abbrev pub buffer_after : Result (List ℕ) Stop → List ℕ → List ℕ
buffer_after (Ok print) held = print ++ drop (length print) held
buffer_after (Err e) held = held

-- what the storage holds then: the readings of the runs that were granted, and behind them what it held
abbrev pub storage_after : Ending → List ℕ → List ℕ
storage_after e held = e.state.sheet.readings ++ drop (length e.state.sheet.readings) held

-- a job stopped for this reason, with the readings of this sheet
abbrev pub Halts : Ending → SheetModel → Stop → Type 0
Halts e s x = (e.why ≡ Some x) × (e.state.sheet.readings ≡ s.readings)

-- a job stops so, from line n with these lines on, whatever it holds, and adds no reading
abbrev pub Stops : ℕ → List (Option Says) → Stop → Type 0
Stops n lines x = (room places : ℕ) (s : JobState) → Halts (job_from room places n s lines) s.sheet x

-- the job from line n with these lines on ends as it ends from line m with those lines on, holding the same
abbrev pub Goes : ℕ → List (Option Says) → ℕ → List (Option Says) → Type 0
Goes n lines m more = (room places : ℕ) (s : JobState) → job_from room places n s lines ≡ job_from room places m s more
