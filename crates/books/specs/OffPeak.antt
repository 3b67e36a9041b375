-- Off-peak days. Assumes nothing.
use Rattle.std.specs.Prelude.{ℕ, Bool, cond, List, is_some, Some, None, Err, Option, Result, nat_lt}
use Rattle.std.proofs.Math.Decide.{dec_le}
use Rattle.calendar.specs.declared.day.DayKind.{DayKind}
use Rattle.books.specs.declared.off_peak.OffPeakDay.{OffPeakDay}
use Rattle.calendar.specs.declared.refusal.Refusal.{Refusal}
use Rattle.calendar.specs.declared.refusal.Refusal.TheVariants.{DayOutOfRange}
use Rattle.books.specs.Books.{found, booking_answer, after_booking}
use Rattle.calendar.specs.Days.{kind_of}

-- a day after the last day of 2099 is refused
abbrev pub off_peak_refusal : ℕ → Option Refusal
off_peak_refusal day = cond (nat_lt 36524 day) (Some DayOutOfRange) None

-- an off-peak day is booked under its day
abbrev pub off_peak_key : OffPeakDay → ℕ
off_peak_key booked = booked.day

-- the day is one of those booked
abbrev pub off_peak_among : List OffPeakDay → ℕ → Bool
off_peak_among booked day = is_some (found off_peak_key day booked)

-- the kind of a day, under the off-peak days that are booked
abbrev pub kind_under : List OffPeakDay → ℕ → DayKind
kind_under booked day = kind_of day (off_peak_among booked day)

-- the off-peak day of this number, if the calendar has it
abbrev pub off_peak_day : ℕ → Option OffPeakDay
off_peak_day day = elim (dec_le day 36524) [ yes known ↦ Some (record { day = day; known = known }) | no _ ↦ None ]

-- what booking a day as off-peak is answered: it is refused as a day, or as a booking
abbrev pub off_peak_answer : List OffPeakDay → ℕ → ℕ → Result (Unit {0}) Refusal
off_peak_answer booked places day =
    elim (off_peak_day day) [ None ↦ Err DayOutOfRange | Some d ↦ booking_answer off_peak_key booked places d ]

-- the off-peak days that it leaves
abbrev pub after_off_peak : List OffPeakDay → ℕ → ℕ → List OffPeakDay
after_off_peak booked places day =
    elim (off_peak_day day) [ None ↦ booked | Some d ↦ after_booking off_peak_key booked places d ]
