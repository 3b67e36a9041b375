-- Weekdays and kinds of day. Days are counted from 1 January 2000, which is day 0. Assumes nothing.
use Rattle.std.specs.Prelude.{ℕ, ◌%◌, Bool, cond, ◌==◌}
use Rattle.calendar.specs.declared.day.DayKind.{DayKind}
use Rattle.calendar.specs.declared.day.DayKind.TheVariants as kind
use Rattle.calendar.specs.declared.day.Weekday.{Weekday}
use Rattle.calendar.specs.declared.day.Weekday.TheVariants.{Monday, Tuesday, Wednesday, Thursday, Friday, Saturday, Sunday}

-- day 0 is a Saturday, and the weekdays go round in seven
abbrev pub weekday_of : ℕ → Weekday
weekday_of day =
    cond (day % 7 == 0) Saturday (cond (day % 7 == 1) Sunday (cond (day % 7 == 2) Monday (cond (day % 7 == 3) Tuesday (cond (day % 7 == 4) Wednesday (cond (day % 7 == 5) Thursday Friday)))))

-- Monday to Friday are working days
abbrev pub kind_of_weekday : Weekday → DayKind
kind_of_weekday Monday = kind.Working
kind_of_weekday Tuesday = kind.Working
kind_of_weekday Wednesday = kind.Working
kind_of_weekday Thursday = kind.Working
kind_of_weekday Friday = kind.Working
kind_of_weekday Saturday = kind.Saturday
kind_of_weekday Sunday = kind.Sunday

-- a booked off-peak day is off-peak whatever its weekday
abbrev pub kind_of : ℕ → Bool → DayKind
kind_of day off_peak = cond off_peak kind.OffPeak (kind_of_weekday (weekday_of day))
