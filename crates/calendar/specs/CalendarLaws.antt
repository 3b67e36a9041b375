-- What the calendar's definitions come to, in the words of the calendar. Assumes nothing.
use Rattle.std.specs.Prelude.{◌≡◌, ℕ, ◌+◌, ◌<◌, cond, ◌⊎◌, Some, ◌==◌}
use Rattle.calendar.specs.declared.day.Weekday.{Weekday}
use Rattle.calendar.specs.declared.day.Weekday.TheVariants.{Monday, Tuesday, Wednesday, Thursday, Friday, Saturday, Sunday}
use Rattle.calendar.specs.Dates.{date_day}
use Rattle.calendar.specs.Days.{weekday_of}
use Rattle.calendar.specs.Gregorian.{first_day_of, length_of}

-- the year of the month that follows
abbrev pub next_year : ℕ → ℕ → ℕ
next_year year month = cond (month == 12) (year + 1) year

-- the month that follows
abbrev pub next_month : ℕ → ℕ
next_month month = cond (month == 12) 1 (month + 1)

-- months abut: the next month begins where this one ends
abbrev pub Abuts : ℕ → ℕ → Type 0
Abuts year month = first_day_of (next_year year month) (next_month month) ≡ first_day_of year month + length_of year month

-- one date comes before another
abbrev pub Earlier : ℕ → ℕ → ℕ → ℕ → ℕ → ℕ → Type 0
Earlier year month day year' month' day' = (year < year') ⊎ ((year ≡ year') × ((month < month') ⊎ ((month ≡ month') × (day < day'))))

-- later dates have larger numbers
abbrev pub LaterIsLarger : Type 0
LaterIsLarger =
    (year month day year' month' day' n n' : ℕ) → date_day year month day ≡ Some n → date_day year' month' day' ≡ Some n' →
    Earlier year month day year' month' day' → n < n'

-- each day has one date
abbrev pub OneDate : Type 0
OneDate =
    (year month day year' month' day' n : ℕ) → date_day year month day ≡ Some n → date_day year' month' day' ≡ Some n →
    (year ≡ year') × ((month ≡ month') × (day ≡ day'))

-- the weekday that follows
abbrev pub next_weekday : Weekday → Weekday
next_weekday Monday = Tuesday
next_weekday Tuesday = Wednesday
next_weekday Wednesday = Thursday
next_weekday Thursday = Friday
next_weekday Friday = Saturday
next_weekday Saturday = Sunday
next_weekday Sunday = Monday

-- each day's weekday follows that of the day before, and so they go round in seven
pub record GoesRound (day : ℕ) : Type 0 where
  pub follows : weekday_of (day + 1) ≡ next_weekday (weekday_of day)
  pub seventh : weekday_of (day + 7) ≡ weekday_of day
