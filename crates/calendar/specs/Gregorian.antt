-- The Gregorian calendar from 1 January 2000, which is day 0. Assumes nothing.
use Rattle.std.specs.Prelude.{ℕ, zero, suc, ◌+◌, ◌-◌, ◌%◌, Bool, cond, not, ◌&&◌, ◌||◌, Some, None, Option, ◌==◌, nat_le, nat_lt}
use Rattle.calendar.specs.declared.refusal.Refusal.{Refusal}
use Rattle.calendar.specs.declared.refusal.Refusal.TheVariants.{YearOutOfRange, MonthOutOfRange}
use Rattle.calendar.specs.declared.season.Season.{Season}
use Rattle.calendar.specs.declared.season.Season.TheVariants.{Summer, OtherMonths}

-- every fourth year is a leap year, but of the hundreds only every fourth
abbrev pub leap : ℕ → Bool
leap year = year % 4 == 0 && (not (year % 100 == 0) || year % 400 == 0)

-- February has 28 days, or 29 in a leap year; April, June, September and November have 30, and the others 31
abbrev pub month_length : Bool → ℕ → ℕ
month_length leap_year month =
    cond (month == 2) (cond leap_year 29 28)
    (cond (month == 4 || (month == 6 || (month == 9 || month == 11))) 30 31)

-- the days of the first n months of a year
abbrev pub days_in_months : Bool → ℕ → ℕ
days_in_months leap_year zero = 0
days_in_months leap_year (suc n) = days_in_months leap_year n + month_length leap_year (suc n)

-- the days of the n years from 2000 on
abbrev pub days_in_years : ℕ → ℕ
days_in_years zero = 0
days_in_years (suc n) = days_in_years n + days_in_months (leap (2000 + n)) 12

-- the first day of a month
abbrev pub first_day_of : ℕ → ℕ → ℕ
first_day_of year month = days_in_years (year - 2000) + days_in_months (leap year) (month - 1)

-- the length of a month
abbrev pub length_of : ℕ → ℕ → ℕ
length_of year month = month_length (leap year) month

-- June to September is summer
abbrev pub season_of : ℕ → Season
season_of month = cond (nat_le 6 month && nat_le month 9) Summer OtherMonths

-- a month is granted from January 2001 to December 2099; the year is judged first
abbrev pub month_refusal : ℕ → ℕ → Option Refusal
month_refusal year month =
    cond (nat_lt year 2001 || nat_lt 2099 year) (Some YearOutOfRange)
    (cond (nat_lt month 1 || nat_lt 12 month) (Some MonthOutOfRange) None)
