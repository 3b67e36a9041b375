-- Dates and their day numbers. Assumes nothing.
use Rattle.std.specs.Prelude.{◌≡◌, ℕ, ◌+◌, ◌-◌, ◌<◌, ◌≤◌, Bool, cond, ◌&&◌, Some, None, Option, nat_le}
use Rattle.calendar.specs.Gregorian.{leap, month_length, days_in_months, days_in_years, first_day_of, length_of}

-- 2000 to 2099 have this date
abbrev pub is_date : ℕ → ℕ → ℕ → Bool
is_date year month day = ((nat_le 2000 year && nat_le year 2099) && (nat_le 1 month && nat_le month 12)) && (nat_le 1 day && nat_le day (length_of year month))

-- the number of a date's day: the days of the month before it, from the month's first day on
abbrev pub date_day : ℕ → ℕ → ℕ → Option ℕ
date_day year month day = cond (is_date year month day) (Some (first_day_of year month + (day - 1))) None

-- the day lies in this year, with so many days of it before it
pub record InYear (day year before : ℕ) : Type 0 where
  pub from : 2000 ≤ year
  pub to : year ≤ 2099
  pub within : before < days_in_months (leap year) 12
  pub counts : day ≡ days_in_years (year - 2000) + before

-- so many days before a day of a year, it lies in this month, with so many days of the month before it
pub record InMonth (leap_year : Bool) (before month earlier : ℕ) : Type 0 where
  pub from : 1 ≤ month
  pub to : month ≤ 12
  pub within : earlier < month_length leap_year month
  pub counts : before ≡ days_in_months leap_year (month - 1) + earlier

-- the day lies in this month
pub record Within (day year month : ℕ) : Type 0 where
  pub from : first_day_of year month ≤ day
  pub to : day < first_day_of year month + length_of year month
