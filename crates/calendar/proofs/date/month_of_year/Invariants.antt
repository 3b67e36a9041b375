use Rattle.std.proofs.Common.{◌≡◌, ◌+◌, ◌-◌}
use Rattle.calendar.specs.Gregorian.{days_in_months}
use Rattle.calendar.proofs.date.month_of_year.Given as goal

abbrev pub invariant-loop-month : goal.invariant-loop-month
invariant-loop-month l = l.initial.rest ≡ days_in_months l.leap_year (l.month - 1) + l.rest
