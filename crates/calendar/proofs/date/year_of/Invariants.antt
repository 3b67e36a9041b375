use Rattle.std.proofs.Common.{◌≡◌, ◌+◌, ◌-◌}
use Rattle.calendar.specs.Gregorian.{days_in_years}
use Rattle.calendar.proofs.date.year_of.Given as goal

abbrev pub invariant-loop-year : goal.invariant-loop-year
invariant-loop-year l = l.initial.rest ≡ days_in_years (l.year - 2000) + l.rest
