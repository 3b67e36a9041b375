use Rattle.std.proofs.Common.{◌≡◌, ◌-◌, ◌*◌, ◌≤◌}
use Rattle.calendar.specs.Gregorian.{days_in_months}
use Rattle.calendar.proofs.month.methods.days_before_month.Given as goal

abbrev pub invariant-loop-earlier : goal.invariant-loop-earlier
invariant-loop-earlier l = (l.days ≡ days_in_months l.leap_year (l.earlier - 1)) × (l.days ≤ 31 * (l.earlier - 1))
