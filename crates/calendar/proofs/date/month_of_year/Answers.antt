use Rattle.std.proofs.Common.{◌≡◌, ◌+◌, ◌-◌, ◌≤◌, ap, ◌∙◌, arith}
use Rattle.calendar.specs.Gregorian.{days_in_months, month_length}
use Rattle.calendar.proofs.Years.{months_more}
use Rattle.calendar.proofs.date.month_of_year.Goals as goal

pub loop-month-preserved : goal.loop-month-preserved
loop-month-preserved c =
    let from : 1 ≤ c.loop-month.month = omega arith in
    let more = months_more c.args.leap_year c.loop-month.month from in
    let back = ap (days_in_months c.args.leap_year) (let e : c.loop-month.month ≡ c.loop-month.month + 1 - 1 = omega arith in e) in
    let long : c.from-days.result ≡ month_length c.args.leap_year c.loop-month.month = c.from-days.ensures ∙ c.days_of_month.ensures.value in
    omega (arith, more, back, long, c.loop-month.invariant)

pub returns : goal.returns
returns c =
    let last : c.loop-month.month - 1 ≡ 12 = omega arith in
    let all = ap (days_in_months c.args.leap_year) last in
    omega (arith, all, c.loop-month.invariant)
