use Rattle.std.proofs.Common.{◌≡◌, ◌+◌, ◌-◌, ◌≤◌, ap, ◌∙◌, arith, rules}
use Rattle.calendar.specs.Gregorian.{days_in_months, month_length}
use Rattle.calendar.proofs.Years.{months_more}
use Rattle.calendar.proofs.month.methods.days_before_month.Goals as goal

pub loop-earlier-preserved : goal.loop-earlier-preserved
loop-earlier-preserved c =
    let b = c.args.leap_year in
    let m = c.loop-earlier.earlier in
    let from : 1 ≤ m = omega arith in
    let more : days_in_months b (m - 1) + month_length b m ≡ days_in_months b m = months_more b m from in
    let back : m ≡ m + 1 - 1 = omega arith in
    let days : c.loop-earlier.days + c.from-days.result ≡ days_in_months b m = search rules in
    (days ∙ ap (days_in_months b) back, omega arith)
