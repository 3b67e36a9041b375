use Rattle.std.proofs.Common.{◌≡◌, ◌-◌, ◌≤◌, ap, ◌∙◌, arith}
use Rattle.calendar.specs.Gregorian.{leap, days_in_years, days_in_months}
use Rattle.calendar.proofs.Years.{years_more}
use Rattle.calendar.proofs.date.year_of.Goals as goal

pub loop-year-preserved : goal.loop-year-preserved
loop-year-preserved c =
    let from : 2000 ≤ c.loop-year.year = omega arith in
    let more = years_more c.loop-year.year from in
    let long : c.from-days.result ≡ days_in_months (leap c.loop-year.year) 12 = c.from-days.ensures ∙ c.days_of_year.ensures ∙ ap (λ b. days_in_months b 12) c.is_leap.ensures in
    omega (arith, more, long, c.loop-year.invariant)

pub returns : goal.returns
returns c =
    let last : c.loop-year.year - 2000 ≡ 100 = omega arith in
    let all = ap days_in_years last in
    omega (arith, all, c.loop-year.invariant)
