use Rattle.std.proofs.Common.{◌≡◌, ℕ, ◌+◌, ◌-◌, ◌*◌, ◌/◌, ◌<◌, ap, ◌∙◌, arith, rules}
use Rattle.calendar.proofs.Years.{years_closed}
use Rattle.calendar.proofs.month.methods.days_before_year.Goals as goal

pub returns : goal.returns
returns c =
    let n : ℕ = c.args.year - 2000 in
    let same : c.from-years.result ≡ n = search rules in
    let few : n < 101 = omega arith in
    record {
      value = ap (λ k. 365 * k + (k + 3) / 4) same ∙ years_closed n few;
      small = omega arith;
    }
