use Rattle.std.proofs.Common.{◌≡◌, ◌+◌, ◌*◌, ◌≤◌}
use Rattle.books.specs.declared.call.CallKind.TheVariants.{Programme}
use Rattle.programmes.specs.SiteModels.{site_model}
use Rattle.programmes.proofs.MonthLoops.{sum_before}
use Rattle.programmes.proofs.month_calls.call_totals.Given as goal

abbrev pub invariant-loop-day : goal.invariant-loop-day
invariant-loop-day l =
    let s = site_model l.site in
    (l.count ≡ sum_before s Programme (λ _ _. 1) l.day)
    × (l.hours ≡ sum_before s Programme (λ _ c. c.hours) l.day)
    × (31 + l.count ≤ l.day)
    × (31 * 6 + l.hours ≤ 6 * l.day)
