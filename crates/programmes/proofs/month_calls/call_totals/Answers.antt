use Rattle.std.proofs.Common.{◌≡◌, ◌+◌, sym, refl, ◌∙◌, arith}
use Rattle.books.specs.declared.call.CallKind.TheVariants.{Programme}
use Rattle.programmes.specs.SiteModels.{site_model}
use Rattle.programmes.proofs.MonthLoops.{before_month, called_day, other_day, behind_month}
use Rattle.programmes.proofs.month_calls.call_totals.Goals as goal
use Rattle.programmes.proofs.month_calls.call_totals.Goals.{in-Some, in_default}

pub loop-day-init : goal.loop-day-init
loop-day-init c =
    let s = site_model c.args.site.now in
    (sym (before_month s Programme (λ _ _. 1)), sym (before_month s Programme (λ _ c. c.hours)), omega arith, omega arith)

pub loop-day-preserved : goal.loop-day-preserved
loop-day-preserved c =
    let s = site_model c.args.site.now in
    let d = c.loop-day.day in
    let inv = c.loop-day.invariant in
    let counted = inv.2 in
    let lasting = inv.3 in
    elim c.match-call.branch [
      | in-Some w ↦ (
        called_day s Programme (λ _ _. 1) d _ _ (omega arith) inv.0 c.call.ensures w.in-Some.call 1 _ w.in-Some.is w.count-is refl,
        called_day s Programme (λ _ c. c.hours) d _ _ (omega arith) inv.1 c.call.ensures w.in-Some.call _ _ w.in-Some.is w.hours-is (w.from-hours.ensures ∙ w.hours.ensures),
        omega (arith, w.count-is),
        omega (arith, w.hours-is, w.from-hours.ensures, w.hours.ensures, w.in-Some.call.hours_to),
      )
      | in_default w ↦ (
        w.count-is ∙ other_day s Programme (λ _ _. 1) d _ _ (omega arith) inv.0 c.call.ensures w.in_default.is,
        w.hours-is ∙ other_day s Programme (λ _ c. c.hours) d _ _ (omega arith) inv.1 c.call.ensures w.in_default.is,
        omega (arith, w.count-is),
        omega (arith, w.hours-is),
      )
    ]

pub returns : goal.returns
returns c =
    let s = site_model c.args.site.now in
    let d = c.loop-day.day in
    let inv = c.loop-day.invariant in
    let kept = inv.2 in
    let end : d ≡ 31 + s.days = omega (arith, c.loop-day.auto.day-end, c.loop-day-test.false, c.end_day-day-end.ensures.value) in
    record {
      count = behind_month s Programme (λ _ _. 1) d _ end inv.0;
      hours = behind_month s Programme (λ _ c. c.hours) d _ end inv.1;
      few = omega (arith, kept, end, c.end_day-day-end.ensures.short, c.end_day-day-end.ensures.value);
    }
