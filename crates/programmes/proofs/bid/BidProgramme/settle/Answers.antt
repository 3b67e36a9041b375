use Rattle.std.proofs.Common.{◌≡◌, ◌+◌, ◌-◌, cond, sym, ap, ◌∙◌, arith}
use mir.Val.{bool_byte}
use Rattle.books.specs.declared.call.CallKind.TheVariants.{Programme}
use Rattle.programmes.specs.Bids.{call_earns, call_owes, is_missed, reduced}
use Rattle.programmes.specs.Meterings.{site_of, demand_of}
use Rattle.programmes.specs.BidLaws.{bid_sums}
use Rattle.programmes.proofs.MonthLoops.{before_month, called_day, other_day, behind_month, as_number, number_few}
use Rattle.programmes.proofs.bid.BidProgramme.settle.Goals as goal
use Rattle.programmes.proofs.bid.BidProgramme.settle.Goals.{in-Some, in_default}

pub loop-day-init : goal.loop-day-init
loop-day-init c =
    let s = site_of c.args.metered.now in
    let kw = demand_of c.args.metered.now in
    let t = c.args.self.now.terms in (
      sym (before_month s Programme (call_earns t.price s kw)),
      sym (before_month s Programme (call_owes t.reduction t.price s kw)),
      sym (before_month s Programme (λ d c. cond (is_missed t.reduction (reduced s kw d c)) 1 0)),
      omega arith,
      omega arith,
      omega arith,
    )

pub loop-day-preserved : goal.loop-day-preserved
loop-day-preserved c =
    let s = site_of c.args.metered.now in
    let kw = demand_of c.args.metered.now in
    let t = c.args.self.now.terms in
    let inv = c.loop-day.invariant in
    let d = c.loop-day.day in
    elim c.match-call.branch [
      | in-Some w ↦
          let settled = w.settle_call-settled.ensures in
          let missed = w.from-missed.ensures ∙ ap bool_byte settled.missed ∙ as_number _ in (
            called_day s Programme (call_earns t.price s kw) d _ _ (omega arith) inv.0 c.call.ensures w.in-Some.call _ _ w.in-Some.is w.earned-is settled.earned,
            called_day s Programme (call_owes t.reduction t.price s kw) d _ _ (omega arith) inv.1 c.call.ensures w.in-Some.call _ _ w.in-Some.is w.owed-is settled.owed,
            called_day s Programme (λ d c. cond (is_missed t.reduction (reduced s kw d c)) 1 0) d _ _ (omega arith) inv.2 c.call.ensures w.in-Some.call _ _ w.in-Some.is w.missed-is missed,
            omega (arith, w.earned-is, settled.bounds.0, inv.3),
            omega (arith, w.owed-is, settled.bounds.1, inv.4),
            omega (arith, w.missed-is, missed, number_few (is_missed t.reduction (reduced s kw d w.in-Some.call)), inv.5),
          )
      | in_default w ↦ (
        w.earned-is ∙ other_day s Programme (call_earns t.price s kw) d _ _ (omega arith) inv.0 c.call.ensures w.in_default.is,
        w.owed-is ∙ other_day s Programme (call_owes t.reduction t.price s kw) d _ _ (omega arith) inv.1 c.call.ensures w.in_default.is,
        w.missed-is ∙ other_day s Programme (λ d c. cond (is_missed t.reduction (reduced s kw d c)) 1 0) d _ _ (omega arith) inv.2 c.call.ensures w.in_default.is,
        omega (arith, w.earned-is, inv.3),
        omega (arith, w.owed-is, inv.4),
        omega (arith, w.missed-is, inv.5),
      )
    ]

pub returns : goal.returns
returns c =
    let s = site_of c.args.metered.now in
    let kw = demand_of c.args.metered.now in
    let t = c.args.self.now.terms in
    let inv = c.loop-day.invariant in
    let d = c.loop-day.day in
    let end : d ≡ 31 + s.days = omega (arith, c.loop-day.auto.day-end, c.loop-day-test.false, c.end_day-day-end.ensures.value) in
    let days : d - 31 ≡ s.days = omega arith in
    let totals = c.call_totals-totals in
    record {
      credit =
          bid_sums t.reduction t.price s kw (d - 31) _ _ _ _ _ totals.result.count totals.result.hours days inv.0 inv.2 c.basic_credit-basic.ensures.value
          c.reduction.ensures.value
          c.basic_rate.ensures.value
          totals.ensures.count
          totals.ensures.hours;
      extra = behind_month s Programme (call_owes t.reduction t.price s kw) d _ end inv.1;
    }
