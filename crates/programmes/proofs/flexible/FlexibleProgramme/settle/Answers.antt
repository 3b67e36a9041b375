use Rattle.std.proofs.Common.{sym, ◌∙◌, arith}
use Rattle.books.specs.declared.call.CallKind.TheVariants.{Flexible}
use Rattle.programmes.specs.Layers.{flexible_adds}
use Rattle.programmes.specs.LayerLaws.{beneath}
use Rattle.programmes.specs.Meterings.{site_of, demand_of}
use Rattle.programmes.proofs.Asking.{metered_asked}
use Rattle.programmes.proofs.MonthLoops.{before_month, called_day, other_day}
use Rattle.programmes.proofs.flexible.FlexibleProgramme.settle.Goals as goal
use Rattle.programmes.proofs.flexible.FlexibleProgramme.settle.Goals.{in-Some, in_default}

pub loop-day-init : goal.loop-day-init
loop-day-init g c =
    let s = site_of c.args.metered.now in
    (sym (before_month s Flexible (flexible_adds (g.P.Programme.meaning c.args.self.now.lower) s (demand_of c.args.metered.now))), omega arith)

pub loop-day-preserved : goal.loop-day-preserved
loop-day-preserved g c =
    let s = site_of c.args.metered.now in
    let adds = flexible_adds (g.P.Programme.meaning c.args.self.now.lower) s (demand_of c.args.metered.now) in
    let inv = c.loop-day.invariant in
    let d = c.loop-day.day in
    elim c.match-call.branch [
      | in-Some w ↦ (
        called_day s Flexible adds d _ _ (omega arith) inv.0 c.call.ensures w.in-Some.call _ _ w.in-Some.is w.added-is w.added-added.ensures.value,
        omega (arith, w.added-is, w.added-added.ensures.bound, inv.1),
      )
      | in_default w ↦ (w.added-is ∙ other_day s Flexible adds d _ _ (omega arith) inv.0 c.call.ensures w.in_default.is, omega (arith, w.added-is, inv.1))
    ]

pub overflow_add-result : goal.overflow_add-result
overflow_add-result g c =
    let m = g.P.Programme.meaning c.args.self.now.lower in
    let metered = c.args.metered.now in
    let asked = metered_asked m metered (beneath (m.refusal (site_of metered)) _ c.requires.granted) in
    let below = (g.met.P.BareProgramme.bare c.args.self.now.lower).bare_credit (site_of metered) (demand_of metered) asked in
    let kept = c.loop-day.invariant.1 in
    omega (arith, below, c.settle-credit.ensures.credit, kept, c.loop-day.auto.day-end, c.end_day-day-end.ensures.short, c.end_day-day-end.ensures.value)
