use Rattle.std.proofs.Common.{◌≡◌, ◌*◌, ◌≤◌}
use Rattle.books.specs.declared.call.CallKind.TheVariants.{Flexible}
use Rattle.programmes.specs.Layers.{flexible_adds}
use Rattle.programmes.specs.Meterings.{site_of, demand_of}
use Rattle.programmes.proofs.MonthLoops.{sum_before}
use Rattle.programmes.proofs.flexible.FlexibleProgramme.settle.Given as goal

abbrev pub invariant-loop-day : goal.invariant-loop-day
invariant-loop-day g l =
    let s = site_of l.metered in
    let m = g.P.Programme.meaning l.self.lower in
    (l.added ≡ sum_before s Flexible (flexible_adds m s (demand_of l.metered)) l.day) × (l.added ≤ 7680000000 * l.day)
