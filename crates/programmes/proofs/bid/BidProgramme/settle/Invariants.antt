use Rattle.std.proofs.Common.{◌≡◌, ◌*◌, ◌≤◌, cond}
use Rattle.books.specs.declared.call.CallKind.TheVariants.{Programme}
use Rattle.programmes.specs.Bids.{call_earns, call_owes, is_missed, reduced}
use Rattle.programmes.specs.Meterings.{site_of, demand_of}
use Rattle.programmes.proofs.MonthLoops.{sum_before}
use Rattle.programmes.proofs.bid.BidProgramme.settle.Given as goal

abbrev pub invariant-loop-day : goal.invariant-loop-day
invariant-loop-day l =
    let s = site_of l.metered in
    let kw = demand_of l.metered in
    let t = l.self.terms in
    (l.earned ≡ sum_before s Programme (call_earns t.price s kw) l.day)
    × (l.owed ≡ sum_before s Programme (call_owes t.reduction t.price s kw) l.day)
    × (l.missed ≡ sum_before s Programme (λ d c. cond (is_missed t.reduction (reduced s kw d c)) 1 0) l.day)
    × (l.earned ≤ 3840000000 * l.day)
    × (l.owed ≤ 3840000000 * l.day)
    × (l.missed ≤ l.day)
