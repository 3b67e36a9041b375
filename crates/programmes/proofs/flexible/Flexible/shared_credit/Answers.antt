use Rattle.std.proofs.Common.{arith}
use Rattle.programmes.proofs.Asking.{baseline_at}
use Rattle.programmes.proofs.flexible.Flexible.shared_credit.Goals as goal

pub worth-requires-clause-grains : goal.worth-requires-clause-grains
worth-requires-clause-grains g c =
    let low = baseline_at (g.P.Programme.meaning c.args.self.now.lower) c.args.metered.now c.requires.granted (g.met.P.Programme.lawful c.args.self.now.lower) c.args.day c.requires.from c.requires.within in
    omega (arith, low, c.baseline.ensures, c.saturating_sub-reduction.ensures, c.saturating_sub.ensures)
