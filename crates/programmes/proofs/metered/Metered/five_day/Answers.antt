use Rattle.std.proofs.Common.{◌*◌, ◌≤◌, ap, sym, subst}
use Rattle.programmes.specs.Meterings.{site_of, demand_of}
use Rattle.programmes.specs.Parts.{holds}
use Rattle.programmes.specs.Amounts.{five_day_bounded, same_average}
use Rattle.programmes.proofs.MeteredDays.{metered_low}
use Rattle.programmes.proofs.metered.Metered.five_day.Goals as goal

pub returns-clause-bound : goal.returns-clause-bound
returns-clause-bound c =
    let value = same_average _ _ _ _ _ c.quotient.ensures c.averaged_kw-kw.ensures.value (ap (λ n. 5 * n) c.slots_in.ensures.value) in
    subst (λ n. n ≤ 48000000) (sym value) (five_day_bounded (site_of c.args.self.now) (holds c.args.part.now) c.args.day (demand_of c.args.self.now) (metered_low c.args.self.now))
