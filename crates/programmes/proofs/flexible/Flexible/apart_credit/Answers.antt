use Rattle.programmes.specs.Meterings.{site_of, demand_of}
use Rattle.programmes.specs.LayerLaws.{apart_sums}
use Rattle.programmes.proofs.flexible.Flexible.apart_credit.Goals as goal

pub returns-clause-value : goal.returns-clause-value
returns-clause-value g c =
    apart_sums (g.P.Programme.meaning c.args.self.now.lower) (site_of c.args.metered.now) (demand_of c.args.metered.now) c.args.day c.args.call
    c.own_call.result c.worth.result c.five_day.result c.average_in-average.result c.saturating_sub-reduction.result c.slots_in.result c.from.result
    c.own_call.ensures
    c.five_day.ensures.value
    c.average_in-average.ensures
    c.saturating_sub-reduction.ensures
    c.slots_in.ensures.value
    c.from.ensures
    c.worth.ensures.value
