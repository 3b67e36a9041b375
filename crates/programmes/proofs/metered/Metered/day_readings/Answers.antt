use Rattle.std.proofs.Common.{arith}
use Rattle.programmes.proofs.MeteredDays.{of_lead, of_month}
use Rattle.programmes.proofs.metered.Metered.day_readings.Goals as goal

pub returns-in-Some : goal.returns-in-Some
returns-in-Some c =
    let at = c.in-Some.ensures in
    of_month c.args.self.now c.args.day c.in-Some.of_month (omega (arith, at)) c.day_among.result c.day_among.ensures

pub returns-in-None : goal.returns-in-None
returns-in-None c =
    let low = c.in-None.ensures in
    of_lead c.args.self.now c.args.day (omega (arith, low)) c.day_among-in-None.result c.day_among-in-None.ensures
