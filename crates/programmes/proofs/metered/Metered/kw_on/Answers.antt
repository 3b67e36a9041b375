use Rattle.std.proofs.Common.{get_or, refl, ap, ◌∙◌}
use Rattle.programmes.specs.Averages.{kw_in}
use Rattle.programmes.specs.Parts.{holds}
use Rattle.programmes.proofs.MeteredDays.{day_kw}
use Rattle.programmes.proofs.metered.Metered.kw_on.Goals as goal

pub returns-clause-value : goal.returns-clause-value
returns-clause-value c =
    let set = holds c.args.part.now in
    c.kw_in.ensures.value
    ∙ ap (λ b. kw_in set (λ slot. get_or b.now slot 0)) c.unwrap_or.ensures
    ∙ day_kw c.args.self.now c.args.day set c.day_readings.result _ refl c.day_readings.ensures
