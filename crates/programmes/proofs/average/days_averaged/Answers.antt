use Rattle.std.proofs.Common.{length, ap, ◌∙◌, rules, tests}
use Rattle.std.proofs.lemmas.Iterator.{YieldsList-from_take}
use Rattle.std.proofs.lemmas.Iterator.Consumers.{YieldsList-at, YieldsList-from_filter, count_from_yields_List}
use Rattle.programmes.specs.SiteModels.{site_model}
use Rattle.programmes.specs.Sites.{eligible}
use Rattle.programmes.proofs.Latest.{range_back, latest_are}
use Rattle.programmes.proofs.average.days_averaged.Goals as goal

pub returns : goal.returns
returns c =
    let ok = eligible (site_model c.args.site.now) in
    count_from_yields_List c.take.result _ c.count.ensures.ran
    (YieldsList-from_take 5
    (YieldsList-at c.take.ensures.source (YieldsList-from_filter _ ok (YieldsList-at c.filter.ensures.source (range_back c.args.day c.rev.ensures.source)) c.filter.ensures.closure (λ x r q k. search (rules, tests))))
    c.take.ensures.count)
    ∙ ap length (latest_are 5 ok c.args.day)
