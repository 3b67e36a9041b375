use Rattle.std.proofs.Common.{◌≡◌, ℕ, ◌^◌, ◌≤◌, filter, take, sum_by, sym, ap, ◌∙◌, subst, rules, tests, arith}
use Rattle.std.proofs.lemmas.Iterator.{YieldsList-from_take, YieldsList-from_map}
use Rattle.std.proofs.lemmas.Iterator.Consumers.{YieldsList-at, YieldsList-from_filter, sum_by_from_yields_List, fits_by_from_yields_list}
use Rattle.programmes.specs.Averages.{kw_in, averaged}
use Rattle.programmes.specs.Meterings.{site_of, demand_of}
use Rattle.programmes.specs.Parts.{holds}
use Rattle.programmes.specs.Sites.{eligible}
use Rattle.programmes.proofs.Latest.{days_back, range_back, latest_are}
use Rattle.programmes.proofs.MeteredDays.{averaged_small}
use Rattle.programmes.proofs.metered.Metered.averaged_kw.Goals as goal

pub sum-requires-clause-fits : goal.sum-requires-clause-fits
sum-requires-clause-fits c =
    let ok = eligible (site_of c.args.self.now) in
    let kw : ℕ → ℕ = λ e. kw_in (holds c.args.part.now) (demand_of c.args.self.now e) in
    let same = ap (sum_by kw) (latest_are 5 ok c.args.day) in
    let small = averaged_small c.args.self.now (holds c.args.part.now) c.args.day in
    fits_by_from_yields_list kw (take 5 (filter ok (days_back 0 c.args.day))) c.map.result (2 ^ 64)
    (YieldsList-from_map _ kw
    (YieldsList-at c.map.ensures.source (YieldsList-from_take 5
    (YieldsList-at c.take.ensures.source (YieldsList-from_filter _ ok (YieldsList-at c.filter.ensures.source (range_back c.args.day c.rev.ensures.source)) c.filter.ensures.closure (λ x r q k. search (rules, tests))))
    c.take.ensures.count))
    c.map.ensures.closure
    (λ x r q k. search (rules, tests)))
    (omega (arith, same, small))

pub returns : goal.returns
returns c =
    let ok = eligible (site_of c.args.self.now) in
    let kw : ℕ → ℕ = λ e. kw_in (holds c.args.part.now) (demand_of c.args.self.now e) in
    let value : c.sum.result ≡ sum_by kw (averaged (site_of c.args.self.now) c.args.day) =
    sum_by_from_yields_List kw (take 5 (filter ok (days_back 0 c.args.day))) c.map.result _ c.sum.ensures.ran
    (YieldsList-from_map _ kw
    (YieldsList-at c.map.ensures.source (YieldsList-from_take 5
    (YieldsList-at c.take.ensures.source (YieldsList-from_filter _ ok (YieldsList-at c.filter.ensures.source (range_back c.args.day c.rev.ensures.source)) c.filter.ensures.closure (λ x r q k. search (rules, tests))))
    c.take.ensures.count))
    c.map.ensures.closure
    (λ x r q k. search (rules, tests)))
    ∙ ap (sum_by kw) (latest_are 5 ok c.args.day) in
    record { value = value; bound = subst (λ n. n ≤ 19200000) (sym value) (averaged_small c.args.self.now (holds c.args.part.now) c.args.day) }
