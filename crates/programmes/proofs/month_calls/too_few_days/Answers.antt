use Rattle.std.proofs.Common.{ℕ, Bool, ◌+◌, ◌&&◌, length, is_some, nat_lt, ◌∙◌, rules, tests, arith}
use Rattle.std.proofs.lemmas.Iterator.{YieldsList-from_range}
use Rattle.std.proofs.lemmas.Iterator.Search.{any_from_yields_List}
use Rattle.programmes.specs.Averages.{averaged}
use Rattle.programmes.specs.Sites.{call_at, if_call}
use Rattle.programmes.specs.SiteModels.{site_model}
use Rattle.programmes.proofs.Cases.{some_and}
use Rattle.programmes.proofs.MonthLoops.{any_day}
use Rattle.programmes.proofs.month_calls.too_few_days.Goals as goal

pub returns : goal.returns
returns c =
    let s = site_model c.args.site.now in
    let test : ℕ → Bool = λ d. is_some (call_at s c.args.kind d) && nat_lt (length (averaged s d)) 5 in
    any_from_yields_List test _ _ _ c.any.ensures.ran (YieldsList-from_range 31 (31 + s.days) s.days (search rules) (omega arith)) (λ x r q k. search (rules, tests))
    ∙ any_day test (λ k. if_call (call_at s c.args.kind (31 + k)) (λ _. nat_lt (length (averaged s (31 + k))) 5)) 31 s.days (λ k. some_and (call_at s c.args.kind (31 + k)) (nat_lt (length (averaged s (31 + k))) 5))
