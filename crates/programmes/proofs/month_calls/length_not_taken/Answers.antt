use Rattle.std.proofs.Common.{ℕ, Bool, ◌+◌, not, ◌||◌, ◌==◌, refl, ◌∙◌, rules, tests, arith}
use Rattle.std.proofs.lemmas.Iterator.{YieldsList-from_range}
use Rattle.std.proofs.lemmas.Iterator.Search.{any_from_yields_List}
use Rattle.books.specs.declared.call.CallKind.TheVariants.{Programme}
use Rattle.programmes.specs.Sites.{call_at, if_call}
use Rattle.programmes.specs.SiteModels.{site_model}
use Rattle.programmes.proofs.MonthLoops.{any_day}
use Rattle.programmes.proofs.month_calls.length_not_taken.Goals as goal

pub returns : goal.returns
returns c =
    let s = site_model c.args.site.now in
    let test : ℕ → Bool = λ d. if_call (call_at s Programme d) (λ call. not (call.hours == 2 || call.hours == 4)) in
    any_from_yields_List test _ _ _ c.any.ensures.ran (YieldsList-from_range 31 (31 + s.days) s.days (search rules) (omega arith)) (λ x r q k. search (rules, tests))
    ∙ any_day test (λ k. test (31 + k)) 31 s.days (λ k. refl)
