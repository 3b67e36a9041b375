use Rattle.std.proofs.Common.{eqb, sym, ◌∙◌, rules}
use Rattle.std.proofs.lemmas.Iterator.{YieldsList-from_slice}
use Rattle.std.proofs.lemmas.Iterator.Search.{position_from_yields_List}
use Rattle.std.proofs.lemmas.List.{take_rest}
use borrow.Author.Tests.{tests}
use Rattle.job.proofs.Cuts.{cut_here, cut_nowhere}
use Rattle.job.proofs.text.cut.Goals as goal

pub returns-in_err-place : goal.returns-in_err-place
returns-in_err-place c =
    let first = position_from_yields_List (λ b. eqb b c.args.at) _ _ c.position.result c.position.ensures.ran (YieldsList-from_slice c.args.text.now cc) (λ x b q k. search (rules, tests)) in
    let none = cut_nowhere c.args.at c.args.text.now (sym c.in_err-place.was ∙ first) in search rules

pub returns : goal.returns
returns c =
    let first = position_from_yields_List (λ b. eqb b c.args.at) _ _ c.position.result c.position.ensures.ran (YieldsList-from_slice c.args.text.now cc) (λ x b q k. search (rules, tests)) in
    simp take_rest (cut_here c.args.at c.args.text.now c.in_ok-place.place (sym c.in_ok-place.was ∙ first))
