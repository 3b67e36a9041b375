use Rattle.std.proofs.Common.{◌-◌, refl, ◌∙◌, rules, tests}
use Rattle.std.proofs.lemmas.Iterator.{YieldsList-from_range}
use Rattle.std.proofs.lemmas.Iterator.Consumers.{YieldsList-from_filter, count_from_yields_List}
use Rattle.programmes.specs.Parts.{holds}
use Rattle.programmes.proofs.SlotSums.{part_count}
use Rattle.programmes.proofs.average.slots_in.Goals as goal

pub returns-clause-value : goal.returns-clause-value
returns-clause-value c =
    let a = c.first_slot.result in
    let e = c.end_slot.result in
    count_from_yields_List c.filter.result _ c.count.ensures.ran
    (YieldsList-from_filter _ (holds c.args.part.now) (YieldsList-from_range a e (e - a) (cc) refl) c.filter.ensures.closure (λ x r q k. search (rules, tests)))
    ∙ part_count c.args.part.now a e c.first_slot.ensures c.end_slot.ensures
