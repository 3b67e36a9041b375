use Rattle.std.proofs.Common.{◌≡◌, ℕ, ◌+◌, ◌-◌, ◌*◌, ◌^◌, ◌≤◌, get_or, filter, sym, refl, ap, ◌∙◌, subst, rules, tests, arith}
use Rattle.std.specs.List.{range_with_len, zip}
use Rattle.std.proofs.lemmas.Iterator.{YieldsList-from_range, YieldsList-from_slice, YieldsList-from_zip, YieldsList-from_map}
use Rattle.std.proofs.lemmas.Iterator.Consumers.{YieldsList-at, YieldsList-from_filter, sum_by_from_yields_List, fits_by_from_yields_list}
use Rattle.programmes.specs.Averages.{kw_in}
use Rattle.programmes.specs.Parts.{holds}
use Rattle.programmes.proofs.SlotSums.{part_sum, rest_at, day_fits}
use Rattle.programmes.proofs.average.kw_in.Goals as goal

pub sum-requires-clause-fits : goal.sum-requires-clause-fits
sum-requires-clause-fits c =
    let set = holds c.args.part.now in
    let a = c.first_slot-first.result in
    let e = c.end_slot.result in
    let day = c.args.day.now in
    let rest = c.unwrap_or.result.now in
    let each : (k : ℕ) → get_or rest k 0 ≡ get_or day (a + k) 0 =
    λ k. ap (λ b. get_or b.now k 0) c.unwrap_or.ensures ∙ rest_at day c.from.result c.get.result _ refl c.get.ensures.lookup k ∙ ap (λ i. get_or day (i + k) 0) c.from.ensures in
    let all = filter (λ (p : ℕ × ℕ). set p.0) (zip (range_with_len a (e - a)) rest) in
    let total = part_sum c.args.part.now a e c.first_slot-first.ensures c.end_slot.ensures day rest each in
    let fits = day_fits set day c.type_inv.day in
    fits_by_from_yields_list (λ (p : ℕ × ℕ). p.1) all c.map.result (2 ^ 64)
    (YieldsList-from_map _ (λ (p : ℕ × ℕ). p.1)
    (YieldsList-at c.map.ensures.source (YieldsList-from_filter _ (λ (p : ℕ × ℕ). set p.0)
    (YieldsList-at c.filter.ensures.source (YieldsList-from_zip (YieldsList-from_range a e (e - a) c.zip.ensures.first refl) (YieldsList-from_slice rest c.zip.ensures.second.0)))
    c.filter.ensures.closure
    (λ x r q k. search (rules, tests))))
    c.map.ensures.closure
    (λ x r q k. search (rules, tests)))
    (omega (arith, total, fits))

pub returns : goal.returns
returns c =
    let set = holds c.args.part.now in
    let a = c.first_slot-first.result in
    let e = c.end_slot.result in
    let day = c.args.day.now in
    let rest = c.unwrap_or.result.now in
    let each : (k : ℕ) → get_or rest k 0 ≡ get_or day (a + k) 0 =
    λ k. ap (λ b. get_or b.now k 0) c.unwrap_or.ensures ∙ rest_at day c.from.result c.get.result _ refl c.get.ensures.lookup k ∙ ap (λ i. get_or day (i + k) 0) c.from.ensures in
    let all = filter (λ (p : ℕ × ℕ). set p.0) (zip (range_with_len a (e - a)) rest) in
    let value : c.sum.result ≡ kw_in set (λ slot. get_or day slot 0) =
    sum_by_from_yields_List (λ (p : ℕ × ℕ). p.1) all c.map.result _ c.sum.ensures.ran
    (YieldsList-from_map _ (λ (p : ℕ × ℕ). p.1)
    (YieldsList-at c.map.ensures.source (YieldsList-from_filter _ (λ (p : ℕ × ℕ). set p.0)
    (YieldsList-at c.filter.ensures.source (YieldsList-from_zip (YieldsList-from_range a e (e - a) c.zip.ensures.first refl) (YieldsList-from_slice rest c.zip.ensures.second.0)))
    c.filter.ensures.closure
    (λ x r q k. search (rules, tests))))
    c.map.ensures.closure
    (λ x r q k. search (rules, tests)))
    ∙ part_sum c.args.part.now a e c.first_slot-first.ensures c.end_slot.ensures day rest each in
    record { value = value; bound = subst (λ n. n ≤ 96 * 2 ^ 32) (sym value) (day_fits set day c.type_inv.day) }
