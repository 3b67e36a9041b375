-- The flexible layer keeps the laws of every programme, by the laws of the programme beneath alone. Assumes nothing.
use Rattle.std.specs.Prelude.{◌≡◌, ℕ, ◌+◌, ◌-◌, ◌*◌, ◌<◌, ◌≤◌, Bool, true, ◌&&◌, ◌||◌, Some, None, Option, ◌==◌, refl}
use Rattle.std.proofs.Common.{ap, ◌∙◌, arith}
use Rattle.std.proofs.lemmas.Bool.{and_parts, and_from, or_left, or_right, eq-eqb}
use Rattle.books.specs.declared.call.Call.{Call}
use Rattle.books.specs.declared.call.CallKind.TheVariants.{Flexible}
use Rattle.calendar.specs.declared.refusal.Refusal.{Refusal}
use Rattle.books.specs.Calls.{covers}
use Rattle.programmes.specs.Averages.{slots_in, average_in, averaged, among, five_day, worth}
use Rattle.programmes.specs.Layers.{flexible, flexible_refusal, flexible_adds, shared_credit, apart_credit}
use Rattle.programmes.specs.Meanings.{ProgrammeMeaning, Asked, ProgrammeLaws, BareLaws, SameUncalled, SameNamed, NowhereHigher}
use Rattle.programmes.specs.Parts.{shared, apart}
use Rattle.programmes.specs.Sites.{SiteModel, Demand, call_at, sum_of_calls}
use Rattle.programmes.specs.Amounts.{worth_grows, worth_bounded, same_worth, slots_few, average_like, average_grows, five_day_like, five_day_bounded, five_day_uncalled}
use Rattle.programmes.specs.CallSums.{calls_like, calls_grow, calls_bounded, some_call_at}

-- what the layer does not refuse, the programme beneath does not
pub beneath : (r : Option Refusal) (too_few : Bool) → flexible_refusal r too_few ≡ None → r ≡ None
beneath None too_few e = refl
beneath (Some r) too_few e = e

module _ (m : ProgrammeMeaning) (laws : ProgrammeLaws m) (bare : BareLaws m) where
  lower_asked : (s : SiteModel) (kw : Demand) → Asked (flexible m) s kw → Asked m s kw
  lower_asked s kw asked = record { short = asked.short; granted = beneath (m.refusal s) _ asked.granted; low = asked.low }

  module _ (s : SiteModel) (kw kw' : Demand) (asked : Asked m s kw) (asked' : Asked m s kw') where
    adds_grow : SameUncalled s kw kw' → NowhereHigher kw kw' → (k : ℕ) (c : Call) → k < s.days → flexible_adds m s kw (31 + k) c ≤ flexible_adds m s kw' (31 + k) c
    adds_grow same lower k c h =
        let own = m.own_call s (31 + k) in
        let passed = λ (u : Demand). m.baseline s u (31 + k) - average_in (shared c own) (u (31 + k)) - m.reduction * 1200 in
        let cut = λ (u : Demand). five_day s u (apart c own) (31 + k) - average_in (apart c own) (u (31 + k)) in
        let base = laws.uncalled_baseline s kw kw' asked asked' same k h in
        let avg = average_grows (shared c own) (kw' (31 + k)) (kw (31 + k)) (lower (31 + k)) in
        let base_apart = five_day_uncalled s (apart c own) (31 + k) kw kw' same in
        let avg_apart = average_grows (apart c own) (kw' (31 + k)) (kw (31 + k)) (lower (31 + k)) in
        let p : shared_credit m s kw (31 + k) c ≤ shared_credit m s kw' (31 + k) c = worth_grows (passed kw) (passed kw') (slots_in (shared c own)) (1000 - m.price_past) (omega (arith, base, avg)) in
        let q : apart_credit m s kw (31 + k) c ≤ apart_credit m s kw' (31 + k) c = worth_grows (cut kw) (cut kw') (slots_in (apart c own)) 1000 (omega (arith, base_apart, avg_apart)) in
        omega (arith, p, q)

  adds_bounded : (s : SiteModel) (kw : Demand) → Asked m s kw → (k : ℕ) (c : Call) → k < s.days → flexible_adds m s kw (31 + k) c ≤ 7680000000
  adds_bounded s kw asked k c h =
      let own = m.own_call s (31 + k) in
      let passed = λ (u : Demand). m.baseline s u (31 + k) - average_in (shared c own) (u (31 + k)) - m.reduction * 1200 in
      let cut = λ (u : Demand). five_day s u (apart c own) (31 + k) - average_in (apart c own) (u (31 + k)) in
      let base = laws.baseline_bounded s kw asked k h in
      let base_apart = five_day_bounded s (apart c own) (31 + k) kw asked.low in
      let p : shared_credit m s kw (31 + k) c ≤ 3840000000 = worth_bounded (passed kw) (slots_in (shared c own)) (1000 - m.price_past) (omega (arith, base)) (slots_few (shared c own)) (omega arith) in
      let q : apart_credit m s kw (31 + k) c ≤ 3840000000 = worth_bounded (cut kw) (slots_in (apart c own)) 1000 (omega (arith, base_apart)) (slots_few (apart c own)) (omega arith) in
      omega (arith, p, q)

  module _ (s : SiteModel) (kw kw' : Demand) (asked : Asked m s kw) (asked' : Asked m s kw') (same : SameNamed (flexible m) s kw kw') where
    lower_named : SameNamed m s kw kw'
    lower_named d slot l t = same d slot l (or_left _ _ t)

    module _ (k : ℕ) (c : Call) (h : k < s.days) (e : call_at s Flexible (31 + k) ≡ Some c) where
      -- the flexible call's own slots are named
      own_slot : (slot : ℕ) → slot < 96 → covers c slot ≡ true → kw (31 + k) slot ≡ kw' (31 + k) slot
      own_slot slot l t =
          same (31 + k) slot l (or_right _ _ (some_call_at s Flexible (λ e c. (covers c slot && 31 + k == e) || (apart c (m.own_call s e) slot && among (31 + k) (averaged s e))) k c h e (or_left _ _ (and_from _ _ t (eq-eqb (31 + k) (31 + k) refl)))))

      -- and so are the slots of the part that is not shared on the days averaged for it
      averaged_slot : (d slot : ℕ) → slot < 96 → among d (averaged s (31 + k)) ≡ true → apart c (m.own_call s (31 + k)) slot ≡ true → kw d slot ≡ kw' d slot
      averaged_slot d slot l t u =
          same d slot l (or_right _ _ (some_call_at s Flexible (λ e c. (covers c slot && d == e) || (apart c (m.own_call s e) slot && among d (averaged s e))) k c h e (or_right _ _ (and_from _ _ u t))))

      adds_like : flexible_adds m s kw (31 + k) c ≡ flexible_adds m s kw' (31 + k) c
      adds_like =
          let own = m.own_call s (31 + k) in
          let d = 31 + k in
          let base = laws.named_baseline s kw kw' asked asked' lower_named k h in
          let avg = average_like (shared c own) (kw d) (kw' d) (λ slot l t. own_slot slot l (and_parts (covers c slot) _ t).0) in
          let base_apart = five_day_like s (apart c own) d kw kw' (λ f slot l t u. averaged_slot f slot l t u) in
          let avg_apart = average_like (apart c own) (kw d) (kw' d) (λ slot l t. own_slot slot l (and_parts (covers c slot) _ t).0) in
          let p : shared_credit m s kw d c ≡ shared_credit m s kw' d c =
          ap (λ b. worth (b - average_in (shared c own) (kw d) - m.reduction * 1200) (slots_in (shared c own)) (1000 - m.price_past)) base
          ∙ ap (λ a. worth (m.baseline s kw' d - a - m.reduction * 1200) (slots_in (shared c own)) (1000 - m.price_past)) avg in
          let q : apart_credit m s kw d c ≡ apart_credit m s kw' d c =
          ap (λ b. worth (b - average_in (apart c own) (kw d)) (slots_in (apart c own)) 1000) base_apart
          ∙ ap (λ a. worth (five_day s kw' (apart c own) d - a) (slots_in (apart c own)) 1000) avg_apart in
          ap (λ n. n + apart_credit m s kw d c) p ∙ ap (λ n. shared_credit m s kw' d c + n) q

  pub flexible_laws : ProgrammeLaws (flexible m)
  flexible_laws =
      record {
        reduction_bounded = laws.reduction_bounded;
        price_bounded = omega arith;
        baseline_bounded = λ s kw asked k h. laws.baseline_bounded s kw (lower_asked s kw asked) k h;
        credit_bounded =
            λ s kw asked.
            let below = bare.bare_credit s kw (lower_asked s kw asked) in
            let added = calls_bounded s Flexible (flexible_adds m s kw) 7680000000 (λ k c h e. adds_bounded s kw (lower_asked s kw asked) k c h) in
            let short = asked.short in
            omega (arith, below, added);
        extra_bounded = λ s kw asked. laws.extra_bounded s kw (lower_asked s kw asked);
        uncalled_baseline = λ s kw kw' asked asked' same k h. laws.uncalled_baseline s kw kw' (lower_asked s kw asked) (lower_asked s kw' asked') same k h;
        deeper_earns =
            λ s kw kw' asked asked' same lower.
            let below = laws.deeper_earns s kw kw' (lower_asked s kw asked) (lower_asked s kw' asked') same lower in
            let added =
            calls_grow s Flexible (flexible_adds m s kw) (flexible_adds m s kw')
            (λ k c h e. adds_grow s kw kw' (lower_asked s kw asked) (lower_asked s kw' asked') same lower k c h) in
            omega (arith, below, added);
        named_baseline =
            λ s kw kw' asked asked' same k h.
            laws.named_baseline s kw kw' (lower_asked s kw asked) (lower_asked s kw' asked') (λ d slot l t. same d slot l (or_left _ _ t)) k h;
        named_credit =
            λ s kw kw' asked asked' same.
            let below = laws.named_credit s kw kw' (lower_asked s kw asked) (lower_asked s kw' asked') (λ d slot l t. same d slot l (or_left _ _ t)) in
            let added =
            calls_like s Flexible (flexible_adds m s kw) (flexible_adds m s kw')
            (λ k c h e. adds_like s kw kw' (lower_asked s kw asked) (lower_asked s kw' asked') same k c h e) in
            ap (λ n. n + sum_of_calls s Flexible (flexible_adds m s kw)) below ∙ ap (λ n. m.credit s kw' + n) added;
        named_extra =
            λ s kw kw' asked asked' same.
            laws.named_extra s kw kw' (lower_asked s kw asked) (lower_asked s kw' asked') (λ d slot l t. same d slot l (or_left _ _ t));
      }

-- the credit of the slots that are not shared, as the code takes it
pub apart_sums : (m : ProgrammeMeaning) (s : SiteModel) (kw : Demand) (d : ℕ) (c : Call) (own : Option Call) (r base avg below slots price : ℕ) → own ≡ m.own_call s d → base ≡ five_day s kw (apart c own) d → avg ≡ average_in (apart c own) (kw d) → below ≡ base - avg → slots ≡ slots_in (apart c own) → price ≡ 1000 → r ≡ worth below slots price → r ≡ apart_credit m s kw d c
apart_sums m s kw d c own r base avg below slots price eo eb ea el es ep e =
    same_worth r below (five_day s kw (apart c own) d - average_in (apart c own) (kw d)) slots (slots_in (apart c own)) price 1000 e
    (el ∙ ap (λ x. x - avg) eb ∙ ap (λ x. five_day s kw (apart c own) d - x) ea)
    es
    ep
    ∙ ap (λ o. worth (five_day s kw (apart c o) d - average_in (apart c o) (kw d)) (slots_in (apart c o)) 1000) eo
