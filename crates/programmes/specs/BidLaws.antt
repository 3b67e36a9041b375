-- No programme and the bid keep the laws of every programme. Assumes nothing.
use Rattle.std.specs.Prelude.{◌≡◌, ℕ, ◌+◌, ◌-◌, ◌*◌, ◌/◌, ◌^◌, ◌<◌, ◌≤◌, max, true, false, cond, ◌&&◌, ◌||◌, Some, ◌==◌, ◌≢◌, nat_eq, refl}
use Rattle.std.proofs.Common.{sym, ap, subst, ◌∙◌, ⊎_elim, mul-le-mul, mul-le-mul_left, mul_comm, arith}
use Rattle.std.proofs.Math.Nat.{div-le_of_le-mul}
use Rattle.std.proofs.lemmas.Bool.{and_from, or_left, or_right, eq-eqb, cond_both, cond-false, ne_eqb, cases_Bool, eqb-true}
use Rattle.std.proofs.lemmas.Bool.Decides.{nat_tests}
use Rattle.books.specs.declared.call.Call.{Call}
use Rattle.books.specs.declared.call.CallKind.TheVariants.{Programme}
use Rattle.books.specs.Calls.{covers}
use Rattle.programmes.specs.Averages.{slots_in, average_in, averaged, among, five_day, worth}
use Rattle.programmes.specs.Bids.{no_programme, bid, counted, reduced, is_missed, call_earns, call_owes, call_baseline, call_count, called_hours, missed_count, basic_rate, basic_credit, bid_credit, bid_named}
use Rattle.programmes.specs.Meanings.{ProgrammeLaws, BareLaws, SameUncalled, NowhereHigher}
use Rattle.programmes.specs.Sites.{SiteModel, Demand, call_at, for_call, sum_of_calls}
use Rattle.programmes.specs.Sums.{sum_below}
use Rattle.programmes.specs.Amounts.{div_grows, worth_grows, worth_bounded, slots_few, average_like, average_grows, five_day_like, five_day_bounded, five_day_uncalled}
use Rattle.programmes.specs.CallSums.{for_each, calls_like, calls_grow, calls_bounded, some_call_at}

pub no_programme_laws : ProgrammeLaws no_programme
no_programme_laws =
    record {
      reduction_bounded = omega arith;
      price_bounded = omega arith;
      baseline_bounded = λ s kw asked k h. omega arith;
      credit_bounded = λ s kw asked. omega arith;
      extra_bounded = λ s kw asked. omega arith;
      uncalled_baseline = λ s kw kw' asked asked' same k h. refl;
      deeper_earns = λ s kw kw' asked asked' same lower. omega arith;
      named_baseline = λ s kw kw' asked asked' same k h. refl;
      named_credit = λ s kw kw' asked asked' same. refl;
      named_extra = λ s kw kw' asked asked' same. refl;
    }

pub no_programme_bare : BareLaws no_programme
no_programme_bare = record { bare_credit = λ s kw asked. omega arith; bare_extra = λ s kw asked. omega arith }

-- a deeper cut never counts for less
counted_grows : (g g' : ℕ) → g ≤ g' → counted g ≤ counted g'
counted_grows g g' h = grind (arith, nat_tests)

pub counted_most : (g : ℕ) → counted g ≤ g
counted_most g = grind (arith, nat_tests)

-- nor is it missed more
missed_falls : (reduction g g' : ℕ) → g ≤ g' → cond (is_missed reduction g') 1 0 ≤ cond (is_missed reduction g) 1 0
missed_falls reduction g g' h = grind (arith, nat_tests)

-- a share of an amount is no more than the amount
share_most : (x calls missed : ℕ) → x * (calls - missed) / calls ≤ x
share_most x calls missed =
    let p : x * (calls - missed) ≤ x * calls = mul-le-mul_left x (omega arith) in
    let q = mul_comm x calls in
    div-le_of_le-mul calls (omega (arith, p, q))

-- the basic credit falls with the calls missed
basic_falls : (reduction rate calls missed missed' : ℕ) → missed' ≤ missed → basic_credit reduction rate calls missed ≤ basic_credit reduction rate calls missed'
basic_falls reduction rate calls missed missed' h =
    let x = 4 * reduction * rate in
    ⊎_elim
    (λ (z : nat_eq missed 0 ≡ true).
    let both : missed ≡ missed' = omega (arith, eqb-true missed 0 z) in
    subst (λ n. basic_credit reduction rate calls missed ≤ basic_credit reduction rate calls n) both (omega arith))
    (λ (z : nat_eq missed 0 ≡ false).
    subst (λ b. cond b (x * 6 / 5) (x * (calls - missed) / calls) ≤ basic_credit reduction rate calls missed') (sym z)
    (cond_both (missed' == 0) (x * 6 / 5) (x * (calls - missed') / calls) (λ y. x * (calls - missed) / calls ≤ y)
    (λ _. let p = share_most x calls missed in omega (arith, p))
    (λ _. div_grows _ _ calls (mul-le-mul_left x (omega arith)))))
    (cases_Bool (missed == 0))

pub basic_bounded : (reduction rate calls missed : ℕ) → reduction ≤ 40000 → rate ≤ 6000 → basic_credit reduction rate calls missed ≤ 1152000000
basic_bounded reduction rate calls missed h low =
    let x = 4 * reduction * rate in
    let p : x ≤ 4 * 40000 * 6000 = mul-le-mul (mul-le-mul_left 4 h) low in
    let q = share_most x calls missed in
    cond_both (missed == 0) (x * 6 / 5) (x * (calls - missed) / calls) (λ y. y ≤ 1152000000) (λ _. omega (arith, p)) (λ _. omega (arith, p, q))

rate_low : (calls hours : ℕ) → basic_rate calls hours ≤ 6000
rate_low calls hours = grind (arith, nat_tests)

-- the share of the calls that were not missed, as the code takes it
pub basic_missed : (reduction rate calls missed r a b n m : ℕ) → a ≡ reduction → b ≡ rate → n ≡ calls - missed → m ≡ calls → (missed ≢ 0) → r ≡ 4 * a * b * n / m → r ≡ basic_credit reduction rate calls missed
basic_missed reduction rate calls missed r a b n m ea eb en em some e =
    e
    ∙ ap (λ x. 4 * x * b * n / m) ea
    ∙ ap (λ x. 4 * reduction * x * n / m) eb
    ∙ ap (λ x. 4 * reduction * rate * x / m) en
    ∙ ap (λ x. 4 * reduction * rate * (calls - missed) / x) em
    ∙ sym (cond-false (missed == 0) (4 * reduction * rate * 6 / 5) (4 * reduction * rate * (calls - missed) / calls) (ne_eqb missed 0 some))

-- the credit, as the code sums it up
pub bid_sums : (reduction price : ℕ) (s : SiteModel) (kw : Demand) (k earned missed basic red rate count hours : ℕ) → k ≡ s.days → earned ≡ sum_below (λ j. for_call (call_at s Programme (31 + j)) (call_earns price s kw (31 + j))) k → missed ≡ sum_below (λ j. for_call (call_at s Programme (31 + j)) (λ c. cond (is_missed reduction (reduced s kw (31 + j) c)) 1 0)) k → basic ≡ basic_credit red rate count missed → red ≡ reduction → rate ≡ basic_rate count hours → count ≡ call_count s → hours ≡ called_hours s → earned + basic ≡ bid_credit reduction price s kw
bid_sums reduction price s kw k earned missed basic red rate count hours ek ee em eb er et ec eh =
    let counted_missed : missed ≡ missed_count reduction s kw = em ∙ ap (sum_below _) ek in
    let rated : rate ≡ basic_rate (call_count s) (called_hours s) = et ∙ ap (λ n. basic_rate n hours) ec ∙ ap (basic_rate (call_count s)) eh in
    ap (λ n. n + basic) (ee ∙ ap (sum_below _) ek)
    ∙ ap (λ n. sum_of_calls s Programme (call_earns price s kw) + n)
    (eb
    ∙ ap (λ n. basic_credit n rate count missed) er
    ∙ ap (λ n. basic_credit reduction n count missed) rated
    ∙ ap (λ n. basic_credit reduction (basic_rate (call_count s) (called_hours s)) n missed) ec
    ∙ ap (basic_credit reduction (basic_rate (call_count s) (called_hours s)) (call_count s)) counted_missed)

-- a call's reduction
module _ (s : SiteModel) (kw kw' : Demand) (d : ℕ) (c : Call) where
  reduced_grows : SameUncalled s kw kw' → NowhereHigher kw kw' → reduced s kw d c ≤ reduced s kw' d c
  reduced_grows same lower =
      let base = five_day_uncalled s (covers c) d kw kw' same in
      let avg = average_grows (covers c) (kw' d) (kw d) (lower d) in
      counted_grows (five_day s kw (covers c) d - average_in (covers c) (kw d)) (five_day s kw' (covers c) d - average_in (covers c) (kw' d)) (omega (arith, base, avg))

reduced_bounded : (s : SiteModel) (kw : Demand) (d : ℕ) (c : Call) → ((e slot : ℕ) → kw e slot ≤ 40000) → reduced s kw d c ≤ 40000 * 1200
reduced_bounded s kw d c low =
    let base = five_day_bounded s (covers c) d kw low in
    let most = counted_most (five_day s kw (covers c) d - average_in (covers c) (kw d)) in
    omega (arith, base, most)

-- readings that are the same in the named slots of a bid
module _ (s : SiteModel) (kw kw' : Demand) (same : (d slot : ℕ) → slot < 96 → bid_named s d slot ≡ true → kw d slot ≡ kw' d slot) (k : ℕ) (c : Call) (h : k < s.days) (e : call_at s Programme (31 + k) ≡ Some c) where
  named_base : five_day s kw (covers c) (31 + k) ≡ five_day s kw' (covers c) (31 + k)
  named_base =
      five_day_like s (covers c) (31 + k) kw kw'
      (λ d slot l t in_call.
      same d slot l (some_call_at s Programme (λ e c. covers c slot && (d == e || among d (averaged s e))) k c h e (and_from _ _ in_call (or_right _ _ t))))

  named_average : average_in (covers c) (kw (31 + k)) ≡ average_in (covers c) (kw' (31 + k))
  named_average =
      average_like (covers c) (kw (31 + k)) (kw' (31 + k))
      (λ slot l in_call.
      same (31 + k) slot l (some_call_at s Programme (λ e c. covers c slot && (31 + k == e || among (31 + k) (averaged s e))) k c h e (and_from _ _ in_call (or_left _ _ (eq-eqb (31 + k) (31 + k) refl)))))

  named_reduced : reduced s kw (31 + k) c ≡ reduced s kw' (31 + k) c
  named_reduced = ap (λ b. counted (b - average_in (covers c) (kw (31 + k)))) named_base ∙ ap (λ a. counted (five_day s kw' (covers c) (31 + k) - a)) named_average

module _ (reduction price : ℕ) (reduction_low : reduction ≤ 40000) (price_low : price ≤ 1000) where
  bid_bounded : (s : SiteModel) (kw : Demand) → s.days ≤ 31 → ((d slot : ℕ) → kw d slot ≤ 40000) → (bid reduction price).credit s kw ≤ 10 ^ 13
  bid_bounded s kw short low =
      let earned =
      calls_bounded s Programme (call_earns price s kw) 3840000000
      (λ k c h e. worth_bounded (reduced s kw (31 + k) c) (slots_in (covers c)) price (reduced_bounded s kw (31 + k) c low) (slots_few (covers c)) price_low) in
      let basic = basic_bounded reduction (basic_rate (call_count s) (called_hours s)) (call_count s) (missed_count reduction s kw) reduction_low (rate_low (call_count s) (called_hours s)) in
      omega (arith, earned, basic)

  bid_extra_bounded : (s : SiteModel) (kw : Demand) → s.days ≤ 31 → (bid reduction price).extra s kw ≤ 10 ^ 13
  bid_extra_bounded s kw short =
      let owed =
      calls_bounded s Programme (call_owes reduction price s kw) 3840000000
      (λ k c h e. worth_bounded (reduction * 1200 - reduced s kw (31 + k) c) (slots_in (covers c)) (max price 200) (omega arith) (slots_few (covers c)) (omega arith)) in
      omega (arith, owed)

  bid_deeper : (s : SiteModel) (kw kw' : Demand) → SameUncalled s kw kw' → NowhereHigher kw kw' → (bid reduction price).credit s kw + (bid reduction price).extra s kw' ≤ (bid reduction price).credit s kw' + (bid reduction price).extra s kw
  bid_deeper s kw kw' same lower =
      let deeper = λ (k : ℕ) (c : Call). reduced_grows s kw kw' (31 + k) c same lower in
      let earned =
      calls_grow s Programme (call_earns price s kw) (call_earns price s kw')
      (λ k c h e. worth_grows (reduced s kw (31 + k) c) (reduced s kw' (31 + k) c) (slots_in (covers c)) price (deeper k c)) in
      let owed =
      calls_grow s Programme (call_owes reduction price s kw') (call_owes reduction price s kw)
      (λ k c h e. let p = deeper k c in worth_grows (reduction * 1200 - reduced s kw' (31 + k) c) (reduction * 1200 - reduced s kw (31 + k) c) (slots_in (covers c)) (max price 200) (omega (arith, p))) in
      let missed =
      calls_grow s Programme (λ d c. cond (is_missed reduction (reduced s kw' d c)) 1 0) (λ d c. cond (is_missed reduction (reduced s kw d c)) 1 0)
      (λ k c h e. missed_falls reduction (reduced s kw (31 + k) c) (reduced s kw' (31 + k) c) (deeper k c)) in
      let basic = basic_falls reduction (basic_rate (call_count s) (called_hours s)) (call_count s) (missed_count reduction s kw) (missed_count reduction s kw') missed in
      omega (arith, earned, owed, basic)

  pub bid_laws : ProgrammeLaws (bid reduction price)
  bid_laws =
      record {
        reduction_bounded = reduction_low;
        price_bounded = price_low;
        baseline_bounded =
            λ s kw asked k h.
            for_each (λ x _. x ≤ 40000 * 1200) (call_at s Programme (31 + k)) (call_baseline s kw (31 + k)) (call_baseline s kw (31 + k)) (omega arith)
            (λ c e. five_day_bounded s (covers c) (31 + k) kw asked.low);
        credit_bounded = λ s kw asked. let b = bid_bounded s kw asked.short asked.low in omega (arith, b);
        extra_bounded = λ s kw asked. let b = bid_extra_bounded s kw asked.short in omega (arith, b);
        uncalled_baseline =
            λ s kw kw' asked asked' same k h.
            for_each (λ x y. x ≡ y) (call_at s Programme (31 + k)) (call_baseline s kw (31 + k)) (call_baseline s kw' (31 + k)) refl
            (λ c e. five_day_uncalled s (covers c) (31 + k) kw kw' same);
        deeper_earns = λ s kw kw' asked asked' same lower. bid_deeper s kw kw' same lower;
        named_baseline =
            λ s kw kw' asked asked' same k h.
            for_each (λ x y. x ≡ y) (call_at s Programme (31 + k)) (call_baseline s kw (31 + k)) (call_baseline s kw' (31 + k)) refl
            (λ c e. named_base s kw kw' same k c h e);
        named_credit =
            λ s kw kw' asked asked' same.
            let earned =
            calls_like s Programme (call_earns price s kw) (call_earns price s kw')
            (λ k c h e. ap (λ g. worth g (slots_in (covers c)) price) (named_reduced s kw kw' same k c h e)) in
            let missed =
            calls_like s Programme (λ d c. cond (is_missed reduction (reduced s kw d c)) 1 0) (λ d c. cond (is_missed reduction (reduced s kw' d c)) 1 0)
            (λ k c h e. ap (λ g. cond (is_missed reduction g) 1 0) (named_reduced s kw kw' same k c h e)) in
            let rate = basic_rate (call_count s) (called_hours s) in
            ap (λ n. n + basic_credit reduction rate (call_count s) (missed_count reduction s kw)) earned
            ∙ ap (λ n. sum_of_calls s Programme (call_earns price s kw') + basic_credit reduction rate (call_count s) n) missed;
        named_extra =
            λ s kw kw' asked asked' same.
            calls_like s Programme (call_owes reduction price s kw) (call_owes reduction price s kw')
            (λ k c h e. ap (λ g. worth (reduction * 1200 - g) (slots_in (covers c)) (max price 200)) (named_reduced s kw kw' same k c h e));
      }

  pub bid_bare : BareLaws (bid reduction price)
  bid_bare =
      record {
        bare_credit = λ s kw asked. bid_bounded s kw asked.short asked.low;
        bare_extra = λ s kw asked. bid_extra_bounded s kw asked.short;
      }
