-- Bounds and order of averages and of what they are worth. Assumes nothing.
use Rattle.std.specs.Prelude.{◌≡◌, ℕ, zero, suc, ◌*◌, ◌/◌, ◌<◌, ◌≤◌, Bool, true, false, cond, not, ◌||◌, List, [], ◌∷◌, length, is_some, Some, None, sum_by, Option, ◌==◌, nat_eq, refl}
use Rattle.std.proofs.Common.{sym, ap, subst, ◌∙◌, ⊎_elim, mul-le-mul, mul-le-mul_right, div-mul-le_self, le_trans, arith}
use Rattle.std.proofs.Math.Nat.{div-le_of_le-mul, div-zero}
use Rattle.std.proofs.lemmas.Nat.{le-div}
use Rattle.std.proofs.lemmas.List.Sums.{sum_by-cons}
use Rattle.std.proofs.lemmas.Bool.{cond_both, eqb-true, or_cases, or_parts, and_parts, not-true, cases_Bool, or_from, or_left, or_right, eq-eqb}
use Rattle.books.specs.declared.call.Call.{Call}
use Rattle.books.specs.declared.call.CallKind.TheVariants.{Programme, Flexible}
use Rattle.books.specs.OffPeak.{kind_under}
use Rattle.programmes.specs.Averages.{kw_in, slots_in, average_in, latest, averaged, among, five_day, worth}
use Rattle.programmes.specs.Meanings.{SameUncalled}
use Rattle.programmes.specs.Sites.{SiteModel, Demand, call_at, called, eligible, in_call, is_working, day_number}
use Rattle.programmes.specs.SumLaws.{sum_like, sum_grows, sum_bounded, sum_scaled}

-- a quotient grows with what is divided
pub div_grows : (a b n : ℕ) → a ≤ b → a / n ≤ b / n
div_grows a b zero h = let p = div-zero a in let q = div-zero b in omega arith
div_grows a b (suc n) h = le-div (a / suc n) b (suc n) (omega arith) (le_trans (div-mul-le_self a (suc n)) h)

-- what more grains are worth
pub worth_grows : (g g' n cents : ℕ) → g ≤ g' → worth g n cents ≤ worth g' n cents
worth_grows g g' n cents h = div_grows _ _ 1200 (mul-le-mul_right cents (mul-le-mul_right n h))

-- nothing is worth more than 40,000 kW over all slots of a day at 1,000 cents
pub worth_bounded : (g n cents : ℕ) → g ≤ 40000 * 1200 → n ≤ 96 → cents ≤ 1000 → worth g n cents ≤ 3840000000
worth_bounded g n cents hg hn hc =
    let p : g * n * cents ≤ 40000 * 1200 * 96 * 1000 = mul-le-mul (mul-le-mul hg hn) hc in
    div-le_of_le-mul 1200 (omega (arith, p))

module _ (set : ℕ → Bool) where
  -- a set has the slots of a day at most
  pub slots_few : slots_in set ≤ 96
  slots_few =
      sum_bounded (λ slot. cond (set slot) 1 0) 1 96
      (λ k h. cond_both (set k) 1 0 (λ x. x ≤ 1) (λ _. omega arith) (λ _. omega arith))

  -- readings that are the same in the set
  pub kw_like : (day day' : ℕ → ℕ) → ((slot : ℕ) → slot < 96 → set slot ≡ true → day slot ≡ day' slot) → kw_in set day ≡ kw_in set day'
  kw_like day day' same =
      sum_like (λ slot. cond (set slot) (day slot) 0) (λ slot. cond (set slot) (day' slot) 0) 96
      (λ k h. ⊎_elim
      (λ (t : set k ≡ true). subst (λ b. cond b (day k) 0 ≡ cond b (day' k) 0) (sym t) (same k h t))
      (λ (f : set k ≡ false). subst (λ b. cond b (day k) 0 ≡ cond b (day' k) 0) (sym f) refl)
      (cases_Bool (set k)))

  -- readings that are nowhere lower
  pub kw_grows : (day day' : ℕ → ℕ) → ((slot : ℕ) → slot < 96 → day slot ≤ day' slot) → kw_in set day ≤ kw_in set day'
  kw_grows day day' lower =
      sum_grows (λ slot. cond (set slot) (day slot) 0) (λ slot. cond (set slot) (day' slot) 0) 96
      (λ k h. elim (set k) as (λ b. cond b (day k) 0 ≤ cond b (day' k) 0) [ true ↦ lower k h | false ↦ omega arith ])

  pub kw_bounded : (day : ℕ → ℕ) → ((slot : ℕ) → day slot ≤ 40000) → kw_in set day ≤ 40000 * slots_in set
  kw_bounded day low =
      sum_scaled (λ slot. cond (set slot) (day slot) 0) (λ slot. cond (set slot) 1 0) 40000 96
      (λ k h. let l = low k in elim (set k) as (λ b. cond b (day k) 0 ≤ 40000 * cond b 1 0) [ true ↦ omega arith | false ↦ omega arith ])

  pub average_like : (day day' : ℕ → ℕ) → ((slot : ℕ) → slot < 96 → set slot ≡ true → day slot ≡ day' slot) → average_in set day ≡ average_in set day'
  average_like day day' same = ap (λ n. n * 1200 / slots_in set) (kw_like day day' same)

  pub average_grows : (day day' : ℕ → ℕ) → ((slot : ℕ) → slot < 96 → day slot ≤ day' slot) → average_in set day ≤ average_in set day'
  average_grows day day' lower = div_grows _ _ (slots_in set) (mul-le-mul_right 1200 (kw_grows day day' lower))

-- the latest n days are at most n, pass the test and come before
pub latest_few : (n : ℕ) (ok : ℕ → Bool) (d : ℕ) → length (latest n ok d) ≤ n
unfolding latest
latest_few zero ok d = omega arith
latest_few (suc n) ok zero = omega arith
latest_few (suc n) ok (suc d) =
    let a = latest_few n ok d in
    let b = latest_few (suc n) ok d in
    cond_both (ok d) (d ∷ latest n ok d) (latest (suc n) ok d) (λ es. length es ≤ suc n) (λ _. omega arith) (λ _. b)

pub latest_pass : (n : ℕ) (ok : ℕ → Bool) (d e : ℕ) → among e (latest n ok d) ≡ true → ok e ≡ true
unfolding latest
latest_pass zero ok d e t = absurd (let z : ◌≡◌ {A = Bool} false true = t in let w : ◌≡◌ {A = ℕ} 0 1 = cc in omega arith)
latest_pass (suc n) ok zero e t = absurd (let z : ◌≡◌ {A = Bool} false true = t in let w : ◌≡◌ {A = ℕ} 0 1 = cc in omega arith)
latest_pass (suc n) ok (suc d) e h =
    cond_both (ok d) (d ∷ latest n ok d) (latest (suc n) ok d) (λ es. among e es ≡ true → ok e ≡ true)
    (λ passes t. ⊎_elim (λ (q : nat_eq e d ≡ true). ap ok (eqb-true e d q) ∙ passes) (latest_pass n ok d e) (or_cases (e == d) (among e (latest n ok d)) t))
    (λ _. latest_pass (suc n) ok d e)
    h

-- sums over days
sum_days_like : (f g : ℕ → ℕ) (es : List ℕ) → ((e : ℕ) → among e es ≡ true → f e ≡ g e) → sum_by f es ≡ sum_by g es
sum_days_like f g [] same = refl
sum_days_like f g (e ∷ es) same =
    let a = sum_by-cons f e es in
    let b = sum_by-cons g e es in
    let first : f e ≡ g e = same e (or_left _ _ (eq-eqb e e refl)) in
    let others = sum_days_like f g es (λ k t. same k (or_right _ _ t)) in
    omega arith

sum_days_bounded : (f : ℕ → ℕ) (m : ℕ) (es : List ℕ) → ((e : ℕ) → f e ≤ m) → sum_by f es ≤ length es * m
sum_days_bounded f m [] low = omega arith
sum_days_bounded f m (e ∷ es) low =
    let a = sum_by-cons f e es in
    let first = low e in
    let others = sum_days_bounded f m es low in
    omega arith

module _ (s : SiteModel) (set : ℕ → Bool) (d : ℕ) where
  -- readings that are the same in the set on the days averaged
  pub five_day_like : (kw kw' : Demand) → ((e slot : ℕ) → slot < 96 → among e (averaged s d) ≡ true → set slot ≡ true → kw e slot ≡ kw' e slot) → five_day s kw set d ≡ five_day s kw' set d
  five_day_like kw kw' same =
      ap (λ n. n * 1200 / (5 * slots_in set))
      (sum_days_like (λ e. kw_in set (kw e)) (λ e. kw_in set (kw' e)) (averaged s d)
      (λ e t. kw_like set (kw e) (kw' e) (λ slot h in_set. same e slot h t in_set)))

  pub five_day_bounded : (kw : Demand) → ((e slot : ℕ) → kw e slot ≤ 40000) → five_day s kw set d ≤ 40000 * 1200
  five_day_bounded kw low =
      let few = latest_few 5 (eligible s) d in
      let a = sum_days_bounded (λ e. kw_in set (kw e)) (40000 * slots_in set) (averaged s d) (λ e. kw_bounded set (kw e) (low e)) in
      let b = mul-le-mul_right (40000 * slots_in set) few in
      div-le_of_le-mul (5 * slots_in set) (omega (arith, a, b))

-- nothing is called on a day that may be averaged
pub uncalled : (s : SiteModel) (d slot : ℕ) → eligible s d ≡ true → called s d slot ≡ false
uncalled s d slot e =
    let parts = and_parts (is_working (kind_under s.off_peak (day_number s d))) (not (is_some (call_at s Programme d) || is_some (call_at s Flexible d))) e in
    let none = or_parts (is_some (call_at s Programme d)) (is_some (call_at s Flexible d)) (not-true _ parts.1) in
    or_from _ _ (no_slot (call_at s Programme d) none.0) (no_slot (call_at s Flexible d) none.1)
  where
    no_slot : (o : Option Call) → is_some o ≡ false → in_call o slot ≡ false
    no_slot None e = refl
    no_slot (Some c) e = absurd (let w : ◌≡◌ {A = ℕ} 0 1 = cc in omega arith)

-- so a five-day average rests on no called slot
pub five_day_uncalled : (s : SiteModel) (set : ℕ → Bool) (d : ℕ) (kw kw' : Demand) → SameUncalled s kw kw' → five_day s kw set d ≡ five_day s kw' set d
five_day_uncalled s set d kw kw' same =
    five_day_like s set d kw kw' (λ e slot h t _. same e slot h (uncalled s e slot (latest_pass 5 (eligible s) d e t)))

-- an average of equal sums over equally many slots
pub same_average : (r kw kw' n n' : ℕ) → r ≡ kw * 1200 / n → kw ≡ kw' → n ≡ n' → r ≡ kw' * 1200 / n'
same_average r kw kw' n n' e p q = e ∙ ap (λ x. x * 1200 / n) p ∙ ap (λ y. kw' * 1200 / y) q

-- and what equal grains over equally many slots are worth at one price
pub same_worth : (r g g' n n' p p' : ℕ) → r ≡ worth g n p → g ≡ g' → n ≡ n' → p ≡ p' → r ≡ worth g' n' p'
same_worth r g g' n n' p p' e eg en ep = e ∙ ap (λ x. worth x n p) eg ∙ ap (λ x. worth g' x p) en ∙ ap (worth g' n') ep
