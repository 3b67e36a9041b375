-- The readings of a metered site: of a day, or of none, as sums take them, and none above the highest. Assumes nothing.
use Rattle.std.proofs.Common.{◌≡◌, ℕ, zero, suc, ◌+◌, ◌-◌, ◌*◌, ◌<◌, ◌≤◌, Bool, false, ltb, List, [], ◌∷◌, ◌++◌, Option, Some, None, Bor, length, sum_by, get_or, unwrap_or, MatchOption, take, drop, sym, refl, ap, ◌∙◌, arith}
use Rattle.std.proofs.lemmas.List.{get_or-take, get_or-drop, get_or_append_left, get_or-append_right, get_or_past, length-append, length-take, length-drop}
use Rattle.std.proofs.lemmas.Bool.{or_parts}
use Rattle.std.proofs.lemmas.Bool.Decides.{nat_tests}
use Rattle.std.proofs.lemmas.List.Sums.{sum_by-cons}
use Rattle.readings.specs.Sheets.{any_above}
use Rattle.programmes.specs.declared.metered.Metered.{Metered}
use Rattle.programmes.specs.Averages.{kw_in, averaged}
use Rattle.programmes.specs.Meterings.{site_of, demand_of, IsDayAmong, ReadsDay}
use Rattle.programmes.specs.Sites.{eligible}
use Rattle.programmes.specs.Amounts.{kw_like, kw_bounded, slots_few, latest_few}

-- a cut of a list that has enough
cut_long : (xs : List ℕ) (at n : ℕ) → at + n ≤ length xs → length (take n (drop at xs)) ≡ n
cut_long xs at n h = simp (length-take, length-drop) (omega arith)

module _ (m : Metered) (d : ℕ) where
  -- where a slot of a day of the lead stands, and of one of the month
  lead_slot : d < 31 → (slot : ℕ) → slot < 96 → get_or (take 96 (drop (96 * d) m.lead.now)) slot 0 ≡ demand_of m d slot
  lead_slot low slot h =
      let long = m.full.lead_long in
      get_or-take 96 (drop (96 * d) m.lead.now) slot 0 h
      ∙ get_or-drop (96 * d) m.lead.now slot 0
      ∙ sym (get_or_append_left m.lead.now m.readings.now 0 (96 * d + slot) (omega arith))

  month_slot : (k : ℕ) → d ≡ 31 + k → (slot : ℕ) → slot < 96 → get_or (take 96 (drop (96 * k) m.readings.now)) slot 0 ≡ demand_of m d slot
  month_slot k e slot h =
      let long = m.full.lead_long in
      let at : 96 * k + slot ≡ 96 * d + slot - length m.lead.now = omega arith in
      get_or-take 96 (drop (96 * k) m.readings.now) slot 0 h
      ∙ get_or-drop (96 * k) m.readings.now slot 0
      ∙ ap (λ i. get_or m.readings.now i 0) at
      ∙ sym (get_or-append_right m.lead.now m.readings.now (length m.lead.now) (96 * d + slot) 0 refl (omega arith))

  -- the readings that stand at a day's place are that day's
  pub of_lead : d < 31 → (r : Option (Bor (List ℕ))) → IsDayAmong m.lead.now d r → MatchOption r (31 + (site_of m).days ≤ d) (λ b. (d < 31 + (site_of m).days) × ReadsDay b.now (demand_of m d))
  of_lead low None short = let long = m.full.lead_long in omega (arith, short)
  of_lead low (Some b) read =
      let long = ap length read.1 ∙ cut_long m.lead.now (96 * d) 96 read.0 in
      (omega arith, record { long = long; each = λ slot h. ap (λ xs. get_or xs slot 0) read.1 ∙ lead_slot low slot h })

  pub of_month : (k : ℕ) → d ≡ 31 + k → (r : Option (Bor (List ℕ))) → IsDayAmong m.readings.now k r → MatchOption r (31 + (site_of m).days ≤ d) (λ b. (d < 31 + (site_of m).days) × ReadsDay b.now (demand_of m d))
  of_month k e None short = let month = m.full.month_long in omega (arith, short)
  of_month k e (Some b) read =
      let month = m.full.month_long in
      let long = ap length read.1 ∙ cut_long m.readings.now (96 * k) 96 read.0 in
      let within = read.0 in
      (omega (arith, within), record { long = long; each = λ slot h. ap (λ xs. get_or xs slot 0) read.1 ∙ month_slot k e slot h })

  -- a day behind the month has no demand
  past_month : 31 + (site_of m).days ≤ d → (slot : ℕ) → demand_of m d slot ≡ 0
  past_month past slot =
      let long = length-append m.lead.now m.readings.now in
      let lead = m.full.lead_long in
      let month = m.full.month_long in
      get_or_past (m.lead.now ++ m.readings.now) (96 * d + slot) 0 (omega arith)

  -- so a day's readings sum to the same, where no day counts as no readings
  pub day_kw : (set : ℕ → Bool) (r : Option (Bor (List ℕ))) (none : Bor (List ℕ)) → none.now ≡ [] → MatchOption r (31 + (site_of m).days ≤ d) (λ b. (d < 31 + (site_of m).days) × ReadsDay b.now (demand_of m d)) → kw_in set (λ slot. get_or (unwrap_or r none).now slot 0) ≡ kw_in set (demand_of m d)
  day_kw set None none e past = kw_like set _ _ (λ slot h _. ap (λ xs. get_or xs slot 0) e ∙ sym (past_month past slot))
  day_kw set (Some b) none e read = kw_like set _ _ (λ slot h _. read.1.each slot h)

-- readings of which none is above the highest
low_at : (xs : List ℕ) (i : ℕ) → any_above xs ≡ false → get_or xs i 0 ≤ 40000
low_at [] i e = omega arith
low_at (x ∷ xs) zero e = grind (arith, nat_tests)
low_at (x ∷ xs) (suc i) e = low_at xs i (or_parts (ltb 40000 x) (any_above xs) e).1

low_append : (xs ys : List ℕ) (i : ℕ) → any_above xs ≡ false → any_above ys ≡ false → get_or (xs ++ ys) i 0 ≤ 40000
low_append [] ys i e f = low_at ys i f
low_append (x ∷ xs) ys zero e f = low_at (x ∷ xs) 0 e
low_append (x ∷ xs) ys (suc i) e f = low_append xs ys i (or_parts (ltb 40000 x) (any_above xs) e).1 f

pub metered_low : (m : Metered) (d slot : ℕ) → demand_of m d slot ≤ 40000
metered_low m d slot = low_append m.lead.now m.readings.now (96 * d + slot) m.full.lead_low m.full.month_low

-- the sum over the days averaged
sum_small : (f : ℕ → ℕ) (most : ℕ) (es : List ℕ) → ((e : ℕ) → f e ≤ most) → sum_by f es ≤ length es * most
sum_small f most [] low = omega arith
sum_small f most (e ∷ es) low = omega (arith, sum_by-cons f e es, low e, sum_small f most es low)

pub averaged_small : (m : Metered) (set : ℕ → Bool) (d : ℕ) → sum_by (λ e. kw_in set (demand_of m e)) (averaged (site_of m) d) ≤ 19200000
averaged_small m set d =
    let slots = slots_few set in
    let all =
    sum_small (λ e. kw_in set (demand_of m e)) 3840000 (averaged (site_of m) d)
    (λ e. let kw = kw_bounded set (demand_of m e) (metered_low m e) in omega (arith, kw, slots)) in
    let few = latest_few 5 (eligible (site_of m)) d in
    omega (arith, all, few)
