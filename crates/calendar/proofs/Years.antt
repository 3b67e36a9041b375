-- The days of the years and months before a given one, in the forms in which the code works them out. Assumes nothing.
use Rattle.std.proofs.Common.{◌≡◌, ℕ, zero, suc, ◌+◌, ◌-◌, ◌*◌, ◌/◌, ◌<◌, ◌≤◌, Bool, true, ◌&&◌, eqb, refl, ap, ◌∙◌, arith}
use Rattle.std.proofs.lemmas.Bool.Decides.{Decides-below_and, Decides-eqb}
use Rattle.calendar.specs.Gregorian.{leap, days_in_years, days_in_months, month_length}

-- a test passes at each number below n
abbrev passes_below : (ℕ → Bool) → ℕ → Bool
passes_below p zero = true
passes_below p (suc n) = p n && passes_below p n

-- from 2000 to 2100 every fourth year is a leap year, 2000 among them
pub years_closed : (n : ℕ) → n < 101 → 365 * n + (n + 3) / 4 ≡ days_in_years n
years_closed =
    (Decides-below_and
    (λ k. eqb (365 * k + (k + 3) / 4) (days_in_years k))
    (λ k. 365 * k + (k + 3) / 4 ≡ days_in_years k)
    (passes_below (λ k. eqb (365 * k + (k + 3) / 4) (days_in_years k)))
    (λ k. Decides-eqb _ _)
    refl
    (λ _. refl)
    101).0 refl

-- one month more
pub months_more : (b : Bool) (m : ℕ) → 1 ≤ m → days_in_months b (m - 1) + month_length b m ≡ days_in_months b m
months_more b (suc m) h = ap (λ k. days_in_months b k + month_length b (suc m)) (omega arith)
months_more b zero h = absurd (omega arith)

-- one year more
pub years_more : (y : ℕ) → 2000 ≤ y → days_in_years (y - 2000) + days_in_months (leap y) 12 ≡ days_in_years (y + 1 - 2000)
years_more y h =
    let back : y ≡ 2000 + (y - 2000) = omega arith in
    let next : suc (y - 2000) ≡ y + 1 - 2000 = omega arith in
    ap (λ z. days_in_years (y - 2000) + days_in_months (leap z) 12) back ∙ ap days_in_years next
