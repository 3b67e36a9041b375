-- What a metered site asks of a programme that does not refuse it. Assumes nothing.
use Rattle.std.proofs.Common.{◌≡◌, ℕ, ◌+◌, ◌-◌, ◌<◌, ◌≤◌, cond, ◌||◌, eqb, None, subst, arith}
use Rattle.std.proofs.lemmas.Bool.{cond_both}
use Rattle.calendar.specs.Gregorian.{leap, length_of}
use Rattle.programmes.specs.declared.metered.Metered.{Metered}
use Rattle.programmes.specs.Meanings.{ProgrammeMeaning, ProgrammeLaws, Asked}
use Rattle.programmes.specs.Meterings.{site_of, demand_of}
use Rattle.programmes.proofs.MeteredDays.{metered_low}

-- a month has 31 days at most
pub month_short : (year month : ℕ) → length_of year month ≤ 31
month_short year month =
    cond_both (eqb month 2) (cond (leap year) 29 28) (cond (eqb month 4 || (eqb month 6 || (eqb month 9 || eqb month 11))) 30 31) (λ n. n ≤ 31)
    (λ _. cond_both (leap year) 29 28 (λ n. n ≤ 31) (λ _. omega arith) (λ _. omega arith))
    (λ _. cond_both (eqb month 4 || (eqb month 6 || (eqb month 9 || eqb month 11))) 30 31 (λ n. n ≤ 31) (λ _. omega arith) (λ _. omega arith))

module _ (p : ProgrammeMeaning) (m : Metered) (granted : p.refusal (site_of m) ≡ None) where
  -- a metered site that is not refused is what a quote may ask with
  pub metered_asked : Asked p (site_of m) (demand_of m)
  metered_asked = record { short = month_short m.site.month.year m.site.month.month; granted = granted; low = metered_low m }

  -- the bound on a baseline, at a day of the month
  pub baseline_at : ProgrammeLaws p → (d : ℕ) → 31 ≤ d → d < 31 + (site_of m).days → p.baseline (site_of m) (demand_of m) d ≤ 48000000
  baseline_at laws d from within =
      let at : 31 + (d - 31) ≡ d = omega arith in
      subst (λ e. p.baseline (site_of m) (demand_of m) e ≤ 48000000) at (laws.baseline_bounded (site_of m) (demand_of m) metered_asked (d - 31) (omega arith))
