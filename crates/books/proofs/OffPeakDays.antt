-- A day that is granted as off-peak is the off-peak day of its number. Assumes nothing.
use Rattle.std.proofs.Common.{◌≡◌, ℕ, ◌≤◌, Some, None, Option, ap, subst}
use native.Mathlib.Bridge.{le_prop}
use native.Mathlib.Decide.{dec_le}
use Rattle.books.specs.declared.off_peak.OffPeakDay.{OffPeakDay}
use Rattle.books.specs.OffPeak.{off_peak_day}

own_day : (d : OffPeakDay) → off_peak_day d.day ≡ Some d
own_day d = decided (dec_le d.day 36524)
  where
    decided : (x : Dec (d.day ≤ 36524)) → elim x as (λ _. Option OffPeakDay) [ yes known ↦ Some (record { day = d.day; known = known }) | no _ ↦ None ] ≡ Some d
    decided (yes known) = ap (λ (k : d.day ≤ 36524). Some (record { day = d.day; known = k })) (le_prop known d.known)
    decided (no never) = absurd (never d.known)

pub granted_day : (day : ℕ) (d : OffPeakDay) → d.day ≡ day → off_peak_day day ≡ Some d
granted_day day d e = subst (λ (n : ℕ). off_peak_day n ≡ Some d) e (own_day d)
