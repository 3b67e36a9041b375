use Rattle.std.proofs.Common.{◌≡◌, ℕ, ◌<◌, ◌⊎◌, Ok, Err, Result, MatchOption, sym, inl, subst}
use Rattle.std.specs.Result.{result_ok}
use Rattle.calendar.specs.declared.month.Month.{Month}
use Rattle.calendar.specs.declared.refusal.Refusal.{Refusal}
use Rattle.calendar.specs.Dates.{Within}
use Rattle.calendar.specs.Gregorian.{month_refusal}
use Rattle.calendar.specs.Judging.{Judged}
use Rattle.calendar.proofs.Laws.{Known, known, in_month, refused_early}
use Rattle.calendar.proofs.month.Month.of_day.Goals as goal

-- a date's month is granted, and the day lies in it, or is refused, and the day is early
asked : (year month day n : ℕ) → Known year month day n → (r : Result Month Refusal) → Judged r (month_refusal year month) (λ m. (m.year ≡ year) × (m.month ≡ month)) → MatchOption (result_ok r) ((n < 366) ⊎ (36524 < n)) (λ m. Within n m.year m.month)
asked year month day n k (Ok m) j =
    subst (λ (y : ℕ). Within n y m.month) (sym j.1.0) (subst (λ (x : ℕ). Within n year x) (sym j.1.1) (in_month year month day n k))
asked year month day n k (Err e) j = inl (refused_early year month day n e k j)

pub returns : goal.returns
returns c =
    let d = c.in_ok-date.date in
    let of = known d.year d.month d.day c.args.day c.in_ok-date.ensures.value in
    subst (λ o. MatchOption o ((c.args.day < 366) ⊎ (36524 < c.args.day)) (λ m. Within c.args.day m.year m.month)) (sym c.ok.ensures.value)
    (asked d.year d.month d.day c.args.day of c.new.result
    (subst (λ (y : ℕ). Judged c.new.result (month_refusal y d.month) (λ m. (m.year ≡ y) × (m.month ≡ d.month))) c.from.ensures
    (subst (λ (x : ℕ). Judged c.new.result (month_refusal c.from.result x) (λ m. (m.year ≡ c.from.result) × (m.month ≡ x))) c.from-2.ensures c.new.ensures)))
