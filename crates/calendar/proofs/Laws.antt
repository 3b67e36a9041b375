-- The calendar's laws. Assumes nothing.
use Rattle.std.proofs.Common.{◌≡◌, ℕ, zero, suc, ◌+◌, ◌-◌, ◌%◌, ◌<◌, ◌≤◌, Bool, true, false, cond, ◌&&◌, eqb, leb, Some, None, sym, refl, ap, ◌∙◌, subst, inl, inr, arith}
use Rattle.std.proofs.lemmas.Bool.{and_parts, leb-true, cases_Bool, cases_lt, cases_order, eqb-true}
use Rattle.std.proofs.lemmas.Bool.Decides.{nat_tests}
use Rattle.calendar.specs.CalendarLaws.{Abuts, Earlier, LaterIsLarger, OneDate, GoesRound}
use Rattle.calendar.specs.Dates.{is_date, date_day, Within}
use Rattle.calendar.specs.Gregorian.{leap, days_in_months, days_in_years, first_day_of, length_of, month_refusal}
use Rattle.calendar.specs.declared.refusal.Refusal.{Refusal}
use Rattle.calendar.proofs.Years.{months_more, years_more}

pub goes_round : (day : ℕ) → GoesRound day
goes_round day = record { follows = grind (arith, nat_tests); seventh = let e : (day + 7) % 7 ≡ day % 7 = omega arith in grind (arith, nat_tests) }

-- but for December, a month's days are those between the months before it and the months with it
month_ends : (year month : ℕ) → 1 ≤ month → first_day_of year (month + 1) ≡ first_day_of year month + length_of year month
month_ends year month low =
    let more = months_more (leap year) month low in
    let next = ap (days_in_months (leap year)) (let e : month + 1 - 1 ≡ month = omega arith in e) in
    omega (arith, more, next)

-- with December the year ends
year_ends : (year : ℕ) → 2000 ≤ year → first_day_of (year + 1) 1 ≡ first_day_of year 12 + length_of year 12
year_ends year from =
    let more = years_more year from in
    let whole = months_more (leap year) 12 (omega arith) in
    omega (arith, more, whole)

pub abuts : (year month : ℕ) → 2000 ≤ year → 1 ≤ month → Abuts year month
abuts year month from low =
    elim (cases_Bool (eqb month 12)) [
      | inl e ↦ subst (λ (m : ℕ). Abuts year m) (sym (eqb-true month 12 e)) (year_ends year from)
      | inr e ↦ ap (λ b. first_day_of (cond b (year + 1) year) (cond b 1 (month + 1))) e ∙ month_ends year month low
    ]

-- the days of months and years only grow
months_grow : (b : Bool) (m n : ℕ) → m ≤ n → days_in_months b m ≤ days_in_months b n
months_grow b m zero h = let e : m ≡ 0 = omega arith in let f = ap (days_in_months b) e in omega (arith, f)
months_grow b m (suc n) h =
    elim (cases_order m (suc n)) [
      | inl e ↦ let f = ap (days_in_months b) e in omega (arith, f)
      | inr o ↦ elim o [ inl l ↦ let f = months_grow b m n (omega arith) in omega (arith, f) | inr g ↦ absurd (omega arith) ]
    ]

years_grow : (m n : ℕ) → m ≤ n → days_in_years m ≤ days_in_years n
years_grow m zero h = let e : m ≡ 0 = omega arith in let f = ap days_in_years e in omega (arith, f)
years_grow m (suc n) h =
    elim (cases_order m (suc n)) [
      | inl e ↦ let f = ap days_in_years e in omega (arith, f)
      | inr o ↦ elim o [ inl l ↦ let f = years_grow m n (omega arith) in omega (arith, f) | inr g ↦ absurd (omega arith) ]
    ]

-- what a date's number is made of
pub record Known (year month day n : ℕ) : Type 0 where
  pub from : 2000 ≤ year
  pub to : year ≤ 2099
  pub low : 1 ≤ month
  pub high : month ≤ 12
  pub first : 1 ≤ day
  pub last : day ≤ length_of year month
  pub number : n ≡ first_day_of year month + (day - 1)

known_if : (year month day n : ℕ) (b : Bool) → is_date year month day ≡ b → cond b (Some (first_day_of year month + (day - 1))) None ≡ Some n → Known year month day n
known_if year month day n true e f =
    let all = and_parts ((leb 2000 year && leb year 2099) && (leb 1 month && leb month 12)) (leb 1 day && leb day (length_of year month)) e in
    let ym = and_parts (leb 2000 year && leb year 2099) (leb 1 month && leb month 12) all.0 in
    let y = and_parts (leb 2000 year) (leb year 2099) ym.0 in
    let m = and_parts (leb 1 month) (leb month 12) ym.1 in
    let d = and_parts (leb 1 day) (leb day (length_of year month)) all.1 in
    record {
      from = leb-true 2000 year y.0;
      to = leb-true year 2099 y.1;
      low = leb-true 1 month m.0;
      high = leb-true month 12 m.1;
      first = leb-true 1 day d.0;
      last = leb-true day (length_of year month) d.1;
      number = cc;
    }
known_if year month day n false e f = absurd (let z : ◌≡◌ {A = ℕ} 0 1 = cc in omega arith)

pub known : (year month day n : ℕ) → date_day year month day ≡ Some n → Known year month day n
known year month day n e = known_if year month day n (is_date year month day) refl e

-- the day lies before the end of its month, and its month before the end of its year
before_month_end : (year month day n : ℕ) → Known year month day n → n < first_day_of year (month + 1)
before_month_end year month day n k = let e = month_ends year month k.low in omega (arith, e)

pub later_is_larger : LaterIsLarger
later_is_larger year month day year' month' day' n n' e e' earlier =
    elim earlier [
      | inl y ↦
          let a = before_month_end year month day n k in
          let b = months_grow (leap year) (month + 1 - 1) 12 (omega (arith, k.high)) in
          let c = years_more year k.from in
          let d = years_grow (year + 1 - 2000) (year' - 2000) (omega arith) in
          omega (arith, a, b, c, d, k'.number)
      | inr s ↦ elim s.1 [
        | inl m ↦
            let a = before_month_end year month day n k in
            let b = months_grow (leap year) (month + 1 - 1) (month' - 1) (omega arith) in
            let c = ap (λ y. days_in_years (y - 2000) + days_in_months (leap y) (month' - 1)) s.0 in
            omega (arith, a, b, c, k'.number)
        | inr d ↦
            let c = ap (λ y. first_day_of y month) s.0 in
            let f = ap (λ m. first_day_of year' m) d.0 in
            omega (arith, c, f, k.number, k'.number, k.first, d.1)
      ]
    ]
  where
    k : Known year month day n
    k = known year month day n e

    k' : Known year' month' day' n'
    k' = known year' month' day' n' e'

pub one_date : OneDate
one_date year month day year' month' day' n e e' =
    elim (cases_order year year') [
      | inr o ↦ elim o [ inl l ↦ absurd (forth (inl l)) | inr g ↦ absurd (back (inl g)) ]
      | inl y ↦ elim (cases_order month month') [
        | inr o ↦ elim o [ inl l ↦ absurd (forth (inr (y, inl l))) | inr g ↦ absurd (back (inr (sym y, inl g))) ]
        | inl m ↦ elim (cases_order day day') [
          | inr o ↦ elim o [ inl l ↦ absurd (forth (inr (y, inr (m, l)))) | inr g ↦ absurd (back (inr (sym y, inr (sym m, g)))) ]
          | inl d ↦ (y, (m, d))
        ]
      ]
    ]
  where
    forth : Earlier year month day year' month' day' → ⊥
    forth x = let l = later_is_larger year month day year' month' day' n n e e' x in omega arith

    back : Earlier year' month' day' year month day → ⊥
    back x = let l = later_is_larger year' month' day' year month day n n e' e x in omega arith

-- the date of a day tells the month that the day is in
pub in_month : (year month day n : ℕ) → Known year month day n → Within n year month
in_month year month day n k = record { from = let e = k.number in omega arith; to = let e = k.number in let f = k.first in let g = k.last in omega arith }

-- a month is refused for a date of the calendar only in 2000
pub refused_early : (year month day n : ℕ) (e : Refusal) → Known year month day n → month_refusal year month ≡ Some e → n < 366
refused_early year month day n e k r =
    let y : year ≡ 2000 = early in
    let a = before_month_end year month day n k in
    let b = months_grow (leap year) (month + 1 - 1) 12 (omega (arith, k.high)) in
    let c = ap (λ z. days_in_years (z - 2000) + days_in_months (leap z) 12) y in
    omega (arith, a, b, c)
  where
    not_later : 2001 ≤ year → ⊥
    not_later from =
        let to = k.to in
        let low = k.low in
        let high = k.high in
        let none : month_refusal year month ≡ None = grind (arith, nat_tests) in
        let z : ◌≡◌ {A = ℕ} 0 1 = cc in omega arith

    early : year ≡ 2000
    early = elim (cases_lt year 2001) [ inl l ↦ omega (arith, k.from) | inr l ↦ absurd (not_later l) ]
