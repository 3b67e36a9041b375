-- The forms of the values of a job's lines. Assumes nothing.
use Rattle.std.specs.Prelude.{ℕ, ◌+◌, ◌*◌, Bool, true, false, cond, ◌&&◌, List, length, Some, None, codes, Option, ◌==◌, slice_index}
use Rattle.std.specs.Str.{bytes_eq}
use Rattle.calendar.specs.Dates.{date_day}
use Rattle.job.specs.declared.statement.TariffName.{TariffName}
use Rattle.job.specs.declared.statement.TariffName.TheVariants.{H3, L2, S3}
use Rattle.job.specs.declared.statement.ProgrammeName.{ProgrammeName}
use Rattle.job.specs.declared.statement.ProgrammeName.TheVariants.{None as no_programme, Bid}
use Rattle.job.specs.Texts.{cut_at, digit_of, number_of}

-- the number that two digits say
abbrev pub two_digits : ℕ → ℕ → Option ℕ
two_digits a b = elim (digit_of a) [ None ↦ None | Some t ↦ elim (digit_of b) [ None ↦ None | Some o ↦ Some (10 * t + o) ] ]

-- two numbers that both are there, as one value
abbrev pub both : Option ℕ → Option ℕ → Option (ℕ × ℕ)
both None y = None
both (Some x) None = None
both (Some x) (Some y) = Some (x, y)

-- the number that four digits say
abbrev pub four_digits : ℕ → ℕ → ℕ → ℕ → Option ℕ
four_digits a b c d = elim (two_digits a b) [ None ↦ None | Some h ↦ elim (two_digits c d) [ None ↦ None | Some r ↦ Some (100 * h + r) ] ]

-- the year that a value begins with
abbrev pub year_in : List ℕ → Option ℕ
year_in bs = four_digits (slice_index bs 0) (slice_index bs 1) (slice_index bs 2) (slice_index bs 3)

-- a month is four digits, a hyphen and two digits
abbrev pub month_of : List ℕ → Option (ℕ × ℕ)
month_of bs =
    cond (length bs == 7 && slice_index bs 4 == 45) (both (year_in bs) (two_digits (slice_index bs 5) (slice_index bs 6))) None

-- a date is four digits, a hyphen, two digits, a hyphen and two digits
abbrev pub date_parts : List ℕ → Option (ℕ × ℕ × ℕ)
date_parts bs =
    cond (length bs == 10 && (slice_index bs 4 == 45 && slice_index bs 7 == 45))
    (elim (year_in bs) [
      | None ↦ None
      | Some y ↦ elim (both (two_digits (slice_index bs 5) (slice_index bs 6)) (two_digits (slice_index bs 8) (slice_index bs 9))) [ None ↦ None | Some p ↦ Some (y, p.0, p.1) ]
    ])
    None

-- and 2000 to 2099 have it
abbrev pub date_of : List ℕ → Option ℕ
date_of bs = elim (date_parts bs) [ None ↦ None | Some p ↦ date_day p.0 p.1 p.2 ]

-- a tariff is one of three names
abbrev pub tariff_of : List ℕ → Option TariffName
tariff_of bs =
    cond (bytes_eq bs (codes "H3")) (Some H3) (cond (bytes_eq bs (codes "L2")) (Some L2) (cond (bytes_eq bs (codes "S3")) (Some S3) None))

-- two numbers with a comma between them
abbrev pub pair_of : List ℕ → Option (ℕ × ℕ)
pair_of bs = elim (cut_at 44 bs) [ None ↦ None | Some p ↦ both (number_of p.0) (number_of p.1) ]

-- a bid says its contract reduction and its price
abbrev pub bid_of : List ℕ → Option ProgrammeName
bid_of bs =
    elim (cut_at 44 bs) [
      | None ↦ None
      | Some p ↦ cond (bytes_eq p.0 (codes "bid")) (elim (pair_of p.1) [ None ↦ None | Some q ↦ Some (Bid q.0 q.1) ]) None
    ]

-- a programme is none or a bid
abbrev pub programme_of : List ℕ → Option ProgrammeName
programme_of bs = cond (bytes_eq bs (codes "none")) (Some no_programme) (bid_of bs)

-- a flag is one byte, 0 or 1
abbrev pub flexible_of : List ℕ → Option Bool
flexible_of bs = cond (bytes_eq bs (codes "0")) (Some false) (cond (bytes_eq bs (codes "1")) (Some true) None)
