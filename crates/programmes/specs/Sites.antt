-- What a programme rests on besides its terms: the site, and the demand in each slot. Assumes nothing.
use Rattle.std.specs.Prelude.{◌≡◌, ℕ, ◌+◌, ◌-◌, ◌*◌, Bool, true, false, not, ◌&&◌, ◌||◌, List, ◌++◌, length, is_some, Some, None, Option, slice_index}
use Rattle.books.specs.declared.call.Call.{Call}
use Rattle.books.specs.declared.call.CallKind.{CallKind}
use Rattle.books.specs.declared.call.CallKind.TheVariants.{Programme, Flexible}
use Rattle.calendar.specs.declared.day.DayKind.{DayKind}
use Rattle.calendar.specs.declared.day.DayKind.TheVariants as kind
use Rattle.books.specs.declared.off_peak.OffPeakDay.{OffPeakDay}
use Rattle.books.specs.Calls.{covers, call_of_day}
use Rattle.books.specs.OffPeak.{kind_under}
use Rattle.readings.specs.Sheets.{any_above}
use Rattle.programmes.specs.Sums.{sum_below, some_below}

-- the regular capacity in kW, the month's first day and its length, and the booked off-peak days and calls
pub record SiteModel : Type 0 where
  pub regular : ℕ
  pub first : ℕ
  pub days : ℕ
  pub off_peak : List OffPeakDay
  pub calls : List Call

-- the demand in kW of each slot of each day. Days are counted from the first of the lead, the 31 days before the month:
-- the month begins with day 31
abbrev pub Demand : Type 0
Demand = ℕ → ℕ → ℕ

-- the demand that the lead's readings and the month's say, 96 a day
abbrev pub demand : List ℕ → List ℕ → Demand
demand lead readings d slot = slice_index (lead ++ readings) (96 * d + slot)

-- the readings that a quote may ask with: the whole lead and the whole month, none above the highest
pub record Full (s : SiteModel) (lead readings : List ℕ) : Type 0 where
  pub lead_long : length lead ≡ 2976
  pub month_long : length readings ≡ 96 * s.days
  pub lead_low : any_above lead ≡ false
  pub month_low : any_above readings ≡ false

-- the number of a day in the calendar
abbrev pub day_number : SiteModel → ℕ → ℕ
day_number s d = s.first + d - 31

-- the call of a kind on a day
abbrev pub call_at : SiteModel → CallKind → ℕ → Option Call
call_at s kind d = call_of_day s.calls (day_number s d) kind

-- a slot is one of a call's, if there is a call
abbrev pub in_call : Option Call → ℕ → Bool
in_call None slot = false
in_call (Some c) slot = covers c slot

-- a called slot is one of a booked call, of either kind
abbrev pub called : SiteModel → ℕ → ℕ → Bool
called s d slot = in_call (call_at s Programme d) slot || in_call (call_at s Flexible d) slot

abbrev pub is_working : DayKind → Bool
is_working kind.Working = true
is_working kind.Saturday = false
is_working kind.Sunday = false
is_working kind.OffPeak = false

-- a day may be averaged where it is a working day without any booked call
abbrev pub eligible : SiteModel → ℕ → Bool
eligible s d =
    is_working (kind_under s.off_peak (day_number s d)) && not (is_some (call_at s Programme d) || is_some (call_at s Flexible d))

-- a number for a call, 0 without one; a test of a call, false without one
abbrev pub for_call : Option Call → (Call → ℕ) → ℕ
for_call None f = 0
for_call (Some c) f = f c

abbrev pub if_call : Option Call → (Call → Bool) → Bool
if_call None p = false
if_call (Some c) p = p c

-- the sum over the month's calls of a kind, of which a day has one at most; f takes a call's day and the call
abbrev pub sum_of_calls : SiteModel → CallKind → (ℕ → Call → ℕ) → ℕ
sum_of_calls s kind f = sum_below (λ k. for_call (call_at s kind (31 + k)) (f (31 + k))) s.days

-- some call of a kind in the month passes a test
abbrev pub some_call : SiteModel → CallKind → (ℕ → Call → Bool) → Bool
some_call s kind p = some_below (λ k. if_call (call_at s kind (31 + k)) (p (31 + k))) s.days
