-- What a metered site holds, and when a site can be metered. Assumes nothing.
use Rattle.std.specs.Prelude.{◌≡◌, ℕ, ◌+◌, ◌*◌, ◌<◌, ◌≤◌, Bool, not, ◌&&◌, List, length, take, drop, Some, None, Option, MatchOption, if◌then◌else◌, slice_index, ◌==◌}
use Rattle.std.specs.Borrow.{Bor}
use Rattle.calendar.specs.declared.refusal.Refusal.{Refusal}
use Rattle.calendar.specs.declared.refusal.Refusal.TheVariants.{MonthNotFull, LeadNotUsable}
use Rattle.readings.specs.FullMonths.{is_full}
use Rattle.readings.specs.Sheets.{any_above}
use Rattle.programmes.specs.declared.metered.Metered.{Metered}
use Rattle.programmes.specs.declared.site.Site.{Site}
use Rattle.programmes.specs.SiteModels.{site_model}
use Rattle.programmes.specs.Sites.{SiteModel, Demand, demand}

-- the site, and its demand in each slot of the lead and the month
abbrev pub site_of : Metered → SiteModel
site_of m = site_model m.site

abbrev pub demand_of : Metered → Demand
demand_of m = demand m.lead.now m.readings.now

-- a lead is usable where each slot of its 31 days has a reading, none above the highest
abbrev pub is_usable : List ℕ → Bool
is_usable lead = length lead == 2976 && not (any_above lead)

-- the month is judged first, and then the lead
abbrev pub metering_refusal : Site → List ℕ → List ℕ → Option Refusal
metering_refusal s lead readings =
    if is_full s.month.year s.month.month readings then (if is_usable lead then None else Some LeadNotUsable) else Some MonthNotFull

-- a metered site holds the site and the readings that it was made of
pub record IsMetered (m : Metered) (s : Site) (lead readings : List ℕ) : Type 0 where
  pub same_site : m.site ≡ s
  pub same_lead : m.lead.now ≡ lead
  pub same_readings : m.readings.now ≡ readings

-- the readings at a day's place among those from day 0 on, or none where these end before the day does
abbrev pub IsDayAmong : List ℕ → ℕ → Option (Bor (List ℕ)) → Type 0
IsDayAmong readings d r =
    MatchOption r (length readings < 96 * d + 96) (λ b. (96 * d + 96 ≤ length readings) × (b.now ≡ take 96 (drop (96 * d) readings)))

-- these are the readings of a day's 96 slots
pub record ReadsDay (day : List ℕ) (kw : ℕ → ℕ) : Type 0 where
  pub long : length day ≡ 96
  pub each : (slot : ℕ) → slot < 96 → slice_index day slot ≡ kw slot
