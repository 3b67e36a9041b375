-- What a programme means, as a value, and the laws that every programme keeps. Assumes nothing.
use Rattle.std.specs.Prelude.{◌≡◌, ℕ, ◌+◌, ◌*◌, ◌^◌, ◌<◌, ◌≤◌, Bool, true, false, None, Option}
use Rattle.books.specs.declared.call.Call.{Call}
use Rattle.books.specs.declared.call.CallKind.{CallKind}
use Rattle.calendar.specs.declared.refusal.Refusal.{Refusal}
use Rattle.programmes.specs.Averages.{grains_a_kw}
use Rattle.programmes.specs.Sites.{SiteModel, Demand, called}

-- A programme's answers: the kinds of call that it takes, why it refuses a site, each day's own call with its baseline in grains,
-- its contract reduction K in kW and its price past K in cents, its credit and extra in units, and the named slots, whose
-- readings enter these. Only baselines, credit and extra take readings.
pub record ProgrammeMeaning : Type 0 where
  pub takes : CallKind → Bool
  pub refusal : SiteModel → Option Refusal
  pub own_call : SiteModel → ℕ → Option Call
  pub baseline : SiteModel → Demand → ℕ → ℕ
  pub reduction : ℕ
  pub price_past : ℕ
  pub credit : SiteModel → Demand → ℕ
  pub extra : SiteModel → Demand → ℕ
  pub named : SiteModel → ℕ → ℕ → Bool

-- what a quote may ask of a programme: a month of at most 31 days that it does not refuse, and readings of at most 40,000 kW
pub record Asked (m : ProgrammeMeaning) (s : SiteModel) (kw : Demand) : Type 0 where
  pub short : s.days ≤ 31
  pub granted : m.refusal s ≡ None
  pub low : (d slot : ℕ) → kw d slot ≤ 40000

-- the readings differ in called slots only
abbrev pub SameUncalled : SiteModel → Demand → Demand → Type 0
SameUncalled s kw kw' = (d slot : ℕ) → slot < 96 → called s d slot ≡ false → kw d slot ≡ kw' d slot

-- the second readings are nowhere higher
abbrev pub NowhereHigher : Demand → Demand → Type 0
NowhereHigher kw kw' = (d slot : ℕ) → slot < 96 → kw' d slot ≤ kw d slot

-- the readings are the same in every named slot
abbrev pub SameNamed : ProgrammeMeaning → SiteModel → Demand → Demand → Type 0
SameNamed m s kw kw' = (d slot : ℕ) → slot < 96 → m.named s d slot ≡ true → kw d slot ≡ kw' d slot

-- the k-th day of the month has the same baseline
abbrev pub SameBaseline : ProgrammeMeaning → SiteModel → Demand → Demand → ℕ → Type 0
SameBaseline m s kw kw' k = m.baseline s kw (31 + k) ≡ m.baseline s kw' (31 + k)

-- Bounds; no baseline rests on a called slot; cutting deeper in called slots never lowers credit less extra; and equal named
-- slots give equal answers
pub record ProgrammeLaws (m : ProgrammeMeaning) : Type 0 where
  pub reduction_bounded : m.reduction ≤ 40000
  pub price_bounded : m.price_past ≤ 1000
  pub baseline_bounded : (s : SiteModel) (kw : Demand) → Asked m s kw → (k : ℕ) → k < s.days → m.baseline s kw (31 + k) ≤ 40000 * grains_a_kw
  pub credit_bounded : (s : SiteModel) (kw : Demand) → Asked m s kw → m.credit s kw ≤ 2 * 10 ^ 13
  pub extra_bounded : (s : SiteModel) (kw : Demand) → Asked m s kw → m.extra s kw ≤ 2 * 10 ^ 13
  pub uncalled_baseline : (s : SiteModel) (kw kw' : Demand) → Asked m s kw → Asked m s kw' → SameUncalled s kw kw' → (k : ℕ) → k < s.days → SameBaseline m s kw kw' k
  pub deeper_earns : (s : SiteModel) (kw kw' : Demand) → Asked m s kw → Asked m s kw' → SameUncalled s kw kw' → NowhereHigher kw kw' → m.credit s kw + m.extra s kw' ≤ m.credit s kw' + m.extra s kw
  pub named_baseline : (s : SiteModel) (kw kw' : Demand) → Asked m s kw → Asked m s kw' → SameNamed m s kw kw' → (k : ℕ) → k < s.days → SameBaseline m s kw kw' k
  pub named_credit : (s : SiteModel) (kw kw' : Demand) → Asked m s kw → Asked m s kw' → SameNamed m s kw kw' → m.credit s kw ≡ m.credit s kw'
  pub named_extra : (s : SiteModel) (kw kw' : Demand) → Asked m s kw → Asked m s kw' → SameNamed m s kw kw' → m.extra s kw ≡ m.extra s kw'

-- a bare programme, over which a layer may stand, has half of that room
pub record BareLaws (m : ProgrammeMeaning) : Type 0 where
  pub bare_credit : (s : SiteModel) (kw : Demand) → Asked m s kw → m.credit s kw ≤ 10 ^ 13
  pub bare_extra : (s : SiteModel) (kw : Demand) → Asked m s kw → m.extra s kw ≤ 10 ^ 13
