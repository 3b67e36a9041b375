-- Average demand in grains, of which a kW has 1,200. Assumes nothing.
use Rattle.std.specs.Prelude.{ℕ, zero, suc, ◌*◌, ◌/◌, Bool, false, cond, ◌||◌, List, [], ◌∷◌, length, sum_by, ◌==◌, nat_lt}
use Rattle.books.specs.declared.call.CallKind.{CallKind}
use Rattle.programmes.specs.Sites.{SiteModel, Demand, eligible, some_call}
use Rattle.programmes.specs.Sums.{sum_below}

-- grains in a kW
abbrev pub grains_a_kw : ℕ
grains_a_kw = 1200

-- the sum in kW of a day's readings in a set of slots
abbrev pub kw_in : (ℕ → Bool) → (ℕ → ℕ) → ℕ
kw_in set day = sum_below (λ slot. cond (set slot) (day slot) 0) 96

-- how many slots of a day a set has
abbrev pub slots_in : (ℕ → Bool) → ℕ
slots_in set = sum_below (λ slot. cond (set slot) 1 0) 96

-- the average demand of a day in a set of slots, in grains
abbrev pub average_in : (ℕ → Bool) → (ℕ → ℕ) → ℕ
average_in set day = kw_in set day * grains_a_kw / slots_in set

-- the n latest of the days before d that pass a test, or fewer where there are no more
unfoldable pub latest : ℕ → (ℕ → Bool) → ℕ → List ℕ
latest zero ok d = []
latest (suc n) ok zero = []
latest (suc n) ok (suc d) = cond (ok d) (d ∷ latest n ok d) (latest (suc n) ok d)

-- the days averaged for a day: the five latest before it, in month or lead, that may be averaged
abbrev pub averaged : SiteModel → ℕ → List ℕ
averaged s d = latest 5 (eligible s) d

-- some call of a kind in the month has fewer than five days to average
abbrev pub some_too_few : SiteModel → CallKind → Bool
some_too_few s kind = some_call s kind (λ d c. nat_lt (length (averaged s d)) 5)

-- the day is one of these
abbrev pub among : ℕ → List ℕ → Bool
among d [] = false
among d (e ∷ es) = d == e || among d es

-- the five-day average of a set of slots for a day, in grains; exact for one to six whole hours
abbrev pub five_day : SiteModel → Demand → (ℕ → Bool) → ℕ → ℕ
five_day s kw set d = sum_by (λ e. kw_in set (kw e)) (averaged s d) * grains_a_kw / (5 * slots_in set)

-- what grains over so many slots come to at a price in cents for each kWh: a kW over one slot at 1 cent is 1 unit
abbrev pub worth : ℕ → ℕ → ℕ → ℕ
worth grains slots cents = grains * slots * cents / grains_a_kw
