-- The flexible layer over a bare programme. Assumes nothing.
use Rattle.std.specs.Prelude.{ℕ, ◌+◌, ◌-◌, ◌*◌, Bool, true, cond, ◌&&◌, ◌||◌, Some, None, Option, ◌==◌}
use Rattle.books.specs.declared.call.Call.{Call}
use Rattle.books.specs.declared.call.CallKind.{CallKind}
use Rattle.books.specs.declared.call.CallKind.TheVariants.{Programme, Flexible}
use Rattle.calendar.specs.declared.refusal.Refusal.{Refusal}
use Rattle.calendar.specs.declared.refusal.Refusal.TheVariants.{TooFewDaysToAverage}
use Rattle.books.specs.Calls.{covers}
use Rattle.programmes.specs.Averages.{grains_a_kw, slots_in, average_in, averaged, some_too_few, among, five_day, worth}
use Rattle.programmes.specs.Meanings.{ProgrammeMeaning}
use Rattle.programmes.specs.Parts.{shared, apart}
use Rattle.programmes.specs.Sites.{SiteModel, Demand, sum_of_calls, some_call}

-- the layer takes what the lower programme takes, and calls of its own kind besides
abbrev pub flexible_takes : (CallKind → Bool) → CallKind → Bool
flexible_takes lower Programme = lower Programme
flexible_takes lower Flexible = true

-- the lower programme's refusal comes first
abbrev pub flexible_refusal : Option Refusal → Bool → Option Refusal
flexible_refusal (Some r) too_few = Some r
flexible_refusal None too_few = cond too_few (Some TooFewDaysToAverage) None

-- slots shared with the lower programme's own call of the day: what the reduction passes K, at the difference of the prices past K
abbrev pub shared_credit : ProgrammeMeaning → SiteModel → Demand → ℕ → Call → ℕ
shared_credit m s kw d c =
    worth (m.baseline s kw d - average_in (shared c (m.own_call s d)) (kw d) - m.reduction * grains_a_kw)
    (slots_in (shared c (m.own_call s d)))
    (1000 - m.price_past)

-- the other slots: their five-day average less their average demand, at 1,000 cents
abbrev pub apart_credit : ProgrammeMeaning → SiteModel → Demand → ℕ → Call → ℕ
apart_credit m s kw d c =
    worth (five_day s kw (apart c (m.own_call s d)) d - average_in (apart c (m.own_call s d)) (kw d))
    (slots_in (apart c (m.own_call s d)))
    1000

-- a flexible call adds both parts to the credit; a part without slots is 0
abbrev pub flexible_adds : ProgrammeMeaning → SiteModel → Demand → ℕ → Call → ℕ
flexible_adds m s kw d c = shared_credit m s kw d c + apart_credit m s kw d c

-- besides what the lower programme names: the slots of the flexible calls, and of the part that is not shared on the days averaged for it
abbrev pub flexible_named : ProgrammeMeaning → SiteModel → ℕ → ℕ → Bool
flexible_named m s d slot =
    m.named s d slot
    || some_call s Flexible (λ e c. (covers c slot && d == e) || (apart c (m.own_call s e) slot && among d (averaged s e)))

-- the layer over a programme
abbrev pub flexible : ProgrammeMeaning → ProgrammeMeaning
flexible m =
    record {
      takes = flexible_takes m.takes;
      refusal = λ s. flexible_refusal (m.refusal s) (some_too_few s Flexible);
      own_call = m.own_call;
      baseline = m.baseline;
      reduction = m.reduction;
      price_past = 1000;
      credit = λ s kw. m.credit s kw + sum_of_calls s Flexible (flexible_adds m s kw);
      extra = m.extra;
      named = flexible_named m;
    }
