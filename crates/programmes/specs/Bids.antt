-- No programme, and the bid for peak reduction. Assumes nothing.
use Rattle.std.specs.Prelude.{ℕ, ◌+◌, ◌-◌, ◌*◌, ◌/◌, max, Bool, true, false, cond, not, ◌&&◌, ◌||◌, Some, None, Option, ◌==◌, nat_lt}
use Rattle.books.specs.declared.call.Call.{Call}
use Rattle.books.specs.declared.call.CallKind.{CallKind}
use Rattle.books.specs.declared.call.CallKind.TheVariants.{Programme, Flexible}
use Rattle.calendar.specs.declared.refusal.Refusal.{Refusal}
use Rattle.calendar.specs.declared.refusal.Refusal.TheVariants.{ReductionOutOfRange, BidPriceAboveLimit, BidBeyondCapacity, CallLengthNotTaken, CalledHoursAboveLimit, TooFewDaysToAverage}
use Rattle.books.specs.Calls.{covers}
use Rattle.programmes.specs.Averages.{grains_a_kw, slots_in, average_in, averaged, some_too_few, among, five_day, worth}
use Rattle.programmes.specs.Meanings.{ProgrammeMeaning}
use Rattle.programmes.specs.Sites.{SiteModel, Demand, call_at, for_call, sum_of_calls, some_call}

-- without a programme nothing is taken, refused, earned, owed or named
abbrev pub no_programme : ProgrammeMeaning
no_programme =
    record {
      takes = λ kind. false;
      refusal = λ s. None;
      own_call = λ s d. None;
      baseline = λ s kw d. 0;
      reduction = 0;
      price_past = 0;
      credit = λ s kw. 0;
      extra = λ s kw. 0;
      named = λ s d slot. false;
    }

-- a bid's terms: a contract reduction of 20 to 40,000 kW is granted, and then a price of at most 1,000 cents
abbrev pub terms_refusal : ℕ → ℕ → Option Refusal
terms_refusal reduction price =
    cond (nat_lt reduction 20 || nat_lt 40000 reduction) (Some ReductionOutOfRange) (cond (nat_lt 1000 price) (Some BidPriceAboveLimit) None)

-- the bid takes calls of the programme alone
abbrev pub bid_takes : CallKind → Bool
bid_takes Programme = true
bid_takes Flexible = false

-- some call of the programme lasts neither two nor four hours
abbrev pub some_length_not_taken : SiteModel → Bool
some_length_not_taken s = some_call s Programme (λ d c. not (c.hours == 2 || c.hours == 4))

-- the month's calls of the programme, and the hours that they last in all
abbrev pub call_count : SiteModel → ℕ
call_count s = sum_of_calls s Programme (λ d c. 1)

abbrev pub called_hours : SiteModel → ℕ
called_hours s = sum_of_calls s Programme (λ d c. c.hours)

-- the capacity is judged first, then the calls' lengths, their hours in all, and their days to average
abbrev pub bid_refusal : ℕ → SiteModel → Option Refusal
bid_refusal reduction s =
    cond (nat_lt s.regular 100 || nat_lt s.regular reduction) (Some BidBeyondCapacity)
    (cond (some_length_not_taken s) (Some CallLengthNotTaken)
    (cond (nat_lt 36 (called_hours s)) (Some CalledHoursAboveLimit)
    (cond (some_too_few s Programme) (Some TooFewDaysToAverage) None)))

-- a call's baseline is the five-day average of its slots
abbrev pub call_baseline : SiteModel → Demand → ℕ → Call → ℕ
call_baseline s kw d c = five_day s kw (covers c) d

-- a reduction below 20 kW counts as 0
abbrev pub counted : ℕ → ℕ
counted grains = cond (nat_lt grains (20 * grains_a_kw)) 0 grains

-- a call's reduction in grains: its baseline less the average demand in its slots
abbrev pub reduced : SiteModel → Demand → ℕ → Call → ℕ
reduced s kw d c = counted (call_baseline s kw d c - average_in (covers c) (kw d))

-- a call is missed where it stays below the contract reduction
abbrev pub is_missed : ℕ → ℕ → Bool
is_missed reduction grains = nat_lt grains (reduction * grains_a_kw)

-- a call earns its reduction at the bid's price
abbrev pub call_earns : ℕ → SiteModel → Demand → ℕ → Call → ℕ
call_earns price s kw d c = worth (reduced s kw d c) (slots_in (covers c)) price

-- and owes what it stays below the contract reduction at that price, but 200 cents at least; not missed, that is nothing
abbrev pub call_owes : ℕ → ℕ → SiteModel → Demand → ℕ → Call → ℕ
call_owes reduction price s kw d c = worth (reduction * grains_a_kw - reduced s kw d c) (slots_in (covers c)) (max price 200)

abbrev pub missed_count : ℕ → SiteModel → Demand → ℕ
missed_count reduction s kw = sum_of_calls s Programme (λ d c. cond (is_missed reduction (reduced s kw d c)) 1 0)

-- the rate of the basic credit, in cents for each kW of the contract reduction: none without calls, 30 NT$ below 16 hours in the month
-- and 60 NT$ from there
abbrev pub basic_rate : ℕ → ℕ → ℕ
basic_rate calls hours = cond (calls == 0) 0 (cond (nat_lt hours 16) 3000 6000)

-- the basic credit in units, four to a cent: a fifth more where no call was missed, else the share of the calls that were not
abbrev pub basic_credit : ℕ → ℕ → ℕ → ℕ → ℕ
basic_credit reduction rate calls missed =
    cond (missed == 0) (4 * reduction * rate * 6 / 5) (4 * reduction * rate * (calls - missed) / calls)

-- the credit is what the calls earn and the basic credit
abbrev pub bid_credit : ℕ → ℕ → SiteModel → Demand → ℕ
bid_credit reduction price s kw =
    sum_of_calls s Programme (call_earns price s kw)
    + basic_credit reduction (basic_rate (call_count s) (called_hours s)) (call_count s) (missed_count reduction s kw)

abbrev pub bid_extra : ℕ → ℕ → SiteModel → Demand → ℕ
bid_extra reduction price s kw = sum_of_calls s Programme (call_owes reduction price s kw)

-- the slots of the month's calls, on their days and on the days averaged for them
abbrev pub bid_named : SiteModel → ℕ → ℕ → Bool
bid_named s d slot = some_call s Programme (λ e c. covers c slot && (d == e || among d (averaged s e)))

-- the bid of a contract reduction in kW at a price in cents
abbrev pub bid : ℕ → ℕ → ProgrammeMeaning
bid reduction price =
    record {
      takes = bid_takes;
      refusal = bid_refusal reduction;
      own_call = λ s d. call_at s Programme d;
      baseline = λ s kw d. for_call (call_at s Programme d) (call_baseline s kw d);
      reduction = reduction;
      price_past = price;
      credit = bid_credit reduction price;
      extra = bid_extra reduction price;
      named = bid_named;
    }
