-- Calls for demand response. Assumes nothing.
use Rattle.std.specs.Prelude.{◌≡◌, ℕ, ◌+◌, ◌*◌, Bool, cond, not, ◌&&◌, ◌||◌, List, Some, None, Option, Result, ◌==◌, nat_le, nat_lt}
use Rattle.books.specs.declared.call.Call.{Call}
use Rattle.books.specs.declared.call.CallKind.{CallKind}
use Rattle.books.specs.declared.call.CallKind.TheVariants.{Programme, Flexible}
use Rattle.calendar.specs.declared.refusal.Refusal.{Refusal}
use Rattle.calendar.specs.declared.refusal.Refusal.TheVariants.{DayOutOfRange, UnknownCallKind, CallHoursOutOfRange}
use Rattle.calendar.specs.Judging.{Judged}
use Rattle.books.specs.Books.{found}

-- kind 1 is a call of the programme, kind 2 one of the flexible layer
abbrev pub kind_number : CallKind → ℕ
kind_number Programme = 1
kind_number Flexible = 2

-- 1 and 2 say a kind, other numbers none
abbrev pub kind_refusal : ℕ → Option Refusal
kind_refusal number = cond (number == 1 || number == 2) None (Some UnknownCallKind)

-- the kind that a number says, or its refusal
abbrev pub KindOf : ℕ → Result CallKind Refusal → Type 0
KindOf number r = Judged r (kind_refusal number) (λ k. kind_number k ≡ number)

-- the call on this day, of this kind, from this hour on for so many hours
pub record IsCall (c : Call) (day kind start hours : ℕ) : Type 0 where
  pub on : c.day ≡ day
  pub of_kind : kind_number c.kind ≡ kind
  pub from : c.start ≡ start
  pub long : c.hours ≡ hours

-- a call is refused for a day after the last of 2099, then for a kind other than 1 and 2, and then where it starts outside 4 to 22,
-- lasts other than 2 to 6 hours or ends past 24
abbrev pub call_refusal : ℕ → ℕ → ℕ → ℕ → Option Refusal
call_refusal day kind start hours =
    cond (nat_lt 36524 day) (Some DayOutOfRange)
    (cond (not (kind == 1 || kind == 2)) (Some UnknownCallKind)
    (cond (not ((nat_le 4 start && nat_le start 22) && ((nat_le 2 hours && nat_le hours 6) && nat_le (start + hours) 24))) (Some CallHoursOutOfRange) None))

-- a call is booked under its day and kind, so that a day has one call of a kind at most
abbrev pub call_key : Call → ℕ
call_key c = 8 * c.day + kind_number c.kind

-- an hour has four slots
abbrev pub first_slot : Call → ℕ
first_slot c = 4 * c.start

-- the slot behind the last
abbrev pub end_slot : Call → ℕ
end_slot c = 4 * (c.start + c.hours)

-- a slot of the call's day is one of its slots
abbrev pub covers : Call → ℕ → Bool
covers c slot = nat_le (first_slot c) slot && nat_lt slot (end_slot c)

-- the call of this kind on a day, if one of these is
abbrev pub call_of_day : List Call → ℕ → CallKind → Option Call
call_of_day calls day kind = found call_key (8 * day + kind_number kind) calls
