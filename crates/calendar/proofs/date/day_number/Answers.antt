use Rattle.std.proofs.Common.{rules}
use Rattle.calendar.proofs.Laws.{later_is_larger}
use Rattle.calendar.proofs.date.day_number.Goals as goal

pub returns-then-year-lt2000 : goal.returns-then-year-lt2000
returns-then-year-lt2000 c = record { value = search rules; order = later_is_larger }

pub returns-then-day-from : goal.returns-then-day-from
returns-then-day-from c = record { value = search rules; order = later_is_larger }

pub returns : goal.returns
returns c = record { value = search rules; order = later_is_larger }
