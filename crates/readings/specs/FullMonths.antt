-- When the readings of a month are full. Assumes nothing.
use Rattle.std.specs.Prelude.{ℕ, ◌*◌, Bool, not, ◌&&◌, ◌==◌, List, length}
use Rattle.calendar.specs.Gregorian.{length_of}
use Rattle.readings.specs.Sheets.{any_above, slots_a_day}

-- each slot of the month has a reading, which is none where it is above the highest
abbrev pub is_full : ℕ → ℕ → List ℕ → Bool
is_full year month readings = length readings == slots_a_day * length_of year month && not (any_above readings)
