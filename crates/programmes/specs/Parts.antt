-- The slots of a call, or a part of them. Assumes nothing.
use Rattle.std.specs.Prelude.{ℕ, Bool, not, ◌&&◌, Option}
use Rattle.books.specs.declared.call.Call.{Call}
use Rattle.books.specs.Calls.{covers}
use Rattle.programmes.specs.declared.part.Part.{Part}
use Rattle.programmes.specs.declared.part.Part.TheVariants.{Whole, Shared, Apart}
use Rattle.programmes.specs.Sites.{in_call}

-- the slots that a call shares with another, if there is another
abbrev pub shared : Call → Option Call → ℕ → Bool
shared c other slot = covers c slot && in_call other slot

-- the slots that it does not share
abbrev pub apart : Call → Option Call → ℕ → Bool
apart c other slot = covers c slot && not (in_call other slot)

abbrev pub holds : Part → ℕ → Bool
holds (Whole c) = covers c
holds (Shared c other) = shared c other
holds (Apart c other) = apart c other

-- the call whose slots a part has, or some of them
abbrev pub call_of : Part → Call
call_of (Whole c) = c
call_of (Shared c other) = c
call_of (Apart c other) = c
