-- What a meter code is. Assumes nothing.
use Rattle.std.specs.Prelude.{ℕ, Bool, cond, ◌&&◌, List, length, Some, None, Option, nat_le}
use Rattle.std.specs.List.{list_all}
use Rattle.calendar.specs.declared.refusal.Refusal.{Refusal}
use Rattle.calendar.specs.declared.refusal.Refusal.TheVariants.{NotAMeterCode}

-- each byte is a printable character other than the blank
abbrev pub printable : List ℕ → Bool
printable bs = list_all (λ b. nat_le 33 b && nat_le b 126) bs

-- a code is 1 to 24 such bytes
abbrev pub is_code : List ℕ → Bool
is_code bs = (nat_le 1 (length bs) && nat_le (length bs) 24) && printable bs

-- why bytes are refused as a code
abbrev pub code_refusal : List ℕ → Option Refusal
code_refusal bs = cond (is_code bs) None (Some NotAMeterCode)
