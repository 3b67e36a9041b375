-- The text of an issued bill. Assumes nothing.
use Rattle.std.specs.Prelude.{ℕ, List}
use Rattle.readings.specs.CodeBytes.{code_bytes}
use Rattle.bill.specs.declared.issued.Issued.{Issued}
use Rattle.bill.specs.PrintText.{rendered}

-- what the bill prints, from its serial, its meter code and its items
abbrev pub bill_text : Issued → List ℕ
bill_text b = rendered b.serial (code_bytes b.draft.code) b.draft.items
