-- What a line shows. Assumes nothing.
use Rattle.std.specs.Prelude.{ℕ, List, map, decimal}
use Rattle.std.specs.Borrow.{Bor}
use Rattle.std.specs.List.{concat}
use Rattle.std.specs.Fmt.{signed_decimal}
use Rattle.bill.specs.declared.write.Value.{Value}
use Rattle.bill.specs.declared.write.Value.TheVariants.{Text, Number, Signed}
use Rattle.bill.specs.PrintText.{line}

-- text shows as it stands, and a number in decimal
abbrev pub shown : Value → List ℕ
shown (Text text) = text.now
shown (Number n) = decimal n
shown (Signed z) = signed_decimal z

-- the line of a row, which has a key and what the line shows
abbrev pub row_line : Bor (List ℕ) × Value → List ℕ
row_line row = line row.0.now (shown row.1)

-- the lines of rows, one behind the other
abbrev pub rows_text : List (Bor (List ℕ) × Value) → List ℕ
rows_text rows = concat (map row_line rows)
