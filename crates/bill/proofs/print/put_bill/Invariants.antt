use Rattle.std.proofs.Common.{◌≡◌, ℕ, List, drop}
use Rattle.bill.specs.PrintWrote.{HasRoom, Wrote}
use Rattle.bill.specs.PrintValues.{rows_text}
use Rattle.bill.proofs.print.put_bill.Given as goal

-- the rows that are left have room, and once they are written the bill is
abbrev pub invariant-loop-key : goal.invariant-loop-key
invariant-loop-key l =
    let left = rows_text (drop l.key-index l.key-items) in
    HasRoom l.writer left
    × ((r : ℕ) (zs : List ℕ) → Wrote l.writer.buffer.now l.writer.at left r zs → Wrote l.fn.buffer 0 (rows_text l.key-items) r zs)
    × (l.writer.buffer.ghost_name ≡ l.initial.writer.buffer.ghost_name)
