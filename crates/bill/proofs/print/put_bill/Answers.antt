use Rattle.std.proofs.Common.{◌≡◌, ℕ, ◌+◌, ◌<◌, ◌≤◌, List, ◌++◌, length, get_or, drop, Bor, sym, rules}
use Rattle.std.proofs.lemmas.List.{at_drop_more, at_drop_all}
use Rattle.bill.specs.declared.write.Value.{Value}
use Rattle.bill.specs.PrintValues.{row_line, rows_text}
use Rattle.bill.proofs.Writing.{room_as, room_then, then_wrote, wrote_as, wrote_left, wrote_nothing}
use Rattle.bill.proofs.print.put_bill.Goals as goal

-- the line of the next row, and then those of the rows behind it
next_row : (rows : List (Bor (List ℕ) × Value)) (i : ℕ) (d : Bor (List ℕ) × Value) → i < length rows → rows_text (drop i rows) ≡ row_line (get_or rows i d) ++ rows_text (drop (i + 1) rows)
next_row rows i d within = at_drop_more rows_text rows i d within

pub loop-key-preserved : goal.loop-key-preserved
loop-key-preserved c =
    let rows = c.rows-key-items.result in
    let i = c.loop-key.key-index in
    let within : i < length rows = search rules in
    let left = next_row rows i _ within in
    let room = room_as left c.loop-key.invariant.0 in (
      room_then (row_line (get_or rows i _)) (rows_text (drop (i + 1) rows)) room c.line.ensures.wrote,
      λ r zs rest. c.loop-key.invariant.1 r zs (wrote_as (sym left) (then_wrote room c.line.ensures.wrote rest)),
      search rules,
    )

pub returns : goal.returns
returns c =
    let rows = c.rows-key-items.result in
    let done : length rows ≤ c.loop-key.key-index = search rules in
    let none = at_drop_all rows_text rows c.loop-key.key-index done in
    wrote_left c.count.ensures (search rules) (wrote_as c.rows-key-items.ensures (c.loop-key.invariant.1 _ _ (wrote_as (sym none) (wrote_nothing _ _))))
