use Rattle.std.proofs.Common.{◌≤◌, length, arith, rules}
use Rattle.readings.specs.CodeBytes.{code_bytes}
use Rattle.bill.proofs.Lengths.{ItemsFit, bill_short}
use Rattle.bill.proofs.issued.Issued.print.Goals as goal

pub returns-then-buffer-lt-PRINT_ROOM-clause-suffices :
    goal.returns-then-buffer-lt-PRINT_ROOM-clause-suffices
returns-then-buffer-lt-PRINT_ROOM-clause-suffices c =
    let bill = c.args.self in
    let code : length (code_bytes bill.draft.code) ≤ 24 = search rules in
    let fit : ItemsFit bill.draft.items = search rules in
    bill_short bill.serial (code_bytes bill.draft.code) bill.draft.items (search rules) code fit

pub put_bill-requires : goal.put_bill-requires
put_bill-requires c =
    let code : length c.as_bytes.result.now ≤ 24 = search rules in
    let fit : ItemsFit c.items.result = search rules in
    let short = bill_short c.args.self.serial c.as_bytes.result.now c.items.result (search rules) code fit in
    record { fits = omega (arith, short, c.if-buffer-lt-PRINT_ROOM.false) }

pub returns-clause-suffices : goal.returns-clause-suffices
returns-clause-suffices c =
    let bill = c.args.self in
    let code : length (code_bytes bill.draft.code) ≤ 24 = search rules in
    let fit : ItemsFit bill.draft.items = search rules in
    bill_short bill.serial (code_bytes bill.draft.code) bill.draft.items (search rules) code fit
