use Rattle.std.proofs.Common.{sym, arith}
use Rattle.books.proofs.Calls.{none_later}
use Rattle.books.proofs.call.methods.call_on.Goals as goal

pub returns-then-day-gt-LAST_DAY : goal.returns-then-day-gt-LAST_DAY
returns-then-day-gt-LAST_DAY c = sym (none_later c.args.calls.now _ (omega arith))
