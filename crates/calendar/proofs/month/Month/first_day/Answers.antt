use Rattle.std.proofs.Common.{arith, rules}
use Rattle.calendar.proofs.Laws.{abuts}
use Rattle.calendar.proofs.month.Month.first_day.Goals as goal

pub returns : goal.returns
returns c =
    record {
      value = search rules;
      small = search rules;
      abuts = abuts c.args.self.now.year c.args.self.now.month (omega arith) c.args.self.now.month_from;
    }
