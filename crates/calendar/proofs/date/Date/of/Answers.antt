use Rattle.calendar.proofs.Laws.{one_date}
use Rattle.calendar.proofs.date.Date.of.Goals as goal

pub returns-in_err-year-clause-only : goal.returns-in_err-year-clause-only
returns-in_err-year-clause-only c = one_date

pub returns-clause-only : goal.returns-clause-only
returns-clause-only c = one_date
