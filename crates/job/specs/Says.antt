-- What a statement says, its borrowed parts as what they hold. Assumes nothing.
use Rattle.job.specs.declared.statement.Statement.{Statement}
use Rattle.job.specs.declared.statement.Statement.TheVariants.{Code, Month, Tariff, Capacities, Programme, Flexible, Lead, OffPeak, Call, Run}
use Rattle.job.specs.Statements.{Says, code, month, tariff, capacities, programme, flexible, lead, off_peak, call_on, run_of}

abbrev pub says : Statement → Says
says (Code bytes) = code bytes.now
says (Month y m) = month y m
says (Tariff t) = tariff t
says (Capacities r s w o) = capacities r s w o
says (Programme p) = programme p
says (Flexible b) = flexible b
says (Lead n d) = lead n d
says (OffPeak d) = off_peak d
says (Call d k s h) = call_on d k s h
says (Run n d) = run_of n d
