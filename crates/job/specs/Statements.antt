-- What a line of a job says, over bytes and numbers. Assumes nothing.
use Rattle.std.specs.Prelude.{ℕ, Bool, cond, List, Some, None, codes, Option}
use Rattle.std.specs.Str.{bytes_eq}
use Rattle.job.specs.declared.statement.TariffName.{TariffName}
use Rattle.job.specs.declared.statement.ProgrammeName.{ProgrammeName}
use Rattle.job.specs.Lines.{LineParts, keyed, run, call, malformed, line_of, four_of}
use Rattle.job.specs.Texts.{number_of}
use Rattle.job.specs.Values.{both, month_of, date_of, tariff_of, programme_of, flexible_of, pair_of}

pub data Says : Type 0 where
  code : List ℕ → Says
  month : ℕ → ℕ → Says
  tariff : TariffName → Says
  capacities : ℕ → ℕ → ℕ → ℕ → Says
  programme : ProgrammeName → Says
  flexible : Bool → Says
  lead : ℕ → ℕ → Says
  off_peak : ℕ → Says
  call_on : ℕ → ℕ → ℕ → ℕ → Says
  run_of : ℕ → ℕ → Says

-- the place of each of the six lines that a job begins with; the other four stand behind them
abbrev pub place_of : Says → ℕ
place_of (code bytes) = 1
place_of (month y m) = 2
place_of (tariff t) = 3
place_of (capacities r s w o) = 4
place_of (programme p) = 5
place_of (flexible b) = 6
place_of (lead n d) = 7
place_of (off_peak d) = 7
place_of (call_on d k s h) = 7
place_of (run_of n d) = 7

-- four numbers
abbrev pub capacities_said : List ℕ → Option Says
capacities_said value =
    elim (four_of value) [
      | None ↦ None
      | Some f ↦ elim (both (number_of f.first) (number_of f.second)) [
        | None ↦ None
        | Some p ↦ elim (both (number_of f.third) (number_of f.fourth)) [ None ↦ None | Some q ↦ Some (capacities p.0 p.1 q.0 q.1) ]
      ]
    ]

-- a date and three numbers
abbrev pub call_said : List ℕ → List ℕ → List ℕ → List ℕ → Option Says
call_said date kind start hours =
    elim (both (date_of date) (number_of kind)) [
      | None ↦ None
      | Some p ↦ elim (both (number_of start) (number_of hours)) [ None ↦ None | Some q ↦ Some (call_on p.0 p.1 q.0 q.1) ]
    ]

-- two numbers
abbrev pub run_said : List ℕ → List ℕ → Option Says
run_said count demand = elim (both (number_of count) (number_of demand)) [ None ↦ None | Some p ↦ Some (run_of p.0 p.1) ]

-- a line of the contract: its capacities, its programme, or whether it is under the flexible layer
abbrev pub contract_said : List ℕ → List ℕ → Option Says
contract_said key value =
    cond (bytes_eq key (codes "caps")) (capacities_said value)
    (cond (bytes_eq key (codes "programme")) (elim (programme_of value) [ None ↦ None | Some p ↦ Some (programme p) ])
    (cond (bytes_eq key (codes "flex")) (elim (flexible_of value) [ None ↦ None | Some b ↦ Some (flexible b) ]) None))

-- a line of the six that a job begins with
abbrev pub header_said : List ℕ → List ℕ → Option Says
header_said key value =
    cond (bytes_eq key (codes "code")) (Some (code value))
    (cond (bytes_eq key (codes "month")) (elim (month_of value) [ None ↦ None | Some p ↦ Some (month p.0 p.1) ])
    (cond (bytes_eq key (codes "tariff")) (elim (tariff_of value) [ None ↦ None | Some t ↦ Some (tariff t) ]) (contract_said key value)))

-- a line of a key and a value
abbrev pub keyed_said : List ℕ → List ℕ → Option Says
keyed_said key value =
    cond (bytes_eq key (codes "lead")) (elim (pair_of value) [ None ↦ None | Some p ↦ Some (lead p.0 p.1) ])
    (cond (bytes_eq key (codes "off")) (elim (date_of value) [ None ↦ None | Some d ↦ Some (off_peak d) ]) (header_said key value))

-- what the parts of a line say
abbrev pub parts_say : LineParts → Option Says
parts_say (keyed key value) = keyed_said key value
parts_say (run count demand) = run_said count demand
parts_say (call date kind start hours) = call_said date kind start hours
parts_say (malformed bytes) = None

-- what a line says, without its line feed; none where it is not of the form
abbrev pub says_of : List ℕ → Option Says
says_of bytes = parts_say (line_of bytes)
