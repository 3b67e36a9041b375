-- A line parted by its equals sign and its commas. Assumes nothing.
use Rattle.std.specs.Prelude.{ℕ, cond, List, Some, None, codes, Option}
use Rattle.std.specs.Str.{bytes_eq}
use Rattle.job.specs.Texts.{Parts, cut_at}

-- the parts of a line: key and value, or of a run and a call their fields; a line without them is kept whole
pub data LineParts : Type 0 where
  keyed : List ℕ → List ℕ → LineParts
  run : List ℕ → List ℕ → LineParts
  call : List ℕ → List ℕ → List ℕ → List ℕ → LineParts
  malformed : List ℕ → LineParts

-- four parts of a value
pub record FourParts : Type 0 where
  pub first : List ℕ
  pub second : List ℕ
  pub third : List ℕ
  pub fourth : List ℕ

-- what stands before, between and behind the first three commas
abbrev pub four_of : List ℕ → Option FourParts
four_of value =
    elim (cut_at 44 value) [
      | None ↦ None
      | Some p ↦ elim (cut_at 44 p.1) [
        | None ↦ None
        | Some q ↦ elim (cut_at 44 q.1) [
          | None ↦ None
          | Some r ↦ Some (record { first = p.0; second = q.0; third = r.0; fourth = r.1 })
        ]
      ]
    ]

-- the fields of a run: two parts at a comma
abbrev pub run_of : List ℕ → Option Parts → LineParts
run_of bytes None = malformed bytes
run_of bytes (Some p) = run p.0 p.1

-- the fields of a call: four parts
abbrev pub call_of : List ℕ → Option FourParts → LineParts
call_of bytes None = malformed bytes
call_of bytes (Some p) = call p.first p.second p.third p.fourth

-- a key and a value
abbrev pub keyed_of : List ℕ → Option Parts → LineParts
keyed_of bytes None = malformed bytes
keyed_of bytes (Some p) =
    cond (bytes_eq p.0 (codes "run")) (run_of bytes (cut_at 44 p.1))
    (cond (bytes_eq p.0 (codes "call")) (call_of bytes (four_of p.1))
    (keyed p.0 p.1))

-- a line is parted at its first equals sign
abbrev pub line_of : List ℕ → LineParts
line_of bytes = keyed_of bytes (cut_at 61 bytes)
