-- The bytes that a meter code stands for. Assumes nothing.
use Rattle.std.specs.Prelude.{ℕ, List, take}
use Rattle.readings.specs.declared.code.MeterCode.{MeterCode}

abbrev pub code_bytes : MeterCode → List ℕ
code_bytes c = take c.len c.bytes
