use Rattle.std.proofs.Common.{◌≡◌, ℕ, ◌≤◌, true, List, ◌++◌, length, take, None, ap, ◌∙◌, arith}
use Rattle.std.proofs.lemmas.List.{take_at}
use Rattle.std.proofs.lemmas.Bool.Decides.{nat_tests}
use Rattle.readings.specs.Codes.{printable, is_code, code_refusal}
use Rattle.readings.proofs.code.MeterCode.new.Goals as goal

-- what was written in front is the code
front : (text written rest : List ℕ) → written ≡ text → take (length text) (written ++ rest) ≡ text
front text written rest e = take_at written rest (length text) (ap length e) ∙ e

-- bytes that pass each test are a code
passed : (text : List ℕ) → 1 ≤ length text → length text ≤ 24 → true ≡ printable text → is_code text ≡ true
passed text from to each = grind (arith, nat_tests)

-- and so is an equal list
code_like : (text other : List ℕ) → is_code text ≡ true → other ≡ text → is_code other ≡ true
code_like text other e same = ap is_code same ∙ e

granted : (text : List ℕ) → is_code text ≡ true → code_refusal text ≡ None
granted text e = simp e

pub invariant_of-result : goal.invariant_of-result
invariant_of-result c =
    let text = c.args.text.now in
    record {
      short = omega arith;
      printable =
          code_like text _
          (passed text (omega arith) (omega arith) c.if-not-is_printable.ensures)
          (front text c.copy_from_slice.new.self _ c.copy_from_slice.ensures.after);
    }

pub returns : goal.returns
returns c =
    let text = c.args.text.now in (
      granted text (passed text (omega arith) (omega arith) c.if-not-is_printable.ensures),
      front text c.copy_from_slice.new.self _ c.copy_from_slice.ensures.after,
    )
