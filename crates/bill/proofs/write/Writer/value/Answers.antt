use Rattle.std.proofs.Common.{◌≡◌, [], ◌∷◌, pos, nat_abs, ◌<ℤ◌, decimal, sym, ap, ◌∙◌, subst, rules}
use Rattle.std.specs.Fmt.{signed_decimal}
use Rattle.bill.specs.declared.write.Writer.{Writer}
use Rattle.bill.specs.PrintValues.{shown}
use Rattle.bill.specs.PrintWrote.{Writes}
use Rattle.bill.proofs.Writing.{room_as, then_wrote, wrote_as, signed_below, signed_from_zero}
use Rattle.bill.proofs.write.Writer.value.Goals as goal
use Rattle.bill.proofs.write.Writer.value.Goals.{then-number-lt0, else-number-lt0}

pub returns-after-number-lt0 : goal.returns-after-number-lt0
returns-after-number-lt0 c =
    let z = c.in-Signed.number in
    let n = c.unsigned_abs.result in
    let value : shown c.args.value ≡ signed_decimal z = ap shown c.in-Signed.is in
    let size : n ≡ nat_abs z = search rules in
    elim c.if-number-lt0.branch [
      | then-number-lt0 w ↦
          let below : z <ℤ pos 0 = search rules in
          let same = signed_below z n below size in
          let sign = subst (λ (s : Writer). Writes c.args.self.now (45 ∷ []) s) (sym w.self-is) w.byte.ensures in
          record {
            wrote = wrote_as (same ∙ sym value) (then_wrote (room_as (value ∙ sym same) c.requires) sign.wrote c.decimal-in-Signed.ensures.wrote);
            same_loan = c.decimal-in-Signed.ensures.same_loan ∙ sign.same_loan;
          }
      | else-number-lt0 w ↦
          let above : ¬ (z <ℤ pos 0) = search rules in
          let digits = subst (λ (s : Writer). Writes s (decimal n) c.decimal-in-Signed.new.self) w.self-is c.decimal-in-Signed.ensures in
          record { wrote = wrote_as (signed_from_zero z n above size ∙ sym value) digits.wrote; same_loan = digits.same_loan }
    ]
