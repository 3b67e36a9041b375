use Rattle.std.proofs.Common.{◌≡◌, ℕ, ◌+◌, ◌/◌, ◌%◌, ◌^◌, ◌<◌, List, [], ◌∷◌, decimal, sym, ap, ◌∙◌, subst, arith}
use Rattle.std.proofs.lemmas.Fmt.{decimal_digit, decimal_step}
use Rattle.bill.specs.declared.write.Writer.{Writer}
use Rattle.bill.specs.PrintWrote.{HasRoom, Writes}
use Rattle.bill.proofs.Writing.{room_as, room_first, room_then, then_wrote, wrote_as}
use Rattle.bill.proofs.write.Writer.+decimal.Goals as goal
use Rattle.bill.proofs.write.Writer.+decimal.Goals.{then-number-ge10, else-number-ge10}

-- the last digit
abbrev last : ℕ → List ℕ
last n = (48 + n % 10) ∷ []

-- a number of one digit is that digit
one_digit : (n : ℕ) → n < 10 → decimal n ≡ last n
one_digit n h = decimal_digit n h ∙ ap (λ d. (48 + d) ∷ []) (omega arith)

pub decimal-requires : goal.decimal-requires
decimal-requires t c =
    let n = c.args.number in
    let small : n < 2 ^ 64 = omega arith in
    (omega arith, room_first (decimal (n / 10)) (last n) (room_as (decimal_step n (omega (arith, c.if-number-ge10.true)) small) c.requires))

pub byte-requires : goal.byte-requires
byte-requires t c =
    let n = c.args.number in
    let small : n < 2 ^ 64 = omega arith in
    elim c.if-number-ge10.branch [
      | then-number-ge10 w ↦ subst (λ (s : Writer). HasRoom s (last n)) (sym w.self-is) (room_then (decimal (n / 10)) (last n) (room_as (decimal_step n (omega (arith, w.if-number-ge10.true)) small) c.requires) w.decimal.ensures.wrote)
      | else-number-ge10 w ↦ subst (λ (s : Writer). HasRoom s (last n)) (sym w.self-is) (room_as (one_digit n (omega (arith, w.if-number-ge10.false))) c.requires)
    ]

pub returns : goal.returns
returns t c =
    let n = c.args.number in
    let small : n < 2 ^ 64 = omega arith in
    elim c.if-number-ge10.branch [
      | then-number-ge10 w ↦
          let step = decimal_step n (omega (arith, w.if-number-ge10.true)) small in
          let front = subst (λ (s : Writer). Writes c.args.self.now (decimal (n / 10)) s) (sym w.self-is) w.decimal.ensures in
          record {
            wrote = wrote_as (sym step) (then_wrote (room_as step c.requires) front.wrote c.byte.ensures.wrote);
            same_loan = c.byte.ensures.same_loan ∙ front.same_loan;
          }
      | else-number-ge10 w ↦
          let digit = one_digit n (omega (arith, w.if-number-ge10.false)) in
          let whole = subst (λ (s : Writer). Writes s (last n) c.byte.new.self) w.self-is c.byte.ensures in
          record { wrote = wrote_as (sym digit) whole.wrote; same_loan = whole.same_loan }
    ]
