-- How long a printed bill gets. Assumes nothing.
use Rattle.std.proofs.Common.{◌≡◌, ℕ, ◌+◌, ◌^◌, ◌<◌, ◌≤◌, List, length, ℤ, codes, decimal, arith}
use lib.Signed.{mag}
use Rattle.std.specs.Fmt.{signed_decimal}
use Rattle.std.proofs.lemmas.Fmt.{length-decimal-le, length_signed_le}
use Rattle.std.proofs.lemmas.List.{length-append}
use Rattle.tariffs.specs.declared.rank.ByRank.{ByRank}
use Rattle.bill.specs.declared.items.Items.{Items}
use Rattle.bill.specs.PrintText.{line, rendered}

-- the numbers of a `ByRank` have 32 bits
pub record RanksFit (four : ByRank) : Type 0 where
  pub peak : four.peak < 2 ^ 32
  pub semi_peak : four.semi_peak < 2 ^ 32
  pub saturday : four.saturday < 2 ^ 32
  pub off_peak : four.off_peak < 2 ^ 32

-- each item fits its type
pub record ItemsFit (i : Items) : Type 0 where
  pub energies : RanksFit i.energies
  pub energy : i.energy < 2 ^ 64
  pub basic : i.basic < 2 ^ 64
  pub excess_lines : RanksFit i.excess_lines
  pub excess : i.excess < 2 ^ 64
  pub credit : i.credit < 2 ^ 64
  pub extra : i.extra < 2 ^ 64
  pub due : mag i.due < 2 ^ 63

length_line : (key value : List ℕ) → length (line key value) ≡ length key + length value + 2
unfolding line
length_line key value = simp length-append (omega arith)

-- a line of a number, at most
line_u32 : (key : List ℕ) (n : ℕ) → n < 2 ^ 32 → length (line key (decimal n)) ≤ length key + 12
line_u32 key n h =
    let small : n < 10 ^ 10 = omega arith in
    let fits : n < 2 ^ 64 = omega arith in
    omega (arith, length_line key (decimal n), length-decimal-le 10 n (omega arith) small fits)

line_u64 : (key : List ℕ) (n : ℕ) → n < 2 ^ 64 → length (line key (decimal n)) ≤ length key + 22
line_u64 key n h =
    let small : n < 10 ^ 20 = omega arith in
    omega (arith, length_line key (decimal n), length-decimal-le 20 n (omega arith) small h)

line_i64 : (key : List ℕ) (z : ℤ) → mag z < 2 ^ 63 → length (line key (signed_decimal z)) ≤ length key + 22
line_i64 key z h =
    let small : mag z + 1 < 10 ^ 19 = omega arith in
    omega (arith, length_line key (signed_decimal z), length_signed_le 19 z small h)

-- 512 bytes suffice for every bill: the longest takes 323
pub bill_short : (serial : ℕ) (code : List ℕ) (i : Items) → serial < 2 ^ 32 → length code ≤ 24 → ItemsFit i → length (rendered serial code i) ≤ 512
bill_short serial code i h k fit =
    let e = fit.energies in
    let x = fit.excess_lines in
    simp length-append
    (omega (
      arith,
      k,
      length_line (codes "code") code,
      line_u32 (codes "serial") serial h,
      line_u32 (codes "q1") i.energies.peak e.peak,
      line_u32 (codes "q2") i.energies.semi_peak e.semi_peak,
      line_u32 (codes "q3") i.energies.saturday e.saturday,
      line_u32 (codes "q4") i.energies.off_peak e.off_peak,
      line_u64 (codes "energy") i.energy fit.energy,
      line_u64 (codes "basic") i.basic fit.basic,
      line_u32 (codes "x1") i.excess_lines.peak x.peak,
      line_u32 (codes "x2") i.excess_lines.semi_peak x.semi_peak,
      line_u32 (codes "x3") i.excess_lines.saturday x.saturday,
      line_u32 (codes "x4") i.excess_lines.off_peak x.off_peak,
      line_u64 (codes "excess") i.excess fit.excess,
      line_u64 (codes "credit") i.credit fit.credit,
      line_u64 (codes "extra") i.extra fit.extra,
      line_i64 (codes "due") i.due fit.due,
    ))
