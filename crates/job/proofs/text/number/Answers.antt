use Rattle.std.proofs.Common.{◌≡◌, ℕ, ◌+◌, ◌*◌, ◌^◌, ◌<◌, ◌≤◌, false, eqb, List, length, get_or, drop, Some, None, Option, sym, ap, ◌∙◌, add-one, arith, lit<}
use native.Mathlib.Nat.{pow-succ', pow-le-pow_right}
use Rattle.std.proofs.lemmas.List.{at_drop_more, at_drop_all}
use Rattle.std.proofs.lemmas.Bool.{eqb-false}
use Rattle.std.proofs.lemmas.Bool.Decides.{nat_tests}
use Rattle.job.specs.Texts.{number_after, digit_of, number_of}
use Rattle.job.proofs.text.number.Goals as goal

-- one digit more
longer : (n d i : ℕ) → n < 10 ^ i → d < 10 → 10 * n + d < 10 ^ (i + 1)
longer n d i h k = let e : 10 ^ (i + 1) ≡ 10 * 10 ^ i = rw add-one (pow-succ' 10 i) in omega arith

-- fewer than eight digits
few : (n i : ℕ) → n < 10 ^ i → i < 8 → n < 10 ^ 7
few n i h k = let low : i ≤ 7 = omega arith in let p : 10 ^ i ≤ 10 ^ 7 = pow-le-pow_right (lit< tt) low in omega arith

a_digit : (b d : ℕ) → digit_of b ≡ Some d → d < 10
a_digit b d e = grind (arith, nat_tests)

-- a digit is read
read : (n : ℕ) (xs : List ℕ) (i d : ℕ) → i < length xs → digit_of (get_or xs i 0) ≡ Some d → number_after n (drop i xs) ≡ number_after (10 * n + d) (drop (i + 1) xs)
read n xs i d h e =
    at_drop_more (number_after n) xs i 0 h
    ∙ ap (λ (o : Option ℕ). elim o [ Some v ↦ number_after (10 * n + v) (drop (i + 1) xs) | None ↦ None ]) e

-- no digit stands there
unread : (n : ℕ) (xs : List ℕ) (i : ℕ) → i < length xs → digit_of (get_or xs i 0) ≡ None → number_after n (drop i xs) ≡ None
unread n xs i h e =
    at_drop_more (number_after n) xs i 0 h
    ∙ ap (λ (o : Option ℕ). elim o [ Some v ↦ number_after (10 * n + v) (drop (i + 1) xs) | None ↦ None ]) e

-- 1 to 8 bytes are judged by their digits
sized : (xs : List ℕ) → 1 ≤ length xs → length xs ≤ 8 → number_of xs ≡ number_after 0 xs
sized xs h k = grind (arith, nat_tests)

-- a text that is not empty
some_bytes : (xs : List ℕ) → false ≡ eqb (length xs) 0 → 1 ≤ length xs
some_bytes xs e = omega (arith, eqb-false (length xs) 0 (sym e))

-- what the digit at hand adds still fits
room : (n d i b : ℕ) → n < 10 ^ i → i < 8 → Some d ≡ digit_of b → (n < 10 ^ 7) × (d < 10)
room n d i b h k e = (few n i h k, a_digit b d (sym e))

pub returns-in_err-d : goal.returns-in_err-d
returns-in_err-d c =
    let xs = c.args.digits.now in
    c.from_residual.ensures
    ∙ sym (sized xs (some_bytes xs c.if-is_empty.ensures) (omega arith)
    ∙ (sym c.loop-b.invariant.0 ∙ unread c.loop-b.n xs c.loop-b.b-index (omega arith) (sym c.in_err-d.ensures)))

pub overflow_mul-n : goal.overflow_mul-n
overflow_mul-n c = omega (arith, room c.loop-b.n c.in_ok-d.d c.loop-b.b-index (get_or c.args.digits.now c.loop-b.b-index 0) c.loop-b.invariant.1 (omega arith) c.in_ok-d.ensures)

pub overflow_add-n : goal.overflow_add-n
overflow_add-n c = omega (arith, room c.loop-b.n c.in_ok-d.d c.loop-b.b-index (get_or c.args.digits.now c.loop-b.b-index 0) c.loop-b.invariant.1 (omega arith) c.in_ok-d.ensures)

pub loop-b-preserved : goal.loop-b-preserved
loop-b-preserved c =
    let xs = c.args.digits.now in (
      sym (read c.loop-b.n xs c.loop-b.b-index c.in_ok-d.d (omega arith) (sym c.in_ok-d.ensures)) ∙ c.loop-b.invariant.0,
      longer c.loop-b.n c.in_ok-d.d c.loop-b.b-index c.loop-b.invariant.1 (a_digit (get_or xs c.loop-b.b-index 0) _ (sym c.in_ok-d.ensures)),
    )

pub returns : goal.returns
returns c =
    let xs = c.args.digits.now in
    sym (sized xs (some_bytes xs c.if-is_empty.ensures) (omega arith)
    ∙ (sym c.loop-b.invariant.0 ∙ at_drop_all (number_after c.loop-b.n) xs c.loop-b.b-index (omega arith)))
