-- Laws of sums and tests over the numbers below a bound. Assumes nothing.
use Rattle.std.specs.Prelude.{◌≡◌, ℕ, zero, suc, ◌+◌, ◌*◌, ◌<◌, ◌≤◌, Bool, true, false, ◌||◌, refl}
use Rattle.std.proofs.Common.{subst, ⊎_elim, mul-add, add-one, arith}
use Rattle.std.proofs.lemmas.Bool.{cases_order, or_left, or_right}
use Rattle.programmes.specs.Sums.{sum_below, some_below}

pub sum_none : (f : ℕ → ℕ) → sum_below f 0 ≡ 0
unfolding sum_below
sum_none f = refl

pub sum_more : (f : ℕ → ℕ) (n : ℕ) → sum_below f (n + 1) ≡ sum_below f n + f n
unfolding sum_below
sum_more f n = rw add-one

pub some_none : (p : ℕ → Bool) → some_below p 0 ≡ false
unfolding some_below
some_none p = refl

pub some_more : (p : ℕ → Bool) (n : ℕ) → some_below p (n + 1) ≡ (some_below p n || p n)
unfolding some_below
some_more p n = rw add-one

-- equal below the bound, equal sums
pub sum_like : (f g : ℕ → ℕ) (n : ℕ) → ((k : ℕ) → k < n → f k ≡ g k) → sum_below f n ≡ sum_below g n
unfolding sum_below
sum_like f g zero h = refl
sum_like f g (suc n) h =
    let a = sum_like f g n (λ k l. h k (omega arith)) in
    let b = h n (omega arith) in
    omega arith

-- nowhere smaller, no smaller sum
pub sum_grows : (f g : ℕ → ℕ) (n : ℕ) → ((k : ℕ) → k < n → f k ≤ g k) → sum_below f n ≤ sum_below g n
unfolding sum_below
sum_grows f g zero h = omega arith
sum_grows f g (suc n) h =
    let a = sum_grows f g n (λ k l. h k (omega arith)) in
    let b = h n (omega arith) in
    omega arith

-- each at most so much
pub sum_bounded : (f : ℕ → ℕ) (m n : ℕ) → ((k : ℕ) → k < n → f k ≤ m) → sum_below f n ≤ m * n
unfolding sum_below
sum_bounded f m zero h = omega arith
sum_bounded f m (suc n) h =
    let a = sum_bounded f m n (λ k l. h k (omega arith)) in
    let b = h n (omega arith) in
    omega arith

-- each at most so many times another
pub sum_scaled : (f g : ℕ → ℕ) (m n : ℕ) → ((k : ℕ) → k < n → f k ≤ m * g k) → sum_below f n ≤ m * sum_below g n
unfolding sum_below
sum_scaled f g m zero h = omega arith
sum_scaled f g m (suc n) h =
    let a = sum_scaled f g m n (λ k l. h k (omega arith)) in
    let b = h n (omega arith) in
    omega (arith, mul-add m (sum_below g n) (g n))

-- a number below the bound that passes
pub some_at : (p : ℕ → Bool) (n k : ℕ) → k < n → p k ≡ true → some_below p n ≡ true
unfolding some_below
some_at p zero k l e = absurd (omega arith)
some_at p (suc n) k l e =
    ⊎_elim (λ (q : k ≡ n). or_right _ _ (subst (λ j. p j ≡ true) q e))
    (⊎_elim (λ (q : k < n). or_left _ _ (some_at p n k q e)) (λ (q : n < k). absurd (omega arith)))
    (cases_order k n)
