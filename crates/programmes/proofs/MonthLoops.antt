-- Loops and tests over the days of a month, counted from the first of the lead. Assumes nothing.
use Rattle.std.proofs.Common.{◌≡◌, ℕ, zero, suc, ◌+◌, ◌-◌, ◌≤◌, Bool, true, false, cond, ◌||◌, Option, Some, None, sym, refl, ap, ◌∙◌, arith}
use mir.Val.{bool_byte}
use Rattle.std.specs.List.{range_with_len, list_any}
use Rattle.books.specs.declared.call.Call.{Call}
use Rattle.books.specs.declared.call.CallKind.{CallKind}
use Rattle.programmes.specs.Sites.{SiteModel, call_at, for_call, sum_of_calls}
use Rattle.programmes.specs.Sums.{sum_below, some_below}
use Rattle.programmes.specs.SumLaws.{sum_none, some_none}
use Rattle.programmes.specs.CallSums.{day_adds}

-- the sum of the numbers of a kind's calls on the days of the month before a day
abbrev pub sum_before : SiteModel → CallKind → (ℕ → Call → ℕ) → ℕ → ℕ
sum_before s kind f d = sum_below (λ k. for_call (call_at s kind (31 + k)) (f (31 + k))) (d - 31)

module _ (s : SiteModel) (kind : CallKind) (f : ℕ → Call → ℕ) where
  -- none before the month
  pub before_month : sum_before s kind f 31 ≡ 0
  before_month = sum_none (λ k. for_call (call_at s kind (31 + k)) (f (31 + k)))

  -- all of them behind it
  pub behind_month : (d sum : ℕ) → d ≡ 31 + s.days → sum ≡ sum_before s kind f d → sum ≡ sum_of_calls s kind f
  behind_month d sum end e =
      let days : d - 31 ≡ s.days = omega arith in
      e ∙ ap (sum_below (λ k. for_call (call_at s kind (31 + k)) (f (31 + k)))) days

  module _ (d sum : ℕ) (o : Option Call) (from : 31 ≤ d) (inv : sum ≡ sum_before s kind f d) (is : o ≡ call_at s kind d) where
    next_day : (more : ℕ) → more ≡ for_call o (f d) → sum + more ≡ sum_before s kind f (d + 1)
    next_day more e =
        let at : d ≡ 31 + (d - 31) = omega arith in
        let next : d - 31 + 1 ≡ d + 1 - 31 = omega arith in
        day_adds s kind f (d - 31) sum more o inv (e ∙ ap (λ k. for_call o (f k)) at) (is ∙ ap (call_at s kind) at)
        ∙ ap (sum_below (λ k. for_call (call_at s kind (31 + k)) (f (31 + k)))) next

    -- a day with a call, and a day without
    pub called_day : (c : Call) (more all : ℕ) → o ≡ Some c → all ≡ sum + more → more ≡ f d c → all ≡ sum_before s kind f (d + 1)
    called_day c more all e added is_more = added ∙ next_day more (is_more ∙ ap (λ o. for_call o (f d)) (sym e))

    pub other_day : o ≡ None → sum ≡ sum_before s kind f (d + 1)
    other_day e = let all = next_day 0 (ap (λ o. for_call o (f d)) (sym e)) in omega arith

-- a test of some number, the first number apart
or_assoc : (a b c : Bool) → ((a || b) || c) ≡ (a || (b || c))
or_assoc a b c = elim a as (λ a. ((a || b) || c) ≡ (a || (b || c))) [ true ↦ refl | false ↦ refl ]

some_front : (q : ℕ → Bool) (n : ℕ) → some_below q (suc n) ≡ (q 0 || some_below (λ k. q (suc k)) n)
unfolding some_below
some_front q zero = elim (q 0) as (λ b. b ≡ (b || false)) [ true ↦ refl | false ↦ refl ]
some_front q (suc n) = ap (λ b. b || q (suc n)) (some_front q n) ∙ or_assoc (q 0) (some_below (λ k. q (suc k)) n) (q (suc n))

-- a test of a range of days
pub any_day : (p q : ℕ → Bool) (a n : ℕ) → ((k : ℕ) → p (a + k) ≡ q k) → list_any p (range_with_len a n) ≡ some_below q n
any_day p q a zero same = sym (some_none q)
any_day p q a (suc n) same =
    ap (λ d. p d || list_any p (range_with_len (a + 1) n)) (omega arith)
    ∙ ap (λ b. b || list_any p (range_with_len (a + 1) n)) (same 0)
    ∙ ap (λ b. q 0 || b) (any_day p (λ k. q (suc k)) (a + 1) n (λ k. ap p (omega arith) ∙ same (suc k)))
    ∙ sym (some_front q n)

-- a truth as a number
pub as_number : (b : Bool) → bool_byte b ≡ cond b 1 0
as_number true = refl
as_number false = refl

pub number_few : (b : Bool) → cond b 1 0 ≤ 1
number_few true = omega arith
number_few false = omega arith
