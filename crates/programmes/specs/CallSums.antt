-- Sums over the month's calls of a kind. Assumes nothing.
use Rattle.std.specs.Prelude.{◌≡◌, ℕ, ◌+◌, ◌*◌, ◌<◌, ◌≤◌, Bool, true, false, Some, None, Option, refl}
use Rattle.std.proofs.Common.{sym, ap, ◌∙◌, arith}
use Rattle.std.proofs.lemmas.Bool.{or_from}
use Rattle.books.specs.declared.call.Call.{Call}
use Rattle.books.specs.declared.call.CallKind.{CallKind}
use Rattle.programmes.specs.Sites.{SiteModel, call_at, for_call, if_call, sum_of_calls, some_call}
use Rattle.programmes.specs.Sums.{sum_below, some_below}
use Rattle.programmes.specs.SumLaws.{sum_more, some_more, sum_like, sum_grows, sum_bounded, some_at}

-- a fact on the number of each call holds of the number of a day
pub for_each : (P : ℕ → ℕ → Type 0) (o : Option Call) (f g : Call → ℕ) → P 0 0 → ((c : Call) → o ≡ Some c → P (f c) (g c)) → P (for_call o f) (for_call o g)
for_each P None f g none some = none
for_each P (Some c) f g none some = some c refl

module _ (s : SiteModel) (kind : CallKind) where
  pub calls_like : (f g : ℕ → Call → ℕ) → ((k : ℕ) (c : Call) → k < s.days → call_at s kind (31 + k) ≡ Some c → f (31 + k) c ≡ g (31 + k) c) → sum_of_calls s kind f ≡ sum_of_calls s kind g
  calls_like f g same =
      sum_like (λ k. for_call (call_at s kind (31 + k)) (f (31 + k))) (λ k. for_call (call_at s kind (31 + k)) (g (31 + k))) s.days
      (λ k h. for_each (λ x y. x ≡ y) (call_at s kind (31 + k)) (f (31 + k)) (g (31 + k)) refl (λ c e. same k c h e))

  pub calls_grow : (f g : ℕ → Call → ℕ) → ((k : ℕ) (c : Call) → k < s.days → call_at s kind (31 + k) ≡ Some c → f (31 + k) c ≤ g (31 + k) c) → sum_of_calls s kind f ≤ sum_of_calls s kind g
  calls_grow f g lower =
      sum_grows (λ k. for_call (call_at s kind (31 + k)) (f (31 + k))) (λ k. for_call (call_at s kind (31 + k)) (g (31 + k))) s.days
      (λ k h. for_each (λ x y. x ≤ y) (call_at s kind (31 + k)) (f (31 + k)) (g (31 + k)) (omega arith) (λ c e. lower k c h e))

  pub calls_bounded : (f : ℕ → Call → ℕ) (m : ℕ) → ((k : ℕ) (c : Call) → k < s.days → call_at s kind (31 + k) ≡ Some c → f (31 + k) c ≤ m) → sum_of_calls s kind f ≤ m * s.days
  calls_bounded f m low =
      sum_bounded (λ k. for_call (call_at s kind (31 + k)) (f (31 + k))) m s.days
      (λ k h. for_each (λ x y. x ≤ m) (call_at s kind (31 + k)) (f (31 + k)) (f (31 + k)) (omega arith) (λ c e. low k c h e))

  -- one of the calls passes
  pub some_call_at : (p : ℕ → Call → Bool) (k : ℕ) (c : Call) → k < s.days → call_at s kind (31 + k) ≡ Some c → p (31 + k) c ≡ true → some_call s kind p ≡ true
  some_call_at p k c h e t =
      some_at (λ j. if_call (call_at s kind (31 + j)) (p (31 + j))) s.days k h (ap (λ o. if_call o (p (31 + k))) e ∙ t)

  -- a loop over the days of the month adds the number of each day's call
  pub day_adds : (f : ℕ → Call → ℕ) (k sum more : ℕ) (o : Option Call) → sum ≡ sum_below (λ j. for_call (call_at s kind (31 + j)) (f (31 + j))) k → more ≡ for_call o (f (31 + k)) → o ≡ call_at s kind (31 + k) → sum + more ≡ sum_below (λ j. for_call (call_at s kind (31 + j)) (f (31 + j))) (k + 1)
  day_adds f k sum more o e m q =
      let step = sum_more (λ j. for_call (call_at s kind (31 + j)) (f (31 + j))) k in
      let here = m ∙ ap (λ o. for_call o (f (31 + k))) q in
      omega (arith, e, step, here)

  -- a call that passes is found
  pub day_finds : (p : ℕ → Call → Bool) (k : ℕ) (t : Bool) (o : Option Call) → k < s.days → t ≡ if_call o (p (31 + k)) → o ≡ call_at s kind (31 + k) → t ≡ true → true ≡ some_call s kind p
  day_finds p k t o h e q passes =
      sym (some_at (λ j. if_call (call_at s kind (31 + j)) (p (31 + j))) s.days k h (ap (λ o. if_call o (p (31 + k))) (sym q) ∙ sym e ∙ passes))

  -- where none passed so far, nor on this day, none has passed
  pub day_passes : (p : ℕ → Call → Bool) (k : ℕ) (t : Bool) (o : Option Call) → some_below (λ j. if_call (call_at s kind (31 + j)) (p (31 + j))) k ≡ false → t ≡ if_call o (p (31 + k)) → o ≡ call_at s kind (31 + k) → t ≡ false → some_below (λ j. if_call (call_at s kind (31 + j)) (p (31 + j))) (k + 1) ≡ false
  day_passes p k t o inv e q fails =
      some_more (λ j. if_call (call_at s kind (31 + j)) (p (31 + j))) k
      ∙ or_from _ _ inv (ap (λ o. if_call o (p (31 + k))) (sym q) ∙ sym e ∙ fails)
