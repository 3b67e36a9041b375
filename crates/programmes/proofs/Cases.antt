-- What a method of `Option` gives, by its two cases. Assumes nothing.
use Rattle.std.proofs.Common.{◌≡◌, ℕ, Bool, ◌&&◌, Option, Some, None, is_some, MatchOption, refl}
use Rattle.books.specs.declared.call.Call.{Call}
use Rattle.calendar.specs.declared.refusal.Refusal.{Refusal}
use Rattle.programmes.specs.Layers.{flexible_refusal}
use Rattle.programmes.specs.Sites.{for_call, if_call}

-- a number for a call, 0 without one
pub call_or_none : {P : Type 0} {Q : Call → Type 0} (o : Option Call) (r : ℕ) (f : Call → ℕ) → MatchOption o P Q → (P → r ≡ 0) → ((c : Call) → Q c → r ≡ f c) → r ≡ for_call o f
call_or_none None r f m none some = none m
call_or_none (Some c) r f m none some = some c m

-- the lower refusal first
pub refusal_or_own : {P : Type 0} {Q : Refusal → Type 0} (lower r : Option Refusal) (too_few : Bool) → MatchOption lower P Q → (P → r ≡ flexible_refusal None too_few) → ((e : Refusal) → Q e → r ≡ Some e) → r ≡ flexible_refusal lower too_few
refusal_or_own None r too_few m none some = none m
refusal_or_own (Some e) r too_few m none some = some e m

-- a test of a call that rests on its day alone
pub some_and : (o : Option Call) (b : Bool) → (is_some o && b) ≡ if_call o (λ _. b)
some_and None b = refl
some_and (Some c) b = refl
