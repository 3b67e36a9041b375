-- How what can be refused is answered. Assumes nothing.
use Rattle.std.specs.Prelude.{◌≡◌, Some, None, Option, Result, MatchResult}
use Rattle.calendar.specs.declared.refusal.Refusal.{Refusal}

-- granted exactly where nothing refuses, and then the value is as asked; else the answer is the first refusal that holds
abbrev pub Judged : {T : Type 0} → Result T Refusal → Option Refusal → (T → Type 0) → Type 0
Judged r refusal IsAsked = MatchResult r (λ v. (refusal ≡ None) × IsAsked v) (λ e. refusal ≡ Some e)
