-- What the key of a call tells. Assumes nothing.
use Rattle.std.proofs.Common.{◌≡◌, ℕ, ◌<◌, ◌≤◌, cond, List, [], ◌∷◌, Some, None, refl, ap, ◌∙◌, arith}
use Rattle.std.proofs.lemmas.Bool.{ne_eqb}
use Rattle.books.specs.declared.call.Call.{Call}
use Rattle.books.specs.declared.call.CallKind.{CallKind}
use Rattle.books.specs.declared.call.CallKind.TheVariants.{Programme, Flexible}
use Rattle.books.specs.Books.{found}
use Rattle.books.specs.Calls.{call_key, kind_number}

kind_low : (kind : CallKind) → kind_number kind ≤ 2
kind_low Programme = omega arith
kind_low Flexible = omega arith

-- no call has a key past those of the last day
pub none_later : (calls : List Call) (k : ℕ) → 292194 < k → found call_key k calls ≡ None
none_later [] k h = refl
none_later (c ∷ cs) k h =
    let low = kind_low c.kind in
    let known = c.known in
    let other : call_key c ≡ k → ⊥ = λ e. omega arith in
    ap (λ b. cond b (Some c) (found call_key k cs)) (ne_eqb (call_key c) k other) ∙ none_later cs k h
