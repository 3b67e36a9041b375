-- Two months of readings behind one lead, as demands. Assumes nothing.
use Rattle.std.proofs.Common.{◌≡◌, ℕ, ◌+◌, ◌-◌, ◌*◌, ◌/◌, ◌%◌, ◌<◌, ◌≤◌, true, false, List, length, get_or, sym, refl, subst, ⊎_elim, arith}
use Rattle.std.proofs.lemmas.List.{get_or_append_left, get_or-append_right, get_or_past}
use Rattle.std.proofs.lemmas.Bool.{cases_lt}
use Rattle.programmes.specs.Meanings.{ProgrammeMeaning, SameUncalled, SameNamed, NowhereHigher}
use Rattle.programmes.specs.Sites.{SiteModel, called, demand}

module _ (lead r r' : List ℕ) (full : length lead ≡ 2976) (alike : length r ≡ length r') where
  -- a relation that each number has to itself, and that the readings of the month have wherever P holds of their day and slot
  pub month_relates : (R : ℕ → ℕ → Type 0) (P : ℕ → ℕ → Type 0) → ((n : ℕ) → R n n) → ((k : ℕ) → k < length r → P (31 + k / 96) (k % 96) → R (get_or r k 0) (get_or r' k 0)) → (d slot : ℕ) → slot < 96 → P d slot → R (demand lead r d slot) (demand lead r' d slot)
  month_relates R P same relates d slot h p =
      ⊎_elim
      (λ (early : 96 * d + slot < 2976).
      subst (λ n. R n (demand lead r' d slot)) (sym (get_or_append_left lead r 0 (96 * d + slot) (omega arith)))
      (subst (λ n. R (get_or lead (96 * d + slot) 0) n) (sym (get_or_append_left lead r' 0 (96 * d + slot) (omega arith))) (same _)))
      (λ (late : 2976 ≤ 96 * d + slot).
      let k = 96 * d + slot - 2976 in
      subst (λ n. R n (demand lead r' d slot)) (sym (get_or-append_right lead r 2976 (96 * d + slot) 0 full late))
      (subst (λ n. R (get_or r k 0) n) (sym (get_or-append_right lead r' 2976 (96 * d + slot) 0 full late))
      (⊎_elim
      (λ (within : k < length r).
      let on_day : d ≡ 31 + k / 96 = omega arith in
      let in_slot : slot ≡ k % 96 = omega arith in
      relates k within (subst (P (31 + k / 96)) in_slot (subst (λ e. P e slot) on_day p)))
      (λ (past : length r ≤ k).
      subst (λ n. R n (get_or r' k 0)) (sym (get_or_past r k 0 past)) (subst (R 0) (sym (get_or_past r' k 0 (omega arith))) (same 0)))
      (cases_lt k (length r)))))
      (cases_lt (96 * d + slot) 2976)

  pub months_uncalled : (s : SiteModel) → ((k : ℕ) → k < length r → called s (31 + k / 96) (k % 96) ≡ false → get_or r k 0 ≡ get_or r' k 0) → SameUncalled s (demand lead r) (demand lead r')
  months_uncalled s same = month_relates (λ x y. x ≡ y) (λ d slot. called s d slot ≡ false) (λ n. refl) same

  pub months_named : (m : ProgrammeMeaning) (s : SiteModel) → ((k : ℕ) → k < length r → m.named s (31 + k / 96) (k % 96) ≡ true → get_or r k 0 ≡ get_or r' k 0) → SameNamed m s (demand lead r) (demand lead r')
  months_named m s same = month_relates (λ x y. x ≡ y) (λ d slot. m.named s d slot ≡ true) (λ n. refl) same

  pub months_lower : ((k : ℕ) → k < length r → get_or r' k 0 ≤ get_or r k 0) → NowhereHigher (demand lead r) (demand lead r')
  months_lower lower d slot h = month_relates (λ x y. y ≤ x) (λ d slot. Unit {0}) (λ n. omega arith) (λ k l _. lower k l) d slot h tt
