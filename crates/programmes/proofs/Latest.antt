-- The latest days before a day, as a chain over them gives them. Assumes nothing.
use Rattle.std.proofs.Common.{◌≡◌, ℕ, zero, suc, ◌+◌, ◌-◌, Bool, cond, List, [], ◌∷◌, length, take, filter, sym, refl, ap, ◌∙◌, subst, arith}
use Rattle.std.proofs.iter.runs.Sources.{nat_range_steps_back}
use Rattle.std.proofs.lemmas.Bool.{cond_both, cond-true, cond-false}
use Rattle.std.proofs.lemmas.Iterator.{YieldsList}
use Rattle.std.proofs.lemmas.Iterator.Consumers.{YieldsList-from_shown}
use Rattle.std.specs.declared.iter.Rev.{Rev}
use Rattle.std.specs.declared.ops.Range.{Range}
use Rattle.std.specs.Iterator.Adapters.{rev_source, rev_steps}
use Rattle.programmes.specs.Averages.{latest}

-- n days from a on, the latest first
abbrev pub days_back : ℕ → ℕ → List ℕ
days_back a zero = []
days_back a (suc n) = (a + n) ∷ days_back a n

one_back : (a n b m x : ℕ) → n ≡ suc m → b ≡ a → x ≡ a + m → days_back a n ≡ x ∷ days_back b m
one_back a n b m x e f g = ap (days_back a) e ∙ ap (λ y. y ∷ days_back a m) (sym g) ∙ ap (λ z. x ∷ days_back z m) (sym f)

none_back : (a n : ℕ) → n ≡ 0 → length (days_back a n) ≡ 0
none_back a n e = ap (λ m. length (days_back a m)) e

-- a range of days from its end
pub range_back : {s : Rev (Range ℕ)} (d : ℕ) → rev_source s ≡ record { start = 0; end = d } → YieldsList (rev_steps nat_range_steps_back) (λ x. x) s (days_back 0 d)
range_back {s} d e =
    subst (λ days. YieldsList (rev_steps nat_range_steps_back) (λ x. x) s days)
    (ap (λ (r : Range ℕ). days_back r.start (r.end - r.start)) e ∙ ap (days_back 0) (omega arith))
    (YieldsList-from_shown (rev_steps nat_range_steps_back) (λ x. x) (λ u. days_back (rev_source u).start ((rev_source u).end - (rev_source u).start))
    (λ u t p. none_back _ _ p.1.0)
    (λ u x t p. one_back (rev_source u).start ((rev_source u).end - (rev_source u).start) (rev_source t).start ((rev_source t).end - (rev_source t).start) x
    (omega (arith, p.0, p.1.0, p.1.2))
    p.0
    (omega (arith, p.0, p.1.0, p.1.1, p.1.2)))
    s)

-- the latest n of them that pass
pub latest_are : (n : ℕ) (ok : ℕ → Bool) (d : ℕ) → take n (filter ok (days_back 0 d)) ≡ latest n ok d
unfolding latest
latest_are zero ok d = refl
latest_are (suc n) ok zero = refl
latest_are (suc n) ok (suc d) =
    let at : 0 + d ≡ d = omega arith in
    ap (λ e. take (suc n) (filter ok (e ∷ days_back 0 d))) at
    ∙ cond_both (ok d) (d ∷ filter ok (days_back 0 d)) (filter ok (days_back 0 d)) (λ es. take (suc n) es ≡ cond (ok d) (d ∷ latest n ok d) (latest (suc n) ok d))
    (λ t. ap (λ es. d ∷ es) (latest_are n ok d) ∙ sym (cond-true (ok d) (d ∷ latest n ok d) (latest (suc n) ok d) t))
    (λ f. latest_are (suc n) ok d ∙ sym (cond-false (ok d) (d ∷ latest n ok d) (latest (suc n) ok d) f))
