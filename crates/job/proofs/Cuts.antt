-- A text cut at a byte is cut at the first place where the byte stands. Assumes nothing.
use Rattle.std.proofs.Common.{◌≡◌, ℕ, suc, ◌+◌, Bool, true, false, cond, not, eqb, ltb, List, [], ◌∷◌, length, take, drop, Some, None, Option, sym, refl, ap, ◌∙◌, arith}
use Rattle.std.proofs.Math.Numerals.{one-add, add-one}
use Rattle.std.proofs.lemmas.Bool.Decides.{nat_tests}
use Rattle.std.specs.List.{position_or_len}
use Rattle.job.specs.Texts.{Parts, cut_at, behind}

-- a text parted around a place, where the place is the text's
abbrev parted : Bool → ℕ → List ℕ → Option Parts
parted within n xs = cond within (Some (take n xs, drop (n + 1) xs)) None

further : (b n : ℕ) (bs : List ℕ) (within : Bool) → parted within (1 + n) (b ∷ bs) ≡ behind (b ∷ []) (parted within n bs)
further b n bs true =
    ap (λ (m : ℕ). parted true m (b ∷ bs)) (one-add n)
    ∙ (ap (λ (m : ℕ). Some (b ∷ take n bs, drop m (b ∷ bs))) (add-one (suc n)) ∙ ap (λ (m : ℕ). Some (b ∷ take n bs, drop m bs)) (sym (add-one n)))
further b n bs false = refl

step : (at b n : ℕ) (bs : List ℕ) (t : Bool) → parted (ltb n (length bs)) n bs ≡ cut_at at bs → (let m = cond (not t) (1 + n) 0 in parted (ltb m (length (b ∷ bs))) m (b ∷ bs)) ≡ cond t (Some ([], bs)) (behind (b ∷ []) (cut_at at bs))
step at b n bs true e = let h : ltb 0 (length (b ∷ bs)) ≡ true = grind (arith, nat_tests) in ap (λ t. parted t 0 (b ∷ bs)) h
step at b n bs false e =
    let h : ltb (1 + n) (length (b ∷ bs)) ≡ ltb n (length bs) = grind (arith, nat_tests) in
    ap (λ t. parted t (1 + n) (b ∷ bs)) h ∙ (further b n bs (ltb n (length bs)) ∙ ap (behind (b ∷ [])) e)

-- the first place where the byte stands, or the text's length
abbrev place : ℕ → List ℕ → ℕ
place at xs = position_or_len (λ b. eqb b at) xs

cut_parted : (at : ℕ) (xs : List ℕ) → parted (ltb (place at xs) (length xs)) (place at xs) xs ≡ cut_at at xs
cut_parted at [] = refl
cut_parted at (b ∷ bs) = step at b (place at bs) bs (eqb b at) (cut_parted at bs)

module _ (at : ℕ) (xs : List ℕ) where
  -- what a search for the byte answers
  abbrev pub searched : Option ℕ
  searched = cond (ltb (place at xs) (length xs)) (Some (place at xs)) None

  abbrev cut : Option ℕ → Option Parts
  cut None = None
  cut (Some n) = Some (take n xs, drop (n + 1) xs)

  as_parted : (n : ℕ) (t : Bool) → cut (cond t (Some n) None) ≡ parted t n xs
  as_parted n true = refl
  as_parted n false = refl

  cut_searched : (r : Option ℕ) → r ≡ searched → cut r ≡ cut_at at xs
  cut_searched r e = ap cut e ∙ (as_parted (place at xs) (ltb (place at xs) (length xs)) ∙ cut_parted at xs)

  -- it stands there, or nowhere
  pub cut_here : (n : ℕ) → Some n ≡ searched → Some (take n xs, drop (n + 1) xs) ≡ cut_at at xs
  cut_here n e = cut_searched (Some n) e

  pub cut_nowhere : None ≡ searched → None ≡ cut_at at xs
  cut_nowhere e = cut_searched None e
