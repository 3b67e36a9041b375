-- The lines of a text, one after the other. Assumes nothing.
use Rattle.std.proofs.Common.{◌≡◌, ℕ, suc, ◌<◌, Bool, true, false, cond, eqb, List, [], ◌∷◌, ◌++◌, map, length, Some, None, Option, refl, ap, ◌∙◌, arith}
use Rattle.job.specs.JobLines.{Lines, in_line, lines_of, unended, said}
use Rattle.job.specs.Statements.{Says, says_of}
use Rattle.job.specs.Texts.{Parts, cut_at, behind}

-- the first line in front of the lines of what stands behind it
abbrev first_of : Parts → Lines
first_of p = record { whole = p.0 ∷ (lines_of p.1).whole; rest = (lines_of p.1).rest }

module _ (b : ℕ) (bs : List ℕ) where
  -- the lines with one more byte in front, which is a line feed or not
  abbrev longer : Bool → Lines
  longer t = cond t (record { whole = [] ∷ (lines_of bs).whole; rest = (lines_of bs).rest }) (in_line b (lines_of bs).whole (lines_of bs).rest)

  abbrev cut_so : Bool → Option Parts → Option Parts
  cut_so t o = cond t (Some ([], bs)) (behind (b ∷ []) o)

  cut_step : (p : Parts) (t : Bool) (o : Option Parts) → ((q : Parts) → o ≡ Some q → lines_of bs ≡ first_of q) → cut_so t o ≡ Some p → longer t ≡ first_of p
  cut_step p true o ih e = let h : ([], bs) ≡ p = cc in ap first_of h
  cut_step p false None ih e = let z : ◌≡◌ {A = ℕ} 0 1 = cc in absurd (let no : ⊥ = omega arith in no)
  cut_step p false (Some q) ih e =
      let h : (b ∷ q.0, q.1) ≡ p = cc in ap (λ (l : Lines). in_line b l.whole l.rest) (ih q refl) ∙ ap first_of h

  uncut_step : (t : Bool) (o : Option Parts) → (o ≡ None → lines_of bs ≡ record { whole = []; rest = bs }) → cut_so t o ≡ None → longer t ≡ record { whole = []; rest = b ∷ bs }
  uncut_step true o ih e = let z : ◌≡◌ {A = ℕ} 0 1 = cc in absurd (let no : ⊥ = omega arith in no)
  uncut_step false None ih e = ap (λ (l : Lines). in_line b l.whole l.rest) (ih refl)
  uncut_step false (Some q) ih e = let z : ◌≡◌ {A = ℕ} 0 1 = cc in absurd (let no : ⊥ = omega arith in no)

  shorter_step : (p : Parts) (t : Bool) (o : Option Parts) → ((q : Parts) → o ≡ Some q → length q.1 < length bs) → cut_so t o ≡ Some p → length p.1 < suc (length bs)
  shorter_step p true o ih e = let h : bs ≡ p.1 = cc in let k = ap length h in omega arith
  shorter_step p false None ih e = let z : ◌≡◌ {A = ℕ} 0 1 = cc in omega arith
  shorter_step p false (Some q) ih e = let h : q.1 ≡ p.1 = cc in let k = ap length h in omega (arith, ih q refl)

-- a text with a line feed has the line before it first
pub lines_cut : (xs : List ℕ) (p : Parts) → cut_at 10 xs ≡ Some p → lines_of xs ≡ first_of p
lines_cut [] p e = let z : ◌≡◌ {A = ℕ} 0 1 = cc in absurd (let no : ⊥ = omega arith in no)
lines_cut (b ∷ bs) p e = cut_step b bs p (eqb b 10) (cut_at 10 bs) (λ q h. lines_cut bs q h) e

-- one without has no whole line
pub lines_uncut : (xs : List ℕ) → cut_at 10 xs ≡ None → lines_of xs ≡ record { whole = []; rest = xs }
lines_uncut [] e = refl
lines_uncut (b ∷ bs) e = uncut_step b bs (eqb b 10) (cut_at 10 bs) (λ h. lines_uncut bs h) e

-- what stands behind the line feed is shorter
pub cut_shorter : (xs : List ℕ) (p : Parts) → cut_at 10 xs ≡ Some p → length p.1 < length xs
cut_shorter [] p e = let z : ◌≡◌ {A = ℕ} 0 1 = cc in omega arith
cut_shorter (b ∷ bs) p e = shorter_step b bs p (eqb b 10) (cut_at 10 bs) (λ q h. cut_shorter bs q h) e

abbrev said_by : Lines → List (Option Says)
said_by l = map says_of l.whole ++ unended l.rest

pub said_cut : (xs : List ℕ) (p : Parts) → cut_at 10 xs ≡ Some p → said xs ≡ says_of p.0 ∷ said p.1
said_cut xs p e = ap said_by (lines_cut xs p e)

pub said_uncut : (xs : List ℕ) → cut_at 10 xs ≡ None → (length xs ≡ 0 → ⊥) → said xs ≡ None ∷ []
said_uncut [] e some = absurd (some refl)
said_uncut (b ∷ bs) e some = ap said_by (lines_uncut (b ∷ bs) e)

pub said_nothing : (xs : List ℕ) → length xs ≡ 0 → said xs ≡ []
said_nothing [] e = refl
said_nothing (b ∷ bs) e = absurd (let no : ⊥ = omega arith in no)
