-- A text cut at a byte, and numbers. Assumes nothing.
use Rattle.std.specs.Prelude.{ℕ, ◌+◌, ◌-◌, ◌*◌, cond, ◌&&◌, List, [], ◌∷◌, ◌++◌, length, Some, None, Option, ◌==◌, nat_le}
use Rattle.std.specs.Borrow.{Bor}

-- two parts of a text
abbrev pub Parts : Type 0
Parts = List ℕ × List ℕ

-- what two borrowed parts hold
abbrev pub parts : Bor (List ℕ) × Bor (List ℕ) → Parts
parts p = (p.0.now, p.1.now)

-- bytes put in front of the first part
abbrev pub behind : List ℕ → Option Parts → Option Parts
behind front None = None
behind front (Some p) = Some (front ++ p.0, p.1)

-- what stands before and behind the first byte `at`
abbrev pub cut_at : ℕ → List ℕ → Option Parts
cut_at at [] = None
cut_at at (b ∷ bs) = cond (b == at) (Some ([], bs)) (behind (b ∷ []) (cut_at at bs))

-- the value of a decimal digit
abbrev pub digit_of : ℕ → Option ℕ
digit_of b = cond (nat_le 48 b && nat_le b 57) (Some (b - 48)) None

-- the digits that stand behind a number n lengthen it
abbrev pub number_after : ℕ → List ℕ → Option ℕ
number_after n [] = Some n
number_after n (b ∷ bs) = elim (digit_of b) [ Some d ↦ number_after (10 * n + d) bs | None ↦ None ]

-- a number is 1 to 8 digits
abbrev pub number_of : List ℕ → Option ℕ
number_of bs = cond (nat_le 1 (length bs) && nat_le (length bs) 8) (number_after 0 bs) None
