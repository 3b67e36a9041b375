-- The lines of a job text and what they say. Assumes nothing.
use Rattle.std.specs.Prelude.{ℕ, cond, List, [], ◌∷◌, ◌++◌, map, None, Option, ◌==◌}
use Rattle.job.specs.Statements.{Says, says_of}

-- the whole lines of a text, without their line feeds, and what stands behind the last of them
pub record Lines : Type 0 where
  pub whole : List (List ℕ)
  pub rest : List ℕ

-- a byte in front belongs to the first line, or to the rest where there is none
abbrev pub in_line : ℕ → List (List ℕ) → List ℕ → Lines
in_line b [] rest = record { whole = []; rest = b ∷ rest }
in_line b (l ∷ ls) rest = record { whole = (b ∷ l) ∷ ls; rest = rest }

-- a line feed ends a line
abbrev pub lines_of : List ℕ → Lines
lines_of [] = record { whole = []; rest = [] }
lines_of (b ∷ bs) =
    cond (b == 10)
    (record { whole = [] ∷ (lines_of bs).whole; rest = (lines_of bs).rest })
    (in_line b (lines_of bs).whole (lines_of bs).rest)

-- what stands behind the last line feed, if anything, is a line that is not of the form
abbrev pub unended : List ℕ → List (Option Says)
unended [] = []
unended (b ∷ bs) = None ∷ []

-- what the lines of a text say, none for a line that is not of the form
abbrev pub said : List ℕ → List (Option Says)
said text = map says_of (lines_of text).whole ++ unended (lines_of text).rest
