-- What a writer into a buffer asks for and leaves. Assumes nothing.
use Rattle.std.specs.Prelude.{◌≡◌, ℕ, ◌+◌, ◌≤◌, List, ◌++◌, length, take, drop}
use Rattle.bill.specs.declared.write.Writer.{Writer}

-- the buffer xs has room for the bytes bs from a on
pub record Room (xs : List ℕ) (a : ℕ) (bs : List ℕ) : Type 0 where
  pub fits : a + length bs ≤ length xs

-- the bytes bs were written into the buffer xs from a on: the writer stopped at r, right behind them, and the buffer is now ys,
-- with what stood before a and from r on as it was
pub record Wrote (xs : List ℕ) (a : ℕ) (bs : List ℕ) (r : ℕ) (ys : List ℕ) : Type 0 where
  pub stops : r ≡ a + length bs
  pub holds : ys ≡ take a xs ++ (bs ++ drop (a + length bs) xs)

-- the same of a writer, which holds the buffer and the place where it goes on
abbrev pub HasRoom : Writer → List ℕ → Type 0
HasRoom w bs = Room w.buffer.now w.at bs

-- and the writer still holds the buffer that it was lent
pub record Writes (w : Writer) (bs : List ℕ) (v : Writer) : Type 0 where
  pub wrote : Wrote w.buffer.now w.at bs v.at v.buffer.now
  pub same_loan : v.buffer.ghost_name ≡ w.buffer.ghost_name
