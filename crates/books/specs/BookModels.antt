-- What a book over lent storage holds. Assumes nothing.
use Rattle.std.specs.Prelude.{◌≡◌, ℕ, min, List, length, take, drop}
use Rattle.books.specs.declared.book.Book.{Book}

-- what the whole of a book's storage holds
abbrev pub book_storage : {E : Type 0} → Book E → List E
book_storage b = b.places.now

-- how many entries a book holds: its count, which never passes its places
abbrev pub book_held : {E : Type 0} → Book E → ℕ
book_held b = min b.count (length (book_storage b))

-- the entries of a book stand in front in its storage
abbrev pub book_entries : {E : Type 0} → Book E → List E
book_entries b = take (book_held b) (book_storage b)

-- the book has the storage that it had, of as many places, and what stands there behind the entries stays
pub record KeepsStorage {E : Type 0} (old new : Book E) : Type 0 where
  pub behind : drop (book_held new) (book_storage new) ≡ drop (book_held new) (book_storage old)
  pub room : length (book_storage new) ≡ length (book_storage old)
  pub same_loan : new.places.ghost_name ≡ old.places.ghost_name
