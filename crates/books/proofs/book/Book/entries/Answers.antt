use Rattle.std.proofs.Common.{rules}
use Rattle.books.proofs.Rising.{members_determine}
use Rattle.books.proofs.book.Book.entries.Goals as goal

pub returns : goal.returns
returns g c = record { value = search rules; determined = members_determine g.E.Entry.keyed }
