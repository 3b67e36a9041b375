use Rattle.books.proofs.Books.{turned_in}
use Rattle.books.proofs.book.insert_at.Goals as goal

pub returns : goal.returns
returns g c = turned_in c.args.places.now _ c.args.at c.args.end c.args.entry c.requires.within c.requires.room c.rotate_right.ensures.after
