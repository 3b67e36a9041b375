use Rattle.std.proofs.Common.{◌≡◌, ◌≤◌, ltb, length, take, sym, ap, ◌∙◌, arith, rules}
use Rattle.std.proofs.lemmas.List.Sums.{prefix_len-le-length}
use Rattle.books.specs.BookModels.{book_entries, book_held, book_storage}
use Rattle.books.specs.Books.{place_of}
use Rattle.books.proofs.Rising.{granted_parts, booked}
use Rattle.books.proofs.book.Book.add.Goals as goal

pub insert_at-requires : goal.insert_at-requires
insert_at-requires g c =
    let key = g.E.Entry.keyed in
    let granted = sym c.judge.ensures ∙ c.in_ok-judge.was in
    let room = (granted_parts key (book_entries c.args.self.now) (length (book_storage c.args.self.now)) c.args.entry granted).1 in
    let most = prefix_len-le-length (λ x. ltb (key x) c.key.result) c.entries.result.now in
    let first = ap length c.entries-end.ensures.value in
    let second = ap length c.entries.ensures.value in
    record { within = omega (arith, most, first, second, c.place_among-at.ensures); room = omega (arith, first, room) }

pub returns : goal.returns
returns g c =
    let key = g.E.Entry.keyed in
    let n = book_held c.args.self.now in
    let xs = book_storage c.args.self.now in
    let low : n ≤ length xs = omega arith in
    let granted = sym c.judge.ensures ∙ c.in_ok-judge.was in
    let at : c.place_among-at.result ≡ place_of key (key c.args.entry) (take n xs) =
    c.place_among-at.ensures ∙ ap (λ k. place_of key k c.entries.result.now) c.key.ensures ∙ ap (place_of key (key c.args.entry)) c.entries.ensures.value in
    let all = booked key xs c.insert_at.new.places n (length c.entries-end.result.now) c.place_among-at.result c.args.entry low granted (ap length c.entries-end.ensures.value) at c.insert_at.ensures in
    record {
      answer = sym granted;
      after = all.entries;
      rising = all.rises;
      storage = record { behind = all.rest; room = all.long; same_loan = search rules };
      refused = search rules;
    }
