use Rattle.std.proofs.Common.{◌≡◌, ℕ, List, length, Some, None, Err, Option, Result, sym, ap, ◌∙◌}
use Rattle.books.specs.declared.off_peak.OffPeakDay.{OffPeakDay}
use Rattle.calendar.specs.declared.refusal.Refusal.{Refusal}
use Rattle.calendar.specs.declared.refusal.Refusal.TheVariants.{DayOutOfRange}
use Rattle.books.specs.BookModels.{book_entries, book_storage}
use Rattle.books.specs.Books.{booking_answer, after_booking}
use Rattle.books.specs.OffPeak.{off_peak_key, off_peak_answer, after_off_peak}
use Rattle.books.proofs.OffPeakDays.{granted_day}
use Rattle.books.proofs.off_peak.methods.book_off_peak.Goals as goal

module _ (es : List OffPeakDay) (places day : ℕ) (d : OffPeakDay) (is : d.day ≡ day) where
  answered : booking_answer off_peak_key es places d ≡ off_peak_answer es places day
  answered =
      ap (λ (o : Option OffPeakDay). elim o as (λ _. Result (Unit {0}) Refusal) [ None ↦ Err DayOutOfRange | Some x ↦ booking_answer off_peak_key es places x ])
      (sym (granted_day day d is))

  left : after_booking off_peak_key es places d ≡ after_off_peak es places day
  left =
      ap (λ (o : Option OffPeakDay). elim o as (λ _. List OffPeakDay) [ None ↦ es | Some x ↦ after_booking off_peak_key es places x ])
      (sym (granted_day day d is))

pub returns : goal.returns
returns c =
    let es = book_entries c.args.book.now in
    let places = length (book_storage c.args.book.now) in
    let is = c.in_ok-entry.ensures.1 in
    record {
      answer = c.add.ensures.answer ∙ answered es places c.args.day c.in_ok-entry.entry is;
      after = c.add.ensures.after ∙ left es places c.args.day c.in_ok-entry.entry is;
      refused = c.add.ensures.refused;
      storage = c.add.ensures.storage;
    }
