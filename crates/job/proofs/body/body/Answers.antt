use Rattle.std.proofs.Common.{◌≡◌, ℕ, ◌+◌, ◌-◌, ◌≤◌, List, length, drop, sym, ap, ◌∙◌, subst, arith}
use Rattle.std.proofs.lemmas.List.{drop-drop}
use Rattle.std.proofs.lemmas.Bool.{eqb-true}
use Rattle.books.specs.declared.book.Book.{Book}
use Rattle.books.specs.declared.off_peak.OffPeakDay.{OffPeakDay}
use Rattle.readings.specs.declared.sheet.Sheet.{Sheet}
use Rattle.readings.specs.SheetModels.{sheet_storage, sheet_held}
use Rattle.job.specs.declared.reader.Reader.{Reader}
use Rattle.job.specs.JobModels.{Keeps, LeadsTo, book_room, job_model}
use Rattle.job.specs.Jobs.{job_from}
use Rattle.job.specs.Reading.{told}
use Rattle.job.proofs.LinesCut.{said_nothing}
use Rattle.job.proofs.JobSteps.{ends}
use Rattle.job.proofs.body.body.Goals as goal

-- what is kept from one place on is kept from a later one on
kept_on : (xs ys : List ℕ) (h k : ℕ) → h ≤ k → drop h ys ≡ drop h xs → drop k ys ≡ drop k xs
kept_on xs ys h k le e =
    let at : h + (k - h) ≡ k = omega arith in
    ap (λ n. drop n ys) (sym at) ∙ (sym (drop-drop (k - h) h ys) ∙ (ap (drop (k - h)) e ∙ (drop-drop (k - h) h xs ∙ ap (λ n. drop n xs) at)))

-- what two steps keep, one behind the other
keeps_on : (s t u : Sheet) (b d f : Book OffPeakDay) → Keeps s b t d → Keeps t d u f → Keeps s b u f
keeps_on s t u b d f p q =
    record {
      storage =
          record {
            behind =
                q.storage.behind
                ∙ kept_on (sheet_storage s) (sheet_storage t) (sheet_held t) (sheet_held u) q.grows p.storage.behind;
            room = q.storage.room ∙ p.storage.room;
            same_loan = q.storage.same_loan ∙ p.storage.same_loan;
          };
      grows = omega (arith, p.grows, q.grows);
      places = q.places ∙ p.places;
    }

-- the same over as many places as at the start
onward : (start : Book OffPeakDay) (s : Sheet) (b : Book OffPeakDay) (t : Sheet) (d : Book OffPeakDay) (r rest : Reader) → book_room b ≡ book_room start → LeadsTo s b r t d rest → (room : ℕ) → job_from room (book_room start) rest.number (job_model t d) (told rest) ≡ job_from room (book_room start) r.number (job_model s b) (told r)
onward start s b t d r rest e leads room =
    subst (λ (n : ℕ). job_from room (book_room start) n (job_model t d) (told rest) ≡ job_from room (book_room start) r.number (job_model s b) (told r)) (sym leads.1)
    (subst (λ (n : ℕ). job_from room n (r.number + 1) (job_model t d) (told rest) ≡ job_from room n r.number (job_model s b) (told r)) e (sym (leads.0 room)))

pub loop-rest-preserved : goal.loop-rest-preserved
loop-rest-preserved c =
    let does = c.in_ok-rest.ensures in
    let kept = c.loop-rest.invariant.keeps in
    record {
      decides =
          λ room. onward c.args.off_peak.now c.loop-rest.sheet c.loop-rest.off_peak c.body_line.new.sheet c.body_line.new.off_peak c.loop-rest.rest c.in_ok-rest.rest kept.places does.goes room
          ∙ c.loop-rest.invariant.decides room;
      later = let next = does.goes.1 in omega arith;
      keeps = keeps_on _ _ _ _ _ _ kept does.keeps;
    }

pub returns-in_err-rest-clause-keeps : goal.returns-in_err-rest-clause-keeps
returns-in_err-rest-clause-keeps c = keeps_on _ _ _ _ _ _ c.loop-rest.invariant.keeps c.in_err-rest.ensures.keeps

pub returns-clause-ends : goal.returns-clause-ends
returns-clause-ends c =
    let r = c.loop-rest.rest in
    let none : length r.text.now ≡ 0 = eqb-true _ _ (sym c.loop-rest-test.ensures) in
    λ room. sym (c.loop-rest.invariant.decides room)
    ∙ ends r.number (told r) (said_nothing r.text.now none) c.loop-rest.invariant.later room (book_room c.args.off_peak.now) (job_model c.loop-rest.sheet c.loop-rest.off_peak)
