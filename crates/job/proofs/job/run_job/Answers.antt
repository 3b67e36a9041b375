use Rattle.std.proofs.Common.{◌≡◌, ℕ, ◌+◌, ◌-◌, ◌≤◌, List, [], ◌++◌, length, take, drop, Ok, Err, Result, IfOk, sym, ap, ◌∙◌, arith, rules}
use Rattle.std.proofs.lemmas.List.{take-append-drop, length-take-le, length-append, length-drop}
use Rattle.books.specs.BookModels.{book_entries}
use Rattle.books.specs.declared.book.Book.{Book}
use Rattle.books.specs.declared.off_peak.OffPeakDay.{OffPeakDay}
use Rattle.calendar.specs.declared.month.Month.{Month}
use Rattle.readings.specs.CodeBytes.{code_bytes}
use Rattle.readings.specs.declared.code.MeterCode.{MeterCode}
use Rattle.readings.specs.declared.sheet.Sheet.{Sheet}
use Rattle.readings.specs.Sheets.{opened}
use Rattle.readings.specs.SheetModels.{sheet_model, sheet_storage, sheet_held}
use Rattle.job.specs.declared.reader.Reader.{Reader}
use Rattle.job.specs.declared.stop.Stop.{Stop}
use Rattle.job.specs.JobModels.{job_model, book_room, ends_over}
use Rattle.job.specs.Jobs.{opening, book_places, Ending, job_from, job_ending, print_of, printed_bytes, buffer_after, storage_after}
use Rattle.job.specs.Openings.{Opens}
use Rattle.job.specs.Reading.{told}
use Rattle.job.proofs.job.run_job.Goals as goal

-- how a job ends once its sheet and book are open: as its lines from the seventh on do
begun : (text : List ℕ) (code : MeterCode) (month : Month) (r : Reader) (s : Sheet) (b : Book OffPeakDay) (room : ℕ) → Opens text code month r → sheet_model s ≡ opened (code_bytes code) month.year month.month room → book_entries b ≡ [] → book_room b ≡ book_places → job_ending text room ≡ ends_over room s b r
begun text code month r s b room opens same empty all =
    opens.0 room
    ∙ (ap (λ m. job_from room book_places 7 (opening m) (told r)) (sym same)
    ∙ (ap (λ l. job_from room book_places 7 (record { sheet = sheet_model s; off_peak = l }) (told r)) (sym empty)
    ∙ (ap (λ (n : ℕ). job_from room n 7 (job_model s b) (told r)) (sym all)
    ∙ ap (λ (n : ℕ). job_from room (book_room b) n (job_model s b) (told r)) (sym opens.1))))

-- the storage of a sheet that kept what stood behind its readings
filled : (s : Sheet) (held : List ℕ) → drop (sheet_held s) (sheet_storage s) ≡ drop (sheet_held s) held → sheet_storage s ≡ (sheet_model s).readings ++ drop (length (sheet_model s).readings) held
filled s held e =
    let low : sheet_held s ≤ length (sheet_storage s) = omega arith in
    let long = length-take-le (sheet_held s) (sheet_storage s) low in
    sym (take-append-drop (sheet_held s) (sheet_storage s))
    ∙ ap (λ l. take (sheet_held s) (sheet_storage s) ++ l) (e ∙ ap (λ n. drop n held) (sym long))

-- by way of another list
by_way : {X : List ℕ} (xs : List ℕ) {ys : List ℕ} → X ≡ xs → xs ≡ ys → X ≡ ys
by_way xs e f = e ∙ f

-- a print that left the buffer as long as it was keeps within it
kept_within : (r : Result ℕ Stop) (p : Result (List ℕ) Stop) (held after : List ℕ) → r ≡ printed_bytes p → after ≡ buffer_after p held → length after ≡ length held → IfOk r (λ n. n ≤ length held)
kept_within (Ok n) (Ok print) held after e written kept =
    let same : n ≡ length print = cc in
    let long : length after ≡ length print + (length held - length print) = ap length written ∙ simp (length-append, length-drop) in
    omega arith
kept_within (Ok n) (Err stop) held after e written kept = let z : ◌≡◌ {A = ℕ} 0 1 = cc in omega arith
kept_within (Err stop) p held after e written kept = tt

pub returns-in_err-body-clause-stored : goal.returns-in_err-body-clause-stored
returns-in_err-body-clause-stored c =
    let room = length c.args.storage.now in
    let held = c.args.storage.now in
    let E = job_ending c.args.text.now room in
    let end = c.body.new.sheet in
    let whole : book_room c.open-off_peak.result ≡ book_places = let places = ap length c.open-off_peak.ensures.untouched in search rules in
    let e = begun c.args.text.now c.in_ok-code.code c.in_ok-code.month c.in_ok-code.seventh c.open-sheet.result c.open-off_peak.result room c.in_ok-code.ensures c.open-sheet.ensures.model c.open-off_peak.ensures.entries whole in
    let left : E.state.sheet.readings ≡ (sheet_model end).readings = ap (λ (x : Ending). x.state.sheet.readings) e ∙ (c.in_err-body.ensures.ends room).1 in
    by_way (sheet_storage end) (let loan = c.in_err-body.ensures.keeps.storage.same_loan in search rules)
    (filled end held (c.in_err-body.ensures.keeps.storage.behind ∙ ap (drop (sheet_held end)) c.open-sheet.ensures.untouched)
    ∙ ap (λ l. l ++ drop (length l) held) (sym left))

pub returns : goal.returns
returns c =
    let room = length c.args.storage.now in
    let held = c.args.storage.now in
    let print_room = length c.args.buffer.now in
    let end = c.body.new.sheet in
    let whole : book_room c.open-off_peak.result ≡ book_places = let places = ap length c.open-off_peak.ensures.untouched in search rules in
    let done = begun c.args.text.now c.in_ok-code.code c.in_ok-code.month c.in_ok-code.seventh c.open-sheet.result c.open-off_peak.result room c.in_ok-code.ensures c.open-sheet.ensures.model c.open-off_peak.ensures.entries whole ∙ c.in_ok-body.ensures.ends room in
    let answer = c.print_sheet.ensures.answer ∙ ap (λ x. printed_bytes (print_of print_room x)) (sym done) in
    let written = c.print_sheet.ensures.written ∙ ap (λ x. buffer_after (print_of print_room x) c.args.buffer.now) (sym done) in
    record {
      answer = answer;
      written = written;
      stored =
          by_way (sheet_storage end) (let loan = c.in_ok-body.ensures.keeps.storage.same_loan in search rules)
          (filled end held (c.in_ok-body.ensures.keeps.storage.behind ∙ ap (drop (sheet_held end)) c.open-sheet.ensures.untouched)
          ∙ ap (λ x. storage_after x held) (sym done));
      within = kept_within c.print_sheet.result _ c.args.buffer.now c.print_sheet.new.buffer answer written c.print_sheet.auto.buffer;
    }
