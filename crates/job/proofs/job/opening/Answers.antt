use Rattle.std.proofs.Common.{◌≡◌, ℕ, ◌≤◌, List, [], length, None, Ok, Err, Result, sym, refl, ap, ◌∙◌, arith, rules}
use Rattle.calendar.specs.declared.month.Month.{Month}
use Rattle.calendar.specs.declared.refusal.Refusal.{Refusal}
use Rattle.calendar.specs.Gregorian.{month_refusal}
use Rattle.calendar.specs.Judging.{Judged}
use Rattle.readings.specs.CodeBytes.{code_bytes}
use Rattle.readings.specs.declared.code.MeterCode.{MeterCode}
use Rattle.readings.specs.Codes.{code_refusal}
use Rattle.readings.specs.Sheets.{opened}
use Rattle.job.specs.declared.reader.Reader.{Reader}
use Rattle.job.specs.declared.stop.Stop.{Stop}
use Rattle.job.specs.JobLines.{said}
use Rattle.job.specs.Jobs.{JobState, opening, book_places, Ending, job_from, job_ending}
use Rattle.job.specs.Openings.{StopsEarly}
use Rattle.job.specs.Reading.{told, Reads, StopsAt}
use Rattle.job.specs.Statements.{code}
use Rattle.job.specs.Stopping.{naming}
use Rattle.job.proofs.JobRuns.{after_code, after_month}
use Rattle.job.proofs.job.opening.Goals as goal

-- a reader at line n that stops a job which holds no reading yet
stops_early : (xs : List ℕ) (r : Reader) (e : Stop) (n : ℕ) (s : ℕ → JobState) → ((room : ℕ) → job_ending xs room ≡ job_from room book_places n (s room) (told r)) → r.number ≡ n → ((room : ℕ) → (s room).sheet.readings ≡ []) → StopsAt r e → StopsEarly xs e
stops_early xs r e n s goes here none stops room =
    let h = stops room book_places (s room) in
    let at = goes room ∙ ap (λ (k : ℕ). job_from room book_places k (s room) (told r)) (sym here) in
    (ap (λ (x : Ending). x.why) at ∙ h.0, ap (λ (x : Ending). x.state.sheet.readings) at ∙ (h.1 ∙ none room))

-- a code and a month that were granted
a_code : (n : ℕ) (bytes : List ℕ) (c : MeterCode) (r : Result MeterCode Refusal) → Ok c ≡ naming n r → Judged r (code_refusal bytes) (λ m. code_bytes m ≡ bytes) → code_refusal bytes ≡ None
a_code n bytes c (Ok m) e j = j.0
a_code n bytes c (Err x) e j = let z : ◌≡◌ {A = ℕ} 0 1 = cc in absurd (let no : ⊥ = omega arith in no)

a_month : (n year number : ℕ) (m : Month) (r : Result Month Refusal) → Ok m ≡ naming n r → Judged r (month_refusal year number) (λ x. (x.year ≡ year) × (x.month ≡ number)) → month_refusal year number ≡ None
a_month n year number m (Ok x) e j = j.0
a_month n year number m (Err x) e j = let z : ◌≡◌ {A = ℕ} 0 1 = cc in absurd (let no : ⊥ = omega arith in no)

-- a job text whose code line is read and granted
code_read : (xs bytes : List ℕ) (first second : Reader) (room : ℕ) → first.number ≡ 1 → first.text.now ≡ xs → Reads first (code bytes) second → code_refusal bytes ≡ None → job_ending xs room ≡ job_from room book_places 2 (opening (opened bytes 0 0 room)) (told second)
code_read xs bytes first second room one same reads granted =
    let short : length xs ≤ 60000 = let few = first.few in let long = ap length same in omega arith in
    after_code room xs bytes (told second) short (ap said (sym same) ∙ reads.0) granted

pub returns-in_err-year : goal.returns-in_err-year
returns-in_err-year c =
    let first = c.in_ok-first.first in
    let bytes = c.in_ok-bytes.bytes.now in
    let second = c.in_ok-bytes.second in
    let a = a_code first.number bytes c.in_ok-code.code c.new.result c.in_ok-code.ensures c.new.ensures in
    let here : second.number ≡ 2 = let one = c.in_ok-first.ensures.0 in let two = c.in_ok-bytes.ensures.1 in omega arith in
    let early = stops_early c.args.text.now second c.in_err-year.field-0.0 2 (λ room. opening (opened bytes 0 0 room)) (λ room. code_read c.args.text.now bytes first second room c.in_ok-first.ensures.0 c.in_ok-first.ensures.1 c.in_ok-bytes.ensures a) here (λ room. refl) c.in_err-year.ensures in
    search rules

pub returns-in_err-terms : goal.returns-in_err-terms
returns-in_err-terms c =
    let first = c.in_ok-first.first in
    let bytes = c.in_ok-bytes.bytes.now in
    let second = c.in_ok-bytes.second in
    let third = c.in_ok-year.third in
    let year = c.in_ok-year.year in
    let number = c.in_ok-year.number in
    let a = a_code first.number bytes c.in_ok-code.code c.new.result c.in_ok-code.ensures c.new.ensures in
    let b = a_month second.number year number c.in_ok-month.month c.new-2.result c.in_ok-month.ensures c.new-2.ensures in
    let here : third.number ≡ 3 = let one = c.in_ok-first.ensures.0 in let two = c.in_ok-bytes.ensures.1 in let three = c.in_ok-year.ensures.1 in omega arith in
    let early = stops_early c.args.text.now third c.in_err-terms.field-0.0 3 (λ room. opening (opened bytes year number room)) (λ room. code_read c.args.text.now bytes first second room c.in_ok-first.ensures.0 c.in_ok-first.ensures.1 c.in_ok-bytes.ensures a ∙ after_month room bytes year number (told second) (told third) c.in_ok-year.ensures.0 b) here (λ room. refl) c.in_err-terms.ensures in
    search rules
