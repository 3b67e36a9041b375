use Rattle.std.proofs.Common.{[], ◌∷◌, sym, refl, ap, ◌∙◌, subst, arith}
use Rattle.std.proofs.lemmas.Bool.{eqb-false}
use Rattle.job.specs.JobLines.{said}
use Rattle.job.specs.Reading.{StopsAt}
use Rattle.job.specs.Texts.{Parts}
use Rattle.job.proofs.LinesCut.{cut_shorter, said_cut, said_uncut}
use Rattle.job.proofs.JobSteps.{malformed_stops}
use Rattle.job.proofs.reader.Reader.next.Goals as goal

pub returns-in_default : goal.returns-in_default
returns-in_default c =
    subst (StopsAt c.args.self) (sym c.refused-malformed.ensures)
    (malformed_stops c.args.self.number (said c.args.self.text.now) []
    (said_uncut c.args.self.text.now (sym c.in_default.ensures) (eqb-false _ _ (sym c.if-is_empty.ensures))))

pub returns-in_default-read : goal.returns-in_default-read
returns-in_default-read c =
    let p : Parts = (c.in-Some.bytes.now, c.in-Some.text.now) in
    subst (StopsAt c.args.self) (sym c.refused-malformed.ensures)
    (malformed_stops c.args.self.number (said c.args.self.text.now) (said p.1)
    (said_cut c.args.self.text.now p (sym c.in-Some.ensures) ∙ ap (λ h. h ∷ said p.1) (sym c.in_default-read.ensures)))

pub invariant_of-result : goal.invariant_of-result
invariant_of-result c =
    let few = c.args.self.few in
    let shorter = cut_shorter c.args.self.text.now (c.in-Some.bytes.now, c.in-Some.text.now) (sym c.in-Some.ensures) in
    record { few = omega (arith, few, shorter) }

pub returns : goal.returns
returns c =
    let p : Parts = (c.in-Some.bytes.now, c.in-Some.text.now) in
    let e = sym c.in-Some.ensures in (
      said_cut c.args.self.text.now p e ∙ ap (λ h. h ∷ said p.1) (sym c.in-Some-read.ensures),
      refl,
      cut_shorter c.args.self.text.now p e,
    )
