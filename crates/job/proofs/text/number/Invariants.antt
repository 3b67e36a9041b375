use Rattle.std.proofs.Common.{◌≡◌, ◌^◌, ◌<◌, drop}
use Rattle.job.specs.Texts.{number_after}
use Rattle.job.proofs.text.number.Given as goal

-- what is left decides, and as many digits as were read have been counted
abbrev pub invariant-loop-b : goal.invariant-loop-b
invariant-loop-b l = (number_after l.n (drop l.b-index l.digits) ≡ number_after 0 l.digits) × (l.n < 10 ^ l.b-index)
