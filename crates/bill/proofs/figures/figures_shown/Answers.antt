use Rattle.std.proofs.Common.{refl}
use Rattle.programmes.specs.Averages.{latest}
use Rattle.programmes.specs.Sums.{sum_below}
use Rattle.bill.proofs.figures.figures_shown.Goals as goal

-- the checker computes them
pub returns : goal.returns
unfolding latest sum_below
returns c = record { count = refl; hold = refl }
