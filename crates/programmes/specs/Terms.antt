-- What granted terms hold. Assumes nothing.
use Rattle.std.specs.Prelude.{◌≡◌, ℕ}
use Rattle.programmes.specs.declared.terms.BidTerms.{BidTerms}

-- terms of this contract reduction at this price
pub record AreTerms (t : BidTerms) (reduction price : ℕ) : Type 0 where
  pub same_reduction : t.reduction ≡ reduction
  pub same_price : t.price ≡ price
