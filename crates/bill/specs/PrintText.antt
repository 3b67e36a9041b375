-- The text of a printed bill. Assumes nothing.
use Rattle.std.specs.Prelude.{ℕ, List, [], ◌∷◌, ◌++◌, codes, decimal}
use Rattle.std.specs.Fmt.{signed_decimal}
use Rattle.std.specs.List.{concat}
use Rattle.bill.specs.declared.items.Items.{Items}

-- a line is its key, an equals sign, the value and a line feed
unfoldable pub line : List ℕ → List ℕ → List ℕ
line key value = key ++ (61 ∷ (value ++ (10 ∷ [])))

-- the meter's code and the serial
abbrev pub head_lines : ℕ → List ℕ → List (List ℕ)
head_lines serial code =
    line (codes "code") code
    ∷ line (codes "serial") (decimal serial)
    ∷ []

-- the energies from the dearest rank to the cheapest, their charge and the basic charge
abbrev pub energy_lines : Items → List (List ℕ)
energy_lines i =
    line (codes "q1") (decimal i.energies.peak)
    ∷ line (codes "q2") (decimal i.energies.semi_peak)
    ∷ line (codes "q3") (decimal i.energies.saturday)
    ∷ line (codes "q4") (decimal i.energies.off_peak)
    ∷ line (codes "energy") (decimal i.energy)
    ∷ line (codes "basic") (decimal i.basic)
    ∷ []

-- the excess lines from the dearest rank to the cheapest, and their charge
abbrev pub excess_lines : Items → List (List ℕ)
excess_lines i =
    line (codes "x1") (decimal i.excess_lines.peak)
    ∷ line (codes "x2") (decimal i.excess_lines.semi_peak)
    ∷ line (codes "x3") (decimal i.excess_lines.saturday)
    ∷ line (codes "x4") (decimal i.excess_lines.off_peak)
    ∷ line (codes "excess") (decimal i.excess)
    ∷ []

-- the credit, the extra charge and what is due
abbrev pub closing_lines : Items → List (List ℕ)
closing_lines i =
    line (codes "credit") (decimal i.credit)
    ∷ line (codes "extra") (decimal i.extra)
    ∷ line (codes "due") (signed_decimal i.due)
    ∷ []

-- a bill, from its serial, the bytes of the meter's code and its items: its lines, one behind the other
abbrev pub rendered : ℕ → List ℕ → Items → List ℕ
rendered serial code i = concat (head_lines serial code ++ (energy_lines i ++ (excess_lines i ++ closing_lines i)))
