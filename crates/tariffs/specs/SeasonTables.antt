-- Tables with a row for each season. Assumes nothing.
use Rattle.calendar.specs.declared.season.Season.{Season}
use Rattle.calendar.specs.declared.season.Season.TheVariants.{Summer, OtherMonths}
use Rattle.tariffs.specs.declared.season_table.BySeason.{BySeason}

-- the row of a season
abbrev pub row : {T : Type 0} → BySeason T → Season → T
row table Summer = table.summer
row table OtherMonths = table.other_months
