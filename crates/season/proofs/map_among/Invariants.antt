-- `map_among` meets its contract: what is left answers as all do, until one holds or none is left.
use mathlib.Core.Path.{◌≡◌}
use Rattle.season.specs.Season.{map_among}
use Rattle.season.proofs.map_among.Given as goal

abbrev pub invariant-loop-n : goal.invariant-loop-n
invariant-loop-n l = map_among l.season l.minute l.n ≡ map_among l.season l.minute l.count
