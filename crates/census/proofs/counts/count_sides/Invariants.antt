-- `count_sides` meets its contract: the sums count the sides of the points passed.
use mathlib.Core.Path.{◌≡◌}
use Rattle.census.proofs.CensusLaws.{links_below, borders_below}
use Rattle.census.proofs.counts.count_sides.Given as goal

abbrev pub invariant-loop-n : goal.invariant-loop-n
invariant-loop-n l = (l.links ≡ links_below l.store l.n) × (l.borders ≡ borders_below l.store l.n)
