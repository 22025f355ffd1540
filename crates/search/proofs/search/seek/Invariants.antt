-- `seek` meets its contract: what is left of the search at each turn of the loop gives the whole.
use Prim.Native.Nat.{◌-◌}
use mathlib.Core.Path.{◌≡◌}
use lib.Ieee.{binary64, of_bits}
use Rattle.control_point.specs.Sides.{lent_sides}
use Rattle.search.specs.Search.{seek_from}
use Rattle.search.proofs.search.seek.Given as goal

abbrev pub invariant-loop-moves : goal.invariant-loop-moves
invariant-loop-moves l =
    let sides = lent_sides l.sides in
    seek_from l.made l.closeness sides l.made l.p l.f l.start l.measure (of_bits binary64 0) l.interval ≡ seek_from (l.made - l.moves) l.closeness sides l.made l.p l.f l.at l.measure l.sum l.interval
