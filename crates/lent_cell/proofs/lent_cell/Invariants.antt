-- `lent_cell` meets its contract: at each turn the rows of the points below n are filled and the words by them are those of the points below n, in the map that the arrays hold with any
-- positions.
use mathlib.Core.List.{List}
use lib.Ieee.{Float}
use Rattle.lent_cell.proofs.Turn.{unplaced, LentTurn}
use Rattle.lent_cell.proofs.lent_cell.Given as goal

abbrev pub invariant-loop-n : goal.invariant-loop-n
invariant-loop-n l = (positions : List (List Float)) → LentTurn l.closeness (unplaced l.points l.made l.listed) l.cell positions l.n l.first l.second
