-- `index_of` meets its contract: at each turn the words of the lines are those of the points below i, and of the points below i from 64 on.
use Rattle.grid_index.proofs.IndexLaws.{LinesTo}
use Rattle.grid_index.proofs.index_of.Given as goal

abbrev pub invariant-loop-i : goal.invariant-loop-i
invariant-loop-i l =
    LinesTo l.listed l.knots 0 l.i l.columns l.rows × LinesTo l.listed l.knots 64 l.i l.later_columns l.later_rows
