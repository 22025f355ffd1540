-- `rows_are_right` meets its contract: the loop has compared the rows of the listed points among the first n.
use Rattle.std.specs.Prelude.{◌≡◌}
use Rattle.map_replay.specs.Answers.{rows_are_right}
use Rattle.map_replay.proofs.answers.rows_are_right.Given as goal

abbrev pub invariant-loop-n : goal.invariant-loop-n
invariant-loop-n l = l.right ≡ rows_are_right l.n l.listed l.knots l.bytes
