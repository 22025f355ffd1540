-- `floats_are_right` meets its contract: the loop has compared the first n floats.
use Rattle.std.specs.Prelude.{◌≡◌}
use Rattle.map_replay.specs.Answers.{first_are_right}
use Rattle.map_replay.proofs.answers.floats_are_right.Given as goal

abbrev pub invariant-loop-n : goal.invariant-loop-n
invariant-loop-n l = l.right ≡ first_are_right l.n l.floats l.bytes
