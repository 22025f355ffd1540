-- `entries_are_right` meets its contract: the loop has compared the first i entries.
use Rattle.std.specs.Prelude.{◌≡◌}
use Rattle.map_replay.specs.Answers.{entries_are_right}
use Rattle.map_replay.proofs.answers.entries_are_right.Given as goal

abbrev pub invariant-loop-i : goal.invariant-loop-i
invariant-loop-i l = l.right ≡ entries_are_right l.i l.openings l.bytes
