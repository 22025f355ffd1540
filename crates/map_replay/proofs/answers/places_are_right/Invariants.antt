-- `places_are_right` meets its contract: the loop has compared the first n places.
use Rattle.std.specs.Prelude.{◌≡◌}
use Rattle.map_replay.specs.Answers.{places_are_right}
use Rattle.map_replay.proofs.answers.places_are_right.Given as goal

abbrev pub invariant-loop-n : goal.invariant-loop-n
invariant-loop-n l = l.right ≡ places_are_right l.n l.places l.bytes
