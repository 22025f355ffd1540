-- `listing_is_right` meets its contract: the loop has compared the first n flags.
use Rattle.std.specs.Prelude.{◌≡◌}
use Rattle.map_replay.specs.Answers.{listing_is_right}
use Rattle.map_replay.proofs.answers.listing_is_right.Given as goal

abbrev pub invariant-loop-n : goal.invariant-loop-n
invariant-loop-n l = l.right ≡ listing_is_right l.n l.listed l.bytes
