-- `listed_below` meets its contract: the loop has counted among the first i numbers.
use Rattle.std.specs.Prelude.{◌≡◌}
use Rattle.counting.specs.Counting.{count_below}
use Rattle.t_mesh.specs.Tmesh.{listed_in}
use Rattle.map_replay.proofs.answers.listed_below.Given as goal

abbrev pub invariant-loop-i : goal.invariant-loop-i
invariant-loop-i l = l.count ≡ count_below l.i (listed_in l.listed)
