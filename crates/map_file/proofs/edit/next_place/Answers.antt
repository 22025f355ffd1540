-- `next_place` meets its contract: where it stays, it is past the end.
use native.Mathlib.Omega.{arith}
use Rattle.map_file.proofs.RunLaws.{same_past}
use Rattle.map_file.proofs.edit.next_place.Goals as goal

pub returns-else-at-file : goal.returns-else-at-file
returns-else-at-file c = same_past c.args.file.now c.args.at (omega arith)
