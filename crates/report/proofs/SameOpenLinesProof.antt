-- `SameOpenLines` holds: the lines are made of the lists, which are equal.
use Rattle.std.proofs.Common.{ap}
use Rattle.t_mesh.specs.Tmesh.{store_of}
use Rattle.openings.proofs.OpeningsProof.{same_openings}
use Rattle.report_lines.specs.Lines.{open_lines}
use Rattle.report.specs.Theorems.{SameOpenLines}

pub same_open_lines : SameOpenLines
same_open_lines map other made sides = ap open_lines (same_openings (store_of map) (store_of other) made sides)
