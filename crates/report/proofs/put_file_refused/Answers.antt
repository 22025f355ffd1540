-- `put_file_refused` meets its contract: the parts of the line are put one behind the other.
use mathlib.Core.Path.{ap}
use Rattle.report_text.specs.Text.{refused_text}
use Rattle.report_text.proofs.PutLaws.{put_then, put_as}
use Rattle.report.proofs.put_file_refused.Goals as goal

pub returns : goal.returns
returns c =
    put_then c.put_text-word.ensures (put_then (put_as (ap refused_text c.number.ensures) c.put_refused-end.ensures) c.put_text.ensures)
