-- `put_open_line` meets its contract: the parts of the line are put one behind the other.
use Rattle.report_text.proofs.PutLaws.{put_then}
use Rattle.report_lines.proofs.lines.put_open_line.Goals as goal

pub returns : goal.returns
returns c =
    let line = put_then c.put_labelled-point.ensures (put_then c.put_number-end.ensures c.put_text.ensures) in
    rw (c.from.ensures, c.from-2.ensures) at line
