-- `put_value` meets its contract: the four floats are put one behind the other.
use Rattle.report_text.proofs.PutLaws.{put_then}
use Rattle.report_lines.proofs.lines.put_value.Goals as goal

pub returns : goal.returns
returns c =
    put_then c.put_bits-x.ensures (put_then c.put_bits-y.ensures (put_then c.put_bits-z.ensures c.put_bits.ensures))
