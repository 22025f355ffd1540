-- `target_at` meets its contract: what stands after the first bytes stands in all bytes, that many places on.
use Rattle.map_format.proofs.FormatLaws.{target_after}
use Rattle.map_format.proofs.format.target_at.Goals as goal

pub returns : goal.returns
returns c =
    let a = c.args in
    rw (c.float_at-ratio.ensures, c.numbered-direction.ensures, c.byte_at.ensures, c.byte_at-point.ensures, c.after-place.ensures)
    (target_after a.bytes.now a.at)
