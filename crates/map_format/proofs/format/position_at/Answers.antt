-- `position_at` meets its contract: a float after the first bytes is one of all bytes, that many places on.
use mathlib.Core.Path.{ap, ◌∙◌}
use native.Mathlib.Omega.{arith}
use Rattle.map_format.specs.Format.{position_at}
use Rattle.map_format.proofs.FormatLaws.{position_after}
use Rattle.map_format.proofs.format.position_at.Goals as goal

pub returns : goal.returns
returns c =
    let a = c.args in
    rw (c.float_at-z.ensures, c.float_at-y.ensures, c.float_at-x.ensures, c.after-place.ensures)
    (position_after a.bytes.now a.at 0 ∙ ap (position_at a.bytes.now) (omega arith))
