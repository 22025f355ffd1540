-- `put_position` meets its contract: three floats written one behind the other are the position, written at once.
use mathlib.Core.Path.{◌∙◌}
use Rattle.map_writing.proofs.PutLaws.{put_position}
use Rattle.map_writing.proofs.put_position.Goals as goal

pub returns : goal.returns
returns c =
    let a = c.args in
    c.put_float-3.ensures ∙ rw (c.put_float-2.ensures, c.put_float.ensures) (put_position a.buffer.now a.at a.position)
