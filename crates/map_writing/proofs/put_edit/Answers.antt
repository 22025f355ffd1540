-- `put_edit` meets its contract: point, direction, ratio and position written one behind the other are the edit, written at once.
use mathlib.Core.Path.{◌∙◌}
use Rattle.map_format.specs.Format.{edit_of}
use Rattle.map_writing.proofs.PutLaws.{put_edit}
use Rattle.map_writing.proofs.put_edit.Goals as goal

pub returns : goal.returns
returns c =
    let a = c.args in
    c.put_position.ensures ∙ rw (c.put_float.ensures, c.put_byte-2.ensures, c.number.ensures, c.put_byte.ensures) (put_edit a.buffer.now a.at (edit_of a.target a.position))
