-- `put_front` meets its contract: the count and the parts of the head, written one behind the other, are the front, written at once.
use mathlib.Core.Path.{◌∙◌}
use Rattle.map_writing.proofs.PutLaws.{put_front}
use Rattle.map_writing.proofs.put_front.Goals as goal

pub returns : goal.returns
returns c =
    let a = c.args in
    c.put_position-4.ensures ∙ rw (c.put_position-3.ensures, c.put_position-2.ensures, c.put_position.ensures, c.put_float.ensures, c.put_byte.ensures, c.put_length.ensures, c.file_length.ensures) (put_front a.buffer.now a.edits a.head)
