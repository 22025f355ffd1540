-- All bytes that have room are copied, and there is none past the end.
use Rattle.std.proofs.Common.{◌+◌, ◌-◌, length, sym, ap, ◌∙◌, arith}
use borrow.Rule.Slice.PartMut.{put_mid}
use Rattle.big_endian.proofs.WrittenLaws.{written_past, written_mid, written_room}
use Rattle.big_endian.proofs.put_bytes.Goals as goal

pub returns-then-bytes-room : goal.returns-then-bytes-room
returns-then-bytes-room c =
    let buffer = c.args.buffer.now in
    let at = c.args.at in
    let size = at + length c.args.bytes.now - at in
    ap (put_mid at size buffer) c.copy_from_slice.ensures.after ∙ sym (written_mid buffer at size c.args.bytes.now (omega arith) (omega arith))

pub returns-else-bytes-room : goal.returns-else-bytes-room
returns-else-bytes-room c =
    let buffer = c.args.buffer.now in
    let at = c.args.at in
    let room = length buffer - at in
    ap (put_mid at room buffer) c.copy_from_slice-else-bytes-room.ensures.after ∙ sym (written_room buffer at room c.args.bytes.now (omega arith) (omega arith))

pub returns-else-at-buffer : goal.returns-else-at-buffer
returns-else-at-buffer c = sym (written_past c.args.buffer.now c.args.at c.args.bytes.now (omega arith))
