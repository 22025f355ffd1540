-- `cell_call_is_right` meets its contract: the page after the call is the page with what the call leaves in the buffer's place.
use Prim.Native.Nat.{ℕ, ◌+◌}
use mathlib.Core.Path.{ap, ◌∙◌}
use Rattle.big_endian.specs.BigEndian.{byte_at}
use Rattle.gatemap_host.specs.CellCall.{host_cell_number, host_cell_buffer}
use Rattle.file_replay.specs.Judged.{cell_room_at, cell_answer_at, cell_call_bytes}
use Rattle.stored_page.specs.Call.{stored_answer}
use Rattle.stored_page.proofs.CallLaws.{call_short, call_no_room, call_answered}
use Rattle.stored_page.specs.Page.{guard, buffer_of}
use Rattle.file_replay.proofs.judge.cell_call_is_right.Goals as goal

pub returns-then-call-lt-CELL_CALL_BYTES : goal.returns-then-call-lt-CELL_CALL_BYTES
returns-then-call-lt-CELL_CALL_BYTES c = call_short _ _ _ _ _ c.if-call-lt-CELL_CALL_BYTES.true

pub returns-then-page-end : goal.returns-then-page-end
returns-then-page-end c = call_no_room _ _ _ _ _ c.if-call-lt-CELL_CALL_BYTES.false (rw (c.wide-end.ensures, c.byte_at.ensures) at c.if-page-end.true)

pub returns : goal.returns
returns c =
    let cell = c.byte_at-2.ensures in
    let a = c.args in
    let lent = buffer_of a.page.now (guard + c.wide-end.result) in
    c.answer_is_right.ensures
    ∙ call_answered cell_call_bytes cell_room_at a.call.now a.page.now (stored_answer a.call.now cell_answer_at cell_call_bytes)
    (host_cell_number a.file.now (byte_at a.call.now 0))
    (host_cell_buffer a.file.now (byte_at a.call.now 0))
    _ _ _
    c.if-call-lt-CELL_CALL_BYTES.false
    c.if-page-end.false
    (c.wide-end.ensures ∙ c.byte_at.ensures)
    (c.gatemap_cell-number.ensures.number ∙ ap (λ (n : ℕ). host_cell_number a.file.now n lent) cell)
    (c.gatemap_cell-number.ensures.buffer ∙ ap (λ (n : ℕ). host_cell_buffer a.file.now n lent) cell)
