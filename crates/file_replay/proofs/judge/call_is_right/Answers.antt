-- `call_is_right` meets its contract: the page after the call is the page with what the call leaves in the buffer's place.
use Prim.Native.Nat.{ℕ, ◌+◌}
use mathlib.Core.Path.{ap₂, ◌∙◌}
use Rattle.big_endian.specs.BigEndian.{number_at}
use Rattle.gatemap_host.specs.SetPoint.{host_number, host_buffer}
use Rattle.file_replay.specs.Judged.{t_at, room_at, answer_at, call_bytes}
use Rattle.stored_page.specs.Call.{stored_answer}
use Rattle.stored_page.proofs.CallLaws.{call_short, call_no_room, call_answered}
use Rattle.stored_page.specs.Page.{guard, buffer_of}
use Rattle.file_replay.proofs.judge.call_is_right.Goals as goal

pub returns-then-call-lt-CALL_BYTES : goal.returns-then-call-lt-CALL_BYTES
returns-then-call-lt-CALL_BYTES c = call_short _ _ _ _ _ c.if-call-lt-CALL_BYTES.true

pub returns-then-page-end : goal.returns-then-page-end
returns-then-page-end c = call_no_room _ _ _ _ _ c.if-call-lt-CALL_BYTES.false (rw (c.wide-end.ensures, c.byte_at.ensures) at c.if-page-end.true)

pub returns : goal.returns
returns c =
    let t = c.number_at-t.ensures in
    let s = c.number_at-s.ensures in
    let a = c.args in
    let lent = buffer_of a.page.now (guard + c.wide-end.result) in
    c.answer_is_right.ensures
    ∙ call_answered call_bytes room_at a.call.now a.page.now (stored_answer a.call.now answer_at call_bytes)
    (host_number a.file.now (number_at 8 a.call.now 0) (number_at 8 a.call.now t_at))
    (host_buffer a.file.now (number_at 8 a.call.now 0) (number_at 8 a.call.now t_at))
    _ _ _
    c.if-call-lt-CALL_BYTES.false
    c.if-page-end.false
    (c.wide-end.ensures ∙ c.byte_at.ensures)
    (c.gatemap_set_point-number.ensures.number ∙ ap₂ (λ (x y : ℕ). host_number a.file.now x y lent) s t)
    (c.gatemap_set_point-number.ensures.buffer ∙ ap₂ (λ (x y : ℕ). host_buffer a.file.now x y lent) s t)
