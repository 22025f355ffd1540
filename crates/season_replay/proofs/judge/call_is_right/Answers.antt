-- `call_is_right` meets its contract: the page after the call is the page with what the call leaves in the buffer's place.
use Prim.Native.Nat.{ℕ, ◌+◌}
use mathlib.Core.Path.{ap, ◌∙◌}
use Rattle.big_endian.specs.BigEndian.{number_at}
use Rattle.gatemap_host.specs.SeasonCall.{host_season_number, host_season_buffer}
use Rattle.season_replay.specs.Judged.{room_at, answer_at, call_bytes}
use Rattle.stored_page.specs.Call.{stored_answer}
use Rattle.stored_page.proofs.CallLaws.{call_short, call_no_room, call_answered}
use Rattle.stored_page.specs.Page.{guard, buffer_of}
use Rattle.season_replay.proofs.judge.call_is_right.Goals as goal

pub returns-then-call-lt-CALL_BYTES : goal.returns-then-call-lt-CALL_BYTES
returns-then-call-lt-CALL_BYTES c = call_short _ _ _ _ _ c.if-call-lt-CALL_BYTES.true

pub returns-then-page-end : goal.returns-then-page-end
returns-then-page-end c = call_no_room _ _ _ _ _ c.if-call-lt-CALL_BYTES.false (rw (c.wide-end.ensures, c.byte_at.ensures) at c.if-page-end.true)

pub returns : goal.returns
returns c =
    let minute = c.length_at-minute.ensures.value in
    let a = c.args in
    let lent = buffer_of a.page.now (guard + c.wide-end.result) in
    c.answer_is_right.ensures
    ∙ call_answered call_bytes room_at a.call.now a.page.now (stored_answer a.call.now answer_at call_bytes)
    (host_season_number a.season.now (number_at 4 a.call.now 0))
    (host_season_buffer a.season.now (number_at 4 a.call.now 0))
    _ _ _
    c.if-call-lt-CALL_BYTES.false
    c.if-page-end.false
    (c.wide-end.ensures ∙ c.byte_at.ensures)
    (c.gatemap_season-number.ensures.number ∙ ap (λ (m : ℕ). host_season_number a.season.now m lent) minute)
    (c.gatemap_season-number.ensures.buffer ∙ ap (λ (m : ℕ). host_season_buffer a.season.now m lent) minute)
