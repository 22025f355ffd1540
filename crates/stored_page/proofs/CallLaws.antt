-- A page or a call that is too short is wrong; else a call is right whose number and buffer are those due.
use Rattle.std.specs.Prelude.{ℕ, ◌+◌, ◌≤◌, ◌<◌, Bool, false, List, ◌≡◌, length}
use Rattle.std.proofs.Common.{lt-ltb, le-ltb}
use Rattle.big_endian.specs.BigEndian.{byte_at}
use Rattle.stored_page.specs.Call.{buffer_end, answer_is_right, where_whole}
use Rattle.stored_page.specs.Page.{guard, buffer_of, page_with}

pub call_short : (bytes : ℕ) (call : List ℕ) (end : ℕ) (page : List ℕ) (right : Bool) → length call < bytes → false ≡ where_whole bytes call end page right
unfolding where_whole
call_short bytes call end page right short = rw (lt-ltb (length call) bytes short)

pub call_no_room : (bytes : ℕ) (call : List ℕ) (end : ℕ) (page : List ℕ) (right : Bool) → bytes ≤ length call → length page < end
    → false ≡ where_whole bytes call end page right
unfolding where_whole
call_no_room bytes call end page right whole short = rw (le-ltb (length call) bytes whole, lt-ltb (length page) end short)

pub call_judged : (bytes : ℕ) (call : List ℕ) (end : ℕ) (page : List ℕ) (right : Bool) → bytes ≤ length call → end ≤ length page
    → right ≡ where_whole bytes call end page right
unfolding where_whole
call_judged bytes call end page right whole enough = rw (le-ltb (length call) bytes whole, le-ltb (length page) end enough)

-- a call of a room, which answers what is due for its buffer and leaves what is due in it
pub call_answered : (bytes room_at : ℕ) (call page stored : List ℕ) (number : List ℕ → ℕ) (buffer : List ℕ → List ℕ) (room answered : ℕ) (left : List ℕ)
    → bytes ≤ length call → guard + room ≤ length page → room ≡ byte_at call room_at
    → answered ≡ number (buffer_of page (guard + room)) → left ≡ buffer (buffer_of page (guard + room))
    → answer_is_right answered (page_with page (guard + room) left) stored
    ≡ where_whole bytes call (buffer_end call room_at) page
    (answer_is_right (number (buffer_of page (buffer_end call room_at))) (page_with page (buffer_end call room_at) (buffer (buffer_of page (buffer_end call room_at)))) stored)
call_answered bytes room_at call page stored number buffer room answered left whole enough is-room is_number is-buffer =
    rw (is_number, is-buffer, is-room) (call_judged bytes call (buffer_end call room_at) page _ whole (rw is-room at enough))
