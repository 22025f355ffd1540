-- A call that answers what is due for its buffer, and leaves what is due in it, is judged by what is stored.
use Rattle.std.specs.Prelude.{ℕ, ◌+◌, ◌≤◌, List, ◌≡◌, length}
use Rattle.big_endian.specs.BigEndian.{number_at}
use Rattle.gatemap_host.specs.LoadCall.{host_load_number}
use Rattle.load.specs.Load.{load_buffer}
use Rattle.stored_page.proofs.CallLaws.{call_judged}
use Rattle.stored_page.specs.Page.{guard, buffer_of, page_with}
use Rattle.load_replay.specs.Judged.{count_at, room_at, held_at, load_end, is_stored, call_is_right}

pub load_judged : (call page : List ℕ) (seed count room number : ℕ) (left : List ℕ)
    → held_at ≤ length call → guard + room ≤ length page → seed ≡ number_at 8 call 0 → count ≡ number_at 8 call count_at → room ≡ number_at 2 call room_at
    → number ≡ host_load_number seed count (buffer_of page (guard + room)) → left ≡ load_buffer seed count (buffer_of page (guard + room))
    → is_stored call number (page_with page (guard + room) left) ≡ call_is_right call page
load_judged call page seed count room number left whole enough is-seed is-count is-room is_number is-buffer =
    rw (is_number, is-buffer, is-seed, is-count, is-room) (call_judged held_at call (load_end call) page _ whole (rw is-room at enough))
