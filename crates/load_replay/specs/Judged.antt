-- What the C call for a load leaves, held against stored bytes. The buffer that it is lent is a part of a page (crates/stored_page/specs/Page.antt).
--
-- A stored call: the seed 8, the count of edits 8, the buffer's length 2, the number returned 8, and the page's bytes from the buffer's start on: the file, or refused none.
use Rattle.std.specs.Prelude.{ℕ, ◌+◌, Bool, ◌&&◌, List, eqb, drop}
use Rattle.big_endian.specs.BigEndian.{number_at}
use Rattle.gatemap_host.specs.LoadCall.{host_load_number}
use Rattle.load.specs.Load.{load_buffer}
use Rattle.stored_page.specs.Call.{where_whole}
use Rattle.stored_page.specs.Page.{guard, buffer_of, page_with, holds}

abbrev pub count_at : ℕ
count_at = 8

abbrev pub room_at : ℕ
room_at = 16

abbrev pub returned_at : ℕ
returned_at = 18

abbrev pub held_at : ℕ
held_at = 26

-- where the buffer ends
abbrev pub load_end : List ℕ → ℕ
load_end call = guard + number_at 2 call room_at

-- whether a number is the one stored, and a page holds the bytes stored
abbrev pub is_stored : List ℕ → ℕ → List ℕ → Bool
is_stored call number page = eqb number (number_at 8 call returned_at) && holds page (drop held_at call)

-- whether the call answers the number stored, and leaves the page as stored
abbrev pub answers_right : List ℕ → ℕ → List ℕ → Bool
answers_right call end page =
    let seed = number_at 8 call 0 in
    let count = number_at 8 call count_at in
    is_stored call (host_load_number seed count (buffer_of page end)) (page_with page end (load_buffer seed count (buffer_of page end)))

abbrev pub call_is_right : List ℕ → List ℕ → Bool
call_is_right call page = where_whole held_at call (load_end call) page (answers_right call (load_end call) page)
