-- What the C call for a season leaves, held against stored bytes. The buffer that it is lent is a part of a page (crates/stored_page/specs/Page.antt).
--
-- A stored call (Call.antt, beside it) is 7 bytes: the minute 4, the buffer's length 1, the answer's number 1, and 1 at the end.
use Rattle.std.specs.Prelude.{ℕ, Bool, List}
use Rattle.big_endian.specs.BigEndian.{number_at}
use Rattle.gatemap_host.specs.SeasonCall.{host_season_number, host_season_buffer}
use Rattle.stored_page.specs.Call.{buffer_end, stored_answer, answer_is_right, where_whole}
use Rattle.stored_page.specs.Page.{buffer_of, page_with}

abbrev pub room_at : ℕ
room_at = 4

abbrev pub answer_at : ℕ
answer_at = 5

abbrev pub call_bytes : ℕ
call_bytes = 7

-- whether the call with a season answers the number stored, and leaves the page as stored
abbrev pub answers_right : List ℕ → List ℕ → ℕ → List ℕ → Bool
answers_right season call end page =
    answer_is_right
    (host_season_number season (number_at 4 call 0) (buffer_of page end))
    (page_with page end (host_season_buffer season (number_at 4 call 0) (buffer_of page end)))
    (stored_answer call answer_at call_bytes)

abbrev pub call_is_right : List ℕ → List ℕ → List ℕ → Bool
call_is_right season call page = where_whole call_bytes call (buffer_end call room_at) page (answers_right season call (buffer_end call room_at) page)
