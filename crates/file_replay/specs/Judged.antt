-- What the report of a map file and the C calls leave, held against stored bytes. The buffer that each is lent is a part of a page (crates/stored_page/specs/Page.antt).
--
-- A stored call (Call.antt, beside it) for a set-point is 50 bytes: the arguments are s 8 and t 8, and 32 stand at the end. One for a cell is 20: the cell 1, and 17 at the end.
use Rattle.std.specs.Prelude.{ℕ, Bool, false, cond, ◌&&◌, List, eqb, ltb, length}
use Rattle.big_endian.specs.BigEndian.{byte_at, number_at}
use Rattle.big_endian.specs.Written.{written}
use Rattle.gatemap_host.specs.CellCall.{host_cell_number, host_cell_buffer}
use Rattle.gatemap_host.specs.SetPoint.{host_number, host_buffer}
use Rattle.report.specs.Report.{report_of}
use Rattle.stored_page.specs.Call.{buffer_end, stored_answer, answer_is_right, where_whole}
use Rattle.stored_page.specs.Page.{buffer_of, page_with, holds}

-- ---- the report
-- whether a file's report, in a buffer that ends at a place, is the text stored
abbrev pub reports_right : List ℕ → List ℕ → ℕ → List ℕ → Bool
reports_right file text end page =
    eqb (length (report_of file)) (length text) && holds (page_with page end (written (buffer_of page end) 0 (report_of file))) text

unfoldable pub text_is_right : List ℕ → List ℕ → ℕ → List ℕ → Bool
text_is_right file text end page = cond (ltb (length page) end) false (reports_right file text end page)

-- ---- a set-point
abbrev pub t_at : ℕ
t_at = 8

abbrev pub room_at : ℕ
room_at = 16

abbrev pub answer_at : ℕ
answer_at = 17

abbrev pub call_bytes : ℕ
call_bytes = 50

-- whether the call with a file answers the number stored, and leaves the page as stored
abbrev pub answers_right : List ℕ → List ℕ → ℕ → List ℕ → Bool
answers_right file call end page =
    answer_is_right
    (host_number file (number_at 8 call 0) (number_at 8 call t_at) (buffer_of page end))
    (page_with page end (host_buffer file (number_at 8 call 0) (number_at 8 call t_at) (buffer_of page end)))
    (stored_answer call answer_at call_bytes)

abbrev pub call_is_right : List ℕ → List ℕ → List ℕ → Bool
call_is_right file call page = where_whole call_bytes call (buffer_end call room_at) page (answers_right file call (buffer_end call room_at) page)

-- ---- a cell
abbrev pub cell_room_at : ℕ
cell_room_at = 1

abbrev pub cell_answer_at : ℕ
cell_answer_at = 2

abbrev pub cell_call_bytes : ℕ
cell_call_bytes = 20

abbrev pub cell_answers_right : List ℕ → List ℕ → ℕ → List ℕ → Bool
cell_answers_right file call end page =
    answer_is_right
    (host_cell_number file (byte_at call 0) (buffer_of page end))
    (page_with page end (host_cell_buffer file (byte_at call 0) (buffer_of page end)))
    (stored_answer call cell_answer_at cell_call_bytes)

abbrev pub cell_call_is_right : List ℕ → List ℕ → List ℕ → Bool
cell_call_is_right file call page = where_whole cell_call_bytes call (buffer_end call cell_room_at) page (cell_answers_right file call (buffer_end call cell_room_at) page)
