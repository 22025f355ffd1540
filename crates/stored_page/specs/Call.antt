-- A stored C call: its arguments, the buffer's length 1, the answer's number 1, and the page's bytes from the buffer's start on, as many as an answer has; refused, these are the filler.
use Rattle.std.specs.Prelude.{ℕ, ◌+◌, ◌-◌, Bool, false, cond, ◌&&◌, List, eqb, ltb, length, take, drop}
use Rattle.big_endian.specs.BigEndian.{byte_at}
use Rattle.stored_page.specs.Page.{guard, holds}

-- where the buffer of a call ends, whose length stands at a place
abbrev pub buffer_end : List ℕ → ℕ → ℕ
buffer_end call room_at = guard + byte_at call room_at

-- what is stored of the answer, from a place on to the call's end
abbrev pub stored_answer : List ℕ → ℕ → ℕ → List ℕ
stored_answer call at end = take (end - at) (drop at call)

-- whether a number is the first byte stored, and a page holds those behind
abbrev pub answer_is_right : ℕ → List ℕ → List ℕ → Bool
answer_is_right number page stored = eqb number (byte_at stored 0) && holds page (drop 1 stored)

-- a call that is stored in so many bytes, with a buffer that ends at a place of the page, is wrong where either has fewer
unfoldable pub where_whole : ℕ → List ℕ → ℕ → List ℕ → Bool → Bool
where_whole bytes call end page right = cond (ltb (length call) bytes) false (cond (ltb (length page) end) false right)
