-- A page that is too short for a report is wrong.
use Rattle.std.specs.Prelude.{ℕ, ◌≤◌, ◌<◌, false, List, ◌≡◌, length}
use Rattle.std.proofs.Common.{lt-ltb, le-ltb}
use Rattle.file_replay.specs.Judged.{reports_right, text_is_right}

pub text_no_room : (file text : List ℕ) (end : ℕ) (page : List ℕ) → length page < end → false ≡ text_is_right file text end page
unfolding text_is_right
text_no_room file text end page short = rw (lt-ltb (length page) end short)

pub text_judged : (file text : List ℕ) (end : ℕ) (page : List ℕ) → end ≤ length page → reports_right file text end page ≡ text_is_right file text end page
unfolding text_is_right
text_judged file text end page enough = rw (le-ltb (length page) end enough)
