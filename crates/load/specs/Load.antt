-- A load: the version 1 map file that a seed and a count of edits stand for. Border 1.0, the corners (0, 0, 0), (1, 0, 0), (1, 1, 1), (0, 1, 1), and each edit from six draws.
--
-- The call for it takes a buffer. Refusals in order: seed 0 21; over 1,000 edits 22; a buffer shorter than the file 16. Else the answer is the file's length, and the file stands at the front of the
-- buffer; the rest of it, and refused all of it, is untouched.
--
-- The program is asked for a load by bytes: 8 the seed, 2 the count of edits. An input of another length is 12, before all else.
use Rattle.std.specs.Prelude.{ℕ, zero, suc, ◌%◌, not, cond, List, [], ◌∷◌, leb, eqb, length, Err, Ok, Result}
use Rattle.big_endian.specs.BigEndian.{number_at}
use Rattle.control_point.specs.Direction.{direction_numbered}
use Rattle.control_point.specs.Told.{Told, natural, tells, unless}
use Rattle.control_point.specs.declared.refusal.Refusal.TheVariants.{Length, Short, Seed, TooMany}
use Rattle.draw.specs.Draw.{later_draw, drawn_float}
use Rattle.float64.specs.Literals.{zero_literal, one_literal}
use Rattle.map_format.specs.Format.{most_edits, Edit, file_length, file_of}
use Rattle.map_format.specs.declared.format.Head.{Head}
use Rattle.map_writing.specs.Answer.{buffer_with}
use Rattle.control_point.specs.declared.refusal.Refusal.{Refusal}

-- ---- the file
-- version 1, border 1.0, corners (0, 0, 0), (1, 0, 0), (1, 1, 1), (0, 1, 1)
abbrev pub load_head : Head
load_head =
    record {
      version = 1;
      border = one_literal;
      bottom_left = record { x = zero_literal; y = zero_literal; z = zero_literal };
      bottom_right = record { x = one_literal; y = zero_literal; z = zero_literal };
      top_right = record { x = one_literal; y = one_literal; z = one_literal };
      top_left = record { x = zero_literal; y = one_literal; z = one_literal };
    }

-- the edit of the six draws after a state
unfoldable pub drawn_edit : ℕ → Edit
drawn_edit state =
    record {
      point = later_draw 1 state % 128;
      direction = direction_numbered (later_draw 2 state % 4);
      ratio = drawn_float (later_draw 3 state);
      position = record { x = drawn_float (later_draw 4 state); y = drawn_float (later_draw 5 state); z = drawn_float (later_draw 6 state) };
    }

-- so many edits, each from the last draw of the one before
unfoldable pub drawn_edits : ℕ → ℕ → List Edit
drawn_edits zero state = []
drawn_edits (suc count) state = drawn_edit state ∷ drawn_edits count (later_draw 6 state)

unfoldable pub load_file : ℕ → ℕ → List ℕ
load_file seed count = file_of load_head (drawn_edits count seed)

-- ---- the call
-- 21, 22, 16 in order; else the file's length
unfoldable pub load_answer : ℕ → ℕ → ℕ → Result ℕ Refusal
load_answer seed count room =
    cond (not (eqb seed 0))
    (cond (leb count most_edits)
    (cond (leb (file_length count) room) (Ok (file_length count)) (Err Short))
    (Err TooMany))
    (Err Seed)

abbrev pub load_buffer : ℕ → ℕ → List ℕ → List ℕ
load_buffer seed count buffer = buffer_with (load_file seed count) (load_answer seed count (length buffer)) buffer

-- the table of the call, with a buffer of a length
abbrev pub load_table : ℕ → ℕ → ℕ → Told
load_table seed count room =
    unless 21 (not (eqb seed 0))
    (unless 22 (leb count most_edits)
    (unless 16 (leb (file_length count) room)
    (tells (natural (file_length count) ∷ []))))

-- ---- what the program is asked for
abbrev pub asked_bytes : ℕ
asked_bytes = 10

abbrev pub asked_seed : List ℕ → ℕ
asked_seed input = number_at 8 input 0

abbrev pub asked_count : List ℕ → ℕ
asked_count input = number_at 2 input 8

-- 12, and then as the call answers
unfoldable pub asked_answer : List ℕ → ℕ → Result ℕ Refusal
asked_answer input room = cond (eqb (length input) asked_bytes) (load_answer (asked_seed input) (asked_count input) room) (Err Length)

abbrev pub asked_buffer : List ℕ → List ℕ → List ℕ
asked_buffer input buffer = buffer_with (load_file (asked_seed input) (asked_count input)) (asked_answer input (length buffer)) buffer

abbrev pub asked_table : List ℕ → ℕ → Told
asked_table input room = unless 12 (eqb (length input) asked_bytes) (load_table (asked_seed input) (asked_count input) room)
