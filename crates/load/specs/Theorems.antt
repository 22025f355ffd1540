-- Theorems on loads: statements only, with what they speak of. `load_file`, `load_buffer` and `asked_answer` are the definitions that the contracts of the code cite; `checked_file`, `head_of`, `head_corner_at` and `edits_of`
-- say how the reader of a map file takes them.
use Rattle.std.specs.Prelude.{ℕ, ◌≤◌, ◌<◌, ◌≡◌, Bool, true, not, cond, ◌&&◌, List, [], ◌∷◌, ◌++◌, leb, eqb, length, take, drop, Ok}
use Rattle.float64.specs.Unit.{in_unit}
use Rattle.map_format.specs.Format.{most_edits, Edit, head_corner_at, head_of, edits_of, file_length, checked_file}
use Rattle.map_writing.specs.Answer.{write_told, bytes_written}
use Rattle.t_mesh.specs.declared.t_mesh.Position.{Position}
use Rattle.load.specs.Load.{load_head, drawn_edits, load_file, load_answer, load_buffer, asked_seed, asked_count, asked_answer, asked_buffer}

-- ---- THE READER ACCEPTS EACH LOAD
-- The load of every seed and of every count up to 1,000 is not refused and has that count of edits; and its head and its edits, as they are read, are version 1, border 1.0 and the corners of `load_head`, and the edits drawn.
abbrev pub LoadIsRead : Type 0
LoadIsRead =
    (seed count : ℕ)
    → count ≤ most_edits
    → (checked_file (load_file seed count) ≡ Ok count) × (head_of (load_file seed count) ≡ load_head) × (edits_of (load_file seed count) ≡ drawn_edits count seed)

-- ---- EVERY POSITION LIES FROM 0 TO 1
abbrev pub PositionInUnit : Position → Type 0
PositionInUnit p = (in_unit p.x ≡ true) × ((in_unit p.y ≡ true) × (in_unit p.z ≡ true))

-- the position of each edit, and its ratio
abbrev pub EditsInUnit : List Edit → Type 0
EditsInUnit [] = Unit {0}
EditsInUnit (edit ∷ rest) = (PositionInUnit edit.position × (in_unit edit.ratio ≡ true)) × EditsInUnit rest

-- The four corners of each load and the positions and ratios of its edits, as they are read, lie from 0 to 1, each position on every axis.
abbrev pub LoadInUnit : Type 0
LoadInUnit =
    (seed count : ℕ)
    → count ≤ most_edits
    → ((k : ℕ) → k < 4 → PositionInUnit (head_corner_at (load_file seed count) k)) × EditsInUnit (edits_of (load_file seed count))

-- ---- THE FILE STANDS AT THE FRONT
-- Where the call answers a length, the count is at most 1,000, the length is that of the file, the buffer has room for it, and the call leaves the file and behind it what stood there.
abbrev pub LoadAtFront : Type 0
LoadAtFront =
    (seed count bytes : ℕ) (buffer : List ℕ)
    → load_answer seed count (length buffer) ≡ Ok bytes
    → (count ≤ most_edits) × (bytes ≡ length (load_file seed count)) × (bytes ≤ length buffer) × (load_buffer seed count buffer ≡ load_file seed count ++ drop bytes buffer)

-- ---- THE PROGRAM
-- Whatever it is asked for, with a buffer of at least 34,109 bytes, as the program has, the answer is never 16.
abbrev pub ProgramHasRoom : Type 0
ProgramHasRoom = (input : List ℕ) (room : ℕ) → file_length most_edits ≤ room → (write_told (asked_answer input room)).number ≡ 16 → ⊥

-- what is asked for rightly: ten bytes, a seed that is not 0, and at most 1,000 edits
abbrev pub asked_rightly : List ℕ → Bool
asked_rightly input = eqb (length input) 10 && (not (eqb (asked_seed input) 0) && leb (asked_count input) 1000)

-- What it writes, as many bytes from the front of such a buffer as the answer says were written, is the load's file where it is asked for one rightly, and else nothing.
abbrev pub ProgramWrites : Type 0
ProgramWrites =
    (input buffer : List ℕ)
    → file_length most_edits ≤ length buffer
    → take (bytes_written (asked_answer input (length buffer))) (asked_buffer input buffer) ≡ cond (asked_rightly input) (load_file (asked_seed input) (asked_count input)) []
