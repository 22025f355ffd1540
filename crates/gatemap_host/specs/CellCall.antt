-- The C call for a cell (`gatemap_cell`): the file, a cell as one byte, and a buffer. Refusals in order: a buffer under 17 bytes 16, the file 12, 13, 14, the evaluation's 3, 4, 9.
-- Else the answer is 0, and the first 17 bytes of the buffer receive the cell's first word, its second word and the count of their ones; the rest of it, and refused all of it, is
-- untouched.
use Rattle.std.specs.Prelude.{ℕ, cond, List, leb, length, Err, Ok, Result}
use Rattle.big_endian.specs.Written.{written}
use Rattle.cell_bytes.specs.CellBytes.{cell_bytes, bytes_of_cell}
use Rattle.cells.specs.Cells.{cell_number}
use Rattle.control_point.specs.Small.{millionth}
use Rattle.control_point.specs.Told.{Told, unless}
use Rattle.control_point.specs.declared.refusal.Refusal.TheVariants.{Short}
use Rattle.map_cell.specs.FileCell.{file_cell, file_cell_table}
use Rattle.control_point.specs.declared.refusal.Refusal.{Refusal}
use Rattle.grid_index.specs.declared.Cell.{Cell}

-- what the call finds, in a buffer of a length
unfoldable pub host_cell : List ℕ → ℕ → ℕ → Result Cell Refusal
host_cell file cell room = cond (leb cell_bytes room) (file_cell millionth file cell) (Err Short)

-- the buffer after it
abbrev pub cell_buffer_after : Result Cell Refusal → List ℕ → List ℕ
cell_buffer_after (Ok words) out = written out 0 (bytes_of_cell words)
cell_buffer_after (Err refusal) out = out

-- the number that it returns, and the buffer that it leaves
abbrev pub host_cell_number : List ℕ → ℕ → List ℕ → ℕ
host_cell_number file cell out = cell_number (host_cell file cell (length out))

abbrev pub host_cell_buffer : List ℕ → ℕ → List ℕ → List ℕ
host_cell_buffer file cell out = cell_buffer_after (host_cell file cell (length out)) out

-- the table of the call, with a buffer of a length: 16, then the file's table: 12, 13, 14, the evaluation's refusal
abbrev pub host_cell_table : List ℕ → ℕ → ℕ → Told
host_cell_table file cell room = unless 16 (leb cell_bytes room) (file_cell_table millionth file cell)
