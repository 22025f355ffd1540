-- A cell as bytes: its first word, its second word, eight bytes each, big-endian, and the count of their ones, one byte.
use Rattle.std.specs.Prelude.{ℕ, List, ◌++◌}
use Rattle.big_endian.specs.Written.{bytes_of}
use Rattle.grid_index.specs.declared.Cell.{Cell}

-- what is written
abbrev pub cell_bytes : ℕ
cell_bytes = 17

abbrev pub bytes_of_cell : Cell → List ℕ
bytes_of_cell words = bytes_of 8 words.first ++ (bytes_of 8 words.second ++ bytes_of 1 words.count)
