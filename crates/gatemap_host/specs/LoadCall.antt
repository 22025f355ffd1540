-- The C call for a load (`gatemap_load`): a seed, a count of edits and a buffer. Refusals in order: seed 0 21, over 1,000 edits 22, a buffer shorter than the file 16. Else the answer is the file's length,
-- and the file stands at the front of the buffer; the rest of it, and refused all of it, is untouched.
use Rattle.std.specs.Prelude.{ℕ, List, length}
use Rattle.load.specs.Load.{load_answer}
use Rattle.map_writing.specs.Answer.{write_told, length_or_number}

-- the number that it returns: the length, or that of the refusal. The buffer that it leaves is `load_buffer`, and its table `load_table`
abbrev pub host_load_number : ℕ → ℕ → List ℕ → ℕ
host_load_number seed count out = length_or_number (write_told (load_answer seed count (length out)))
