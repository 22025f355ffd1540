-- The C call for a set-point (`gatemap_set_point`): the file, s and t as bits, and a buffer. Refusals in order: a buffer under 32 bytes 16, the file 12, 13, 14, off the map 20, the evaluation 3, 4, 9, no weight 15.
-- With a value the answer is 0, and the first 32 bytes of the buffer receive position and weight, big-endian, a NaN as 7ff8000000000000; the rest of it, and refused all
-- of it, is untouched.
use Rattle.std.specs.Prelude.{ℕ, cond, List, leb, length, Err, Ok, Result}
use Rattle.std.specs.Float.{binary64}
use Rattle.std.specs.Float.Ieee.{of_bits}
use Rattle.big_endian.specs.Written.{written}
use Rattle.control_point.specs.Small.{millionth}
use Rattle.control_point.specs.Told.{Told, unless}
use Rattle.control_point.specs.declared.refusal.Refusal.TheVariants.{Short}
use Rattle.surface.specs.Evaluation.{evaluation_number}
use Rattle.map_file.specs.Run.{file_set_point}
use Rattle.map_file.specs.Table.{file_set_point_table}
use Rattle.value_bytes.specs.Value.{value_bytes, bytes_of_value}
use Rattle.control_point.specs.declared.refusal.Refusal.{Refusal}
use Rattle.surface.specs.declared.evaluation.Evaluation.{Evaluation}

-- what the call finds, in a buffer of a length
unfoldable pub host_answer : List ℕ → ℕ → ℕ → ℕ → Result Evaluation Refusal
host_answer file s t room =
    cond (leb value_bytes room) (file_set_point millionth file (of_bits binary64 s) (of_bits binary64 t)) (Err Short)

-- the buffer after it
abbrev pub buffer_after : Result Evaluation Refusal → List ℕ → List ℕ
buffer_after (Ok value) out = written out 0 (bytes_of_value value)
buffer_after (Err refusal) out = out

-- the number that it returns, and the buffer that it leaves
abbrev pub host_number : List ℕ → ℕ → ℕ → List ℕ → ℕ
host_number file s t out = evaluation_number (host_answer file s t (length out))

abbrev pub host_buffer : List ℕ → ℕ → ℕ → List ℕ → List ℕ
host_buffer file s t out = buffer_after (host_answer file s t (length out)) out

-- the table of the call, with a buffer of a length: 16, then the file's table: 12, 13, 14, 20, the evaluation's refusal, 15
abbrev pub host_table : List ℕ → ℕ → ℕ → ℕ → Told
host_table file s t room = unless 16 (leb value_bytes room) (file_set_point_table millionth file (of_bits binary64 s) (of_bits binary64 t))
