-- What a call answers that writes a file into a lent buffer: how many bytes the file has, or why it is refused.
use Rattle.std.specs.Prelude.{ℕ, List, [], ◌∷◌, Err, Ok, Result}
use Rattle.big_endian.specs.Written.{written}
use Rattle.control_point.specs.Told.{Value, natural, float, side, Told, tells, refusal_told}
use Rattle.control_point.specs.declared.refusal.Refusal.{Refusal}

-- the file's length, or the refusal's number
abbrev pub write_told : Result ℕ Refusal → Told
write_told (Ok bytes) = tells (natural bytes ∷ [])
write_told (Err refusal) = refusal_told refusal

-- what a C call returns that answers a length: the length, where one is told, and else the number
abbrev pub length_or : ℕ → List Value → ℕ
length_or number [] = number
length_or number (natural bytes ∷ rest) = bytes
length_or number (float x ∷ rest) = number
length_or number (side s ∷ rest) = number

abbrev pub length_or_number : Told → ℕ
length_or_number told = length_or told.number told.values

-- how many bytes were written: refused, none
abbrev pub bytes_written : Result ℕ Refusal → ℕ
bytes_written (Ok bytes) = bytes
bytes_written (Err refusal) = 0

-- the buffer after the call: the file at its front and the rest untouched; refused, all is untouched
abbrev pub buffer_with : List ℕ → Result ℕ Refusal → List ℕ → List ℕ
buffer_with file (Ok bytes) buffer = written buffer 0 file
buffer_with file (Err refusal) buffer = buffer
