-- A file that begins with the count, in 4 bytes, of the bytes that follow it: a head, which the count and a version behind it are part of, and whole items of one size.
use Rattle.std.specs.Prelude.{ℕ, ◌+◌, ◌-◌, ◌/◌, ◌%◌, Bool, ◌&&◌, List, [], ◌∷◌, leb, eqb, length, Err, Ok, Result}
use Rattle.big_endian.specs.BigEndian.{number_at}
use Rattle.control_point.specs.Told.{Told, natural, tells, refusal_told}
use Rattle.control_point.specs.declared.refusal.Refusal.{Refusal}

-- the bytes of the count
abbrev pub count_bytes : ℕ
count_bytes = 4

-- where the version stands, in one byte
abbrev pub version_at : ℕ
version_at = 4

-- the items that a file of this length has room for
abbrev pub item_count : ℕ → ℕ → List ℕ → ℕ
item_count head item bytes = (length bytes - head) / item

-- the count is that of the bytes that follow it, and the file is the head and 0 to so many whole items
unfoldable pub counted_right : ℕ → ℕ → ℕ → List ℕ → Bool
counted_right head item most bytes =
    leb head (length bytes)
    && (eqb (count_bytes + number_at count_bytes bytes 0) (length bytes)
    && (eqb ((length bytes - head) % item) 0 && leb (item_count head item bytes) most))

-- what a check of a file tells: the count of its items, or the refusal's number
abbrev pub file_told : Result ℕ Refusal → Told
file_told (Ok n) = tells (natural n ∷ [])
file_told (Err refusal) = refusal_told refusal
