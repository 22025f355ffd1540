-- The next of the stored cases, read and judged.
use Rattle.std.specs.Prelude.{◌≡◌, ℕ, ◌+◌, ◌<◌, ◌≤◌, ◌↔◌, Bool, false, List, length, drop, IfSome, IsNone}
use Rattle.std.specs.declared.option.Option.{Option}
use Rattle.std.specs.Io.KnownBytes.{Consumes, IsAtEnd}
use Rattle.big_endian.specs.BigEndian.{number_at}

-- how many bytes a case takes that begins with some bytes: as many as every other
abbrev pub sized_bytes : ℕ → List ℕ → ℕ
sized_bytes size read = size

-- or two, and as many as they say
abbrev pub prefixed_bytes : List ℕ → ℕ
prefixed_bytes read = 2 + number_at 2 read 0

-- What the next case is judged to be, where `taken` says how many bytes it takes, and the judge, who answers as `answers` says, is given those behind its head.
-- `old` and `new` are the bytes that the reader has left before and after, where they are known.
pub record JudgesNext (taken : List ℕ → ℕ) (head : ℕ) (answers : List ℕ → Bool → Type 0) (old new : Option (List ℕ)) (outcome : Option Bool) : Type 0 where
  pub read : List ℕ
  pub consumed : Consumes old new read
  pub within : length read ≤ taken read
  pub ended : length read < taken read → IsAtEnd new
  pub none : IsNone outcome ↔ (length read ≡ 0)
  pub whole : IfSome outcome (λ is_right. length read ≡ taken read → answers (drop head read) is_right)
  pub cut : IfSome outcome (λ is_right. length read < taken read → is_right ≡ false)
