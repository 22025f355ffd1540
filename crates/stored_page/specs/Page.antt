-- A page: `guard` bytes stand in front of a buffer, and some behind. Every byte of it is the filler before.
use Rattle.std.specs.Prelude.{ℕ, zero, suc, ◌-◌, Bool, true, cond, ◌&&◌, List, ◌++◌, eqb, ltb, get_or, length, take, drop}
use Rattle.big_endian.specs.BigEndian.{byte_at}

abbrev pub guard : ℕ
guard = 16

abbrev pub filler : ℕ
filler = 165

-- the buffer that ends at a place, and the page with other bytes in the buffer's place
abbrev pub buffer_of : List ℕ → ℕ → List ℕ
buffer_of page end = take (end - guard) (drop guard page)

abbrev pub page_with : List ℕ → ℕ → List ℕ → List ℕ
page_with page end buffer = take guard page ++ (buffer ++ drop (end - guard) (drop guard page))

-- the byte at a place of a page whose buffer begins with the bytes held
unfoldable pub expected_byte : List ℕ → ℕ → ℕ
expected_byte held place = cond (ltb place guard) filler (get_or held (place - guard) filler)

-- whether the first so many bytes of a page are those
unfoldable pub holds_to : ℕ → List ℕ → List ℕ → Bool
holds_to zero page held = true
holds_to (suc n) page held = holds_to n page held && eqb (byte_at page n) (expected_byte held n)

-- whether a page holds those bytes, and nothing else
abbrev pub holds : List ℕ → List ℕ → Bool
holds page held = holds_to (length page) page held
