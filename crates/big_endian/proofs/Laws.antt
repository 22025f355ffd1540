-- Laws of the definitions of specs/BigEndian.antt, at any width and at eight bytes.
use Rattle.std.specs.Prelude.{ℕ, zero, suc, ◌+◌, ◌*◌, ◌^◌, ◌≤◌, ◌<◌, ◌≡◌, refl, List, take, drop}
use Rattle.std.proofs.Common.{ap, ◌∙◌, add-one, pow-suc, arith, get_or-drop}
use Rattle.std.proofs.Math.Nat.{pow-le-pow_right}
use Rattle.std.proofs.lemmas.List.{get_or-take}
use Rattle.std.specs.Int.{w64, from_be_bytes}
use Rattle.big_endian.specs.BigEndian.{byte_at, number_at}
use Rattle.big_endian.proofs.BigEndianLaws.{number_after}

-- one byte more, which is read in what stands after the first bytes
pub number_more : (width : ℕ) (bytes : List ℕ) (at number byte : ℕ) → number ≡ number_at width bytes at → byte ≡ byte_at (drop at bytes) width
    → number * 256 + byte ≡ number_at (width + 1) bytes at
unfolding number_at
number_more width bytes at number byte read next = rw (add-one, read, next, get_or-drop) refl

-- a number of so many bytes, and one byte more
pub below_more : (number byte width : ℕ) → number < 256 ^ width → byte < 256 → number * 256 + byte < 256 ^ (width + 1)
below_more number byte width below fits = rw (add-one, pow-suc) (omega arith)

-- a number of fewer than eight bytes leaves room for one more
pub room : (number width : ℕ) → width < 8 → number < 256 ^ width → number < 256 ^ 7
room number width few below = omega (arith, pow-le-pow_right {n = 256} (omega arith) {i = width} {j = 7} (omega arith))

-- std's number of eight bytes is ours
number_of_eight : (eight : List ℕ) → from_be_bytes w64 eight ≡ number_at 8 eight 0
unfolding number_at
number_of_eight eight = omega arith

-- a number is that of the bytes which it takes
number_taken : (width count : ℕ) (bytes : List ℕ) → width ≤ count → number_at width (take count bytes) 0 ≡ number_at width bytes 0
unfolding number_at
number_taken zero count bytes enough = refl
number_taken (suc width) count bytes enough = rw (number_taken width count bytes (omega arith), get_or-take count bytes (0 + width) 0 (omega arith)) refl

-- eight bytes that stand together
pub number_of_chunk : (bytes eight : List ℕ) (at : ℕ) → eight ≡ take 8 (drop at bytes) → from_be_bytes w64 eight ≡ number_at 8 bytes at
number_of_chunk bytes eight at part =
    ap (from_be_bytes w64) part
    ∙ number_of_eight (take 8 (drop at bytes))
    ∙ number_taken 8 8 (drop at bytes) (omega arith)
    ∙ number_after 8 bytes at 0
    ∙ ap (number_at 8 bytes) {x = at + 0} {y = at} (omega arith)
