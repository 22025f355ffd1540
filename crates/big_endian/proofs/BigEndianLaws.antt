-- Laws of the definitions of specs/BigEndian.antt.
use Rattle.std.specs.Prelude.{ℕ, zero, suc, ◌+◌, ◌*◌, ◌≡◌, refl, List, drop, get_or}
use Rattle.std.proofs.Common.{ap, ◌∙◌, arith, get_or-drop}
use Rattle.big_endian.specs.BigEndian.{number_at}

-- a number in what stands after the first bytes is one of all bytes, that many places on
pub number_after : (width : ℕ) (bytes : List ℕ) (count at : ℕ) → number_at width (drop count bytes) at ≡ number_at width bytes (count + at)
unfolding number_at
number_after zero bytes count at = refl
number_after (suc width) bytes count at =
    ap (λ (n : ℕ). n * 256 + get_or (drop count bytes) (at + width) 0) (number_after width bytes count at)
    ∙ ap (λ (n : ℕ). number_at width bytes (count + at) * 256 + n) (get_or-drop count bytes (at + width) 0 ∙ ap (λ (place : ℕ). get_or bytes place 0) (omega arith))
