-- A stored case of the basis function: 56 bytes, which are the bits of u, of the five knots and of the result, eight bytes each, the most
-- significant first. A result that is a NaN is stored as 7ff8000000000000.
use Rattle.std.specs.Prelude.{ℕ, Bool, List, [], ◌∷◌, eqb, Float}
use Rattle.std.specs.Float.{binary64}
use Rattle.std.specs.Float.Ieee.{to_bits}
use Rattle.basis.specs.Binary64.{binary64_arithmetic, knots}
use Rattle.basis.specs.Formula.{formula}
use Rattle.big_endian.specs.BigEndian.{number_at, float_at}

-- the knots of a case
abbrev pub knots_of : List ℕ → List Float
knots_of case = float_at case 8 ∷ float_at case 16 ∷ float_at case 24 ∷ float_at case 32 ∷ float_at case 40 ∷ []

-- whether the basis function at a case's u and knots has the result's bits
unfoldable pub is_right : List ℕ → Bool
is_right case = eqb (to_bits binary64 (formula binary64_arithmetic (float_at case 0) (knots (knots_of case)))) (number_at 8 case 48)
