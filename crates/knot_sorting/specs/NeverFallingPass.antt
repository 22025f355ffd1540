-- KNOTS THAT NEVER FALL PASS `KnotVector::from` UNCHANGED, bit for bit: of knots that compare as equal, as 0.0 and −0.0 do, none changes its place.
-- Knots without a NaN never fall once they are sorted, so of these the ones that pass are exactly the ones that never fall. `T b` says that the test b is true.
use Rattle.std.specs.Prelude.{List, [], ◌∷◌, ◌≡◌, T, Float}
use Rattle.std.specs.Float.{binary64}
use Rattle.std.specs.Float.Ieee.{of_bits}
use Rattle.float64.specs.Literals.{zero_literal, one_literal}
use Rattle.knot_sorting.specs.KnotVector.{sorted, never_falls, all_numbers}

abbrev pub NeverFallingPass : Type 0
NeverFallingPass = (list : List Float) → T (never_falls list) → sorted list ≡ list

abbrev pub SortedNeverFalls : Type 0
SortedNeverFalls = (list : List Float) → T (all_numbers list) → T (never_falls (sorted list))

-- ---- worked examples
abbrev pub minus_zero : Float
minus_zero = of_bits binary64 0x8000_0000_0000_0000

abbrev pub two : Float
two = of_bits binary64 0x4000_0000_0000_0000

abbrev pub minus_one : Float
minus_one = of_bits binary64 0xbff0_0000_0000_0000

pub record SortingExamples : Type 0 where
  -- the two zeros keep their places
  pub zeros : sorted (zero_literal ∷ (minus_zero ∷ [])) ≡ zero_literal ∷ (minus_zero ∷ [])
  pub zeros_exchanged : sorted (minus_zero ∷ (zero_literal ∷ [])) ≡ minus_zero ∷ (zero_literal ∷ [])
  -- the knots of a map's corner 0, and the same falling
  pub passed : sorted (minus_one ∷ (minus_one ∷ (zero_literal ∷ (one_literal ∷ (two ∷ []))))) ≡ minus_one ∷ (minus_one ∷ (zero_literal ∷ (one_literal ∷ (two ∷ []))))
  pub fallen : sorted (two ∷ (one_literal ∷ (zero_literal ∷ (minus_one ∷ (minus_one ∷ []))))) ≡ minus_one ∷ (minus_one ∷ (zero_literal ∷ (one_literal ∷ (two ∷ []))))
