-- The cubic B-spline basis function of five knots a 0 to a 4, in closed form: one formula for each of the four segments between
-- neighbouring knots, and 0 outside. What it is a closed form of is the recursion of M. Cox (The numerical evaluation of B-splines,
-- 1972) and C. de Boor (On calculating with B-splines, 1972); T. Sederberg, J. Zheng, A. Bakenov and A. Nasri (T-splines and
-- T-NURCCs, 2003) give each control point of a T-spline the product of two such functions.
-- The formula is stated over any arithmetic, with every operation in its place: read at binary64 it is what the code computes, rounding
-- after rounding; read at fractions it is a rational function, and exact.
use Rattle.std.specs.Prelude.{Bool, true, false, cond, ◌||◌, ℕ, get_or}
use mathlib.Core.List.{List, [], ◌∷◌, foldl}

-- What the formula computes with: two numbers, four operations and three tests.
pub record Arithmetic (F : Type 0) : Type 0 where
  pub zero : F
  pub one : F
  pub add : F → F → F
  pub sub : F → F → F
  pub mul : F → F → F
  pub div : F → F → F
  pub lt : F → F → Bool
  pub le : F → F → Bool
  pub eq : F → F → Bool

-- The second segment's terms. A row is a term: three knots for the factors above the line, then two pairs for the spans below it.
abbrev pub rising : List (List ℕ)
rising = (0 ∷ 0 ∷ 2 ∷ 3 ∷ 0 ∷ 2 ∷ 0 ∷ []) ∷ (0 ∷ 1 ∷ 3 ∷ 3 ∷ 0 ∷ 3 ∷ 1 ∷ []) ∷ (1 ∷ 1 ∷ 4 ∷ 4 ∷ 1 ∷ 3 ∷ 1 ∷ []) ∷ []

-- The third segment's terms, in the same columns.
abbrev pub falling : List (List ℕ)
falling = (0 ∷ 3 ∷ 3 ∷ 3 ∷ 0 ∷ 3 ∷ 1 ∷ []) ∷ (1 ∷ 4 ∷ 3 ∷ 4 ∷ 1 ∷ 3 ∷ 1 ∷ []) ∷ (2 ∷ 4 ∷ 4 ∷ 4 ∷ 1 ∷ 4 ∷ 2 ∷ []) ∷ []

-- The knot that a row names in a column.
abbrev pub column : List ℕ → ℕ → ℕ
column row j = get_or row j 0

module _ {F : Type 0} (arithmetic : Arithmetic F) (u : F) (a : ℕ → F) where
  -- How far u lies above a knot.
  abbrev pub above : ℕ → F
  above i = arithmetic.sub u (a i)

  -- How far u lies below a knot.
  abbrev pub below : ℕ → F
  below i = arithmetic.sub (a i) u

  -- How far knot i lies above knot j.
  abbrev pub span : ℕ → ℕ → F
  span i j = arithmetic.sub (a i) (a j)

  -- A product of three.
  abbrev pub product : F → F → F → F
  product x y z = arithmetic.mul (arithmetic.mul x y) z

  -- A row's term with its middle factor given: u above the first knot, that factor, u below the third knot, over the two spans.
  abbrev pub quotient : F → List ℕ → F
  quotient middle row =
      arithmetic.div (product (above (column row 0)) middle (below (column row 2)))
      (arithmetic.mul (span (column row 3) (column row 4)) (span (column row 5) (column row 6)))

  -- A row's term. Its middle factor is how far u lies above the second knot in the rising table, and below it in the falling one.
  abbrev pub term : Bool → List ℕ → F
  term rises row = quotient (cond rises (above (column row 1)) (below (column row 1))) row

  -- The terms of a table, added to 0 one by one.
  unfoldable pub sum_of_terms : Bool → List (List ℕ) → F
  sum_of_terms rises table = foldl (λ sum row. arithmetic.add sum (term rises row)) arithmetic.zero table

  -- Between the first knot and the second.
  abbrev pub first_segment : F
  first_segment = arithmetic.div (product (above 0) (above 0) (above 0)) (product (span 3 0) (span 2 0) (span 1 0))

  -- Between the second knot and the third.
  abbrev pub second_segment : F
  second_segment = arithmetic.mul (arithmetic.div arithmetic.one (span 2 1)) (sum_of_terms true rising)

  -- Between the third knot and the fourth.
  abbrev pub third_segment : F
  third_segment = arithmetic.mul (arithmetic.div arithmetic.one (span 3 2)) (sum_of_terms false falling)

  -- Between the fourth knot and the fifth.
  abbrev pub last_segment : F
  last_segment = arithmetic.div (product (below 4) (below 4) (below 4)) (product (span 4 1) (span 4 2) (span 4 3))

  -- The basis function at u: 0 outside a 0 ≤ u < a 4, and inside the segment that u lies in.
  unfoldable pub formula : F
  formula =
      cond (arithmetic.lt u (a 0) || arithmetic.le (a 4) u) arithmetic.zero
      (cond (arithmetic.lt u (a 1)) first_segment
      (cond (arithmetic.lt u (a 2)) second_segment
      (cond (arithmetic.lt u (a 3)) third_segment
      last_segment)))
