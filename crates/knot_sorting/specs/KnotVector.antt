-- `KnotVector::from`: knots are sorted upwards, and of knots that compare as equal the one that stood first stays first. Any sorting that keeps
-- that order gives this list where no knot is a NaN: the two zeros are the only floats that compare as equal and are not the same. The Rust
-- panics where it compares a NaN. Here a point's knots are kept as computed, which is the same wherever they never fall.
use Rattle.std.specs.Prelude.{Bool, true, cond, not, ◌&&◌, List, [], ◌∷◌, Float}
use Rattle.std.specs.Float.Ieee.{lt, le, is_nan}

-- a knot further on comes before u where it is below u, and only there
abbrev pub comes_before : Float → Float → Bool
comes_before v u = lt v u

-- a knot put among those further on, which are sorted
unfoldable pub with_knot : Float → List Float → List Float
with_knot u [] = u ∷ []
with_knot u (v ∷ rest) = cond (comes_before v u) (v ∷ with_knot u rest) (u ∷ (v ∷ rest))

unfoldable pub sorted : List Float → List Float
sorted [] = []
sorted (u ∷ rest) = with_knot u (sorted rest)

-- whether a knot is at most the first of those further on
abbrev pub first_at_least : Float → List Float → Bool
first_at_least u [] = true
first_at_least u (v ∷ rest) = le u v

-- each knot is at most the next; so of two or more none is a NaN
unfoldable pub never_falls : List Float → Bool
never_falls [] = true
never_falls (u ∷ rest) = first_at_least u rest && never_falls rest

-- no knot is a NaN
unfoldable pub all_numbers : List Float → Bool
all_numbers [] = true
all_numbers (u ∷ rest) = not (is_nan u) && all_numbers rest
