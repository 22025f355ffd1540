-- Knots that never fall pass: each is at most the next, so it is put before it. Sorted knots never fall: a knot is put after those below it, and
-- before one that is not.
use Rattle.std.specs.Prelude.{Bool, true, false, cond, not, List, [], ◌∷◌, ◌≡◌, refl, T, Float}
use Rattle.std.proofs.Common.{ap, ◌∙◌}
use Rattle.std.specs.Float.Ieee.{of_bits, of_fields, lt, le, is_nan}
use Rattle.std.specs.Float.Ieee.Fits.{and_l, and_r, and_i}
use Rattle.float64.specs.Order.{nlt→le, lt→le, le→nlt}
use Rattle.knot_sorting.specs.KnotVector.{comes_before, with_knot, sorted, first_at_least, never_falls, all_numbers}
use Rattle.knot_sorting.specs.NeverFallingPass.{NeverFallingPass, SortedNeverFalls, SortingExamples}

-- ---- what never falls passes
-- a knot that is at most the first stands before it
with_first : (u : Float) (list : List Float) → T (first_at_least u list) → with_knot u list ≡ u ∷ list
unfolding with_knot
with_first u [] h = refl
with_first u (v ∷ rest) h = by_test (comes_before v u) (le→nlt v u h)
  where
    by_test : (b : Bool) → T (not b) → cond b (v ∷ with_knot u rest) (u ∷ (v ∷ rest)) ≡ u ∷ (v ∷ rest)
    by_test true k = absurd k
    by_test false k = refl

pub never_falling_pass : NeverFallingPass
unfolding sorted never_falls
never_falling_pass [] h = refl
never_falling_pass (u ∷ rest) h =
    ap (with_knot u) (never_falling_pass rest (and_r (first_at_least u rest) (never_falls rest) h)) ∙ with_first u rest (and_l (first_at_least u rest) (never_falls rest) h)

-- ---- what is sorted never falls
-- where w is at most a knot, and at most the first of others, it is at most the first with that knot put among them
with_least : (w u : Float) (list : List Float) → T (le w u) → T (first_at_least w list) → T (first_at_least w (with_knot u list))
unfolding with_knot
with_least w u [] h k = h
with_least w u (v ∷ rest) h k = by_test (comes_before v u)
  where
    by_test : (b : Bool) → T (first_at_least w (cond b (v ∷ with_knot u rest) (u ∷ (v ∷ rest))))
    by_test true = k
    by_test false = h

with_never_falls : (u : Float) → T (not (is_nan u)) → (list : List Float) → T (all_numbers list) → T (never_falls list) → T (never_falls (with_knot u list))
unfolding with_knot never_falls all_numbers
with_never_falls u number [] numbers h = tt
with_never_falls u number (v ∷ rest) numbers h =
    by_test (comes_before v u) (lt→le v u) (nlt→le v u (and_l (not (is_nan v)) (all_numbers rest) numbers) number)
    (with_never_falls u number rest (and_r (not (is_nan v)) (all_numbers rest) numbers) (and_r (first_at_least v rest) (never_falls rest) h))
  where
    by_test : (b : Bool) → (T b → T (le v u)) → (T (not b) → T (le u v)) → T (never_falls (with_knot u rest)) → T (never_falls (cond b (v ∷ with_knot u rest) (u ∷ (v ∷ rest))))
    by_test true below above after =
        and_i (first_at_least v (with_knot u rest)) (never_falls (with_knot u rest)) (with_least v u rest (below tt) (and_l (first_at_least v rest) (never_falls rest) h)) after
    by_test false below above after = and_i (le u v) (never_falls (v ∷ rest)) (above tt) h

-- a number put among numbers
with_numbers : (u : Float) → T (not (is_nan u)) → (list : List Float) → T (all_numbers list) → T (all_numbers (with_knot u list))
unfolding with_knot all_numbers
with_numbers u number [] h = and_i (not (is_nan u)) true number tt
with_numbers u number (v ∷ rest) h = by_test (comes_before v u) (with_numbers u number rest (and_r (not (is_nan v)) (all_numbers rest) h))
  where
    by_test : (b : Bool) → T (all_numbers (with_knot u rest)) → T (all_numbers (cond b (v ∷ with_knot u rest) (u ∷ (v ∷ rest))))
    by_test true after = and_i (not (is_nan v)) (all_numbers (with_knot u rest)) (and_l (not (is_nan v)) (all_numbers rest) h) after
    by_test false after = and_i (not (is_nan u)) (all_numbers (v ∷ rest)) number h

sorted_numbers : (list : List Float) → T (all_numbers list) → T (all_numbers (sorted list))
unfolding sorted all_numbers
sorted_numbers [] h = tt
sorted_numbers (u ∷ rest) h = with_numbers u (and_l (not (is_nan u)) (all_numbers rest) h) (sorted rest) (sorted_numbers rest (and_r (not (is_nan u)) (all_numbers rest) h))

pub sorted_never_falls : SortedNeverFalls
unfolding sorted never_falls all_numbers
sorted_never_falls [] h = tt
sorted_never_falls (u ∷ rest) h =
    with_never_falls u (and_l (not (is_nan u)) (all_numbers rest) h) (sorted rest)
    (sorted_numbers rest (and_r (not (is_nan u)) (all_numbers rest) h))
    (sorted_never_falls rest (and_r (not (is_nan u)) (all_numbers rest) h))

-- ---- the examples compute
pub sorting_examples : SortingExamples
unfolding sorted with_knot lt of_bits of_fields
sorting_examples = record { zeros = refl; zeros_exchanged = refl; passed = refl; fallen = refl }
