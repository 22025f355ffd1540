-- Laws of the walk: what it is at each place that code meets, one for each outcome of the tests there; that it reads the sides of made
-- points alone, and reaches none but them.
use Prim.Native.Nat.{ℕ, zero, suc, ◌+◌, ◌-◌}
use Rattle.std.specs.Prelude.{◌≡◌, Bool, true, false, cond, Err, Ok, Result}
use Rattle.std.proofs.Math.Path.{refl}
use Rattle.std.specs.Float.Ieee.{Float, binary64, add}
use Rattle.control_point.specs.Point.{is_made, is_link}
use Rattle.control_point.specs.Sides.{Sides}
use Rattle.control_point.proofs.SidesLaws.{Agree}
use Rattle.navigation.specs.Walk.{step_over, arrive, onward, walk_of, walk_to}
use Rattle.control_point.specs.declared.refusal.Refusal.TheVariants.{NoPoint, Ring}
use Rattle.control_point.specs.declared.t_mesh_control_point.Side.{Side}
use Rattle.control_point.specs.declared.t_mesh_control_point.Side.TheVariants.{Link, Border, Opening}
use Rattle.control_point.specs.declared.t_mesh_direction.TmeshDirection.{TmeshDirection}
use Rattle.control_point.specs.declared.refusal.Refusal.{Refusal}
use Rattle.navigation.specs.declared.walk.Walk.{Walk}

module _ (sides : Sides) (made : ℕ) (travel watch : TmeshDirection) where
  pub walk_unmade : (start : ℕ) → is_made made start ≡ false → walk_of sides made start travel watch ≡ Err NoPoint
  unfolding walk_of
  walk_unmade start h = simp h

  pub walk_starts : (start : ℕ) → is_made made start ≡ true
      → walk_of sides made start travel watch ≡ step_over (sides start travel) (λ n k. onward (made - 1) sides made travel watch n k 1)
  unfolding walk_of
  walk_starts start h = simp h

  module _ (at : ℕ) (sum : Float) (moves : ℕ) where
    pub onward_unmade : (left : ℕ) → is_made made at ≡ false → onward left sides made travel watch at sum moves ≡ Err NoPoint
    unfolding onward
    onward_unmade zero h = simp h
    onward_unmade (suc left) h = simp h

    pub onward_reached : (left : ℕ) → is_made made at ≡ true → is_link (sides at watch) ≡ true
        → onward left sides made travel watch at sum moves ≡ Ok (walk_to at sum moves)
    unfolding onward
    onward_reached zero h w = simp (h, w)
    onward_reached (suc left) h w = simp (h, w)

    -- the point is made, and its watched side is no link
    module _ (h : is_made made at ≡ true) (w : is_link (sides at watch) ≡ false) where
      -- no move is left
      pub onward_ring : (left : ℕ) → left ≡ 0 → onward left sides made travel watch at sum moves ≡ step_over (sides at travel) (λ n k. Err Ring)
      unfolding onward
      onward_ring left e = simp (e, h, w)

      -- one more is left
      pub onward_step : (left more : ℕ) → left ≡ suc more
          → onward left sides made travel watch at sum moves
          ≡ step_over (sides at travel) (λ n k. onward more sides made travel watch n (add binary64 sum k) (moves + 1))
      unfolding onward
      onward_step left more e = simp (e, h, w)

-- ---- a walk reads the sides of made points alone
module _ (made : ℕ) (sides others : Sides) (agree : Agree made sides others) (travel watch : TmeshDirection) where
  step_agrees : (side : Side) (next then : ℕ → Float → Result Walk Refusal) → ((n : ℕ) (k : Float) → next n k ≡ then n k) → step_over side next ≡ step_over side then
  step_agrees (Link n k) next then h = h n k
  step_agrees (Border weight) next then h = refl
  step_agrees Opening next then h = refl

  arrive_agrees : (at : ℕ) (sum : Float) (moves : ℕ) (next then : ℕ → Float → Result Walk Refusal) → ((n : ℕ) (k : Float) → next n k ≡ then n k)
      → arrive sides made travel watch at sum moves next ≡ arrive others made travel watch at sum moves then
  arrive_agrees at sum moves next then h = by_test (is_made made at) refl
    where
      by_test : (b : Bool) → is_made made at ≡ b
          → cond b (cond (is_link (sides at watch)) (Ok (walk_to at sum moves)) (step_over (sides at travel) next)) (Err NoPoint)
          ≡ cond b (cond (is_link (others at watch)) (Ok (walk_to at sum moves)) (step_over (others at travel) then)) (Err NoPoint)
      by_test true m = rw (agree at watch m, agree at travel m, step_agrees (others at travel) next then h)
      by_test false m = refl

  onward_agrees : (left at : ℕ) (sum : Float) (moves : ℕ) → onward left sides made travel watch at sum moves ≡ onward left others made travel watch at sum moves
  unfolding onward
  onward_agrees zero at sum moves = arrive_agrees at sum moves _ _ (λ n k. refl)
  onward_agrees (suc left) at sum moves = arrive_agrees at sum moves _ _ (λ n k. onward_agrees left n (add binary64 sum k) (moves + 1))

  pub walk_agrees : (start : ℕ) → walk_of sides made start travel watch ≡ walk_of others made start travel watch
  unfolding walk_of
  walk_agrees start = by_test (is_made made start) refl
    where
      first : Sides → ℕ → Float → Result Walk Refusal
      first over n k = onward (made - 1) over made travel watch n k 1

      by_test : (b : Bool) → is_made made start ≡ b → cond b (step_over (sides start travel) (first sides)) (Err NoPoint) ≡ cond b (step_over (others start travel) (first others)) (Err NoPoint)
      by_test true m = rw (agree start travel m, step_agrees (others start travel) (first sides) (first others) (λ n k. onward_agrees (made - 1) n k 1))
      by_test false m = refl

-- ---- a walk reaches made points alone
abbrev pub ReachesMade : ℕ → Result Walk Refusal → Type 0
ReachesMade made (Ok walk) = is_made made walk.at ≡ true
ReachesMade made (Err refusal) = Unit {0}

module _ (made : ℕ) (sides : Sides) (travel watch : TmeshDirection) where
  step_reaches : (side : Side) (next : ℕ → Float → Result Walk Refusal) → ((n : ℕ) (k : Float) → ReachesMade made (next n k)) → ReachesMade made (step_over side next)
  step_reaches (Link n k) next h = h n k
  step_reaches (Border weight) next h = tt
  step_reaches Opening next h = tt

  arrive_reaches : (at : ℕ) (sum : Float) (moves : ℕ) (next : ℕ → Float → Result Walk Refusal) → ((n : ℕ) (k : Float) → ReachesMade made (next n k)) → ReachesMade made (arrive sides made travel watch at sum moves next)
  arrive_reaches at sum moves next h = by_tests (is_made made at) (is_link (sides at watch)) refl
    where
      by_tests : (b c : Bool) → is_made made at ≡ b → ReachesMade made (cond b (cond c (Ok (walk_to at sum moves)) (step_over (sides at travel) next)) (Err NoPoint))
      by_tests true true m = m
      by_tests true false m = step_reaches (sides at travel) next h
      by_tests false c m = tt

  onward_reaches : (left at : ℕ) (sum : Float) (moves : ℕ) → ReachesMade made (onward left sides made travel watch at sum moves)
  unfolding onward
  onward_reaches zero at sum moves = arrive_reaches at sum moves _ (λ n k. tt)
  onward_reaches (suc left) at sum moves = arrive_reaches at sum moves _ (λ n k. onward_reaches left n (add binary64 sum k) (moves + 1))

  pub walk_reaches : (start : ℕ) → ReachesMade made (walk_of sides made start travel watch)
  unfolding walk_of
  walk_reaches start = by_test (is_made made start)
    where
      first : ℕ → Float → Result Walk Refusal
      first n k = onward (made - 1) sides made travel watch n k 1

      by_test : (b : Bool) → ReachesMade made (cond b (step_over (sides start travel) first) (Err NoPoint))
      by_test true = step_reaches (sides start travel) first (λ n k. onward_reaches (made - 1) n k 1)
      by_test false = tt
