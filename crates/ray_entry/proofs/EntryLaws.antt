-- Laws of an entry: it reads the sides of made points alone, and leaves a ray that marches at a made point.
use Rattle.std.specs.Prelude.{Option, Some, None, ℕ, ◌≡◌, refl, Bool, true, false, cond, Float, Err, Ok, Result}
use Rattle.std.proofs.Common.{ap, ◌∙◌}
use Rattle.std.specs.Float.{binary64}
use Rattle.std.specs.Float.Ieee.{add}
use Rattle.float64.specs.Literals.{zero_literal}
use Rattle.control_point.specs.Direction.{clockwise_of, anti_clockwise_of}
use Rattle.control_point.specs.Point.{is_made, is_border, is_opening}
use Rattle.control_point.specs.Sides.{Sides}
use Rattle.control_point.proofs.SidesLaws.{Agree}
use Rattle.control_point.specs.declared.refusal.Refusal.{Refusal}
use Rattle.control_point.specs.declared.refusal.Refusal.TheVariants.{NoPoint}
use Rattle.control_point.specs.declared.t_mesh_control_point.Side.{Side}
use Rattle.control_point.specs.declared.t_mesh_control_point.Side.TheVariants.{Link, Border, Opening}
use Rattle.control_point.specs.declared.t_mesh_direction.TmeshDirection.{TmeshDirection}
use Rattle.navigation.specs.Walk.{walk_of}
use Rattle.navigation.proofs.WalkLaws.{walk_agrees, ReachesMade, walk_reaches}
use Rattle.ray_approach.specs.Approach.{approach_of}
use Rattle.ray_approach.proofs.ApproachLaws.{approach_agrees}
use Rattle.ray_entry.specs.Entry.{on_ray, in_march, after_walk, corner_walk, side_entry, point_entry, over_face, around_face, after_approach, march_entry, entry_from, entry_of, entry_with}
use Rattle.ray_entry.specs.declared.entry.Front.{Front}
use Rattle.navigation.specs.declared.walk.Walk.{Walk}
use Rattle.ray_approach.specs.declared.approach.Approach.{Approach}
use Rattle.ray_entry.specs.declared.entry.Entry.{Entry}

-- a ray that marches stands at a made point
abbrev MadeIf : Option Float → ℕ → ℕ → Type 0
MadeIf (Some r) made at = is_made made at ≡ true
MadeIf None made at = Unit {0}

abbrev pub FrontMade : ℕ → Front → Type 0
FrontMade made front = MadeIf front.march made front.at

-- ---- over sides that agree on all made numbers
-- two readings of an entry that agree on every value and front that stands so, and on a refusal, agree on the entry from such a front
module _ {A : Type 0} (e : Float) (made : ℕ) (sides others : Sides) (agree : Agree made sides others) (d : TmeshDirection) (one other : Result Entry Refusal → A)
    (same : (value : Float) (front : Front) → FrontMade made front → one (Ok (entry_with value front)) ≡ other (Ok (entry_with value front)))
    (stopped : (refusal : Refusal) → one (Err refusal) ≡ other (Err refusal)) where
  walked_agrees : (walk : Result Walk Refusal) (next then : ℕ → Float → Result Entry Refusal) → ReachesMade made walk → ((n : ℕ) (sum : Float) → is_made made n ≡ true → one (next n sum) ≡ other (then n sum))
      → one (after_walk walk next) ≡ other (after_walk walk then)
  walked_agrees (Ok walk) next then m h = h walk.at walk.sum m
  walked_agrees (Err refusal) next then m h = stopped refusal

  after_agrees : (at : ℕ) (travel watch : TmeshDirection) (next then : ℕ → Float → Result Entry Refusal) → ((n : ℕ) (sum : Float) → is_made made n ≡ true → one (next n sum) ≡ other (then n sum))
      → one (after_walk (walk_of sides made at travel watch) next) ≡ other (after_walk (walk_of others made at travel watch) then)
  after_agrees at travel watch next then h =
      ap (λ (walk : Result Walk Refusal). one (after_walk walk next)) (walk_agrees made sides others agree travel watch at)
      ∙ walked_agrees (walk_of others made at travel watch) next then (walk_reaches made others travel watch at) h

  point_agrees : (at : ℕ) (met : Bool) → one (point_entry sides made d at met) ≡ other (point_entry others made d at met)
  point_agrees at met = by_test (is_made made at) refl
    where
      by_side : (side : Side) → one (side_entry sides made d (Ok side) at met) ≡ other (side_entry others made d (Ok side) at met)
      by_side (Link n interval) = same _ (on_ray n met) tt
      by_side (Border weight) = same _ (on_ray at true) tt
      by_side Opening =
          after_agrees at (anti_clockwise_of d) d _ _ (λ corner r c. after_agrees corner d (clockwise_of d) _ _ (λ n sum m. same (add binary64 zero_literal sum) (in_march n met r) m))

      by_test : (b : Bool) → is_made made at ≡ b
          → one (side_entry sides made d (cond b (Ok (sides at d)) (Err NoPoint)) at met) ≡ other (side_entry others made d (cond b (Ok (others at d)) (Err NoPoint)) at met)
      by_test true m = ap (λ (side : Side). one (side_entry sides made d (Ok side) at met)) (agree at d m) ∙ by_side (others at d)
      by_test false m = stopped NoPoint

  over_agrees : (at : ℕ) (met : Bool) (r : Float) → one (over_face sides made d at met r) ≡ other (over_face others made d at met r)
  over_agrees at met r = after_agrees at d (clockwise_of d) _ _ (λ n sum m. same sum (in_march n met r) m)

  around_agrees : (at : ℕ) (met : Bool) (r : Float) → is_made made at ≡ true → one (around_face sides made d at met r) ≡ other (around_face others made d at met r)
  around_agrees at met r m = ap (λ (side : Side). one (around sides (is_opening side))) (agree at d m) ∙ by_test (is_opening (others at d))
    where
      around : Sides → Bool → Result Entry Refusal
      around over b = cond b (after_walk (corner_walk over made d at) (λ corner sum. over_face over made d corner met (add binary64 r sum))) (over_face over made d at met r)

      by_test : (b : Bool) → one (around sides b) ≡ other (around others b)
      by_test true = after_agrees at (anti_clockwise_of d) d _ _ (λ corner sum c. over_agrees corner met (add binary64 r sum))
      by_test false = over_agrees at met r

  march_agrees : (at : ℕ) (met : Bool) (r : Float) → is_made made at ≡ true → one (march_entry e sides made d at met r) ≡ other (march_entry e others made d at met r)
  march_agrees at met r m = ap (λ (side : Side). one (march sides (is_border side))) (agree at d m) ∙ by_test (is_border (others at d))
    where
      march : Sides → Bool → Result Entry Refusal
      march over b = cond b (point_entry over made d at met) (after_approach over made d (approach_of e over made d at r) met)

      by_test : (b : Bool) → one (march sides b) ≡ other (march others b)
      by_test true = point_agrees at met
      by_test false =
          approach_agrees e made sides others agree d
          (λ (approach : Result Approach Refusal). one (after_approach sides made d approach met))
          (λ (approach : Result Approach Refusal). other (after_approach others made d approach met))
          (λ last. point_agrees last met) (λ last rest k. around_agrees last met rest k) stopped at r m

  pub entry_agrees : (front : Front) → FrontMade made front → one (entry_of e sides made d front) ≡ other (entry_of e others made d front)
  entry_agrees front m = by_march front.march m
    where
      by_march : (march : Option Float) → MadeIf march made front.at
          → one (entry_from e sides made d front.at front.bordered march) ≡ other (entry_from e others made d front.at front.bordered march)
      by_march (Some r) k = march_agrees front.at front.bordered r k
      by_march None k = point_agrees front.at front.bordered
