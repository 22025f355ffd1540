-- Laws of the approach: what it is with no round left, and with one; and that it reads the sides of made points alone and ends at one.
use Prim.Native.Nat.{ℕ, zero, suc}
use Rattle.std.specs.Prelude.{◌≡◌, Bool, true, false, cond, Float, Err, Ok, Result}
use Rattle.std.proofs.Math.Path.{ap}
use Rattle.std.proofs.Common.{◌∙◌}
use Rattle.std.specs.Float.{binary64}
use Rattle.std.specs.Float.Ieee.{sub, lt}
use Rattle.float64.specs.Literals.{zero_literal}
use Rattle.control_point.specs.Direction.{clockwise_of}
use Rattle.control_point.specs.Point.{is_made}
use Rattle.control_point.specs.Sides.{Sides}
use Rattle.control_point.proofs.SidesLaws.{Agree}
use Rattle.control_point.specs.Small.{small}
use Rattle.navigation.specs.Walk.{walk_of}
use Rattle.navigation.proofs.WalkLaws.{walk_agrees, ReachesMade, walk_reaches}
use Rattle.control_point.specs.declared.refusal.Refusal.{Refusal}
use Rattle.control_point.specs.declared.refusal.Refusal.TheVariants.{Ring}
use Rattle.control_point.specs.declared.t_mesh_direction.TmeshDirection.{TmeshDirection}
use Rattle.ray_approach.specs.Approach.{approach_in, approach_round, approach_of}
use Rattle.ray_approach.specs.declared.approach.Approach.TheVariants.{Aligned, Crossed}
use Rattle.navigation.specs.declared.walk.Walk.{Walk}
use Rattle.ray_approach.specs.declared.approach.Approach.{Approach}

module _ (e : Float) (sides : Sides) (made : ℕ) (d : TmeshDirection) (at : ℕ) (r : Float) where
  pub approach_ring : (left : ℕ) → left ≡ 0 → approach_in e sides made d left at r ≡ Err Ring
  unfolding approach_in
  approach_ring left h = simp h

  pub approach_round_lem : (left more : ℕ) → left ≡ suc more
      → approach_in e sides made d left at r
      ≡ approach_round e (walk_of sides made at (clockwise_of d) d) at r (λ n rest. approach_in e sides made d more n rest)
  unfolding approach_in
  approach_round_lem left more h = simp h

-- ---- over sides that agree on all made numbers
-- two readings of an approach that agree where it is aligned, where it crossed at a made point, and where it is refused, agree on an approach from a made point
module _ {A : Type 0} (e : Float) (made : ℕ) (sides others : Sides) (agree : Agree made sides others) (d : TmeshDirection) (one other : Result Approach Refusal → A)
    (aligned : (at : ℕ) → one (Ok (Aligned at)) ≡ other (Ok (Aligned at)))
    (crossed : (at : ℕ) (r : Float) → is_made made at ≡ true → one (Ok (Crossed at r)) ≡ other (Ok (Crossed at r)))
    (stopped : (refusal : Refusal) → one (Err refusal) ≡ other (Err refusal)) where
  round_agrees : (walk : Result Walk Refusal) (at : ℕ) (r : Float) (again then : ℕ → Float → Result Approach Refusal) → ReachesMade made walk → is_made made at ≡ true
      → ((n : ℕ) (rest : Float) → is_made made n ≡ true → one (again n rest) ≡ other (then n rest))
      → one (approach_round e walk at r again) ≡ other (approach_round e walk at r then)
  round_agrees (Ok walk) at r again then reached m h = by_tests (small e (sub binary64 r walk.sum)) (lt (sub binary64 r walk.sum) zero_literal)
    where
      by_tests : (near negative : Bool)
          → one (cond near (Ok (Aligned at)) (cond negative (Ok (Crossed at r)) (again walk.at (sub binary64 r walk.sum))))
          ≡ other (cond near (Ok (Aligned at)) (cond negative (Ok (Crossed at r)) (then walk.at (sub binary64 r walk.sum))))
      by_tests true negative = aligned at
      by_tests false true = crossed at r m
      by_tests false false = h walk.at (sub binary64 r walk.sum) reached
  round_agrees (Err refusal) at r again then reached m h = stopped refusal

  in_agrees : (left at : ℕ) (r : Float) → is_made made at ≡ true → one (approach_in e sides made d left at r) ≡ other (approach_in e others made d left at r)
  unfolding approach_in
  in_agrees zero at r m = stopped Ring
  in_agrees (suc left) at r m =
      ap (λ (walk : Result Walk Refusal). one (approach_round e walk at r (λ n rest. approach_in e sides made d left n rest))) (walk_agrees made sides others agree (clockwise_of d) d at)
      ∙ round_agrees (walk_of others made at (clockwise_of d) d) at r _ _ (walk_reaches made others (clockwise_of d) d at) m (λ n rest k. in_agrees left n rest k)

  pub approach_agrees : (at : ℕ) (r : Float) → is_made made at ≡ true → one (approach_of e sides made d at r) ≡ other (approach_of e others made d at r)
  unfolding approach_of
  approach_agrees at r m = in_agrees made at r m
