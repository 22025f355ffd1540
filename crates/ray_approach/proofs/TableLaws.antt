-- An approach tells what its table says.
use Prim.Native.Nat.{ℕ, zero, suc}
use Rattle.std.specs.Prelude.{◌≡◌, Bool, true, false, cond, Float, Err, Ok, Result}
use Rattle.std.proofs.Math.Path.{refl}
use Rattle.std.specs.Float.{binary64}
use Rattle.std.specs.Float.Ieee.{sub, lt}
use Rattle.float64.specs.Literals.{zero_literal}
use Rattle.control_point.specs.Direction.{clockwise_of}
use Rattle.control_point.specs.Sides.{Sides}
use Rattle.control_point.specs.Small.{small}
use Rattle.control_point.specs.Told.{Told, refusal_told}
use Rattle.control_point.specs.declared.t_mesh_direction.TmeshDirection.{TmeshDirection}
use Rattle.navigation.specs.Table.{walked_table}
use Rattle.navigation.specs.Walk.{walk_of}
use Rattle.ray_approach.specs.Approach.{approach_round, approach_in, approach_of}
use Rattle.ray_approach.specs.Table.{round_table, rounds_table, approach_table}
use Rattle.ray_approach.specs.declared.approach.Approach.TheVariants.{Aligned, Crossed}
use Rattle.control_point.specs.declared.refusal.Refusal.{Refusal}
use Rattle.navigation.specs.declared.walk.Walk.{Walk}
use Rattle.ray_approach.specs.declared.approach.Approach.{Approach}

-- what is told after an approach: its refusal's number, or what is told from where it ends
abbrev pub approach_told : (ℕ → Told) → (ℕ → Float → Told) → Result Approach Refusal → Told
approach_told aligned crossed (Ok (Aligned at)) = aligned at
approach_told aligned crossed (Ok (Crossed at r)) = crossed at r
approach_told aligned crossed (Err refusal) = refusal_told refusal

module _ (e : Float) (sides : Sides) (made : ℕ) (d : TmeshDirection) (aligned : ℕ → Told) (crossed : ℕ → Float → Told) where
  round_told : (at : ℕ) (r : Float) (again : ℕ → Float → Result Approach Refusal) (table : ℕ → Float → Told) → ((n : ℕ) (rest : Float) → approach_told aligned crossed (again n rest) ≡ table n rest)
      → (walk : Result Walk Refusal) → approach_told aligned crossed (approach_round e walk at r again) ≡ walked_table walk (round_table e sides made d aligned crossed at r table)
  round_told at r again table h (Ok walk) = by_tests (small e (sub binary64 r walk.sum)) (lt (sub binary64 r walk.sum) zero_literal)
    where
      by_tests : (near negative : Bool)
          → approach_told aligned crossed (cond near (Ok (Aligned at)) (cond negative (Ok (Crossed at r)) (again walk.at (sub binary64 r walk.sum))))
          ≡ cond near (aligned at) (cond negative (crossed at r) (table walk.at (sub binary64 r walk.sum)))
      by_tests true negative = refl
      by_tests false true = refl
      by_tests false false = h walk.at (sub binary64 r walk.sum)
  round_told at r again table h (Err refusal) = refl

  rounds_told : (left at : ℕ) (r : Float) → approach_told aligned crossed (approach_in e sides made d left at r) ≡ rounds_table e sides made d aligned crossed left at r
  unfolding approach_in rounds_table
  rounds_told zero at r = refl
  rounds_told (suc left) at r = round_told at r _ _ (λ n rest. rounds_told left n rest) (walk_of sides made at (clockwise_of d) d)

  pub approach_told_lem : (at : ℕ) (r : Float) → approach_told aligned crossed (approach_of e sides made d at r) ≡ approach_table e sides made d aligned crossed at r
  unfolding approach_of
  approach_told_lem at r = rounds_told made at r
