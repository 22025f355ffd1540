-- A walk tells what its table says, and its number is that of what it tells.
use Prim.Native.Nat.{ℕ, zero, suc, ◌+◌, ◌-◌}
use Rattle.std.specs.Prelude.{◌≡◌, Bool, cond, Float, Err, Ok, Result}
use Rattle.std.proofs.Math.Path.{refl}
use Rattle.std.proofs.Math.Bool.{true, false}
use Rattle.std.specs.Float.Ieee.{binary64, add}
use Rattle.control_point.specs.Point.{is_made, is_link}
use Rattle.control_point.specs.Sides.{Sides}
use Rattle.control_point.specs.Told.{Told, unless, number_of}
use Rattle.control_point.specs.declared.refusal.Refusal.TheVariants.{NoPoint}
use Rattle.control_point.specs.declared.t_mesh_control_point.Side.{Side}
use Rattle.control_point.specs.declared.t_mesh_control_point.Side.TheVariants.{Link, Border, Opening}
use Rattle.control_point.specs.declared.t_mesh_direction.TmeshDirection.{TmeshDirection}
use Rattle.navigation.specs.Table.{step_table, arrive_table, onward_table, walk_table}
use Rattle.navigation.specs.Walk.{reached_told, walk_told, walk_number, step_over, arrive, onward, walk_of, walk_to}
use Rattle.control_point.specs.declared.refusal.Refusal.{Refusal}
use Rattle.navigation.specs.declared.walk.Walk.{Walk}

step_told : (side : Side) (next : ℕ → Float → Result Walk Refusal) (tells-next : ℕ → Float → Told) → ((n : ℕ) (interval : Float) → walk_told (next n interval) ≡ tells-next n interval)
    → walk_told (step_over side next) ≡ step_table side tells-next
step_told (Link n interval) next tells-next h = h n interval
step_told (Border weight) next tells-next h = refl
step_told Opening next tells-next h = refl

module _ (sides : Sides) (made : ℕ) (travel watch : TmeshDirection) where
  arrive_told : (at : ℕ) (sum : Float) (moves : ℕ) (next : ℕ → Float → Result Walk Refusal) (tells-next : ℕ → Float → Told) → ((n : ℕ) (interval : Float) → walk_told (next n interval) ≡ tells-next n interval)
      → walk_told (arrive sides made travel watch at sum moves next) ≡ arrive_table sides made travel watch at sum moves tells-next
  arrive_told at sum moves next tells-next h = by_tests (is_made made at) (is_link (sides at watch))
    where
      by_tests : (a b : Bool)
          → walk_told (cond a (cond b (Ok (walk_to at sum moves)) (step_over (sides at travel) next)) (Err NoPoint))
          ≡ unless 11 a (cond b (reached_told at sum moves) (step_table (sides at travel) tells-next))
      by_tests true true = refl
      by_tests true false = step_told (sides at travel) next tells-next h
      by_tests false b = refl

  onward_told : (left at : ℕ) (sum : Float) (moves : ℕ) → walk_told (onward left sides made travel watch at sum moves) ≡ onward_table left sides made travel watch at sum moves
  unfolding onward onward_table
  onward_told zero at sum moves = arrive_told at sum moves _ _ (λ n interval. refl)
  onward_told (suc left) at sum moves = arrive_told at sum moves _ _ (λ n interval. onward_told left n (add binary64 sum interval) (moves + 1))

  pub walk_told_lem : (start : ℕ) → walk_told (walk_of sides made start travel watch) ≡ walk_table sides made start travel watch
  unfolding walk_of walk_table
  walk_told_lem start = by_test (is_made made start)
    where
      by_test : (a : Bool)
          → walk_told (cond a (step_over (sides start travel) (λ n interval. onward (made - 1) sides made travel watch n interval 1)) (Err NoPoint))
          ≡ unless 11 a (step_table (sides start travel) (λ n interval. onward_table (made - 1) sides made travel watch n interval 1))
      by_test true = step_told (sides start travel) _ _ (λ n interval. onward_told (made - 1) n interval 1)
      by_test false = refl

pub walk_numbered : (walk : Result Walk Refusal) → number_of walk ≡ walk_number walk
walk_numbered (Ok walk) = refl
walk_numbered (Err refusal) = refl
