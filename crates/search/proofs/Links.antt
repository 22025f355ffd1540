-- A turn of the search, by the side that it meets and what is judged at the point moved to.
use Prim.Native.Nat.{ℕ, ◌+◌, ◌-◌, ◌<◌}
use mathlib.Core.Path.{◌≡◌, ◌∙◌, refl, sym, ap}
use native.Mathlib.Omega.{arith}
use lib.Ieee.{Float, binary64, add}
use Rattle.control_point.specs.Direction.{anti_clockwise_of}
use Rattle.control_point.specs.Point.{side_refusal}
use Rattle.control_point.specs.Sides.{Sides}
use Rattle.control_point.specs.declared.t_mesh_control_point.Side.{Side}
use Rattle.control_point.specs.declared.t_mesh_control_point.Side.TheVariants.{Link, Border, Opening}
use Rattle.control_point.specs.declared.t_mesh_direction.TmeshDirection.{TmeshDirection}
use Rattle.search.specs.Search.{judge_at, concluded, move_over, seek_from}
use Rattle.search.proofs.SearchLaws.{seek_step}
use Rattle.std.specs.Prelude.{Err, Option, Result}
use Rattle.control_point.specs.declared.refusal.Refusal.{Refusal}
use Rattle.control_point.specs.declared.t_mesh_control_point.LinkEnd.{LinkEnd}
use Rattle.search.specs.declared.search.Judged.{Judged}

-- a side that is no link: a move over it fails
pub move_refused : (side : Side) (next : ℕ → Float → Result (Option LinkEnd) Refusal) → ((n : ℕ) (k : Float) → side ≡ Link n k → ⊥) → move_over side next ≡ Err (side_refusal side)
move_refused (Link n k) next h = absurd (h n k refl)
move_refused (Border weight) next h = refl
move_refused Opening next h = refl

module _ (e : Float) (sides : Sides) (made p : ℕ) (f : TmeshDirection) (measure interval : Float) where
  -- what follows a move, with so many moves left
  unfoldable next : ℕ → Float → ℕ → Float → Result (Option LinkEnd) Refusal
  next left sum n k =
      concluded (judge_at e sides made p f n measure (add binary64 sum k)) n interval (seek_from left e sides made p f n measure (add binary64 sum k) interval)

  module _ (at : ℕ) (sum : Float) (moves : ℕ) (more : moves < made) where
    pub turn_refused : (side : Side) → side ≡ sides at (anti_clockwise_of f) → ((n : ℕ) (k : Float) → side ≡ Link n k → ⊥)
        → seek_from (made - moves) e sides made p f at measure sum interval ≡ Err (side_refusal side)
    unfolding next
    turn_refused side is h =
        seek_step e sides made p f at measure sum interval _ (made - (moves + 1)) (omega arith)
        ∙ ap (λ (x : Side). move_over x (next (made - (moves + 1)) sum)) (sym is)
        ∙ move_refused side (next (made - (moves + 1)) sum) h

    pub turn_judged : (n : ℕ) (k : Float) → Link n k ≡ sides at (anti_clockwise_of f)
        → (judged : Result Judged Refusal) → judged ≡ judge_at e sides made p f n measure (add binary64 sum k)
        → seek_from (made - moves) e sides made p f at measure sum interval
        ≡ concluded judged n interval (seek_from (made - (moves + 1)) e sides made p f n measure (add binary64 sum k) interval)
    unfolding next
    turn_judged n k is judged j =
        seek_step e sides made p f at measure sum interval _ (made - (moves + 1)) (omega arith)
        ∙ ap (λ (x : Side). move_over x (next (made - (moves + 1)) sum)) (sym is)
        ∙ ap (λ (x : Result Judged Refusal). concluded x n interval (seek_from (made - (moves + 1)) e sides made p f n measure (add binary64 sum k) interval)) (sym j)
