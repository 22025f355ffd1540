-- A walk does what its answer says, by induction on the moves left: those made and those left are as many as the points.
use Prim.Native.Nat.{ℕ, zero, suc, ◌≤◌, ◌+◌, ◌-◌}
use Rattle.std.specs.Prelude.{◌≡◌, refl, false, Float, Err, Ok, Result}
use Rattle.std.proofs.Math.Path.{ap, subst}
use Rattle.std.proofs.Common.{arith}
use Rattle.std.specs.Float.Ieee.{binary64, add}
use Rattle.control_point.specs.Point.{is_link, is_made}
use Rattle.control_point.proofs.PointLaws.{is_made_made}
use Rattle.control_point.specs.Refusal.{refusal_number}
use Rattle.control_point.specs.Sides.{Sides}
use Rattle.navigation.specs.Walk.{walk_number, step_over, arrive, onward, walk_of}
use Rattle.control_point.specs.declared.t_mesh_direction.TmeshDirection.{TmeshDirection}
use Rattle.control_point.specs.declared.t_mesh_control_point.Side.{Side}
use Rattle.control_point.specs.declared.t_mesh_control_point.Side.TheVariants.{Link, Border, Opening}
use Rattle.counting.proofs.BoolLaws.{cond_case}
use Rattle.mirror.specs.Theorems.{Moved, first, next, Walked, Ringed, MovesAreSteps, RingIsNeeded}
use Rattle.control_point.specs.declared.refusal.Refusal.{Refusal}
use Rattle.navigation.specs.declared.walk.Walk.{Walk}

module _ (sides : Sides) (made start : ℕ) (travel watch : TmeshDirection) where
  -- what an answer says
  abbrev Says : Result Walk Refusal → Type 0
  Says (Ok walk) = Walked sides made start travel watch walk.at walk.sum walk.moves
  Says (Err refusal) = refusal_number refusal ≡ 9 → Ringed sides made start travel watch

  -- over a side: said by the walk from the next point, for a side that is no link is no ring
  over : (side : Side) (go : ℕ → Float → Result Walk Refusal) → ((n : ℕ) (interval : Float) → side ≡ Link n interval → Says (go n interval))
      → Says (step_over side go)
  over (Link n interval) go says = says n interval refl
  over (Border weight) go says = λ h. absurd (omega arith)
  over Opening go says = λ h. absurd (omega arith)

  module _ (at : ℕ) (sum : Float) (moves : ℕ) (some : 1 ≤ moves) (few : moves ≤ made) (way : Moved sides travel watch start moves at sum) where
    -- at a point: said there, or by the walk from the next point
    arrives : (go : ℕ → Float → Result Walk Refusal)
        → ((n : ℕ) (interval : Float) → is_link (sides at watch) ≡ false → sides at travel ≡ Link n interval → Says (go n interval))
        → Says (arrive sides made travel watch at sum moves go)
    arrives go says =
        cond_case (is_made made at) Says _ _
        (λ h.
        cond_case (is_link (sides at watch)) Says _ _
        (λ w. record { some = some; few = few; way = way; leads = is_made_made made at h; watched = w })
        (λ w. over (sides at travel) go (λ n interval e. says n interval w e)))
        (λ h nine. absurd (omega arith))

  onwards : (left at : ℕ) (sum : Float) (moves : ℕ) → 1 ≤ moves → moves + left ≡ made → Moved sides travel watch start moves at sum
      → Says (onward left sides made travel watch at sum moves)
  unfolding onward
  onwards zero at sum moves some total way =
      arrives at sum moves some (omega arith) way _
      (λ n interval w e nine.
      record {
        at = at;
        sum = sum;
        way = subst (λ (m : ℕ). Moved sides travel watch start m at sum) (omega arith) way;
        unwatched = w;
        onwards = ap is_link e;
      })
  onwards (suc left) at sum moves some total way =
      arrives at sum moves some (omega arith) way _
      (λ n interval w e. onwards left n (add binary64 sum interval) (moves + 1) (omega arith) (omega arith) (next way w e))

  walks : Says (walk_of sides made start travel watch)
  unfolding walk_of
  walks =
      cond_case (is_made made start) Says _ _
      (λ h.
      over (sides start travel) _
      (λ n interval e. onwards (made - 1) n interval 1 (omega arith) (let l = is_made_made made start h in omega arith) (first e)))
      (λ h nine. absurd (omega arith))

  nine_says : (walk : Result Walk Refusal) → Says walk → walk_number walk ≡ 9 → Ringed sides made start travel watch
  nine_says (Ok walk) says nine = absurd (omega arith)
  nine_says (Err refusal) says nine = says nine

pub moves_are_steps : MovesAreSteps
moves_are_steps sides made start travel watch n sum moves e = subst (Says sides made start travel watch) e (walks sides made start travel watch)

pub ring_is_needed : RingIsNeeded
ring_is_needed sides made start travel watch nine =
    nine_says sides made start travel watch (walk_of sides made start travel watch) (walks sides made start travel watch) nine
