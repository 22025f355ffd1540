-- By either rule on torn ones, an insertion leaves the map before it or the map that the source's insertion leaves; so what holds of both holds after it.
use Rattle.std.specs.Prelude.{ℕ, Bool, Float}
use Rattle.control_point.specs.declared.t_mesh_direction.TmeshDirection.{TmeshDirection}
use Rattle.insertion.specs.Withdrawal.{is_withdrawn}
use Rattle.t_mesh.specs.Insertion.{add_control_point, add_by_rule}
use Rattle.t_mesh.specs.declared.t_mesh.Position.{Position}
use Rattle.t_mesh.specs.declared.t_mesh.Tmesh.{Tmesh}
use Rattle.counting.proofs.BoolLaws.{cond_case}

pub by_either_rule : (Holds : Tmesh → Type 0) (withdraws : Bool) (e : Float) (map : Tmesh) (con : ℕ) (d : TmeshDirection) (ratio : Float) (position : Position)
    → Holds map → Holds (add_control_point e map con d ratio position).map → Holds (add_by_rule withdraws e map con d ratio position).map
by_either_rule Holds withdraws e map con d ratio position before after =
    cond_case (is_withdrawn withdraws (add_control_point e map con d ratio position).answer) Holds _ _ (λ _. before) (λ _. after)
