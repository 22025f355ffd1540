-- `set_pull` meets its contract: the map follows the outcome, and where that is done the point is made.
use Prim.Native.Nat.{ℕ, ◌<◌}
use mathlib.Core.Path.{◌≡◌, ◌∙◌, sym, ap}
use native.Mathlib.Omega.{arith}
use lib.Ieee.{Float}
use lib.ListN.{set}
use Rattle.control_point.proofs.PointLaws.{is_made_room}
use Rattle.control_point.specs.Told.{outcome_told}
use Rattle.control_point.proofs.ToldLaws.{beside}
use Rattle.t_mesh.specs.declared.t_mesh.Place.{Place}
use Rattle.t_mesh.specs.declared.t_mesh.Tmesh.{Tmesh}
use Rattle.pull.specs.Pull.{pull_outcome, set_pull, pull_table}
use Rattle.pull.proofs.PullLaws.{done_made, pull_done, pull_refused, pull_told}
use Rattle.pull.specs.declared.Pulled.{Pulled}
use Rattle.pull.proofs.set_pull.Goals as goal
use Rattle.std.specs.Prelude.{Ok, Result, ⊤}
use Rattle.control_point.specs.declared.refusal.Refusal.{Refusal}

-- both promises from the first
promised : (map : Tmesh) (n : ℕ) (pull : Float) (r : Pulled) → r ≡ set_pull map n pull → (r ≡ set_pull map n pull) × (outcome_told r.outcome ≡ pull_table map n pull)
promised map n pull r = beside (λ (x : Pulled). outcome_told x.outcome) (set_pull map n pull) (pull_table map n pull) (pull_told map n pull) r

-- a point that is made has a place
room : (made n : ℕ) (pull : Float) (outcome : Result ⊤ Refusal) → outcome ≡ pull_outcome made n pull → outcome ≡ Ok tt → n < 128
room made n pull outcome is done = is_made_room made n (done_made made n pull (sym done ∙ is))

pub bounds-mesh-n : goal.bounds-mesh-n
bounds-mesh-n c =
    let a = c.args in
    omega (arith, room a.map.mesh.made a.n a.pull c.pull_outcome-outcome.result c.pull_outcome-outcome.ensures c.in-Ok.is)

pub bounds-mesh-n-in-Ok : goal.bounds-mesh-n-in-Ok
bounds-mesh-n-in-Ok c =
    let a = c.args in
    omega (arith, room a.map.mesh.made a.n a.pull c.pull_outcome-outcome.result c.pull_outcome-outcome.ensures c.in-Ok.is)

pub returns-in-Ok : goal.returns-in-Ok
returns-in-Ok c =
    let all = (let a = c.args in
    let mesh = a.map.mesh in
    promised a.map a.n a.pull _
    (ap (λ (place : Place). record { outcome = c.pull_outcome-outcome.result; map = record { mesh = record { points = mesh.points; made = mesh.made; places = set mesh.places a.n place; listed = mesh.listed }; kept = a.map.kept; knots = a.map.knots; index = a.map.index } }) c.repulled-place.ensures
    ∙ pull_done a.map a.n a.pull c.pull_outcome-outcome.result c.pull_outcome-outcome.ensures c.in-Ok.is)) in record { is = all.0; told = all.1 }

pub returns-in_default : goal.returns-in_default
returns-in_default c =
    let all = (let a = c.args in
    promised a.map a.n a.pull _ (pull_refused a.map a.n a.pull c.pull_outcome-outcome.result c.pull_outcome-outcome.ensures _ c.in_default.is)) in record { is = all.0; told = all.1 }
