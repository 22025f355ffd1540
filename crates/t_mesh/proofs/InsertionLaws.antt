-- Laws of insertion. The mesh goes by the answer of an insertion into its store; an insertion into a map is one into its mesh, and its
-- answer says whether kept knots are still kept.
use Rattle.std.specs.Prelude.{ℕ, ◌<◌, ◌+◌, ◌≡◌, refl, Bool, true, false, cond, List, Float, length, Result}
use Rattle.std.proofs.Common.{◌∙◌, ap, sym}
use Rattle.control_point.specs.declared.t_mesh_control_point.TmeshControlPoint.{TmeshControlPoint}
use Rattle.control_point.specs.declared.t_mesh_direction.TmeshDirection.{TmeshDirection}
use Rattle.insertion.specs.Insert.{insert_told, is_done, is_torn, is_refused, insert_point}
use Rattle.insertion.specs.Table.{insertion_table}
use Rattle.insertion.proofs.TableLaws.{insertion_told}
use Rattle.insertion.proofs.LentLaws.{inserted_made}
use Rattle.insertion.specs.declared.insertion.Inserted.{Inserted}
use Rattle.lent_points.proofs.LentLaws.{true_false}
use Rattle.store.specs.declared.store.Store.{Store}
use Rattle.t_mesh.specs.Insertion.{with_placed, answered_mesh, insert_into_mesh, kept_after, add_control_point, added_by, add_by_rule}
use Rattle.t_mesh.specs.Tmesh.{store_of, is_listed}
use Rattle.t_mesh.specs.declared.add.Added.{Added}
use Rattle.t_mesh.specs.declared.add.InsertedMesh.{InsertedMesh}
use Rattle.t_mesh.specs.declared.t_mesh.Position.{Position}
use Rattle.t_mesh.specs.declared.t_mesh.Mesh.{Mesh}
use Rattle.t_mesh.specs.declared.t_mesh.Tmesh.{Tmesh}
use Rattle.control_point.specs.declared.refusal.Refusal.{Refusal}
use Rattle.insertion.specs.declared.insertion.Insertion.{Insertion}

-- not refused, there was room for the point, and it is made
pub placed_made : (e : Float) (store : Store) → length store.points ≡ 128 → (listed : Bool) (con : ℕ) (d : TmeshDirection) (ratio : Float) (answer : Result Insertion Refusal)
    → answer ≡ (insert_point e store listed con d ratio).answer → is_refused answer ≡ false
    → (store.made < 128) × ((insert_point e store listed con d ratio).store.made ≡ store.made + 1)
placed_made e store room listed con d ratio answer is stands =
    inserted_made e store room listed con d ratio (λ refusal h. true_false (sym (ap is_refused (is ∙ h)) ∙ stands))

-- refused, the mesh is as it was; else it has the point
pub mesh_refused : (mesh : Mesh) (position : Position) (answer : Result Insertion Refusal) (result : Inserted) → answer ≡ result.answer → is_refused answer ≡ true
    → record { answer = answer; mesh = mesh } ≡ answered_mesh mesh position result
mesh_refused mesh position answer result is refused =
    ap (λ (b : Bool). record { answer = answer; mesh = cond b mesh (with_placed mesh result.store mesh.made position (is_done answer)) }) (sym refused)
    ∙ ap (λ (a : Result Insertion Refusal). answered_mesh mesh position (record { answer = a; store = result.store })) is

pub mesh_placed : (mesh : Mesh) (position : Position) (points : List TmeshControlPoint) (made : ℕ) (answer : Result Insertion Refusal) (listed : Bool) (result : Inserted)
    → answer ≡ result.answer → is_refused answer ≡ false → points ≡ result.store.points → made ≡ result.store.made → listed ≡ is_done answer
    → record { answer = answer; mesh = with_placed mesh (record { points = points; made = made }) mesh.made position listed } ≡ answered_mesh mesh position result
mesh_placed mesh position points made answer listed result is stands points_are made_is listed_is =
    rw (points_are, made_is, listed_is)
    (ap (λ (b : Bool). record { answer = answer; mesh = cond b mesh (with_placed mesh result.store mesh.made position (is_done answer)) }) (sym stands)
    ∙ ap (λ (a : Result Insertion Refusal). answered_mesh mesh position (record { answer = a; store = result.store })) is)

-- a map with the mesh that an insertion left
abbrev pub added_to : Tmesh → InsertedMesh → Added
added_to map inserted =
    record { answer = inserted.answer; map = record { mesh = inserted.mesh; kept = kept_after map.kept inserted.answer; knots = map.knots; index = map.index } }

pub added_by_mesh : (e : Float) (map : Tmesh) (con : ℕ) (d : TmeshDirection) (ratio : Float) (position : Position)
    → added_to map (insert_into_mesh e map.mesh con d ratio position) ≡ add_control_point e map con d ratio position
unfolding insert_into_mesh add_control_point
added_by_mesh e map con d ratio position = refl

-- ---- by either rule on torn ones
-- where they stay, it is the source's
pub added_staying : (e : Float) (map : Tmesh) (con : ℕ) (d : TmeshDirection) (ratio : Float) (position : Position)
    → add_by_rule false e map con d ratio position ≡ add_control_point e map con d ratio position
added_staying e map con d ratio position = refl

-- where they are withdrawn: torn, the map is the one before it, else the one after it
module _ (map : Tmesh) (added result : Added) (is : result ≡ added) where
  pub added_withdrawn : is_torn result.answer ≡ true → record { answer = result.answer; map = map } ≡ added_by true map added
  added_withdrawn torn =
      ap (λ (b : Bool). record { answer = result.answer; map = cond b map result.map }) (sym torn) ∙ ap (added_by true map) is

  pub added_untorn : is_torn result.answer ≡ false → result ≡ added_by true map added
  added_untorn stands =
      ap (λ (b : Bool). record { answer = result.answer; map = cond b map result.map }) (sym stands) ∙ ap (added_by true map) is

-- ---- it tells what the table of an insertion says
pub added_told : (e : Float) (map : Tmesh) (con : ℕ) (d : TmeshDirection) (ratio : Float) (position : Position)
    → insert_told (add_control_point e map con d ratio position).answer ≡ insertion_table e (store_of map) (is_listed map con) con d ratio
unfolding add_control_point
added_told e map con d ratio position = insertion_told e (store_of map) con d ratio (is_listed map con)
