-- An insertion into the made points of a mesh, unpacked, and packed where they stood.
use Prim.Native.Nat.{ℕ, ◌<◌, ◌≤◌, ◌+◌}
use mathlib.Core.Path.{◌≡◌, refl, sym, ap, ◌∙◌}
use mathlib.Core.Bool.{Bool, true, false}
use mathlib.Core.List.{List}
use native.Mathlib.Omega.{arith}
use lib.Ieee.{Float}
use lib.ListN.{length}
use Rattle.control_point.specs.Point.{is_made}
use Rattle.control_point.proofs.PointLaws.{is_made_made, is_made_room, made_is_made}
use Rattle.control_point.specs.declared.t_mesh_control_point.TmeshControlPoint.{TmeshControlPoint}
use Rattle.control_point.specs.declared.t_mesh_direction.TmeshDirection.{TmeshDirection}
use Rattle.lent_points.specs.Lent.{Points, Held, FilledTo}
use Rattle.lent_points.proofs.LentLaws.{held_filled, PackedTo, held_packed}
use Rattle.insertion.specs.Insert.{is_refused, is_done, insert_point}
use Rattle.insertion.specs.Lent.{Inserts}
use Rattle.insertion.specs.declared.insertion.Inserted.{Inserted}
use Rattle.t_mesh.specs.Insertion.{answered_mesh, with_placed, insert_into_mesh}
use Rattle.t_mesh.specs.Tmesh.{mesh_store, listed_in}
use Rattle.t_mesh.specs.declared.t_mesh.Mesh.{Mesh}
use Rattle.t_mesh.specs.declared.t_mesh.Position.{Position}
use Rattle.t_mesh.proofs.InsertionLaws.{placed_made, mesh_refused, mesh_placed}
use Rattle.std.specs.Prelude.{min, Result}
use Rattle.control_point.specs.declared.refusal.Refusal.{Refusal}
use Rattle.insertion.specs.declared.insertion.Insertion.{Insertion}

-- past the made points that there is room for, none is made
last_not_made : (made n : ℕ) → min made 128 ≤ n → is_made made n ≡ false
last_not_made made n last = by_test (is_made made n) refl
  where
    by_test : (b : Bool) → is_made made n ≡ b → is_made made n ≡ false
    by_test true h = absurd (omega (arith, last, is_made_made made n h, is_made_room made n h))
    by_test false h = h

module _ (e : Float) (mesh : Mesh) (room : length mesh.points ≡ 128) (before after : Points) (n : ℕ) (last : min mesh.made 128 ≤ n) (filled : FilledTo n before mesh.points)
    (listed : Bool) (con : ℕ) (d : TmeshDirection) (ratio : Float) (answer : Result Insertion Refusal) (inserts : Inserts e before mesh.made listed con d ratio answer after) where
  -- what the definition answers
  abbrev inserted : Inserted
  inserted = insert_point e (mesh_store mesh) listed con d ratio

  answered : (answer ≡ inserted.answer) × Held after mesh.points inserted.store
  answered = inserts mesh.points (mesh_store mesh) (held_filled before (mesh_store mesh) n room (last_not_made mesh.made n last) filled) refl

  -- refused
  pub into_refused : is_refused answer ≡ true → listed ≡ listed_in mesh.listed con → (position : Position)
      → record { answer = answer; mesh = mesh } ≡ insert_into_mesh e mesh con d ratio position
  unfolding insert_into_mesh
  into_refused refused is position =
      mesh_refused mesh position answer inserted answered.0 refused
      ∙ ap (λ (l : Bool). answered_mesh mesh position (insert_point e (mesh_store mesh) l con d ratio)) is

  -- not refused
  module _ (stands : is_refused answer ≡ false) where
    pub made_more : (mesh.made < 128) × (inserted.store.made ≡ mesh.made + 1)
    made_more = placed_made e (mesh_store mesh) room listed con d ratio answer answered.0 stands

    -- all packed
    module _ (points : List TmeshControlPoint) (packed : ℕ) (within : packed ≤ mesh.made + 1) (all : mesh.made + 1 ≤ packed) (there : PackedTo packed after mesh.points points) where
      points_are : points ≡ inserted.store.points
      points_are =
          let made = inserted.store.made in
          let more = made_more in
          held_packed after mesh.points points inserted.store packed
          (omega (arith, within, more.0))
          room
          answered.1
          (λ m h. made_is_made made m (omega (arith, more.0, more.1)) (omega (arith, h, within, more.1)))
          (λ m h. omega (arith, is_made_made made m h, more.1, all))
          there

      pub into_placed : (done : Bool) → done ≡ is_done answer → listed ≡ listed_in mesh.listed con → (position : Position)
          → record { answer = answer; mesh = with_placed mesh (record { points = points; made = mesh.made + 1 }) mesh.made position done } ≡ insert_into_mesh e mesh con d ratio position
      unfolding insert_into_mesh
      into_placed done finished is position =
          mesh_placed mesh position points (mesh.made + 1) answer done inserted answered.0 stands points_are (sym made_more.1) finished
          ∙ ap (λ (l : Bool). answered_mesh mesh position (insert_point e (mesh_store mesh) l con d ratio)) is
