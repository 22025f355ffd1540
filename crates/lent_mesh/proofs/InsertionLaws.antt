-- Laws of an insertion into a lent mesh, by either rule on torn ones: points that hold a mesh before it hold, after it, the mesh that it leaves. Where it leaves no
-- point, nothing else changes; else the new point's position and whether it is listed stand under its number.
use Rattle.std.specs.Prelude.{ℕ, ◌+◌, ◌<◌, ◌≡◌, Bool, true, false, eqb, Float, length, get_or, set, Err, Ok, Result}
use Rattle.std.proofs.Math.Path.{refl, sym, ap}
use Rattle.std.proofs.Common.{◌∙◌, subst, arith, eqb-true, length-set, get_or-set_same, get_or-set_other}
use mathlib.Core.List.{List, []}
use Rattle.std.proofs.lemmas.Bool.{eqb-false}
use Rattle.control_point.specs.declared.t_mesh_control_point.TmeshControlPoint.{TmeshControlPoint}
use Rattle.control_point.specs.declared.t_mesh_direction.TmeshDirection.{TmeshDirection}
use Rattle.insertion.specs.Insert.{is_done, is_refused, insert_point}
use Rattle.insertion.proofs.InsertLaws.{refused_same}
use Rattle.insertion.specs.Withdrawal.{unless_withdrawn, leaves_point, store_by, InsertsBy}
use Rattle.insertion.proofs.WithdrawalLaws.{none_stands, leaves_stands, leaves_not_refused}
use Rattle.insertion.specs.declared.insertion.Insertion.TheVariants.{Done, Torn}
use Rattle.insertion.specs.declared.insertion.Inserted.{Inserted}
use Rattle.lent_points.specs.Lent.{Points, Held}
use Rattle.lent_points.proofs.LentLaws.{true_false}
use Rattle.t_mesh.specs.Insertion.{insert_into_mesh, mesh_by_rule}
use Rattle.t_mesh.proofs.InsertionLaws.{placed_made, mesh_refused, mesh_placed}
use Rattle.t_mesh.specs.Tmesh.{unpulled, no_place, mesh_store, listed_in}
use Rattle.t_mesh.specs.declared.add.InsertedMesh.{InsertedMesh}
use Rattle.t_mesh.specs.declared.t_mesh.Mesh.{Mesh}
use Rattle.t_mesh.specs.declared.t_mesh.Place.{Place}
use Rattle.t_mesh.specs.declared.t_mesh.Position.{Position}
use Rattle.values.specs.Values.{values_from}
use Rattle.values.proofs.ValuesLaws.{values_length, values_at, values_are}
use Rattle.lent_mesh.specs.LentMesh.{row_of, row_position, unpulled_at, mesh_over}
use Rattle.lent_mesh.proofs.LentMeshLaws.{loose_points, mesh_held, held_same}
use Rattle.control_point.specs.declared.refusal.Refusal.{Refusal}
use Rattle.insertion.specs.declared.insertion.Insertion.{Insertion}

-- ---- a row stored anew is its place stored anew
module _ (positions : List (List Float)) (room : length positions ≡ 128) (n : ℕ) (h : n < 128) (position : Position) where
  abbrev places : List Place
  places = values_from (unpulled_at positions) 128 0

  abbrev rows : List (List Float)
  rows = set positions n (row_of position)

  abbrev place_in : List Float → Place
  place_in row = unpulled (row_position row)

  place_stored : set places n (unpulled position) ≡ values_from (unpulled_at rows) 128 0
  place_stored =
      values_are (unpulled_at rows) no_place 128 (set places n (unpulled position)) (length-set places n (unpulled position) ∙ values_length (unpulled_at positions) 128 0)
      (λ m l. by_test m (eqb m n) refl l)
    where
      by_test : (m : ℕ) (same : Bool) → eqb m n ≡ same → m < 128 → get_or (set places n (unpulled position)) m no_place ≡ unpulled_at rows m
      by_test m true x l =
          ap (λ (k : ℕ). get_or (set places n (unpulled position)) k no_place) (eqb-true m n x)
          ∙ get_or-set_same places n (unpulled position) no_place (omega (arith, h, values_length (unpulled_at positions) 128 0))
          ∙ sym (ap place_in (get_or-set_same positions n (row_of position) [] (omega (arith, h, room))))
          ∙ ap (unpulled_at rows) (sym (eqb-true m n x))
      by_test m false x l =
          get_or-set_other places n m (unpulled position) no_place (eqb-false m n x)
          ∙ values_at (unpulled_at positions) no_place 128 0 m l
          ∙ ap (unpulled_at positions) (omega arith)
          ∙ sym (ap place_in (get_or-set_other positions n m (row_of position) [] (eqb-false m n x)))

-- ---- an insertion
-- what an insertion into points is to the mesh that they held: the answer is the mesh's; where it leaves no point, they hold the mesh that it leaves; else there
-- was room for the new point, and with its row and whether it is listed they hold that mesh
pub record InsertsIntoMesh (withdraws : Bool) (e : Float) (points : Points) (made : ℕ) (positions : List (List Float)) (listed : List Bool) (con : ℕ) (d : TmeshDirection) (ratio : Float) (position : Position) (answer : Result Insertion Refusal) (after : Points) : Type 0 where
  pub answered : answer ≡ (mesh_by_rule withdraws e (mesh_over points made positions listed) con d ratio position).answer
  pub unplaced : leaves_point withdraws answer ≡ false → mesh_over after made positions listed ≡ (mesh_by_rule withdraws e (mesh_over points made positions listed) con d ratio position).mesh
  pub room : leaves_point withdraws answer ≡ true → made < 128
  pub placed : leaves_point withdraws answer ≡ true → length positions ≡ 128 → (row : List Float) → row ≡ row_of position → (done : Bool) → done ≡ is_done answer
      → mesh_over after (made + 1) (set positions made row) (set listed made done) ≡ (mesh_by_rule withdraws e (mesh_over points made positions listed) con d ratio position).mesh

module _ (withdraws : Bool) (e : Float) (points : Points) (made : ℕ) (positions : List (List Float)) (listed : List Bool) (con : ℕ) (d : TmeshDirection) (ratio : Float) (position : Position) (answer : Result Insertion Refusal) (after : Points)
    (inserts : InsertsBy withdraws e points made (listed_in listed con) con d ratio answer after) where
  abbrev mesh : Mesh
  mesh = mesh_over points made positions listed

  abbrev inserted : Inserted
  inserted = insert_point e (mesh_store mesh) (listed_in listed con) con d ratio

  held_after : (answer ≡ inserted.answer) × Held after loose_points (store_by withdraws (mesh_store mesh) inserted)
  held_after = inserts loose_points (mesh_store mesh) (mesh_held points made positions listed) refl

  -- ---- no point stands
  store_kept : (a : Result Insertion Refusal) → a ≡ inserted.answer → is_refused a ≡ true → inserted.store ≡ mesh_store mesh
  store_kept (Err refusal) is h = refused_same e (mesh_store mesh) (listed_in listed con) con d ratio refusal (sym is)
  store_kept (Ok (Done opened inferred)) is h = absurd (true_false (sym h))
  store_kept (Ok (Torn opened inferred)) is h = absurd (true_false (sym h))

  mesh_kept : leaves_point withdraws answer ≡ false → mesh_over after made positions listed ≡ (mesh_by_rule withdraws e mesh con d ratio position).mesh
  unfolding insert_into_mesh
  mesh_kept none =
      let none_left = ap (leaves_point withdraws) (sym held_after.0) ∙ none in
      ap (λ (list : List TmeshControlPoint). record { points = list; made = made; places = mesh.places; listed = listed })
      (held_same after loose_points (mesh_store (mesh_over after made positions listed)) (mesh_store mesh) refl
      (mesh_held after made positions listed)
      (subst (Held after loose_points) (none_stands withdraws inserted.answer (mesh_store mesh) inserted.store (store_kept inserted.answer refl) none_left) held_after.1))
      ∙ sym
      (none_stands withdraws inserted.answer mesh (insert_into_mesh e mesh con d ratio position).mesh
      (λ refused. ap (λ (x : InsertedMesh). x.mesh) (sym (mesh_refused mesh position inserted.answer inserted refl refused)))
      none_left)

  -- ---- its point stands
  one_more : leaves_point withdraws answer ≡ true → (made < 128) × (inserted.store.made ≡ made + 1)
  one_more stands =
      placed_made e (mesh_store mesh) (mesh_held points made positions listed).room (listed_in listed con) con d ratio answer held_after.0
      (leaves_not_refused withdraws answer stands)

  -- so what the insertion left stands
  left : {A : Type 0} (before then : A) → leaves_point withdraws answer ≡ true → unless_withdrawn withdraws inserted.answer before then ≡ then
  left before then stands = leaves_stands withdraws inserted.answer before then (ap (leaves_point withdraws) (sym held_after.0) ∙ stands)

  abbrev more : Mesh
  more = mesh_over after (made + 1) (set positions made (row_of position)) (set listed made (is_done answer))

  mesh_more : leaves_point withdraws answer ≡ true → length positions ≡ 128 → (row : List Float) → row ≡ row_of position → (done : Bool) → done ≡ is_done answer
      → mesh_over after (made + 1) (set positions made row) (set listed made done) ≡ (mesh_by_rule withdraws e mesh con d ratio position).mesh
  unfolding insert_into_mesh
  mesh_more stands full row at_row done listing =
      ap (λ (r : List Float). mesh_over after (made + 1) (set positions made r) (set listed made done)) at_row
      ∙ ap (λ (b : Bool). mesh_over after (made + 1) (set positions made (row_of position)) (set listed made b)) listing
      ∙ ap (λ (places : List Place). record { points = more.points; made = made + 1; places = places; listed = more.listed })
      (sym (place_stored positions full made (one_more stands).0 position))
      ∙ ap (λ (x : InsertedMesh). x.mesh)
      (mesh_placed mesh position more.points (made + 1) answer (is_done answer) inserted held_after.0 (leaves_not_refused withdraws answer stands)
      (held_same after loose_points (mesh_store more) inserted.store (sym (one_more stands).1)
      (mesh_held after (made + 1) (set positions made (row_of position)) more.listed)
      (subst (Held after loose_points) (left (mesh_store mesh) inserted.store stands) held_after.1))
      (sym (one_more stands).1) refl)
      ∙ sym (left mesh (insert_into_mesh e mesh con d ratio position).mesh stands)

  pub lent_inserts : InsertsIntoMesh withdraws e points made positions listed con d ratio position answer after
  unfolding insert_into_mesh
  lent_inserts = record { answered = held_after.0; unplaced = mesh_kept; room = λ stands. (one_more stands).0; placed = mesh_more }
