-- Laws of going point by point over a lent mesh, with the knots of each listed point computed, used and forgotten: a point's knots over the arrays are those of the mesh that they
-- hold, each turn fills a row that no later one touches, and the end of the turns is the knots of all or the refusal met first. e is the closeness.
use Rattle.std.specs.Prelude.{ℕ, zero, suc, ◌+◌, ◌-◌, ◌<◌, ◌≡◌, Bool, true, false, cond, List, Float, length, set, Err, Ok, Result, ⊤}
use Rattle.std.proofs.Math.Path.{refl}
use Rattle.std.proofs.Common.{sym, ap, ◌∙◌, arith, length-set, get_or-set_same, get_or-set_other}
use Rattle.std.proofs.Math.ListN.{length-replicate}
use Rattle.control_point.specs.Sides.{Sides, lent_sides}
use Rattle.control_point.specs.declared.refusal.Refusal.{Refusal}
use Rattle.control_point.specs.declared.t_mesh_control_point.TmeshControlPoint.{TmeshControlPoint}
use Rattle.grid_index.specs.Index.{no_knots, knots_in}
use Rattle.knot_vectors.specs.Knots.{AllKnots, all, none, on_all, in_row, rows_from, all_knots}
use Rattle.knot_vectors.proofs.KnotsLaws.{knots_made, rows_end, rows_passed, rows_put, rows_refused}
use Rattle.lent_mesh.specs.LentMesh.{lent_mesh, unkept, lent_map}
use Rattle.lent_mesh.specs.declared.LentMesh.{LentMesh}
use Rattle.lent_mesh.proofs.LentMeshLaws.{loose_points, mesh_held}
use Rattle.lent_points.specs.Lent.{lent_points, points_from, across_at, upwards_at, Held}
use Rattle.lent_points.proofs.LentLaws.{held_agree}
use Rattle.ray.specs.Knots.{knots_at, point_knot_vectors}
use Rattle.ray.proofs.KnotsLaws.{knots_agrees}
use Rattle.ray.specs.declared.knots.KnotsAnswer.{KnotsAnswer}
use Rattle.ray.specs.declared.knots.PointKnots.{PointKnots}
use Rattle.store.specs.Store.{store_sides}
use Rattle.store.specs.declared.store.Store.{Store}
use Rattle.t_mesh.specs.Tmesh.{listed_in, is_listed, store_of, mesh_store, blank_knots}
use Rattle.t_mesh.specs.declared.t_mesh.Mesh.{Mesh}
use Rattle.t_mesh.specs.declared.t_mesh.Tmesh.{Tmesh}

-- ---- what stands at a turn
-- The rows of the listed points below n are filled, and filling those of the points that are left gives the knots of all, or the refusal that
-- is met first.
pub record FilledTo (e : Float) (mesh : Mesh) (n : ℕ) : Type 0 where
  pub rows : List PointKnots
  pub room : length rows ≡ 128
  pub left : all_knots e (unkept mesh) ≡ rows_from e (unkept mesh) (128 - n) n rows

-- ---- a point's knots
-- over the arrays
abbrev pub lent_knots : Float → LentMesh → ℕ → KnotsAnswer
lent_knots e lent n = knots_at e (lent_sides lent.points.sides) lent.made n (across_at lent.points.coordinates n) (upwards_at lent.points.coordinates n)

-- over lent points that hold a store
stored_knots : (e : Float) (sides : Sides) (coordinates : List Float) (rest : List TmeshControlPoint) (store : Store) → Held (points_from sides coordinates) rest store → (n : ℕ)
    → knots_at e sides store.made n (across_at coordinates n) (upwards_at coordinates n) ≡ point_knot_vectors e store n
stored_knots e sides coordinates rest store held n =
    knots_made e store n sides (across_at coordinates n) (upwards_at coordinates n)
    (λ made.
    knots_agrees e store.made sides (store_sides store) (held_agree sides coordinates rest store held) n (across_at coordinates n) (upwards_at coordinates n)
    ∙ ap (λ (p : TmeshControlPoint). knots_at e (store_sides store) store.made n p.s p.t) (sym (held.held n made)))

-- ---- a row, once filled, is as it was filled
row_stays : (e : Float) (map : Tmesh) (n left more : ℕ) (rows after : List PointKnots) → n < more → rows_from e map left more rows ≡ all after → knots_in after n ≡ knots_in rows n
unfolding rows_from
row_stays e map n zero more rows after h is = cc
row_stays e map n (suc left) more rows after h is =
    by_row (rows_from e map left (more + 1)) (λ filled last. row_stays e map n left (more + 1) filled after (omega (arith, h)) last) (is_listed map more) built.outcome is
  where
    built : KnotsAnswer
    built = point_knot_vectors e (store_of map) more

    by_row : (rest : List PointKnots → AllKnots) → ((filled : List PointKnots) → rest filled ≡ all after → knots_in after n ≡ knots_in filled n)
        → (listed : Bool) (outcome : Result ⊤ Refusal) → on_all (cond listed (in_row outcome built.knots more rows) (all rows)) rest ≡ all after → knots_in after n ≡ knots_in rows n
    by_row rest stays true (Ok tt) last = stays (set rows more built.knots) last ∙ get_or-set_other rows more n built.knots no_knots (λ same. omega (arith, h, same))
    by_row rest stays true (Err refusal) last = cc
    by_row rest stays false outcome last = stays rows last

-- ---- the turns, over the arrays and in the mesh that they hold
module _ (e : Float) (lent : LentMesh) where
  abbrev map : Tmesh
  map = lent_map lent

  abbrev mesh : Mesh
  mesh = lent_mesh lent

  pub filled_none : FilledTo e mesh 0
  unfolding all_knots unkept
  filled_none = record { rows = map.knots; room = length-replicate 128 blank_knots; left = refl }

  module _ (n : ℕ) (filled : FilledTo e mesh n) where
    pub filled_all : n ≡ 128 → all_knots e map ≡ all filled.rows
    filled_all h = filled.left ∙ rows_end e map n filled.rows (128 - n) (omega (arith, h))

    module _ (h : n < 128) where
      pub filled_passed : listed_in lent.listed n ≡ false → FilledTo e mesh (n + 1)
      unfolding unkept
      filled_passed l =
          record { rows = filled.rows; room = filled.room; left = filled.left ∙ rows_passed e map n filled.rows (128 - n) (128 - (n + 1)) (omega (arith, h)) l }

      -- a listed point, with its knots as they are computed over the arrays
      module _ (built : KnotsAnswer) (k : built ≡ lent_knots e lent n) (l : listed_in lent.listed n ≡ true) where
        stored : built ≡ point_knot_vectors e (mesh_store mesh) n
        unfolding lent_points
        stored =
            k ∙ stored_knots e (lent_sides lent.points.sides) lent.points.coordinates loose_points (mesh_store mesh) (mesh_held (lent_points lent.points) lent.made lent.positions lent.listed) n

        pub filled_refused : (refusal : Refusal) → built.outcome ≡ Err refusal → all_knots e map ≡ none refusal
        unfolding unkept
        filled_refused refusal o = filled.left ∙ rows_refused e map n filled.rows (128 - n) (128 - (n + 1)) (omega (arith, h)) built stored l refusal o

        module _ (o : built.outcome ≡ Ok tt) where
          put : all_knots e map ≡ rows_from e map (128 - (n + 1)) (n + 1) (set filled.rows n built.knots)
          unfolding unkept
          put = filled.left ∙ rows_put e map n filled.rows (128 - n) (128 - (n + 1)) (omega (arith, h)) built stored l o

          pub filled_put : FilledTo e mesh (n + 1)
          filled_put = record { rows = set filled.rows n built.knots; room = length-set filled.rows n built.knots ∙ filled.room; left = put }

          -- whatever is filled later, its row is its own
          pub filled_row : (rows : List PointKnots) → all_knots e map ≡ all rows → knots_in rows n ≡ built.knots
          filled_row rows are =
              row_stays e map n (128 - (n + 1)) (n + 1) (set filled.rows n built.knots) rows (omega arith) (sym put ∙ are)
              ∙ get_or-set_same filled.rows n built.knots no_knots (omega (arith, h, filled.room))
