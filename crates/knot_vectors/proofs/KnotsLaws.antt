-- Laws of the knots of a map: a point's knots over the sides of its store, a turn of the loop over the numbers, and the map that keeps what it built.
use Rattle.std.specs.Prelude.{ℕ, suc, ◌+◌, ◌≡◌, refl, Bool, List, Float, set, Err, Ok, Result, ⊤}
use Rattle.std.proofs.Common.{sym, ap, ◌∙◌}
use Rattle.std.proofs.Math.Bool.{true, false}
use Rattle.control_point.specs.Point.{is_made}
use Rattle.control_point.specs.Sides.{Sides}
use Rattle.control_point.specs.declared.refusal.Refusal.{Refusal}
use Rattle.control_point.specs.declared.t_mesh_direction.TmeshDirection.TheVariants.{Up}
use Rattle.grid_index.specs.Index.{index_of}
use Rattle.grid_index.specs.declared.Index.{Index}
use Rattle.ray.specs.Knots.{knots_at, point_knot_vectors}
use Rattle.ray.proofs.RayLaws.{ray_unmade}
use Rattle.ray.specs.declared.knots.KnotsAnswer.{KnotsAnswer}
use Rattle.ray.specs.declared.knots.PointKnots.{PointKnots}
use Rattle.store.specs.Store.{store_sides, store_point}
use Rattle.store.proofs.TablesLaws.{refused_not}
use Rattle.store.specs.declared.store.Store.{Store}
use Rattle.t_mesh.specs.Tmesh.{store_of, is_listed}
use Rattle.t_mesh.specs.declared.t_mesh.Tmesh.{Tmesh}
use Rattle.knot_vectors.specs.Knots.{AllKnots, all, none, on_all, in_row, with_row, rows_from, keeping, held_knots}
use Rattle.knot_vectors.specs.declared.knots.ListedKnots.{ListedKnots}

-- ---- a point's knots over sides
module _ (e : Float) (store : Store) (n : ℕ) (sides : Sides) where
  abbrev over : Float → Float → KnotsAnswer
  over s t = knots_at e sides store.made n s t

  abbrev over_store : KnotsAnswer
  over_store = knots_at e (store_sides store) store.made n (store_point store n).s (store_point store n).t

  -- they are its store's if they are so where the number is made; where it was never made, its rays say so
  module _ (s t : Float) (same : is_made store.made n ≡ true → over s t ≡ over_store) where
    by_made : (b : Bool) → is_made store.made n ≡ b → over s t ≡ point_knot_vectors e store n
    unfolding point_knot_vectors knots_at
    by_made true h = simp h (same h)
    by_made false h = simp (h, ray_unmade e sides store.made Up n 2 h)

    pub knots_made : over s t ≡ point_knot_vectors e store n
    knots_made = by_made (is_made store.made n) refl

  pub knots_over : sides ≡ store_sides store → over (store_point store n).s (store_point store n).t ≡ point_knot_vectors e store n
  knots_over h = knots_made _ _ (λ made. ap (λ (f : Sides). knots_at e f store.made n (store_point store n).s (store_point store n).t) h)

-- ---- a turn of the loop
module _ (e : Float) (map : Tmesh) (n : ℕ) (rows : List PointKnots) where
  pub rows_end : (left : ℕ) → left ≡ 0 → rows_from e map left n rows ≡ all rows
  unfolding rows_from
  rows_end left h = simp h

  rows_step : (left more : ℕ) → left ≡ suc more
      → rows_from e map left n rows ≡ on_all (with_row e map n rows) (λ filled. rows_from e map more (n + 1) filled)
  unfolding rows_from
  rows_step left more h = simp h

  module _ (left more : ℕ) (h : left ≡ suc more) where
    pub rows_passed : is_listed map n ≡ false → rows_from e map left n rows ≡ rows_from e map more (n + 1) rows
    rows_passed l = rows_step left more h ∙ simp l

    module _ (built : KnotsAnswer) (k : built ≡ point_knot_vectors e (store_of map) n) (l : is_listed map n ≡ true) where
      in_row_lem : rows_from e map left n rows ≡ on_all (in_row built.outcome built.knots n rows) (λ filled. rows_from e map more (n + 1) filled)
      in_row_lem = rows_step left more h ∙ simp (l, sym k)

      pub rows_put : built.outcome ≡ Ok tt → rows_from e map left n rows ≡ rows_from e map more (n + 1) (set rows n built.knots)
      rows_put o = in_row_lem ∙ simp o

      pub rows_refused : (refusal : Refusal) → built.outcome ≡ Err refusal → rows_from e map left n rows ≡ none refusal
      rows_refused refusal o = in_row_lem ∙ simp o

-- ---- the map that keeps them
-- by what was built and how it came out: done, with the index of it; refused, the map as it was
module _ (map : Tmesh) where
  pub keeping_done : (rows : AllKnots) (held : ListedKnots) → held ≡ held_knots map.knots rows → held.outcome ≡ Ok tt → (index : Index) → index ≡ index_of map.mesh.listed held.knots
      → record { outcome = Ok tt; map = record { mesh = map.mesh; kept = true; knots = held.knots; index = index } } ≡ keeping map rows
  keeping_done (all rows) held is done index i =
      ap (λ (x : Index). record { outcome = Ok tt; map = record { mesh = map.mesh; kept = true; knots = held.knots; index = x } }) i
      ∙ ap (λ (x : ListedKnots). keeping map (all x.knots)) is
  keeping_done (none refusal) held is done index i = refused_not refusal (sym (ap (λ (x : ListedKnots). x.outcome) is) ∙ done)

  pub keeping_refused : (rows : AllKnots) (held : ListedKnots) → held ≡ held_knots map.knots rows → (refusal : Refusal) → held.outcome ≡ Err refusal
      → record { outcome = Err refusal; map = map } ≡ keeping map rows
  keeping_refused (all rows) held is refusal refused = refused_not refusal (sym refused ∙ ap (λ (x : ListedKnots). x.outcome) is)
  keeping_refused (none met) held is refusal refused =
      ap (λ (outcome : Result ⊤ Refusal). record { outcome = outcome; map = map }) (sym refused ∙ ap (λ (x : ListedKnots). x.outcome) is)
