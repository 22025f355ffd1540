-- A map lent for evaluation: of each point its knots across, its knots upwards, its place (its position and its pull) and whether it is listed, each in an array of its
-- own. A map is lent with its knots kept, those that it keeps or those built, as `subs` has them; where building them is refused nothing is
-- lent. e is the closeness.
use Rattle.std.specs.Prelude.{ℕ, Bool, true, false, List, [], ◌∷◌, map, ◌≡◌, Float, length, get_or, replicate, Err, Ok, Result, ⊤}
use Rattle.std.specs.Float.{nan}
use Rattle.float64.specs.Literals.{zero_literal}
use Rattle.control_point.specs.Told.{Told, tells}
use Rattle.store.specs.Store.{empty_store}
use Rattle.values.specs.Values.{values_from}
use Rattle.grid_index.specs.Index.{index_of}
use Rattle.lent_mesh.specs.LentMesh.{row_position}
use Rattle.ray.specs.declared.knots.PointKnots.{PointKnots}
use Rattle.t_mesh.specs.declared.t_mesh.Place.{Place}
use Rattle.t_mesh.specs.declared.t_mesh.Tmesh.{Tmesh}
use Rattle.knot_vectors.specs.declared.knots.Generated.{Generated}
use Rattle.surface.specs.Evaluation.{with_knots, with_knots_table}
use Rattle.control_point.specs.declared.refusal.Refusal.{Refusal}

-- ---- places
-- a place as a row: x, y and z in turn, then the pull
abbrev pub place_row : Place → List Float
place_row place = place.position.x ∷ (place.position.y ∷ (place.position.z ∷ (place.pull ∷ [])))

-- the place in a row, and in a point's row
abbrev pub row_place : List Float → Place
row_place row = record { position = row_position row; pull = get_or row 3 nan }

abbrev pub lent_place : List (List Float) → ℕ → Place
lent_place places n = row_place (get_or places n [])

-- ---- the arrays
pub record LentArrays : Type 0 where
  pub across : List (List Float)
  pub upwards : List (List Float)
  pub places : List (List Float)
  pub listed : List Bool

abbrev pub lent : List (List Float) → List (List Float) → List (List Float) → List Bool → LentArrays
lent across upwards places listed = record { across = across; upwards = upwards; places = places; listed = listed }

-- a point's knots
abbrev pub lent_knots : List (List Float) → List (List Float) → ℕ → PointKnots
lent_knots across upwards n = record { s = get_or across n []; t = get_or upwards n [] }

-- they have their lengths
abbrev pub Full : List (List Float) → List (List Float) → List (List Float) → Type 0
Full across upwards places = (length across ≡ 128) × ((length upwards ≡ 128) × (length places ≡ 128))

-- ---- the map that they hold: its knots and their index are kept; of its points, which no evaluation reads, none is made
abbrev pub held_map : List (List Float) → List (List Float) → List (List Float) → List Bool → Tmesh
held_map across upwards places listed =
    record {
      mesh = record { points = empty_store.points; made = empty_store.made; places = values_from (lent_place places) 128 0; listed = listed };
      kept = true;
      knots = values_from (lent_knots across upwards) 128 0;
      index = index_of listed (values_from (lent_knots across upwards) 128 0);
    }

abbrev pub held_by : LentArrays → Tmesh
held_by arrays = held_map arrays.across arrays.upwards arrays.places arrays.listed

-- ---- `lend`
-- a map's arrays
unfoldable pub lent_of : Tmesh → LentArrays
lent_of own = lent (map (λ k. k.s) own.knots) (map (λ k. k.t) own.knots) (map place_row own.mesh.places) own.mesh.listed

-- nothing lent: all 0.0, and nothing listed
unfoldable pub none_lent : LentArrays
none_lent = lent (replicate 128 (replicate 5 zero_literal)) (replicate 128 (replicate 5 zero_literal)) (replicate 128 (replicate 4 zero_literal)) (replicate 128 false)

abbrev pub lent_after : Result ⊤ Refusal → Tmesh → LentArrays
lent_after (Ok tt) own = lent_of own
lent_after (Err refusal) own = none_lent

-- the map with its knots kept, or why there are none and the map as it was; and the arrays
unfoldable pub lend_of : Float → Tmesh → Generated × LentArrays
lend_of e own = (with_knots e own, lent_after (with_knots e own).outcome (with_knots e own).map)

-- its table: refused as `subs` is; done, it tells no value
abbrev pub lend_table : Float → Tmesh → Told
lend_table e own = with_knots_table e own (λ kept. tells [])
