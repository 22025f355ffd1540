-- The map. A position is three floats; a point's place is its position and its pull: in an evaluation its weight is basis product × pull. Places stand
-- beside the points, since no value but an evaluation's depends on them: nothing of a mesh's shape can. A point is listed once its insertion is
-- done; the listing's order is that of the numbers. One flag says whether the knots of the listed points, and the index that is built from
-- them, are kept.
use Rattle.std.specs.Prelude.{ℕ, Bool, true, false, List, [], ◌∷◌, ◌++◌, Float, get_or, replicate}
use Rattle.std.specs.Float.{nan}
use Rattle.float64.specs.Literals.{zero_literal, one_literal}
use Rattle.control_point.specs.Point.{loose_point}
use Rattle.control_point.specs.declared.t_mesh_control_point.Side.{Side}
use Rattle.control_point.specs.declared.t_mesh_control_point.Side.TheVariants.{Link, Border}
use Rattle.control_point.specs.declared.t_mesh_control_point.TmeshControlPoint.{TmeshControlPoint}
use Rattle.grid_index.specs.declared.Index.{Index}
use Rattle.ray.specs.declared.knots.PointKnots.{PointKnots}
use Rattle.store.specs.declared.store.Store.{Store}
use Rattle.t_mesh.specs.declared.t_mesh.Mesh.{Mesh}
use Rattle.t_mesh.specs.declared.t_mesh.Place.{Place}
use Rattle.t_mesh.specs.declared.t_mesh.Position.{Position}
use Rattle.t_mesh.specs.declared.t_mesh.Tmesh.{Tmesh}

-- ---- the three axes
pub data Axis : Type 0 where
  X Y Z : Axis

abbrev pub coordinate : Axis → Position → Float
coordinate X p = p.x
coordinate Y p = p.y
coordinate Z p = p.z

-- ---- places
-- where a point is made: its pull is 1.0
abbrev pub unpulled : Position → Place
unpulled position = record { position = position; pull = one_literal }

-- what an element past the end is taken for; no definition looks there
abbrev pub no_position : Position
no_position = record { x = nan; y = nan; z = nan }

abbrev pub no_place : Place
no_place = record { position = no_position; pull = nan }

-- those of the point under a number
abbrev pub place_under : Tmesh → ℕ → Place
place_under map n = get_or map.mesh.places n no_place

abbrev pub position_of : Tmesh → ℕ → Position
position_of map n = (place_under map n).position

abbrev pub pull_of : Tmesh → ℕ → Float
pull_of map n = (place_under map n).pull

-- ---- the store and the listing
-- the store of a mesh, and of a map
abbrev pub mesh_store : Mesh → Store
mesh_store mesh = record { points = mesh.points; made = mesh.made }

abbrev pub store_of : Tmesh → Store
store_of map = mesh_store map.mesh

-- with another store, the listing, the places, the knots kept and their index as they are
abbrev pub with_store : Tmesh → Store → Tmesh
with_store map store =
    record {
      mesh = record { points = store.points; made = store.made; places = map.mesh.places; listed = map.mesh.listed };
      kept = map.kept;
      knots = map.knots;
      index = map.index;
    }

-- whether a listing has a number, and a map does
abbrev pub listed_in : List Bool → ℕ → Bool
listed_in listed n = get_or listed n false

abbrev pub is_listed : Tmesh → ℕ → Bool
is_listed map n = listed_in map.mesh.listed n

-- ---- `Tmesh::new`
-- a corner with its sides, up, right, down and left, at coordinates
abbrev pub corner : Side → Side → Side → Side → Float → Float → TmeshControlPoint
corner up right down left s t = record { up = up; right = right; down = down; left = left; s = s; t = t }

-- corners 0 to 3 anticlockwise from bottom left, corner 0 at (0, 0), four links of 1.0, eight borders of the given weight
abbrev pub corners : Float → List TmeshControlPoint
corners weight =
    corner (Link 3 one_literal) (Link 1 one_literal) (Border weight) (Border weight) zero_literal zero_literal
    ∷ (corner (Link 2 one_literal) (Border weight) (Border weight) (Link 0 one_literal) one_literal zero_literal
    ∷ (corner (Border weight) (Border weight) (Link 1 one_literal) (Link 3 one_literal) one_literal one_literal
    ∷ (corner (Border weight) (Link 2 one_literal) (Link 0 one_literal) (Border weight) zero_literal one_literal
    ∷ [])))

-- they and nothing else are made
abbrev pub corner_store : Float → Store
corner_store weight = record { points = corners weight ++ replicate 124 (loose_point zero_literal); made = 4 }

-- what stands where there is no point, where no knots are kept, and where no index is
abbrev pub origin : Position
origin = record { x = zero_literal; y = zero_literal; z = zero_literal }

abbrev pub blank_knots : PointKnots
blank_knots = record { s = replicate 5 zero_literal; t = replicate 5 zero_literal }

abbrev pub blank_index : Index
blank_index = record { first = replicate 256 0; second = replicate 256 0 }

-- the map of a border weight and four corners: every pull is 1.0, and no knots and no index are kept
unfoldable pub new_tmesh : Float → Position → Position → Position → Position → Tmesh
new_tmesh weight at_bottom_left at_bottom_right at_top_right at_top_left =
    record {
      mesh = record {
        points = (corner_store weight).points;
        made = (corner_store weight).made;
        places = unpulled at_bottom_left ∷ (unpulled at_bottom_right ∷ (unpulled at_top_right ∷ (unpulled at_top_left ∷ replicate 124 (unpulled origin))));
        listed = true ∷ (true ∷ (true ∷ (true ∷ replicate 124 false)));
      };
      kept = false;
      knots = replicate 128 blank_knots;
      index = blank_index;
    }
