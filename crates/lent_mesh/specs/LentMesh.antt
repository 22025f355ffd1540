-- A mesh, lent: its points as `lent_points` has them, how many are made, and in two arrays of their own the position of each point, a row of
-- three floats, and whether it is listed. The mesh that such arrays hold has the made ones of the points, and loose points beyond them; every
-- pull of it is 1.0, since no map file sets one. Its map keeps no knots and no index.
use Rattle.std.specs.Prelude.{ℕ, Bool, false, cond, List, [], ◌∷◌, ◌≡◌, Float, length, get_or, replicate}
use Rattle.std.specs.Float.{nan}
use Rattle.float64.specs.Literals.{zero_literal}
use Rattle.control_point.specs.Point.{is_made, loose_point}
use Rattle.lent_points.specs.Lent.{Points, lent_points, Room}
use Rattle.lent_mesh.specs.declared.LentMesh.{LentMesh}
use Rattle.values.specs.Values.{values_from}
use Rattle.t_mesh.specs.Tmesh.{unpulled, blank_knots, blank_index}
use Rattle.t_mesh.specs.declared.t_mesh.Mesh.{Mesh}
use Rattle.t_mesh.specs.declared.t_mesh.Place.{Place}
use Rattle.t_mesh.specs.declared.t_mesh.Position.{Position}
use Rattle.t_mesh.specs.declared.t_mesh.Tmesh.{Tmesh}

-- ---- positions
-- a position as a row: x, y and z in turn
abbrev pub row_of : Position → List Float
row_of p = p.x ∷ (p.y ∷ (p.z ∷ []))

-- the position in a row, and in a point's row
abbrev pub row_position : List Float → Position
row_position row = record { x = get_or row 0 nan; y = get_or row 1 nan; z = get_or row 2 nan }

abbrev pub lent_position : List (List Float) → ℕ → Position
lent_position positions n = row_position (get_or positions n [])

-- the place of a point that stands in its row
abbrev pub unpulled_at : List (List Float) → ℕ → Place
unpulled_at positions n = unpulled (lent_position positions n)

-- ---- the mesh
-- of points, of which so many are made, the made ones and loose ones beyond
abbrev pub made_or_loose : Points → ℕ → Points
made_or_loose points made n = cond (is_made made n) (points n) (loose_point zero_literal)

-- the mesh of points, of which so many are made, of rows and of a listing; and that of the arrays
abbrev pub mesh_over : Points → ℕ → List (List Float) → List Bool → Mesh
mesh_over points made positions listed =
    record {
      points = values_from (made_or_loose points made) 128 0;
      made = made;
      places = values_from (unpulled_at positions) 128 0;
      listed = listed;
    }

abbrev pub lent_mesh : LentMesh → Mesh
lent_mesh mesh = mesh_over (lent_points mesh.points) mesh.made mesh.positions mesh.listed

-- ---- its map
-- a mesh as a map that keeps no knots and no index
unfoldable pub unkept : Mesh → Tmesh
unkept mesh = record { mesh = mesh; kept = false; knots = replicate 128 blank_knots; index = blank_index }

-- the map that the arrays hold
abbrev pub lent_map : LentMesh → Tmesh
lent_map mesh = unkept (lent_mesh mesh)

-- ---- the arrays have their lengths
abbrev pub MeshRoom : LentMesh → Type 0
MeshRoom mesh = Room mesh.points × ((length mesh.positions ≡ 128) × (length mesh.listed ≡ 128))
