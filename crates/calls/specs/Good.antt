-- What no call breaks, and what keeps an evaluation in 0 to 1: each interval and each border's weight of a mesh is a NaN or not
-- negative, each coordinate is an f64, and so each basis function of each row of knots is a NaN or not negative. It is asked of every
-- number, of points not made too, so that no proof asks whether a point is made; what stands past the end of a list, all NaN, meets it.
-- A NaN is let in, since a weight may be infinite and infinity − infinity is a NaN: where it reaches a sum, that sum is a NaN too.
use Rattle.std.specs.Prelude.{ℕ, List, T, Float, get_or, Err, None, Ok, Option, Result, Some}
use Rattle.std.specs.Float.{nan, binary64}
use Rattle.std.specs.Float.Ieee.{fits}
use Rattle.float64.specs.Sign.{nonneg_or_nan}
use Rattle.basis.specs.Binary64.{binary64_arithmetic, knots}
use Rattle.basis.specs.Formula.{formula}
use Rattle.control_point.specs.Point.{side_of}
use Rattle.control_point.specs.Sides.{Sides}
use Rattle.control_point.specs.declared.t_mesh_direction.TmeshDirection.{TmeshDirection}
use Rattle.control_point.specs.declared.t_mesh_control_point.Side.{Side}
use Rattle.control_point.specs.declared.t_mesh_control_point.Side.TheVariants.{Link, Border, Opening}
use Rattle.control_point.specs.declared.t_mesh_control_point.TmeshControlPoint.{TmeshControlPoint}
use Rattle.store.specs.Store.{store_point}
use Rattle.store.specs.declared.store.Store.{Store}
use Rattle.insertion.specs.declared.insertion.NewSide.{NewSide}
use Rattle.insertion.specs.declared.insertion.NewSide.TheVariants.{Takes, Joins, Opens, Tears, Stays}
use Rattle.ray.specs.Ray.{Ray, entries, refused}
use Rattle.ray.specs.declared.knots.PointKnots.{PointKnots}
use Rattle.grid_index.specs.Index.{no_knots}
use Rattle.control_point.specs.declared.refusal.Refusal.{Refusal}
use Rattle.navigation.specs.declared.walk.Walk.{Walk}
use Rattle.control_point.specs.declared.t_mesh_control_point.LinkEnd.{LinkEnd}
use Rattle.ray_entry.specs.declared.entry.Entry.{Entry}

-- a NaN, or not negative
abbrev pub NotNegative : Float → Type 0
NotNegative x = T (nonneg_or_nan x)

-- ---- the mesh
-- a side's interval or weight
abbrev pub GoodSide : Side → Type 0
GoodSide (Link n interval) = NotNegative interval
GoodSide (Border weight) = NotNegative weight
GoodSide Opening = Unit {0}

-- every side of a mesh
abbrev pub GoodSides : Sides → Type 0
GoodSides sides = (n : ℕ) (d : TmeshDirection) → GoodSide (sides n d)

-- a point's four sides, and that its coordinates are f64s
pub record GoodPoint (p : TmeshControlPoint) : Type 0 where
  pub sides : (d : TmeshDirection) → GoodSide (side_of p d)
  pub s_fits : T (fits binary64 p.s)
  pub t_fits : T (fits binary64 p.t)

-- every point of a store
abbrev pub GoodStore : Store → Type 0
GoodStore store = (n : ℕ) → GoodPoint (store_point store n)

-- ---- what is read of it
-- a walk's sum
abbrev pub GoodWalk : Result Walk Refusal → Type 0
GoodWalk (Ok walk) = NotNegative walk.sum
GoodWalk (Err refusal) = Unit {0}

-- the interval of an inferred link
abbrev pub GoodFound : Result (Option LinkEnd) Refusal → Type 0
GoodFound (Ok (Some end)) = NotNegative end.interval
GoodFound (Ok None) = Unit {0}
GoodFound (Err refusal) = Unit {0}

-- a new side's weight or interval
abbrev pub GoodNewSide : NewSide → Type 0
GoodNewSide (Takes weight) = NotNegative weight
GoodNewSide (Joins n interval) = NotNegative interval
GoodNewSide Opens = Unit {0}
GoodNewSide Tears = Unit {0}
GoodNewSide Stays = Unit {0}

-- an entry of a ray
abbrev pub GoodEntry : Result Entry Refusal → Type 0
GoodEntry (Ok entry) = NotNegative entry.value
GoodEntry (Err refusal) = Unit {0}

-- every entry of a ray, and a ray that is not refused
abbrev pub GoodEntries : List Float → Type 0
GoodEntries values = (i : ℕ) → NotNegative (get_or values i nan)

abbrev pub GoodRay : Ray → Type 0
GoodRay (entries values) = GoodEntries values
GoodRay (refused refusal) = Unit {0}

-- ---- knots
-- the basis function of five knots, wherever it is asked for
abbrev pub GoodBasis : List Float → Type 0
GoodBasis five = (u : Float) → NotNegative (formula binary64_arithmetic u (knots five))

-- the two basis functions of a point
pub record GoodKnots (k : PointKnots) : Type 0 where
  pub in_s : GoodBasis k.s
  pub in_t : GoodBasis k.t

-- the rows of a map
abbrev pub GoodRows : List PointKnots → Type 0
GoodRows rows = (n : ℕ) → GoodKnots (get_or rows n no_knots)
