-- Rays (`cast_ray`): until n entries, the next one, or why there is none. The lent buffer's length is the count. A number never made is
-- 11, before all else. A refused ray leaves the buffer all 0.0. e is the closeness, d the direction.
use Rattle.std.specs.Prelude.{ℕ, zero, suc, false, cond, List, [], ◌∷◌, map, Float, length, replicate, Err, Ok, Result, ⊤}
use Rattle.control_point.specs.Point.{is_made}
use Rattle.control_point.specs.Sides.{Sides}
use Rattle.control_point.specs.Told.{Told, Value, float, tells, refused_or}
use Rattle.control_point.specs.declared.refusal.Refusal.{Refusal}
use Rattle.control_point.specs.declared.refusal.Refusal.TheVariants.{NoPoint}
use Rattle.control_point.specs.declared.t_mesh_direction.TmeshDirection.{TmeshDirection}
use Rattle.store.specs.Store.{store_sides}
use Rattle.store.specs.declared.store.Store.{Store}
use Rattle.float64.specs.Literals.{zero_literal}
use Rattle.ray_entry.specs.Entry.{on_ray, entry_of}
use Rattle.ray_entry.specs.declared.entry.Front.{Front}
use Rattle.ray_entry.specs.declared.entry.Entry.{Entry}

-- the entries of a ray, or its refusal
pub data Ray : Type 0 where
  entries : List Float → Ray
  refused : Refusal → Ray

-- one entry more, in front
abbrev pub before : Float → Ray → Ray
before value (entries values) = entries (value ∷ values)
before value (refused refusal) = refused refusal

-- an entry, and the ray that goes on from its front
abbrev pub after_entry : Result Entry Refusal → (Front → Ray) → Ray
after_entry (Ok entry) rest = before entry.value (rest entry.front)
after_entry (Err refusal) rest = refused refusal

-- so many entries from a front
unfoldable pub ray_from : Float → Sides → ℕ → TmeshDirection → ℕ → Front → Ray
ray_from e sides made d zero front = entries []
ray_from e sides made d (suc left) front = after_entry (entry_of e sides made d front) (λ next. ray_from e sides made d left next)

-- n entries from a point
unfoldable pub ray_of : Float → Sides → ℕ → ℕ → TmeshDirection → ℕ → Ray
ray_of e sides made start d n = cond (is_made made start) (ray_from e sides made d n (on_ray start false)) (refused NoPoint)

-- ---- into a lent buffer
-- what came of it, and the buffer after it, by the ray and the buffer's length
abbrev pub cast_of : Ray → ℕ → Result ⊤ Refusal × List Float
cast_of (entries values) n = ((Ok tt), values)
cast_of (refused refusal) n = (Err refusal, replicate n zero_literal)

-- over sides
abbrev pub cast_over : Float → Sides → ℕ → ℕ → TmeshDirection → List Float → Result ⊤ Refusal × List Float
cast_over e sides made start d buffer = cast_of (ray_of e sides made start d (length buffer)) (length buffer)

-- on a store
abbrev pub cast_ray : Float → Store → ℕ → TmeshDirection → List Float → Result ⊤ Refusal × List Float
cast_ray e store start d buffer = cast_over e (store_sides store) store.made start d buffer

-- what it tells: the entries that stand in the buffer, or the refusal's number
abbrev pub floats : List Float → List Value
floats values = map float values

abbrev pub cast_told : Result ⊤ Refusal × List Float → Told
cast_told cast = refused_or cast.0 (tells (floats cast.1))
