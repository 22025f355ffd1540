-- One float more, and one flag, entry, place or row more, is held against the bytes that follow those before it. A map that is too long is wrong.
use Rattle.std.specs.Prelude.{ℕ, ◌+◌, ◌*◌, ◌<◌, ◌≤◌, Bool, true, false, cond, ◌&&◌, List, ◌≡◌, refl, Float, drop, get_or}
use Rattle.std.proofs.Common.{ap, add-one, lt-ltb, le-ltb}
use Rattle.std.specs.Float.{nan}
use Rattle.counting.specs.Counting.{count_below}
use Rattle.openings.specs.declared.list.Openings.{Openings}
use Rattle.ray.specs.declared.knots.PointKnots.{PointKnots}
use Rattle.stored_calls.specs.Points.{has_bits}
use Rattle.grid_index.specs.Index.{no_knots}
use Rattle.big_endian.specs.BigEndian.{number_at}
use Rattle.t_mesh.specs.Tmesh.{listed_in, no_place}
use Rattle.t_mesh.specs.declared.t_mesh.Place.{Place}
use Rattle.t_mesh.specs.declared.t_mesh.Tmesh.{Tmesh}
use Rattle.map_replay.specs.Answers.{first_are_right, entry_is_right, entries_are_right, flag_is_at, listing_is_right, place_is_right, places_are_right, row_is_right, rows_are_right, map_with_room, map_is_right}

-- no floats are the ones stored
pub floats_none : (floats : List Float) (bytes : List ℕ) → first_are_right 0 floats bytes ≡ true
unfolding first_are_right
floats_none floats bytes = refl

pub floats_more :
    (n : ℕ) (floats : List Float) (bytes : List ℕ) →
    first_are_right (n + 1) floats bytes ≡ (first_are_right n floats bytes && has_bits (get_or floats n nan) (number_at 8 bytes (n * 8)))
unfolding first_are_right
floats_more n floats bytes = rw add-one refl

-- no flags are the ones stored
pub listing_none : (listed : List Bool) (bytes : List ℕ) → listing_is_right 0 listed bytes ≡ true
unfolding listing_is_right
listing_none listed bytes = refl

pub listing_more :
    (n : ℕ) (listed : List Bool) (bytes : List ℕ) →
    listing_is_right (n + 1) listed bytes ≡ (listing_is_right n listed bytes && flag_is_at (listed_in listed n) bytes n)
unfolding listing_is_right
listing_more n listed bytes = rw add-one refl

-- no entries are the ones stored
pub entries_none : (openings : Openings) (bytes : List ℕ) → entries_are_right 0 openings bytes ≡ true
unfolding entries_are_right
entries_none openings bytes = refl

pub entries_more :
    (i : ℕ) (openings : Openings) (bytes : List ℕ) →
    entries_are_right (i + 1) openings bytes ≡ (entries_are_right i openings bytes && entry_is_right openings bytes i)
unfolding entries_are_right
entries_more i openings bytes = ap (λ (n : ℕ). entries_are_right n openings bytes) (add-one i)

-- no places are the ones stored
pub places_none : (places : List Place) (bytes : List ℕ) → places_are_right 0 places bytes ≡ true
unfolding places_are_right
places_none places bytes = refl

pub places_more :
    (n : ℕ) (places : List Place) (bytes : List ℕ) →
    places_are_right (n + 1) places bytes ≡ (places_are_right n places bytes && place_is_right (get_or places n no_place) (drop (n * 32) bytes))
unfolding places_are_right
places_more n places bytes = rw add-one refl

-- no rows are the ones stored
pub rows_none : (listed : List Bool) (knots : List PointKnots) (bytes : List ℕ) → rows_are_right 0 listed knots bytes ≡ true
unfolding rows_are_right
rows_none listed knots bytes = refl

pub rows_more :
    (n : ℕ) (listed : List Bool) (knots : List PointKnots) (bytes : List ℕ) →
    rows_are_right (n + 1) listed knots bytes
    ≡ (rows_are_right n listed knots bytes && cond (listed_in listed n) (row_is_right (get_or knots n no_knots) (drop (count_below n (listed_in listed) * 80) bytes)) true)
unfolding rows_are_right
rows_more n listed knots bytes = rw add-one refl

pub map_too_large : (map : Tmesh) (bytes : List ℕ) → 128 < map.mesh.made → map_is_right map bytes ≡ false
unfolding map_is_right
map_too_large map bytes large = rw (lt-ltb 128 map.mesh.made large) refl

pub map_with_room_lem : (map : Tmesh) (bytes : List ℕ) → map.mesh.made ≤ 128 → map_is_right map bytes ≡ map_with_room map bytes
unfolding map_is_right
map_with_room_lem map bytes room = rw (le-ltb 128 map.mesh.made room) refl
