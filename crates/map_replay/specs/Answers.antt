-- Answers of the calls on a map, and the map at a list's end, against stored bytes. A call's bytes begin with its kind and its arguments; the answer's
-- number follows them, and then what a call that is done answers besides. Floats are compared by their bits; a flag is 1 or 0.
use Rattle.std.specs.Prelude.{ℕ, zero, suc, ◌+◌, ◌*◌, Bool, true, false, cond, ◌&&◌, List, [], eqb, ltb, Float, drop, get_or, length, Err, Ok, Result, ⊤}
use Rattle.std.specs.Float.{nan}
use Rattle.census.specs.declared.census.Counts.{Counts}
use Rattle.counting.specs.Counting.{count_below}
use Rattle.control_point.specs.Refusal.{refusal_number}
use Rattle.control_point.specs.Told.{number_of}
use Rattle.grid_index.specs.Index.{no_knots}
use Rattle.grid_index.specs.declared.Cell.{Cell}
use Rattle.openings.specs.declared.list.Openings.{Openings}
use Rattle.surface.specs.declared.evaluation.Evaluation.{Evaluation}
use Rattle.insertion.specs.declared.insertion.Insertion.TheVariants.{Done, Torn}
use Rattle.ray.specs.declared.knots.KnotsAnswer.{KnotsAnswer}
use Rattle.ray.specs.declared.knots.PointKnots.{PointKnots}
use Rattle.store.specs.declared.store.Store.{Store}
use Rattle.stored_calls.specs.Points.{has_bits, store_is_right}
use Rattle.big_endian.specs.BigEndian.{byte_at, number_at, float_at}
use Rattle.t_mesh.specs.Tmesh.{listed_in, mesh_store, no_place}
use Rattle.t_mesh.specs.declared.t_mesh.Place.{Place}
use Rattle.t_mesh.specs.declared.t_mesh.Position.{Position}
use Rattle.t_mesh.specs.declared.t_mesh.Tmesh.{Tmesh}
use Rattle.map_replay.specs.declared.answers.Judged.{Judged}
use Rattle.control_point.specs.declared.refusal.Refusal.{Refusal}
use Rattle.insertion.specs.declared.insertion.Insertion.{Insertion}

-- the position whose three coordinates stand at a place
abbrev pub position_at : List ℕ → ℕ → Position
position_at bytes at = record { x = float_at (drop at bytes) 0; y = float_at (drop at bytes) 8; z = float_at (drop at bytes) 16 }

-- whether the two counts of an insertion stand behind its number
abbrev pub counts_are_right : ℕ → ℕ → List ℕ → Bool
counts_are_right opened inferred call = eqb opened (byte_at call 36) && eqb inferred (byte_at call 37)

-- an insertion held against its stored answer
unfoldable pub insertion_judged : Result Insertion Refusal → List ℕ → Judged
insertion_judged (Ok (Done opened inferred)) call = record { right = eqb (byte_at call 35) 0 && counts_are_right opened inferred call; bytes = 38 }
insertion_judged (Ok (Torn opened inferred)) call = record { right = eqb (byte_at call 35) 8 && counts_are_right opened inferred call; bytes = 38 }
insertion_judged (Err refusal) call = record { right = eqb (byte_at call 35) (refusal_number refusal); bytes = 36 }

-- whether the first so many floats have the bits stored
unfoldable pub first_are_right : ℕ → List Float → List ℕ → Bool
first_are_right zero floats bytes = true
first_are_right (suc n) floats bytes = first_are_right n floats bytes && has_bits (get_or floats n nan) (number_at 8 bytes (n * 8))

-- whether floats have the bits that bytes begin with
abbrev pub floats_are_right : List Float → List ℕ → Bool
floats_are_right floats bytes = first_are_right (length floats) floats bytes

-- whether a call that fills floats answered a number and the floats stored; refused, it leaves them all 0.0, whose bits are 0
unfoldable pub outcome_is_right : Result ⊤ Refusal → List Float → ℕ → List ℕ → Bool
outcome_is_right (Ok tt) floats number bytes = eqb number 0 && floats_are_right floats bytes
outcome_is_right (Err refusal) floats number bytes = eqb number (refusal_number refusal) && floats_are_right floats []

-- how many bytes such a call takes
unfoldable pub bytes_taken : Result ⊤ Refusal → ℕ → ℕ → ℕ
bytes_taken (Ok tt) done refused = done
bytes_taken (Err refusal) done refused = refused

-- a ray held against its stored answer; its length stands at 3
abbrev pub ray_judged : Result ⊤ Refusal → List Float → List ℕ → Judged
ray_judged outcome entries call = record {
  right = outcome_is_right outcome entries (byte_at call 4) (drop 5 call);
  bytes = bytes_taken outcome (byte_at call 3 * 8 + 5) 5;
}

-- a point's knots held against their stored answer: those across, then those upwards
abbrev pub knots_judged : KnotsAnswer → List ℕ → Judged
knots_judged answer call = record {
  right = outcome_is_right answer.outcome answer.knots.s (byte_at call 2) (drop 3 call) && outcome_is_right answer.outcome answer.knots.t (byte_at call 2) (drop 43 call);
  bytes = bytes_taken answer.outcome 83 3;
}

-- whether a position and its total weight are those that bytes begin with
abbrev pub value_is_right : Evaluation → List ℕ → Bool
value_is_right value bytes =
    (has_bits value.x (number_at 8 bytes 0) && (has_bits value.y (number_at 8 bytes 8) && has_bits value.z (number_at 8 bytes 16)))
    && has_bits value.weight (number_at 8 bytes 24)

-- an evaluation held against its stored answer
unfoldable pub evaluation_judged : Result Evaluation Refusal → List ℕ → Judged
evaluation_judged (Ok value) call = record { right = eqb (byte_at call 17) 0 && value_is_right value (drop 18 call); bytes = 50 }
evaluation_judged (Err refusal) call = record { right = eqb (byte_at call 17) (refusal_number refusal); bytes = 18 }

-- what was asked of a lent map, or why none was lent
abbrev pub where_lent : Result ⊤ Refusal → Result Evaluation Refusal → Result Evaluation Refusal
where_lent (Ok tt) answer = answer
where_lent (Err refusal) answer = Err refusal

-- a call that answers a number alone held against the one that stands behind so many bytes: the knots of all listed points, or the setting of a pull
abbrev pub outcome_judged : Result ⊤ Refusal → ℕ → List ℕ → Judged
outcome_judged outcome behind call = record { right = eqb (number_of outcome) (byte_at call behind); bytes = behind + 1 }

-- whether both words of a cell and their count are those that bytes begin with
abbrev pub cell_is_right : Cell → List ℕ → Bool
cell_is_right words bytes = (eqb words.first (number_at 8 bytes 0) && eqb words.second (number_at 8 bytes 8)) && eqb words.count (byte_at bytes 16)

-- a cell held against its stored answer
unfoldable pub cell_judged : Result Cell Refusal → List ℕ → Judged
cell_judged (Ok words) call = record { right = eqb (byte_at call 2) 0 && cell_is_right words (drop 3 call); bytes = 20 }
cell_judged (Err refusal) call = record { right = eqb (byte_at call 2) (refusal_number refusal); bytes = 3 }

-- the counts of a map held against the stored ones, which have no number: the points made and listed in a byte each, the links and the borders in two
abbrev pub counts_judged : Counts → List ℕ → Judged
counts_judged counts call = record {
  right =
      (eqb counts.made (byte_at call 1) && eqb counts.listed (byte_at call 2))
      && (eqb counts.links (number_at 2 call 3) && eqb counts.borders (number_at 2 call 5));
  bytes = 7;
}

-- ---- the openings
-- the byte at a place where so many are stored; behind them 0
abbrev pub entry_byte : ℕ → List ℕ → ℕ → ℕ
entry_byte stored bytes at = cond (ltb at stored) (byte_at bytes at) 0

-- whether an entry of a list of openings is the stored one, a point's number and a direction's, or 0 and 0 behind them
abbrev pub entry_is_right : Openings → List ℕ → ℕ → Bool
entry_is_right openings bytes i =
    eqb (get_or openings.points i 0) (entry_byte (openings.count * 2) bytes (i * 2))
    && eqb (get_or openings.directions i 0) (entry_byte (openings.count * 2) bytes (i * 2 + 1))

-- whether the first so many are
unfoldable pub entries_are_right : ℕ → Openings → List ℕ → Bool
entries_are_right zero openings bytes = true
entries_are_right (suc i) openings bytes = entries_are_right i openings bytes && entry_is_right openings bytes i

-- a list of openings held against the stored one: how many there are, which in which order, and zeros behind them in arrays of 512
abbrev pub openings_judged : Openings → List ℕ → Judged
openings_judged openings call = record {
  right = eqb openings.count (number_at 2 call 1) && entries_are_right 512 openings (drop 3 call);
  bytes = openings.count * 2 + 3;
}

-- ---- the map at a list's end
-- whether a byte says what a flag is
abbrev pub flag_is_at : Bool → List ℕ → ℕ → Bool
flag_is_at flag bytes at = eqb (byte_at bytes at) (cond flag 1 0)

-- whether bytes begin with a flag for each of the first so many numbers: whether it is listed
unfoldable pub listing_is_right : ℕ → List Bool → List ℕ → Bool
listing_is_right zero listed bytes = true
listing_is_right (suc n) listed bytes = listing_is_right n listed bytes && flag_is_at (listed_in listed n) bytes n

-- whether bytes begin with a store, a listing, and whether knots are kept
abbrev pub shape_is_right : Store → List Bool → Bool → List ℕ → Bool
shape_is_right store listed kept bytes =
    (store_is_right store bytes && listing_is_right store.made listed (drop (store.made * 56 + 1) bytes))
    && flag_is_at kept (drop (store.made * 56 + 1) bytes) store.made

-- whether a position is the one that bytes begin with
abbrev pub position_is_right : Position → List ℕ → Bool
position_is_right position bytes =
    has_bits position.x (number_at 8 bytes 0) && (has_bits position.y (number_at 8 bytes 8) && has_bits position.z (number_at 8 bytes 16))

-- whether a place is the one that bytes begin with: its position, then its pull
abbrev pub place_is_right : Place → List ℕ → Bool
place_is_right place bytes = position_is_right place.position bytes && has_bits place.pull (number_at 8 bytes 24)

-- whether bytes begin with the first so many places
unfoldable pub places_are_right : ℕ → List Place → List ℕ → Bool
places_are_right zero places bytes = true
places_are_right (suc n) places bytes = places_are_right n places bytes && place_is_right (get_or places n no_place) (drop (n * 32) bytes)

-- whether a point's knots are those that bytes begin with: across, then upwards
abbrev pub row_is_right : PointKnots → List ℕ → Bool
row_is_right knots bytes = floats_are_right knots.s bytes && floats_are_right knots.t (drop 40 bytes)

-- whether bytes begin with the knots of the listed points among the first so many, in the order of their numbers
unfoldable pub rows_are_right : ℕ → List Bool → List PointKnots → List ℕ → Bool
rows_are_right zero listed knots bytes = true
rows_are_right (suc n) listed knots bytes =
    rows_are_right n listed knots bytes
    && cond (listed_in listed n) (row_is_right (get_or knots n no_knots) (drop (count_below n (listed_in listed) * 80) bytes)) true

-- where knots are kept, whether bytes begin with those of each listed point
abbrev pub kept_are_right : Tmesh → List ℕ → Bool
kept_are_right map bytes = cond map.kept (rows_are_right map.mesh.made map.mesh.listed map.knots bytes) true

-- how many bytes a map takes: 89 for each point made, two, and where knots are kept 80 for each point listed
abbrev pub map_bytes : List Bool → Bool → ℕ → ℕ
map_bytes listed kept made = cond kept (made * 89 + 2 + count_below made (listed_in listed) * 80) (made * 89 + 2)

-- whether a map is what bytes are: so many, and in them its shape, the places of its points, and the knots kept; no map has more than 128 points
abbrev pub map_with_room : Tmesh → List ℕ → Bool
map_with_room map bytes =
    (eqb (length bytes) (map_bytes map.mesh.listed map.kept map.mesh.made) && shape_is_right (mesh_store map.mesh) map.mesh.listed map.kept bytes)
    && (places_are_right map.mesh.made map.mesh.places (drop (map.mesh.made * 57 + 2) bytes) && kept_are_right map (drop (map.mesh.made * 89 + 2) bytes))

unfoldable pub map_is_right : Tmesh → List ℕ → Bool
map_is_right map bytes = cond (ltb 128 map.mesh.made) false (map_with_room map bytes)
