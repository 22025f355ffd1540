-- Setting the pull of a point (`set_pull`), listed or not, so also of one that a torn insertion left. Turned away, in this order: 11 where no point of that number was made;
-- 17 where the pull is negative, infinite or a NaN (−0.0 is not negative). Turned away, the map is as it was. Else that one pull is another and nothing else: the points, the
-- positions, the other pulls, the listing, the kept knots and their index are as they were.
use Rattle.std.specs.Prelude.{ℕ, Bool, false, cond, ◌&&◌, [], Float, set, Err, Ok, Result, ⊤}
use Rattle.std.specs.Float.{inf}
use Rattle.std.specs.Float.Ieee.{lt, le}
use Rattle.float64.specs.Literals.{zero_literal}
use Rattle.control_point.specs.Point.{is_made}
use Rattle.control_point.specs.Told.{Told, tells, unless}
use Rattle.control_point.specs.declared.refusal.Refusal.TheVariants.{NoPoint, Pull}
use Rattle.t_mesh.specs.Tmesh.{place_under}
use Rattle.t_mesh.specs.declared.t_mesh.Place.{Place}
use Rattle.t_mesh.specs.declared.t_mesh.Tmesh.{Tmesh}
use Rattle.pull.specs.declared.Pulled.{Pulled}
use Rattle.control_point.specs.declared.refusal.Refusal.{Refusal}

-- whether a number may be a pull: at least 0 and finite
abbrev pub can_pull : Float → Bool
can_pull pull = le zero_literal pull && lt pull (inf false)

-- a place with another pull, and a map with another pull of a point
abbrev pub repulled : Place → Float → Place
repulled place pull = record { position = place.position; pull = pull }

abbrev pub with_pull : Tmesh → ℕ → Float → Tmesh
with_pull map n pull =
    record {
      mesh = record {
        points = map.mesh.points;
        made = map.mesh.made;
        places = set map.mesh.places n (repulled (place_under map n) pull);
        listed = map.mesh.listed;
      };
      kept = map.kept;
      knots = map.knots;
      index = map.index;
    }

-- what comes of it, with so many points made
abbrev pub pull_outcome : ℕ → ℕ → Float → Result ⊤ Refusal
pull_outcome made n pull = cond (is_made made n) (cond (can_pull pull) (Ok tt) (Err Pull)) (Err NoPoint)

-- the map after it
abbrev pub after_pull : Result ⊤ Refusal → Tmesh → ℕ → Float → Tmesh
after_pull (Ok tt) map n pull = with_pull map n pull
after_pull (Err refusal) map n pull = map

-- both
abbrev pub pulled_by : Result ⊤ Refusal → Tmesh → ℕ → Float → Pulled
pulled_by outcome map n pull = record { outcome = outcome; map = after_pull outcome map n pull }

unfoldable pub set_pull : Tmesh → ℕ → Float → Pulled
set_pull map n pull = pulled_by (pull_outcome map.mesh.made n pull) map n pull

-- its table: done, it tells no value
abbrev pub pull_table : Tmesh → ℕ → Float → Told
pull_table map n pull = unless 11 (is_made map.mesh.made n) (unless 17 (can_pull pull) (tells []))
