-- The table of a search: p never made 11; then the first walk's refusal, and the second's. Then move by move: over an opening 3, over a border 4; a
-- number never made 11; where M − A is small, p itself 7; beyond as many moves as points made 9. Found, it tells the point and the interval K;
-- where there is none, no value.
use Rattle.std.specs.Prelude.{ℕ, zero, suc, not, cond, ◌&&◌, ◌||◌, [], ◌∷◌, eqb, Float}
use Rattle.std.specs.Float.{binary64}
use Rattle.std.specs.Float.Ieee.{add, sub, lt}
use Rattle.float64.specs.Literals.{zero_literal}
use Rattle.control_point.specs.Direction.{clockwise_of, anti_clockwise_of, flip_of}
use Rattle.control_point.specs.Point.{is_made, is_link, is_opening}
use Rattle.control_point.specs.Sides.{Sides}
use Rattle.control_point.specs.Small.{small}
use Rattle.control_point.specs.Told.{Told, natural, float, tells, refused_by, unless}
use Rattle.navigation.specs.Table.{step_table, walked_table}
use Rattle.navigation.specs.Walk.{walk_of}
use Rattle.control_point.specs.declared.t_mesh_direction.TmeshDirection.{TmeshDirection}

module _ (e : Float) (sides : Sides) (made p : ℕ) (f : TmeshDirection) where
  -- at a point where M − A is small: connected to it, or on where a facing side is taken
  abbrev pub near_table : ℕ → Float → Told → Told
  near_table at interval on =
      unless 7 (not (eqb p at))
      (cond (is_opening (sides p f) && is_opening (sides at (flip_of f))) (tells (natural at ∷ (float interval ∷ []))) on)

  -- at a point that the search has moved to: near; none, where A > M or it has a link opposite f; or on
  abbrev pub moved_table : ℕ → Float → Float → Float → Told → Told
  moved_table at measure sum interval on =
      unless 11 (is_made made at)
      (cond (small e (sub binary64 measure sum))
      (near_table at interval on)
      (cond (lt measure sum || is_link (sides at (flip_of f))) (tells []) on))

  -- with so many moves left
  unfoldable pub seek_table : ℕ → ℕ → Float → Float → Float → Told
  seek_table zero at measure sum interval = refused_by 9
  seek_table (suc left) at measure sum interval =
      step_table (sides at (anti_clockwise_of f))
      (λ n k. moved_table n measure (add binary64 sum k) interval (seek_table left n measure (add binary64 sum k) interval))

  unfoldable pub search_table : Told
  search_table =
      unless 11 (is_made made p)
      (walked_table (walk_of sides made p (clockwise_of f) f)
      (λ corner measure.
      walked_table (walk_of sides made corner f (anti_clockwise_of f))
      (λ start interval. seek_table made start measure zero_literal interval)))
