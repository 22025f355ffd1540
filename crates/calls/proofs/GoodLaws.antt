-- Every change of a mesh keeps it good: the intervals that an insertion writes are sums of those that stand there, or one of them times
-- a ratio from 0 to 1, and its weights are copied.
use Prim.Native.Nat.{ℕ, zero, suc, ◌+◌, ◌-◌}
use Rattle.std.specs.Prelude.{◌≡◌, Bool, true, ◌&&◌, T, eqb, ltb, Err, None, Ok, Option, Result, Some, ⊤}
use Rattle.std.proofs.Common.{subst}
use Rattle.std.specs.Float.Ieee.{Float, binary64, of_bits, add, sub, mul, le, fits, neg}
use Rattle.std.specs.Float.Ieee.Fits.{and_l, and_r, add-fits, sub-fits}
use Rattle.float64.specs.Literals.{zero_literal, one_literal}
use Rattle.float64.specs.Order.{le→nlt}
use Rattle.float64.proofs.SignLaws.{literal_zero, literal_one, le→nonneg, nonneg→nonneg_or_nan, nonneg_or_nan_add, nonneg_or_nan_mul, sub_nonneg_or_nan}
use Rattle.float64.specs.Unit.{in_unit}
use Rattle.control_point.specs.Connect.{connectable}
use Rattle.control_point.specs.Direction.{flip_of, clockwise_of, anti_clockwise_of, same_direction}
use Rattle.control_point.specs.Point.{side_of, with_side, moved_from, loose_point, is_made, is_link, blank}
use Rattle.control_point.proofs.PointLaws.{side_with, side_moved}
use Rattle.control_point.specs.Sides.{Sides, sides_of, sides_with}
use Rattle.navigation.specs.Walk.{step_over, arrive, onward, walk_of}
use Rattle.control_point.specs.declared.t_mesh_direction.TmeshDirection.{TmeshDirection}
use Rattle.control_point.specs.declared.t_mesh_direction.TmeshDirection.TheVariants.{Up, Right, Down, Left}
use Rattle.control_point.specs.declared.t_mesh_control_point.Side.{Side}
use Rattle.control_point.specs.declared.t_mesh_control_point.Side.TheVariants.{Link, Border, Opening}
use Rattle.control_point.specs.declared.t_mesh_control_point.TmeshControlPoint.{TmeshControlPoint}
use Rattle.search.specs.Search.{judge_at, concluded, move_over, seek_from, walked, find_inferred_connection}
use Rattle.search.specs.declared.search.Judged.TheVariants.{On, Here, Ends}
use Rattle.store.specs.Store.{store_sides, store_point, with_point, with_side_at, with_new, linked, settled, connect_points}
use Rattle.store.specs.declared.store.Store.{Store}
use Rattle.insertion.specs.Insert.{cut, point_in_line, placed, sought_side, border_or, new_side, with_new_side, tears, unless_torn, first_side, with_first, second_side, sided, insert_point}
use Rattle.insertion.specs.declared.insertion.Inserted.{Inserted}
use Rattle.insertion.specs.declared.insertion.NewSide.{NewSide}
use Rattle.insertion.specs.declared.insertion.NewSide.TheVariants.{Takes, Joins, Opens, Tears, Stays}
use Rattle.counting.proofs.BoolLaws.{cond_case}
use Rattle.calls.proofs.ListLaws.{set_case}
use Rattle.calls.proofs.InsertionLaws.{insertion_case}
use Rattle.calls.specs.Good.{NotNegative, GoodSide, GoodSides, GoodPoint, GoodStore, GoodWalk, GoodFound, GoodNewSide}
use Rattle.control_point.specs.declared.refusal.Refusal.{Refusal}
use Rattle.navigation.specs.declared.walk.Walk.{Walk}
use Rattle.control_point.specs.declared.t_mesh_control_point.LinkEnd.{LinkEnd}
use Rattle.search.specs.declared.search.Judged.{Judged}

-- ---- points
pub zero_not_negative : NotNegative zero_literal
zero_not_negative = rw literal_zero tt

pub with_side_lem : (p : TmeshControlPoint) (d : TmeshDirection) (side : Side) → GoodPoint p → GoodSide side → GoodPoint (with_side p d side)
with_side_lem p d side good h = record { sides = each; s_fits = good.s_fits; t_fits = good.t_fits }
  where
    each : (e : TmeshDirection) → GoodSide (side_of (with_side p d side) e)
    each e = rw (side_with p d e side) (cond_case (same_direction e d) GoodSide side (side_of p e) (λ _. h) (λ _. good.sides e))

moved_from_lem : (p from : TmeshControlPoint) (d : TmeshDirection) (interval : Float) → GoodPoint p → GoodPoint from
    → GoodPoint (moved_from p from d interval)
moved_from_lem p from d interval good h =
    record { sides = λ e. rw (side_moved p from d e interval) (good.sides e); s_fits = s_fits d; t_fits = t_fits d }
  where
    s_fits : (d : TmeshDirection) → T (fits binary64 (moved_from p from d interval).s)
    s_fits Up = h.s_fits
    s_fits Right = add-fits binary64 from.s interval
    s_fits Down = h.s_fits
    s_fits Left = sub-fits binary64 from.s interval

    t_fits : (d : TmeshDirection) → T (fits binary64 (moved_from p from d interval).t)
    t_fits Up = add-fits binary64 from.t interval
    t_fits Right = h.t_fits
    t_fits Down = sub-fits binary64 from.t interval
    t_fits Left = h.t_fits

pub loose_point_lem : (weight : Float) → NotNegative weight → GoodPoint (loose_point weight)
loose_point_lem weight h = record { sides = each; s_fits = minus_one_fits; t_fits = minus_one_fits }
  where
    each : (d : TmeshDirection) → GoodSide (side_of (loose_point weight) d)
    each Up = h
    each Right = h
    each Down = h
    each Left = h

    minus_one_fits : T (fits binary64 (neg one_literal))
    minus_one_fits = rw literal_one (unfold neg fits in tt)

-- ---- stores
module _ (store : Store) (good : GoodStore store) where
  with_point_lem : (n : ℕ) (p : TmeshControlPoint) → GoodPoint p → GoodStore (with_point store n p)
  with_point_lem n p h m = set_case GoodPoint store.points n m p blank h (good m)

  with_new_lem : (p : TmeshControlPoint) → GoodPoint p → GoodStore (with_new store p)
  with_new_lem p h m = set_case GoodPoint store.points store.made m p blank h (good m)

  with_side_at_lem : (n : ℕ) (d : TmeshDirection) (side : Side) → GoodSide side → GoodStore (with_side_at store n d side)
  with_side_at_lem n d side h = with_point_lem n (with_side (store_point store n) d side) (with_side_lem (store_point store n) d side (good n) h)

  pub store_sides_lem : GoodSides (store_sides store)
  unfolding sides_of
  store_sides_lem n d = cond_case (ltb n 128) GoodSide (side_of (store_point store n) d) Opening (λ _. (good n).sides d) (λ _. tt)

pub connect_points_call : (store : Store) → GoodStore store → (first other : ℕ) (d : TmeshDirection) (interval : Float) → NotNegative interval
    → GoodStore (connect_points store first other d interval).store
unfolding connect_points
connect_points_call store good first other d interval h = either (connectable (store_sides store) store.made first other d)
  where
    joined : GoodStore (linked store first other d interval)
    joined =
        with_point_lem (with_side_at store first d (Link other interval)) (with_side_at_lem store good first d (Link other interval) h) other _
        (moved_from_lem _ (store_point store first) d interval
        (with_side_lem (store_point store other) (flip_of d) (Link first interval) (good other) h) (good first))

    either : (outcome : Result ⊤ Refusal) → GoodStore (settled outcome (linked store first other d interval) store).store
    either (Ok tt) = joined
    either (Err refusal) = good

-- ---- walks
step_over_lem : (side : Side) (next : ℕ → Float → Result Walk Refusal) → GoodSide side → ((n : ℕ) (interval : Float) → NotNegative interval → GoodWalk (next n interval))
    → GoodWalk (step_over side next)
step_over_lem (Link n interval) next h k = k n interval h
step_over_lem (Border weight) next h k = tt
step_over_lem Opening next h k = tt

module _ (sides : Sides) (good : GoodSides sides) (made : ℕ) where
  module _ (travel watch : TmeshDirection) where
    arrived : (at : ℕ) (sum : Float) (moves : ℕ) (next : ℕ → Float → Result Walk Refusal) → NotNegative sum
        → ((n : ℕ) (interval : Float) → NotNegative interval → GoodWalk (next n interval))
        → GoodWalk (arrive sides made travel watch at sum moves next)
    arrived at sum moves next h k =
        cond_case (is_made made at) GoodWalk _ _
        (λ _. cond_case (is_link (sides at watch)) GoodWalk _ _ (λ _. h) (λ _. step_over_lem (sides at travel) next (good at travel) k))
        (λ _. tt)

    gone_onward : (left at : ℕ) (sum : Float) (moves : ℕ) → NotNegative sum → GoodWalk (onward left sides made travel watch at sum moves)
    unfolding onward
    gone_onward zero at sum moves h = arrived at sum moves _ h (λ n interval k. tt)
    gone_onward (suc left) at sum moves h =
        arrived at sum moves _ h
        (λ n interval k. gone_onward left n (add binary64 sum interval) (moves + 1) (nonneg_or_nan_add binary64 sum interval h k))

  pub walk_sum : (start : ℕ) (travel watch : TmeshDirection) → GoodWalk (walk_of sides made start travel watch)
  unfolding walk_of
  walk_sum start travel watch =
      cond_case (is_made made start) GoodWalk _ _
      (λ _. step_over_lem (sides start travel) _ (good start travel) (λ n interval h. gone_onward travel watch (made - 1) n interval 1 h))
      (λ _. tt)

-- ---- the search
conclusion : (judged : Result Judged Refusal) (n : ℕ) (interval : Float) (rest : Result (Option LinkEnd) Refusal) → NotNegative interval → GoodFound rest
    → GoodFound (concluded judged n interval rest)
conclusion (Ok On) n interval rest h k = k
conclusion (Ok Here) n interval rest h k = h
conclusion (Ok Ends) n interval rest h k = tt
conclusion (Err refusal) n interval rest h k = tt

after_walk_lem : (walk : Result Walk Refusal) (next : ℕ → Float → Result (Option LinkEnd) Refusal) → GoodWalk walk → ((n : ℕ) (sum : Float) → NotNegative sum → GoodFound (next n sum))
    → GoodFound (walked walk next)
after_walk_lem (Ok walk) next h k = k walk.at walk.sum h
after_walk_lem (Err refusal) next h k = tt

module _ (e : Float) (sides : Sides) (made p : ℕ) (f : TmeshDirection) where
  found_from : (left at : ℕ) (measure sum interval : Float) → NotNegative interval
      → GoodFound (seek_from left e sides made p f at measure sum interval)
  unfolding seek_from
  found_from zero at measure sum interval h = tt
  found_from (suc left) at measure sum interval h =
      over (sides at (anti_clockwise_of f)) _
      (λ n k.
      conclusion (judge_at e sides made p f n measure (add binary64 sum k)) n interval _ h
      (found_from left n measure (add binary64 sum k) interval h))
    where
      over : (side : Side) (next : ℕ → Float → Result (Option LinkEnd) Refusal) → ((n : ℕ) (k : Float) → GoodFound (next n k)) → GoodFound (move_over side next)
      over (Link n k) next rest = rest n k
      over (Border weight) next rest = tt
      over Opening next rest = tt

  found_interval : GoodSides sides → GoodFound (find_inferred_connection e sides made p f)
  unfolding find_inferred_connection
  found_interval good =
      after_walk_lem (walk_of sides made p (clockwise_of f) f) _ (walk_sum sides good made p (clockwise_of f) f)
      (λ corner measure _.
      after_walk_lem (walk_of sides made corner f (anti_clockwise_of f)) _ (walk_sum sides good made corner f (anti_clockwise_of f))
      (λ start interval h. found_from made start measure (of_bits binary64 0) interval h))

-- ---- a side of the new point
sides_opened_lem : (sides : Sides) (p : ℕ) (f : TmeshDirection) → GoodSides sides → GoodSides (sides_with sides p f Opening)
sides_opened_lem sides p f good n d = cond_case (eqb n p && same_direction d f) GoodSide Opening (sides n d) (λ _. tt) (λ _. good n d)

sought_side_lem : (found : Result (Option LinkEnd) Refusal) → GoodFound found → GoodNewSide (sought_side found)
sought_side_lem (Ok (Some end)) h = h
sought_side_lem (Ok None) h = tt
sought_side_lem (Err refusal) h = tt

border_or_lem : (side : Side) (otherwise : NewSide) → GoodSide side → GoodNewSide otherwise → GoodNewSide (border_or side otherwise)
border_or_lem (Border weight) otherwise h k = h
border_or_lem (Link n interval) otherwise h k = k
border_or_lem Opening otherwise h k = k

new_side_lem : (e : Float) (sides : Sides) (made con p : ℕ) (f : TmeshDirection) → GoodSides sides → GoodNewSide (new_side e sides made con p f)
unfolding new_side
new_side_lem e sides made con p f good =
    border_or_lem (sides con f) (sought_side found) (good con f)
    (sought_side_lem found (found_interval e (sides_with sides p f Opening) made p f (sides_opened_lem sides p f good)))
  where
    found : Result (Option LinkEnd) Refusal
    found = find_inferred_connection e (sides_with sides p f Opening) made p f

with_new_side_lem : (store : Store) → GoodStore store → (p : ℕ) (f : TmeshDirection) (new : NewSide) → GoodNewSide new
    → GoodStore (with_new_side store p f new)
with_new_side_lem store good p f (Takes weight) h = with_side_at_lem store good p f (Border weight) h
with_new_side_lem store good p f (Joins n interval) h =
    connect_points_call (with_side_at store p f Opening) (with_side_at_lem store good p f Opening tt) p n f interval h
with_new_side_lem store good p f Opens h = with_side_at_lem store good p f Opening tt
with_new_side_lem store good p f Tears h = with_side_at_lem store good p f Opening tt
with_new_side_lem store good p f Stays h = good

module _ (e : Float) (store : Store) (good : GoodStore store) (con p : ℕ) (d : TmeshDirection) where
  first_side_lem : GoodNewSide (first_side e store con p d)
  unfolding first_side
  first_side_lem = new_side_lem e (store_sides store) store.made con p (clockwise_of d) (store_sides_lem store good)

  with_first_lem : GoodStore (with_first e store con p d)
  unfolding with_first
  with_first_lem = with_new_side_lem store good p (clockwise_of d) (first_side e store con p d) first_side_lem

  second_side_lem : GoodNewSide (second_side e store con p d)
  unfolding second_side
  second_side_lem =
      unless (first_side e store con p d) _
      (new_side_lem e (store_sides (with_first e store con p d)) store.made con p (anti_clockwise_of d) (store_sides_lem (with_first e store con p d) with_first_lem))
    where
      unless : (first second : NewSide) → GoodNewSide second → GoodNewSide (unless_torn first second)
      unless first second h = cond_case (tears first) GoodNewSide _ _ (λ _. tt) (λ _. h)

  both_sides : GoodStore (sided e store con p d).store
  unfolding sided
  both_sides = with_new_side_lem (with_first e store con p d) with_first_lem p (anti_clockwise_of d) (second_side e store con p d) second_side_lem

-- ---- a ratio from 0 to 1
ratio_not_negative : (ratio : Float) → in_unit ratio ≡ true → NotNegative ratio
unfolding in_unit
ratio_not_negative ratio h =
    nonneg→nonneg_or_nan ratio (le→nonneg ratio (rw literal_zero at (and_l (le zero_literal ratio) (le ratio one_literal) (rw h tt))))

rest_not_negative : (ratio : Float) → in_unit ratio ≡ true → NotNegative (sub binary64 one_literal ratio)
unfolding in_unit
rest_not_negative ratio h =
    sub_nonneg_or_nan binary64 one_literal ratio (le→nlt one_literal ratio (and_r (le zero_literal ratio) (le ratio one_literal) (rw h tt)))

-- ---- insertion
module _ (store : Store) (good : GoodStore store) (con : ℕ) (d : TmeshDirection) (ratio : Float) where
  point_placed : (other : ℕ) (interval : Float) → in_unit ratio ≡ true → NotNegative interval → GoodStore (placed store con other d interval ratio)
  unfolding placed
  point_placed other interval u h =
      connect_points_call _
      (connect_points_call _ with_p con store.made d (mul binary64 interval ratio) (nonneg_or_nan_mul binary64 interval ratio h (ratio_not_negative ratio u)))
      store.made other d (mul binary64 interval (sub binary64 one_literal ratio))
      (nonneg_or_nan_mul binary64 interval (sub binary64 one_literal ratio) h (rest_not_negative ratio u))
    where
      in_line : GoodPoint (point_in_line d)
      in_line = with_side_lem _ (flip_of d) Opening (with_side_lem _ d Opening (loose_point_lem zero_literal zero_not_negative) tt) tt

      link_cut : GoodStore (cut store con other d)
      link_cut = with_side_at_lem (with_side_at store con d Opening) (with_side_at_lem store good con d Opening tt) other (flip_of d) Opening tt

      with_p : GoodStore (with_new (cut store con other d) (point_in_line d))
      with_p = with_new_lem (cut store con other d) link_cut (point_in_line d) in_line

  pub point_inserted : (e : Float) (listed : Bool) → GoodStore (insert_point e store listed con d ratio).store
  point_inserted e listed =
      insertion_case (λ (inserted : Inserted). GoodStore inserted.store) e store con d ratio (λ _. good)
      (λ other interval u link _.
      both_sides e (placed store con other d interval ratio) (point_placed other interval u (subst GoodSide link (store_sides_lem store good con d))) con store.made d)
      listed
