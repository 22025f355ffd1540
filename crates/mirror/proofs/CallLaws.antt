-- Laws of direct calls: each of them either is refused and leaves the store as it was, or is done and keeps it sound.
use Rattle.std.specs.Prelude.{ℕ, ◌≡◌, true, false, cond, ltb, Float, Err, Ok, Result, ⊤}
use Rattle.std.proofs.Math.Path.{refl}
use Rattle.std.proofs.Common.{ap, ◌∙◌, ltb-true}
use Rattle.control_point.specs.Connect.{connectable}
use Rattle.control_point.specs.Point.{side_of, is_link, is_border, is_made, loose_point}
use Rattle.control_point.proofs.PointLaws.{is_made_made, is_made_room}
use Rattle.control_point.specs.Told.{outcome_number}
use Rattle.control_point.specs.declared.refusal.Refusal.{Refusal}
use Rattle.control_point.specs.declared.refusal.Refusal.TheVariants.{OpenSide, Taken, Full, NoPoint}
use Rattle.control_point.specs.declared.t_mesh_direction.TmeshDirection.{TmeshDirection}
use Rattle.control_point.specs.declared.t_mesh_direction.TmeshDirection.TheVariants.{Up, Right, Down, Left}
use Rattle.control_point.specs.declared.t_mesh_control_point.Side.{Side}
use Rattle.control_point.specs.declared.t_mesh_control_point.Side.TheVariants.{Link, Border, Opening}
use Rattle.control_point.specs.declared.t_mesh_control_point.TmeshControlPoint.{TmeshControlPoint}
use Rattle.store.specs.Store.{store_sides, store_point, with_side_at, linked, done, refused, settled, opened, weighted, coordinated, all_borders, make_loose, connect_points, remove_connection, remove_edge_condition, set_edge_con_weight, set_knot_coordinates}
use Rattle.store.specs.declared.store.Changed.{Changed}
use Rattle.store.specs.declared.store.Store.{Store}
use Rattle.counting.proofs.BoolLaws.{both_ways, cond_case}
use Rattle.mirror.specs.Calls.{Call, make_loose_call, connect, remove_connection_call, remove_edge_condition_call, set_edge_con_weight_call, set_knot_coordinates_call, navigate_until_con_call, read_side_call, read_point_call, call_store, call_number}
use Rattle.mirror.specs.Mirror.{Sound}
use Rattle.mirror.proofs.MirrorLaws.{done_joining, sound_new, sound_point, sound_side, sound_linked, sound_cut}
use Rattle.store.proofs.StoreLaws.{side_read}

-- what a call may come to: a refusal with the store as it was, or another store, sound if the first was
pub data Settles (store : Store) : Changed → Type 0 where
  refuses : (refusal : Refusal) → Settles store (refused store refusal)
  changes : (new : Store) → (Sound store → Sound new) → Settles store (done new)

border_no_link : (side : Side) → is_border side ≡ true → is_link side ≡ false
border_no_link (Link m interval) h = both_ways false h refl
border_no_link (Border weight) h = refl
border_no_link Opening h = refl

loose_no_link : (weight : Float) (d : TmeshDirection) → is_link (side_of (loose_point weight) d) ≡ false
loose_no_link weight Up = refl
loose_no_link weight Right = refl
loose_no_link weight Down = refl
loose_no_link weight Left = refl

coordinated_side : (p : TmeshControlPoint) (s t : Float) (d : TmeshDirection) → side_of (coordinated p s t) d ≡ side_of p d
coordinated_side p s t Up = refl
coordinated_side p s t Right = refl
coordinated_side p s t Down = refl
coordinated_side p s t Left = refl

module _ (store : Store) where
  pub settles_make_loose : (weight : Float) → Settles store (make_loose store weight)
  unfolding make_loose
  settles_make_loose weight =
      cond_case (ltb store.made 128) (Settles store) _ _
      (λ h. changes _ (λ sound. sound_new store sound (loose_point weight) (ltb-true store.made 128 h) (loose_no_link weight)))
      (λ h. refuses Full)

  pub settles_connect : (first other : ℕ) (d : TmeshDirection) (interval : Float) → Settles store (connect_points store first other d interval)
  unfolding connect_points
  settles_connect first other d interval = by_test (connectable (store_sides store) store.made first other d) refl
    where
      by_test : (outcome : Result ⊤ Refusal) → connectable (store_sides store) store.made first other d ≡ outcome
          → Settles store (settled outcome (linked store first other d interval) store)
      by_test (Ok tt) e =
          changes _ (λ sound. sound_linked store sound first other d interval (done_joining store.made (store_sides store) first other d e))
      by_test (Err refusal) e = refuses refusal

  -- a call on one point is settled if it is where the point is made
  settles_on : (n : ℕ) (changed : Changed) → (is_made store.made n ≡ true → Settles store changed)
      → Settles store (cond (is_made store.made n) changed (refused store NoPoint))
  settles_on n changed settles = cond_case (is_made store.made n) (Settles store) _ _ settles (λ h. refuses NoPoint)

  -- a call on one side of a made point
  module _ (n : ℕ) (d : TmeshDirection) (h : is_made store.made n ≡ true) where
    stored : store_sides store n d ≡ side_of (store_point store n) d
    stored = side_read store n d (is_made_room store.made n h)

    -- no link set where none was
    sides_kept : (side : Side) → is_link (side_of (store_point store n) d) ≡ false → is_link side ≡ false → Sound store → Sound (with_side_at store n d side)
    sides_kept side before now sound = sound_side store sound n d side (is_made_made store.made n h) (ap is_link stored ∙ before) now

    settles_opened : (side : Side) → side_of (store_point store n) d ≡ side → Settles store (opened store n d side)
    settles_opened (Link m interval) e =
        cond_case (is_made store.made m) (Settles store) _ _
        (λ l.
        changes _ (λ sound. sound_cut store sound n d m interval Opening Opening (is_made_made store.made n h) (stored ∙ e) refl refl))
        (λ l. refuses NoPoint)
    settles_opened (Border weight) e = changes _ (sides_kept Opening (ap is_link e) refl)
    settles_opened Opening e = refuses OpenSide

    settles_weighted : (weight : Float) (side : Side) → side_of (store_point store n) d ≡ side → Settles store (weighted store n d weight side)
    settles_weighted weight (Link m interval) e = refuses Taken
    settles_weighted weight (Border old) e = changes _ (sides_kept (Border weight) (ap is_link e) refl)
    settles_weighted weight Opening e = refuses OpenSide

  pub settles_remove_connection : (n : ℕ) (d : TmeshDirection) → Settles store (remove_connection store n d)
  unfolding remove_connection
  settles_remove_connection n d = settles_on n _ (λ h. settles_opened n d h (side_of (store_point store n) d) refl)

  pub settles_remove_edge_condition : (n : ℕ) (d : TmeshDirection) → Settles store (remove_edge_condition store n d)
  unfolding remove_edge_condition
  settles_remove_edge_condition n d =
      settles_on n _
      (λ h.
      cond_case (is_border (side_of (store_point store n) d)) (Settles store) _ _
      (λ b. changes _ (sides_kept n d h Opening (border_no_link (side_of (store_point store n) d) b) refl))
      (λ b. refuses Taken))

  pub settles_set_edge_con_weight : (n : ℕ) (d : TmeshDirection) (weight : Float) → Settles store (set_edge_con_weight store n d weight)
  unfolding set_edge_con_weight
  settles_set_edge_con_weight n d weight = settles_on n _ (λ h. settles_weighted n d h weight (side_of (store_point store n) d) refl)

  pub settles_set_knot_coordinates : (n : ℕ) (s t : Float) → Settles store (set_knot_coordinates store n s t)
  unfolding set_knot_coordinates
  settles_set_knot_coordinates n s t =
      settles_on n _
      (λ h.
      cond_case (all_borders (store_point store n)) (Settles store) _ _
      (λ b.
      changes _
      (λ sound.
      sound_point store sound n (coordinated (store_point store n) s t) (is_made_room store.made n h) (coordinated_side (store_point store n) s t)))
      (λ b. refuses Taken))

-- what holds of the answer and the store of all that settles, and of any answer with the store as it was, holds of every call
module _ (store : Store) (P : ℕ → Store → Type 0)
    (settled-has : (changed : Changed) → Settles store changed → P (outcome_number changed.outcome) changed.store)
    (read_Has : (number : ℕ) → P number store) where
  pub every_call : (call : Call) → P (call_number store call) (call_store store call)
  every_call (make_loose_call weight) = settled-has _ (settles_make_loose store weight)
  every_call (connect first other d interval) = settled-has _ (settles_connect store first other d interval)
  every_call (remove_connection_call n d) = settled-has _ (settles_remove_connection store n d)
  every_call (remove_edge_condition_call n d) = settled-has _ (settles_remove_edge_condition store n d)
  every_call (set_edge_con_weight_call n d weight) = settled-has _ (settles_set_edge_con_weight store n d weight)
  every_call (set_knot_coordinates_call n s t) = settled-has _ (settles_set_knot_coordinates store n s t)
  every_call (navigate_until_con_call start travel watch) = read_Has _
  every_call (read_side_call n d) = read_Has _
  every_call (read_point_call n) = read_Has _
