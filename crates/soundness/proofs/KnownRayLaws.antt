-- Laws of rays and knots in mirrored sides: from a made point each front stands at a made point, so each is refused 3, 4 or 9 if it is refused.
use Prim.Native.Nat.{ℕ, zero, suc, ◌<◌, ◌≤◌}
use Rattle.std.specs.Prelude.{Option, Some, None, ◌≡◌, Bool, false, List, Float, Err, Ok, Result}
use Rattle.std.proofs.Math.Path.{refl}
use Rattle.std.specs.Float.{binary64}
use Rattle.std.specs.Float.Ieee.{sub, lt}
use Rattle.control_point.specs.Direction.{clockwise_of, anti_clockwise_of}
use Rattle.control_point.specs.Point.{is_border, is_opening}
use Rattle.control_point.proofs.PointLaws.{made_is_made}
use Rattle.control_point.specs.Sides.{Sides}
use Rattle.control_point.specs.Small.{small}
use Rattle.navigation.specs.Walk.{walk_of}
use Rattle.control_point.specs.declared.t_mesh_direction.TmeshDirection.{TmeshDirection}
use Rattle.control_point.specs.declared.t_mesh_direction.TmeshDirection.TheVariants.{Up, Right, Down, Left}
use Rattle.control_point.specs.declared.t_mesh_control_point.Side.{Side}
use Rattle.control_point.specs.declared.t_mesh_control_point.Side.TheVariants.{Link, Border, Opening}
use Rattle.store.specs.Store.{store_sides}
use Rattle.store.specs.declared.store.Store.{Store}
use Rattle.counting.proofs.BoolLaws.{cond_case}
use Rattle.mirror.specs.Mirror.{Mirrored, Sound}
use Rattle.float64.specs.Literals.{zero_literal}
use Rattle.ray_approach.specs.Approach.{approach_round, approach_in, approach_of}
use Rattle.ray_entry.specs.Entry.{on_ray, after_walk, corner_walk, face_walk, side_entry, point_entry, around_face, after_approach, march_entry, entry_from, entry_of}
use Rattle.ray.specs.Knots.{after_ray, knots_at, point_knot_vectors}
use Rattle.ray.specs.Ray.{Ray, entries, refused, before, after_entry, ray_from, ray_of}
use Rattle.ray_approach.specs.declared.approach.Approach.TheVariants.{Aligned, Crossed}
use Rattle.ray_entry.specs.declared.entry.Front.{Front}
use Rattle.ray.specs.declared.knots.KnotsAnswer.{KnotsAnswer}
use Rattle.soundness.proofs.KnownLaws.{Met, MetOutcome, KnownWalk, known_walk}
use Rattle.control_point.specs.declared.refusal.Refusal.{Refusal}
use Rattle.navigation.specs.declared.walk.Walk.{Walk}
use Rattle.ray_approach.specs.declared.approach.Approach.{Approach}
use Rattle.ray_entry.specs.declared.entry.Entry.{Entry}

-- an approach that stays at made points, an entry whose front does, and a ray, each refused 3, 4 or 9 if it is refused
abbrev KnownApproach : ℕ → Result Approach Refusal → Type 0
KnownApproach made (Ok (Aligned n)) = n < made
KnownApproach made (Ok (Crossed n r)) = n < made
KnownApproach made (Err refusal) = Met refusal

abbrev KnownEntry : ℕ → Result Entry Refusal → Type 0
KnownEntry made (Ok entry) = entry.front.at < made
KnownEntry made (Err refusal) = Met refusal

abbrev pub KnownRay : Ray → Type 0
KnownRay (entries values) = Unit {0}
KnownRay (refused refusal) = Met refusal

known_before : (value : Float) (ray : Ray) → KnownRay ray → KnownRay (before value ray)
known_before value (entries values) known = tt
known_before value (refused refusal) known = known

module _ (e : Float) (sides : Sides) (made : ℕ) (fits : made ≤ 128) (mirrored : Mirrored made sides) (d : TmeshDirection) where
  -- ---- the approach
  rounds : (walk : Result Walk Refusal) (at : ℕ) (r : Float) (again : ℕ → Float → Result Approach Refusal) → KnownWalk made walk → at < made
      → ((n : ℕ) (rest : Float) → n < made → KnownApproach made (again n rest)) → KnownApproach made (approach_round e walk at r again)
  rounds (Ok walk) at r again known h known-again =
      cond_case (small e (sub binary64 r walk.sum)) (KnownApproach made) _ _ (λ s. h)
      (λ s. cond_case (lt (sub binary64 r walk.sum) zero_literal) (KnownApproach made) _ _ (λ l. h) (λ l. known-again walk.at (sub binary64 r walk.sum) known))
  rounds (Err refusal) at r again known h known-again = known

  known_approach : (left at : ℕ) (r : Float) → at < made → KnownApproach made (approach_in e sides made d left at r)
  unfolding approach_in
  known_approach zero at r h = refl
  known_approach (suc left) at r h =
      rounds (walk_of sides made at (clockwise_of d) d) at r _ (known_walk sides made fits mirrored at (clockwise_of d) d h) h
      (λ n rest l. known_approach left n rest l)

  -- ---- one entry
  after_walk_lem : (walk : Result Walk Refusal) (next : ℕ → Float → Result Entry Refusal) → KnownWalk made walk → ((n : ℕ) (sum : Float) → n < made → KnownEntry made (next n sum))
      → KnownEntry made (after_walk walk next)
  after_walk_lem (Ok walk) next known known_next = known_next walk.at walk.sum known
  after_walk_lem (Err refusal) next known known_next = known

  -- over a corner and over a face, from a made point
  over_corner : (at : ℕ) (next : ℕ → Float → Result Entry Refusal) → at < made → ((n : ℕ) (sum : Float) → n < made → KnownEntry made (next n sum))
      → KnownEntry made (after_walk (corner_walk sides made d at) next)
  over_corner at next h = after_walk_lem (corner_walk sides made d at) next (known_walk sides made fits mirrored at (anti_clockwise_of d) d h)

  over_face_lem : (at : ℕ) (next : ℕ → Float → Result Entry Refusal) → at < made → ((n : ℕ) (sum : Float) → n < made → KnownEntry made (next n sum))
      → KnownEntry made (after_walk (face_walk sides made d at) next)
  over_face_lem at next h = after_walk_lem (face_walk sides made d at) next (known_walk sides made fits mirrored at d (clockwise_of d) h)

  by_side : (at : ℕ) (met : Bool) → at < made → (side : Side) → sides at d ≡ side → KnownEntry made (side_entry sides made d (Ok side) at met)
  by_side at met h (Link n interval) link = (mirrored at d n interval h link).leads
  by_side at met h (Border weight) link = h
  by_side at met h Opening link = over_corner at _ h (λ corner r l. over_face_lem corner _ l (λ n sum k. k))

  known_point : (at : ℕ) (met : Bool) → at < made → KnownEntry made (point_entry sides made d at met)
  known_point at met h = rw (made_is_made made at fits h) (by_side at met h (sides at d) refl)

  around_face_lem : (at : ℕ) (met : Bool) (r : Float) → at < made → KnownEntry made (around_face sides made d at met r)
  around_face_lem at met r h =
      cond_case (is_opening (sides at d)) (KnownEntry made) _ _
      (λ o. over_corner at _ h (λ corner sum l. over_face_lem corner _ l (λ n sum k. k)))
      (λ o. over_face_lem at _ h (λ n sum k. k))

  after_approach_lem : (approach : Result Approach Refusal) (met : Bool) → KnownApproach made approach → KnownEntry made (after_approach sides made d approach met)
  after_approach_lem (Ok (Aligned at)) met known = known_point at met known
  after_approach_lem (Ok (Crossed at r)) met known = around_face_lem at met r known
  after_approach_lem (Err refusal) met known = known

  known_march : (at : ℕ) (met : Bool) (r : Float) → at < made → KnownEntry made (march_entry e sides made d at met r)
  unfolding approach_of
  known_march at met r h =
      cond_case (is_border (sides at d)) (KnownEntry made) _ _ (λ b. known_point at met h)
      (λ b. after_approach_lem (approach_in e sides made d made at r) met (known_approach made at r h))

  known_entry : (front : Front) → front.at < made → KnownEntry made (entry_of e sides made d front)
  known_entry front h = by_march front.march
    where
      by_march : (march : Option Float) → KnownEntry made (entry_from e sides made d front.at front.bordered march)
      by_march (Some r) = known_march front.at front.bordered r h
      by_march None = known_point front.at front.bordered h

  -- ---- the ray
  after_entry_lem : (entry : Result Entry Refusal) (rest : Front → Ray) → KnownEntry made entry → ((front : Front) → front.at < made → KnownRay (rest front))
      → KnownRay (after_entry entry rest)
  after_entry_lem (Ok entry) rest known known-rest = known_before entry.value (rest entry.front) (known-rest entry.front known)
  after_entry_lem (Err refusal) rest known known-rest = known

  known_from : (left : ℕ) (front : Front) → front.at < made → KnownRay (ray_from e sides made d left front)
  unfolding ray_from
  known_from zero front h = tt
  known_from (suc left) front h = after_entry_lem (entry_of e sides made d front) _ (known_entry front h) (λ next l. known_from left next l)

  -- of any length
  pub known_ray : (start : ℕ) → start < made → (n : ℕ) → KnownRay (ray_of e sides made start d n)
  unfolding ray_of
  known_ray start h n = rw (made_is_made made start fits h) (known_from n (on_ray start false) h)

-- ---- the knots of a point
after_ray_lem : (ray : Ray) (next : List Float → KnotsAnswer) → KnownRay ray → ((values : List Float) → MetOutcome (next values).outcome)
    → MetOutcome (after_ray ray next).outcome
after_ray_lem (entries values) next known known_next = known_next values
after_ray_lem (refused refusal) next known known_next = known

module _ (e : Float) (store : Store) (sound : Sound store) (n : ℕ) (n-made : n < store.made) where
  over_ray : (d : TmeshDirection) (next : List Float → KnotsAnswer) → ((values : List Float) → MetOutcome (next values).outcome)
      → MetOutcome (after_ray (ray_of e (store_sides store) store.made n d 2) next).outcome
  over_ray d next =
      after_ray_lem (ray_of e (store_sides store) store.made n d 2) next
      (known_ray e (store_sides store) store.made sound.fits sound.mirrored d n n-made 2)

  pub known_knots : MetOutcome (point_knot_vectors e store n).outcome
  unfolding point_knot_vectors knots_at
  known_knots =
      rw (made_is_made store.made n sound.fits n-made)
      (over_ray Up _ (λ up. over_ray Right _ (λ right. over_ray Down _ (λ down. over_ray Left _ (λ left. tt)))))
