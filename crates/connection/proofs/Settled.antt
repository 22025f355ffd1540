-- Connecting: once both numbers are made, what the two points answer decides.
use Prim.Native.Nat.{ℕ, ◌<◌}
use mathlib.Core.Path.{◌≡◌, sym, refl}
use mathlib.Core.Bool.{Bool, true, false, ◌&&◌, false≢true}
use lib.Ieee.{Float}
use Rattle.control_point.specs.Connect.{connectable}
use Rattle.control_point.specs.Direction.{flip_of}
use Rattle.control_point.specs.Point.{is_made}
use Rattle.control_point.proofs.PointLaws.{is_made_room}
use Rattle.control_point.specs.declared.refusal.Refusal.TheVariants.{NoPoint}
use Rattle.control_point.specs.declared.t_mesh_control_point.TmeshControlPoint.{TmeshControlPoint}
use Rattle.control_point.specs.declared.t_mesh_direction.TmeshDirection.{TmeshDirection}
use Rattle.store.specs.Store.{store_point, linked, refused, settled, connect_points}
use Rattle.store.proofs.StoreLaws.{side_read}
use Rattle.store.specs.declared.store.Store.{Store}
use Rattle.connection.specs.Connect.{may_connect}
use Rattle.std.specs.Prelude.{Err, Ok, Result, ⊤}
use Rattle.control_point.specs.declared.refusal.Refusal.{Refusal}

both_true : (a b : Bool) → (a && b) ≡ true → (a ≡ true) × (b ≡ true)
both_true true b h = (refl, h)
both_true false b h = (h, absurd (false≢true h))

module _ (store : Store) (first other : ℕ) where
  abbrev pub BothMade : Type 0
  BothMade = (is_made store.made first && is_made store.made other) ≡ true

  pub first_room : BothMade → first < 128
  first_room h = is_made_room store.made first (both_true _ _ h).0

  pub other_room : BothMade → other < 128
  other_room h = is_made_room store.made other (both_true (is_made store.made first) _ h).1

  module _ (d : TmeshDirection) (interval : Float) where
    pub connect_unmade : (is_made store.made first && is_made store.made other) ≡ false
        → connect_points store first other d interval ≡ refused store NoPoint
    unfolding connect_points connectable
    connect_unmade h = simp h

    pub connect_settled : BothMade
        → connect_points store first other d interval ≡ settled (may_connect first other (store_point store first) (store_point store other) d) (linked store first other d interval) store
    unfolding connect_points connectable may_connect
    connect_settled h = simp (h, side_read store first d (first_room h), side_read store other (flip_of d) (other_room h))

    -- what the two points answer decides
    pub answered : BothMade → (near far : TmeshControlPoint) → near ≡ store_point store first → far ≡ store_point store other
        → (outcome : Result ⊤ Refusal) → outcome ≡ may_connect first other near far d
        → settled outcome (linked store first other d interval) store ≡ connect_points store first other d interval
    answered h near far n f outcome o = rw (o, n, f) (sym (connect_settled h))

-- an answer other than done leaves the store
pub not_done : (outcome : Result ⊤ Refusal) (new old : Store) → (outcome ≡ Ok tt → ⊥) → record { outcome = outcome; store = old } ≡ settled outcome new old
not_done (Ok tt) new old h = absurd (h refl)
not_done (Err r) new old h = refl
