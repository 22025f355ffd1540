-- An insertion either is refused and leaves the store, or passed every check: then the ratio lies in 0 to 1, con's side is a link and there
-- is room for a point, and the point is placed and its two sides across are found. So what holds of both holds of every insertion.
use Rattle.std.specs.Prelude.{ℕ, ◌<◌, ◌≡◌, refl, Bool, true, ltb, Float, Err, Ok, Result}
use Rattle.std.proofs.Common.{ltb-true}
use Rattle.std.specs.Float.Ieee.{binary64, sub}
use Rattle.float64.specs.Unit.{in_unit}
use Rattle.control_point.specs.Direction.{flip_of}
use Rattle.control_point.specs.Point.{is_made}
use Rattle.control_point.specs.Small.{small}
use Rattle.control_point.specs.declared.refusal.Refusal.{Refusal}
use Rattle.control_point.specs.declared.refusal.Refusal.TheVariants.{Ratio, Foreign, OpenSide, BorderSide, Interval, Full, NoPoint}
use Rattle.control_point.specs.declared.t_mesh_control_point.Side.{Side}
use Rattle.control_point.specs.declared.t_mesh_control_point.Side.TheVariants.{Link, Border, Opening}
use Rattle.control_point.specs.declared.t_mesh_direction.TmeshDirection.{TmeshDirection}
use Rattle.store.specs.Store.{store_sides, read_side}
use Rattle.store.specs.declared.store.Store.{Store}
use Rattle.insertion.specs.Insert.{checked_intervals, checked_facing, checked_side, checked, placed, sided, passed, insert_point}
use Rattle.insertion.specs.declared.insertion.Inserted.{Inserted}
use Rattle.counting.proofs.BoolLaws.{cond_case}
use Rattle.control_point.specs.declared.t_mesh_control_point.LinkEnd.{LinkEnd}

module _ (P : Inserted → Type 0) (e : Float) (store : Store) (con : ℕ) (d : TmeshDirection) (ratio : Float) where
  -- the point placed in a link, with its two sides across
  abbrev grown : ℕ → Float → Inserted
  grown other interval = sided e (placed store con other d interval ratio) con store.made d

  -- after the checks
  abbrev After : Result LinkEnd Refusal → Type 0
  After checked = P (passed store checked grown)

  -- the facing side of a point
  abbrev facing_side : ℕ → Result Side Refusal
  facing_side other = read_side store other (flip_of d)

  module _ (refused : (refusal : Refusal) → P (record { answer = Err refusal; store = store }))
      (placing : (other : ℕ) (interval : Float) → in_unit ratio ≡ true → store_sides store con d ≡ Link other interval → store.made < 128
      → P (grown other interval)) where
    module _ (u : in_unit ratio ≡ true) where
      module _ (other : ℕ) (interval : Float) (link : store_sides store con d ≡ Link other interval) where
        by_intervals : (facing : Float) → After (checked_intervals e store.made other interval facing)
        unfolding checked_intervals
        by_intervals facing =
            cond_case (small e (sub binary64 interval facing)) After _ _
            (λ _.
            cond_case (ltb store.made 128) After _ _
            (λ room. placing other interval u link (ltb-true store.made 128 room))
            (λ _. refused Full))
            (λ _. refused Interval)

        by_facing : (facing : Result Side Refusal) → After (checked_facing e store.made other interval facing)
        by_facing (Ok (Link n facing)) = by_intervals facing
        by_facing (Ok (Border weight)) = by_intervals weight
        by_facing (Ok Opening) = refused OpenSide
        by_facing (Err refusal) = refused refusal

      by_side : (side : Side) → store_sides store con d ≡ side → After (checked_side e store.made (Ok side) facing_side)
      by_side (Link other interval) link = by_facing other interval link (facing_side other)
      by_side (Border weight) link = refused BorderSide
      by_side Opening link = refused OpenSide

    pub insertion_case : (listed : Bool) → P (insert_point e store listed con d ratio)
    unfolding insert_point checked
    insertion_case listed =
        cond_case (in_unit ratio) After _ _
        (λ u.
        cond_case listed After _ _
        (λ _.
        cond_case (is_made store.made con) (λ answer. After (checked_side e store.made answer facing_side)) _ _
        (λ _. by_side u (store_sides store con d) refl)
        (λ _. refused NoPoint))
        (λ _. refused Foreign))
        (λ _. refused Ratio)
