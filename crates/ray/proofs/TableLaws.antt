-- A ray and a point's knots tell what their tables say.
use Prim.Native.Nat.{ℕ, zero, suc}
use Rattle.std.specs.Prelude.{◌≡◌, refl, Bool, true, false, cond, Float, length, Err, Ok, Result}
use Rattle.std.proofs.Common.{sym, ◌∙◌}
use Rattle.std.proofs.Math.Path.{ap}
use mathlib.Core.List.{List, [], ◌∷◌, ◌++◌, append-nil}
use Rattle.std.proofs.Math.Seq.{append_snoc}
use Rattle.control_point.specs.Point.{is_made}
use Rattle.control_point.specs.Sides.{Sides}
use Rattle.control_point.specs.Told.{Told, tells, unless, refused_or}
use Rattle.control_point.specs.declared.refusal.Refusal.TheVariants.{NoPoint}
use Rattle.control_point.specs.declared.t_mesh_direction.TmeshDirection.{TmeshDirection}
use Rattle.control_point.specs.declared.t_mesh_direction.TmeshDirection.TheVariants.{Up, Right, Down, Left}
use Rattle.store.specs.Store.{store_sides, store_point}
use Rattle.store.specs.declared.store.Store.{Store}
use Rattle.ray_entry.specs.Entry.{on_ray, entry_of}
use Rattle.ray_entry.proofs.TableLaws.{entry_told, entry_told_lem}
use Rattle.ray_entry.specs.declared.entry.Front.{Front}
use Rattle.ray.specs.Knots.{five_knots, no_knots, after_ray, knots_about, knots_at, point_knot_vectors, knots_told}
use Rattle.ray.specs.Ray.{Ray, entries, refused, before, after_entry, ray_from, ray_of, cast_of, cast_ray, floats, cast_told}
use Rattle.ray.proofs.RayLaws.{behind, behind_none}
use Rattle.ray.specs.Table.{ray_table, cast_table, knots_table}
use Rattle.control_point.specs.declared.refusal.Refusal.{Refusal}
use Rattle.ray_entry.specs.declared.entry.Entry.{Entry}

-- ---- a ray, into a buffer of n entries
module _ (e : Float) (sides : Sides) (made : ℕ) (d : TmeshDirection) (n : ℕ) where
  abbrev told : Ray → Told
  told ray = cast_told (cast_of ray n)

  behind_next : (standing : List Float) (value : Float) (ray : Ray) → behind standing (before value ray) ≡ behind (standing ++ (value ∷ [])) ray
  behind_next standing value (entries more) = ap entries (sym (append_snoc standing value more))
  behind_next standing value (refused refusal) = refl

  entered_told : (standing : List Float) (rest : Front → Ray) (table : Float → Front → Told)
      → ((value : Float) (front : Front) → told (behind (standing ++ (value ∷ [])) (rest front)) ≡ table value front)
      → (entry : Result Entry Refusal) → told (behind standing (after_entry entry rest)) ≡ entry_told table entry
  entered_told standing rest table h (Ok entry) = ap told (behind_next standing entry.value (rest entry.front)) ∙ h entry.value entry.front
  entered_told standing rest table h (Err refusal) = refl

  ray_told : (left : ℕ) (front : Front) (standing : List Float) → told (behind standing (ray_from e sides made d left front)) ≡ ray_table e sides made d left front standing
  unfolding ray_from ray_table
  ray_told zero front standing = ap (λ (values : List Float). tells (floats values)) (append-nil standing)
  ray_told (suc left) front standing =
      entered_told standing _ _ (λ value next. ray_told left next (standing ++ (value ∷ []))) (entry_of e sides made d front)
      ∙ entry_told_lem _ sides made d e front

pub cast_told_lem : (e : Float) (store : Store) (start : ℕ) (d : TmeshDirection) (buffer : List Float)
    → cast_told (cast_ray e store start d buffer) ≡ cast_table e store start d (length buffer)
unfolding ray_of
cast_told_lem e store start d buffer = by_made (is_made store.made start)
  where
    ray : Ray
    ray = ray_from e (store_sides store) store.made d (length buffer) (on_ray start false)

    by_made : (b : Bool)
        → cast_told (cast_of (cond b ray (refused NoPoint)) (length buffer))
        ≡ unless 11 b (ray_table e (store_sides store) store.made d (length buffer) (on_ray start false) [])
    by_made true =
        ap (λ (x : Ray). cast_told (cast_of x (length buffer))) (sym (behind_none ray))
        ∙ ray_told e (store_sides store) store.made d (length buffer) (length buffer) (on_ray start false) []
    by_made false = refl

-- ---- a point's knots
pub knots_told_lem : (e : Float) (store : Store) (n : ℕ) → knots_told (point_knot_vectors e store n) ≡ knots_table e store n
unfolding point_knot_vectors knots_at
knots_told_lem e store n = by_rays (is_made store.made n) (cast Up) (cast Right) (cast Down) (cast Left)
  where
    cast : TmeshDirection → Ray
    cast d = ray_of e (store_sides store) store.made n d 2

    s : Float
    s = (store_point store n).s

    t : Float
    t = (store_point store n).t

    by_rays : (made : Bool) (up right down left : Ray)
        → knots_told (cond made (after_ray up (λ a. after_ray right (λ b. after_ray down (λ c. after_ray left (λ d. knots_about s t a b c d))))) (no_knots (Err NoPoint)))
        ≡ unless 11 made
        (refused_or (cast_of up 2).0
        (refused_or (cast_of right 2).0
        (refused_or (cast_of down 2).0
        (refused_or (cast_of left 2).0
        (tells (floats (five_knots s (cast_of left 2).1 (cast_of right 2).1 ++ five_knots t (cast_of down 2).1 (cast_of up 2).1)))))))
    by_rays false up right down left = refl
    by_rays true (refused refusal) right down left = refl
    by_rays true (entries a) (refused refusal) down left = refl
    by_rays true (entries a) (entries b) (refused refusal) left = refl
    by_rays true (entries a) (entries b) (entries c) (refused refusal) = refl
    by_rays true (entries a) (entries b) (entries c) (entries d) = refl
