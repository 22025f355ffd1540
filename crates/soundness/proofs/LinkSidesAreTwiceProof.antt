-- Counted twice: a side in a direction that leads from n to m is, at m, the side in the opposite direction that leads to n. So there are as many link sides
-- in a direction as in the opposite one.
use Rattle.std.specs.Prelude.{ℕ, ◌<◌, ◌+◌, ◌*◌, ◌≡◌, refl, Bool, true, false, cond, ◌&&◌, eqb, Float}
use Rattle.std.proofs.Common.{sym, ap, ◌∙◌, arith, eqb-true, eq-eqb, ne_eqb}
use Rattle.control_point.specs.Direction.{flip_of}
use Rattle.control_point.proofs.DirectionLaws.{flip_flip}
use Rattle.control_point.specs.Point.{is_made, is_link}
use Rattle.control_point.proofs.PointLaws.{is_made_made, made_is_made}
use Rattle.control_point.specs.declared.t_mesh_direction.TmeshDirection.{TmeshDirection}
use Rattle.control_point.specs.declared.t_mesh_direction.TmeshDirection.TheVariants.{Up, Right}
use Rattle.control_point.specs.declared.t_mesh_control_point.Side.{Side}
use Rattle.control_point.specs.declared.t_mesh_control_point.Side.TheVariants.{Link, Border, Opening}
use Rattle.store.specs.Store.{store_sides}
use Rattle.store.specs.declared.store.Store.{Store}
use Rattle.counting.proofs.BoolLaws.{both_ways, and_both, same_tests}
use Rattle.mirror.specs.Mirror.{Sound}
use Rattle.counting.specs.Counting.{count_below}
use Rattle.counting.proofs.CountLaws.{count_same, count_nothing, count_one}
use Rattle.counting.proofs.PairLaws.{count_paired}
use Rattle.census.specs.Census.{has_side, sides_towards, sides_that, counts_of}
use Rattle.soundness.proofs.EveryMapProof.{every_map_mirrored}
use Rattle.soundness.specs.Theorems.{LinkSidesAreTwice}

-- whether a side is a link to a point
abbrev links_to : Side → ℕ → Bool
links_to (Link k interval) m = eqb k m
links_to (Border weight) m = false
links_to Opening m = false

links_to_lem : (side : Side) (m : ℕ) → links_to side m ≡ true → (interval : Float) × (side ≡ Link m interval)
links_to_lem (Link k interval) m h = (interval, ap (λ (n : ℕ). Link n interval) (eqb-true k m h))
links_to_lem (Border weight) m h = both_ways false h refl
links_to_lem Opening m h = both_ways false h refl

module _ (store : Store) (sound : Sound store) where
  -- whether a side of a made point leads to another
  abbrev leads : TmeshDirection → ℕ → ℕ → Bool
  leads d n m = is_made store.made n && links_to (store_sides store n d) m

  -- then the other's facing side leads back
  back : (d : TmeshDirection) (n m : ℕ) → leads d n m ≡ true → leads (flip_of d) m n ≡ true
  back d n m h =
      let both = and_both (is_made store.made n) (links_to (store_sides store n d) m) h in
      let link = links_to_lem (store_sides store n d) m both.1 in
      let mirror = sound.mirrored n d m link.0 (is_made_made store.made n both.0) link.1 in
      rw (made_is_made store.made m sound.fits mirror.leads, mirror.faces, eq-eqb n n refl)

  mirror_image : (d : TmeshDirection) (n m : ℕ) → leads d n m ≡ leads (flip_of d) m n
  mirror_image d n m =
      same_tests (leads d n m) (leads (flip_of d) m n) (back d n m)
      (λ h. ap (λ (direction : TmeshDirection). leads direction n m) (sym (flip_flip d)) ∙ back (flip_of d) m n h)

  -- a link leads to one point, and what is no link to none
  by_side : (d : TmeshDirection) (n : ℕ) → is_made store.made n ≡ true → (side : Side) → store_sides store n d ≡ side
      → count_below 128 (links_to side) ≡ cond (is_link side) 1 0
  by_side d n h (Link k interval) is =
      let mirror = sound.mirrored n d k interval (is_made_made store.made n h) is in
      let fits = sound.fits in
      let made = mirror.leads in
      count_one 128 k (λ (m : ℕ). eqb k m) (omega arith) (eq-eqb k k refl) (λ (i : ℕ) (l : i < 128) (apart : i ≡ k → ⊥). ne_eqb k i (λ (same : k ≡ i). apart (sym same)))
  by_side d n h (Border weight) is = count_nothing 128 (λ (m : ℕ). false) (λ (i : ℕ) (l : i < 128). refl)
  by_side d n h Opening is = count_nothing 128 (λ (m : ℕ). false) (λ (i : ℕ) (l : i < 128). refl)

  by_made : (d : TmeshDirection) (n : ℕ) (b : Bool) → is_made store.made n ≡ b
      → count_below 128 (λ (m : ℕ). b && links_to (store_sides store n d) m) ≡ cond (b && is_link (store_sides store n d)) 1 0
  by_made d n true h = by_side d n h (store_sides store n d) refl
  by_made d n false h = count_nothing 128 (λ (m : ℕ). false) (λ (i : ℕ) (l : i < 128). refl)

  -- the points that a point's side leads to
  row : (d : TmeshDirection) (n : ℕ) → count_below 128 (leads d n) ≡ cond (has_side is_link store d n) 1 0
  row d n = by_made d n (is_made store.made n) refl

  -- those whose side leads to it
  column : (d : TmeshDirection) (m : ℕ) → count_below 128 (λ (n : ℕ). leads d n m) ≡ cond (has_side is_link store (flip_of d) m) 1 0
  column d m =
      count_same 128 (λ (n : ℕ). leads d n m) (leads (flip_of d) m) (λ (n : ℕ) (l : n < 128). mirror_image d n m) ∙ row (flip_of d) m

  as_many : (d : TmeshDirection) → sides_towards is_link store d ≡ sides_towards is_link store (flip_of d)
  as_many d =
      count_paired (leads d) 128 (has_side is_link store d) (has_side is_link store (flip_of d)) (λ (n : ℕ) (l : n < 128). row d n) (λ (m : ℕ) (l : m < 128). column d m)

  both_ends : sides_that is_link store ≡ 2 * (sides_towards is_link store Up + sides_towards is_link store Right)
  both_ends = omega (arith, as_many Up, as_many Right)

pub link_sides_are_twice : LinkSidesAreTwice
unfolding counts_of
link_sides_are_twice e weight at_bottom_left at_bottom_right at_top_right at_top_left calls =
    both_ends _ (every_map_mirrored e weight at_bottom_left at_bottom_right at_top_right at_top_left calls)
