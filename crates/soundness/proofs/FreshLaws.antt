-- A fresh map is sound: its four corners are linked in a ring, both ways and by one interval, and they are what is listed.
use Prim.Native.Nat.{ℕ, zero, suc, ◌<◌}
use Rattle.std.specs.Prelude.{◌≡◌, true, false, Float, get_or, replicate}
use Rattle.std.proofs.Math.Path.{refl}
use Rattle.std.proofs.Common.{subst, arith}
use Rattle.std.proofs.Math.Dec.{lit<, lit≤}
use Rattle.control_point.specs.Sides.{Sides, sides_of}
use Rattle.control_point.specs.declared.t_mesh_direction.TmeshDirection.{TmeshDirection}
use Rattle.control_point.specs.declared.t_mesh_direction.TmeshDirection.TheVariants.{Up, Right, Down, Left}
use Rattle.control_point.specs.declared.t_mesh_control_point.Side.{Side}
use Rattle.control_point.specs.declared.t_mesh_control_point.Side.TheVariants.{Link, Border, Opening}
use Rattle.store.specs.Store.{store_sides}
use Rattle.counting.proofs.BoolLaws.{both_ways}
use Rattle.mirror.specs.Mirror.{MirrorOf, Mirrored}
use Rattle.t_mesh.specs.Tmesh.{corner_store, new_tmesh}
use Rattle.t_mesh.specs.declared.t_mesh.Position.{Position}
use Rattle.soundness.proofs.MapLaws.{SoundMesh}

-- a side that has its mirror if it is a link
abbrev Facing : ℕ → Sides → ℕ → TmeshDirection → Side → Type 0
Facing made sides n d (Link m interval) = MirrorOf made sides n d m interval
Facing made sides n d (Border weight) = Unit {0}
Facing made sides n d Opening = Unit {0}

module _ (weight : Float) where
  fresh : Sides
  fresh = store_sides (corner_store weight)

  facing : (n : ℕ) (d : TmeshDirection) → n < 4 → Facing 4 fresh n d (fresh n d)
  unfolding fresh sides_of
  facing zero Up h = record { leads = lit< tt; apart = omega arith; faces = refl }
  facing zero Right h = record { leads = lit< tt; apart = omega arith; faces = refl }
  facing zero Down h = tt
  facing zero Left h = tt
  facing (suc zero) Up h = record { leads = lit< tt; apart = omega arith; faces = refl }
  facing (suc zero) Right h = tt
  facing (suc zero) Down h = tt
  facing (suc zero) Left h = record { leads = lit< tt; apart = omega arith; faces = refl }
  facing (suc (suc zero)) Up h = tt
  facing (suc (suc zero)) Right h = tt
  facing (suc (suc zero)) Down h = record { leads = lit< tt; apart = omega arith; faces = refl }
  facing (suc (suc zero)) Left h = record { leads = lit< tt; apart = omega arith; faces = refl }
  facing (suc (suc (suc zero))) Up h = tt
  facing (suc (suc (suc zero))) Right h = record { leads = lit< tt; apart = omega arith; faces = refl }
  facing (suc (suc (suc zero))) Down h = record { leads = lit< tt; apart = omega arith; faces = refl }
  facing (suc (suc (suc zero))) Left h = tt
  facing (suc (suc (suc (suc n)))) d h = absurd (omega arith)

  fresh_mirrored : Mirrored 4 fresh
  fresh_mirrored n d m interval h link = subst (Facing 4 fresh n d) link (facing n d h)

none_listed : {A : Type 0} (k n : ℕ) → get_or (replicate k false) n false ≡ true → A
none_listed zero n h = both_ways false h refl
none_listed (suc k) zero h = both_ways false h refl
none_listed (suc k) (suc n) h = none_listed k n h

module _ (weight : Float) (at_bottom_left at_bottom_right at_top_right at_top_left : Position) where
  fresh_listed : (n : ℕ) → get_or (new_tmesh weight at_bottom_left at_bottom_right at_top_right at_top_left).mesh.listed n false ≡ true → n < 4
  unfolding new_tmesh
  fresh_listed zero h = lit< tt
  fresh_listed (suc zero) h = lit< tt
  fresh_listed (suc (suc zero)) h = lit< tt
  fresh_listed (suc (suc (suc zero))) h = lit< tt
  fresh_listed (suc (suc (suc (suc n)))) h = none_listed 124 n h

  pub sound_fresh : SoundMesh (new_tmesh weight at_bottom_left at_bottom_right at_top_right at_top_left).mesh
  unfolding new_tmesh fresh
  sound_fresh =
      record { sound = record { room = refl; fits = lit≤ tt; mirrored = fresh_mirrored weight }; room = refl; listed_made = fresh_listed }
