-- A setting of a pull is turned away by one of its two tests and leaves the map, or leaves the map with that pull; so what holds of all three holds of it.
use Rattle.std.specs.Prelude.{ℕ, ◌≡◌, true, false, Float, Err, Ok, Result, ⊤}
use Rattle.control_point.specs.Point.{is_made}
use Rattle.control_point.specs.declared.refusal.Refusal.TheVariants.{NoPoint, Pull}
use Rattle.t_mesh.specs.declared.t_mesh.Tmesh.{Tmesh}
use Rattle.pull.specs.Pull.{can_pull, with_pull, pulled_by, set_pull}
use Rattle.pull.specs.declared.Pulled.{Pulled}
use Rattle.counting.proofs.BoolLaws.{cond_case}
use Rattle.control_point.specs.declared.refusal.Refusal.{Refusal}

module _ (map : Tmesh) (n : ℕ) (pull : Float) where
  pub setting_case : (Holds : Pulled → Type 0) → (is_made map.mesh.made n ≡ false → Holds (record { outcome = Err NoPoint; map = map }))
      → (is_made map.mesh.made n ≡ true → can_pull pull ≡ false → Holds (record { outcome = Err Pull; map = map }))
      → (is_made map.mesh.made n ≡ true → can_pull pull ≡ true → Holds (record { outcome = Ok tt; map = with_pull map n pull }))
      → Holds (set_pull map n pull)
  unfolding set_pull
  setting_case Holds unmade refused done =
      cond_case (is_made map.mesh.made n) Of _ _ (λ made. cond_case (can_pull pull) Of _ _ (done made) (refused made)) unmade
    where
      Of : Result ⊤ Refusal → Type 0
      Of outcome = Holds (pulled_by outcome map n pull)

  -- of the map that it leaves
  pub pulled_case : (Holds : Tmesh → Type 0) → Holds map → (is_made map.mesh.made n ≡ true → can_pull pull ≡ true → Holds (with_pull map n pull))
      → Holds (set_pull map n pull).map
  pulled_case Holds before after = setting_case (λ set. Holds set.map) (λ _. before) (λ _ _. before) after
