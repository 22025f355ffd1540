-- Laws of setting a pull: its outcome by the two tests, the map by its outcome, and that it tells what its table says.
use Rattle.std.specs.Prelude.{ℕ, ◌≡◌, Bool, cond, [], Float, Err, Ok, Result, ⊤}
use Rattle.std.proofs.Math.Path.{refl, ap}
use Rattle.std.proofs.Common.{sym, ◌∙◌}
use Rattle.std.proofs.Math.Bool.{true, false}
use Rattle.control_point.specs.Point.{is_made}
use Rattle.control_point.specs.Told.{outcome_told, tells, unless}
use Rattle.control_point.specs.declared.refusal.Refusal.{Refusal}
use Rattle.control_point.specs.declared.refusal.Refusal.TheVariants.{NoPoint, Pull}
use Rattle.store.proofs.TablesLaws.{refused_not}
use Rattle.t_mesh.specs.declared.t_mesh.Tmesh.{Tmesh}
use Rattle.pull.specs.Pull.{can_pull, with_pull, pull_outcome, pulled_by, set_pull, pull_table}

-- by the tests
abbrev pull_by_tests : Bool → Bool → Result ⊤ Refusal
pull_by_tests made can = cond made (cond can (Ok tt) (Err Pull)) (Err NoPoint)

module _ (made n : ℕ) (pull : Float) where
  pub outcome_unmade : is_made made n ≡ false → Err NoPoint ≡ pull_outcome made n pull
  outcome_unmade h = ap (λ (b : Bool). pull_by_tests b (can_pull pull)) (sym h)

  module _ (was_made : is_made made n ≡ true) where
    pub outcome_refused : can_pull pull ≡ false → Err Pull ≡ pull_outcome made n pull
    outcome_refused h = ap (pull_by_tests true) (sym h) ∙ ap (λ (b : Bool). pull_by_tests b (can_pull pull)) (sym was_made)

    pub outcome_done : can_pull pull ≡ true → (Ok tt) ≡ pull_outcome made n pull
    outcome_done h = ap (pull_by_tests true) (sym h) ∙ ap (λ (b : Bool). pull_by_tests b (can_pull pull)) (sym was_made)

  -- done, the point is made
  pub done_made : (Ok tt) ≡ pull_outcome made n pull → is_made made n ≡ true
  done_made is = by_test (is_made made n) is
    where
      by_test : (b : Bool) → (Ok tt) ≡ pull_by_tests b (can_pull pull) → b ≡ true
      by_test true h = refl
      by_test false h = refused_not NoPoint (sym h)

module _ (map : Tmesh) (n : ℕ) (pull : Float) where
  -- by its outcome
  pub pull_done : (outcome : Result ⊤ Refusal) → outcome ≡ pull_outcome map.mesh.made n pull → outcome ≡ Ok tt
      → record { outcome = outcome; map = with_pull map n pull } ≡ set_pull map n pull
  unfolding set_pull
  pull_done outcome is done =
      ap (λ (o : Result ⊤ Refusal). record { outcome = o; map = with_pull map n pull }) done ∙ ap (λ (o : Result ⊤ Refusal). pulled_by o map n pull) (sym done ∙ is)

  pub pull_refused : (outcome : Result ⊤ Refusal) → outcome ≡ pull_outcome map.mesh.made n pull → (refusal : Refusal) → outcome ≡ Err refusal
      → record { outcome = outcome; map = map } ≡ set_pull map n pull
  unfolding set_pull
  pull_refused outcome is refusal refused =
      ap (λ (o : Result ⊤ Refusal). record { outcome = o; map = map }) refused ∙ ap (λ (o : Result ⊤ Refusal). pulled_by o map n pull) (sym refused ∙ is)

  pub pull_told : outcome_told (set_pull map n pull).outcome ≡ pull_table map n pull
  unfolding set_pull
  pull_told = by_tests (is_made map.mesh.made n) (can_pull pull)
    where
      by_tests : (made can : Bool) → outcome_told (pull_by_tests made can) ≡ unless 11 made (unless 17 can (tells []))
      by_tests true true = refl
      by_tests true false = refl
      by_tests false can = refl
