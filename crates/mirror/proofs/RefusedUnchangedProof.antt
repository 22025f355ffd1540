-- A refused call leaves the store, because each call's answer is either a refusal with the store as it was, or 0.
use Rattle.std.specs.Prelude.{◌≡◌, refl}
use Rattle.control_point.specs.Told.{outcome_number}
use Rattle.store.specs.declared.store.Changed.{Changed}
use Rattle.store.specs.declared.store.Store.{Store}
use Rattle.mirror.proofs.CallLaws.{Settles, refuses, changes, every_call}
use Rattle.mirror.specs.Theorems.{RefusedUnchanged}

settled_unchanged : (store : Store) (changed : Changed) → Settles store changed → (outcome_number changed.outcome ≡ 0 → ⊥) → changed.store ≡ store
settled_unchanged store changed (refuses refusal) h = refl
settled_unchanged store changed (changes new keeps) h = absurd (h refl)

pub refused_unchanged : RefusedUnchanged
refused_unchanged store = every_call store (λ number new. (number ≡ 0 → ⊥) → new ≡ store) (settled_unchanged store) (λ number h. refl)
