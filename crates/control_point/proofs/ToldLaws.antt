-- Laws of what an answer tells. A promise beside an equation follows from the equation and one law of the definition that it cites.
use Rattle.std.specs.Prelude.{◌≡◌, refl, Err, Ok, Result, ⊤}
use Rattle.std.proofs.Common.{ap, ◌∙◌}
use Rattle.control_point.specs.Told.{number_of, outcome_number}
use Rattle.control_point.specs.declared.refusal.Refusal.{Refusal}

pub beside : {A B : Type 0} (tell : A → B) (is : A) (what : B) → tell is ≡ what → (r : A) → r ≡ is → (r ≡ is) × (tell r ≡ what)
beside tell is what law r same = (same, ap tell same ∙ law)

-- the number of an answer with no other number is that of what it tells
pub outcome_numbered : (outcome : Result ⊤ Refusal) → number_of outcome ≡ outcome_number outcome
outcome_numbered (Ok tt) = refl
outcome_numbered (Err refusal) = refl
