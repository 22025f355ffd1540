-- Where torn insertions stay, every answer is entered.
use Rattle.std.specs.Prelude.{false, List, [], ◌∷◌, ◌≡◌, refl, Result}
use Rattle.std.proofs.Common.{ap}
use Rattle.ledger.specs.Ledger.{entered}
use Rattle.control_point.specs.declared.refusal.Refusal.{Refusal}
use Rattle.insertion.specs.declared.insertion.Insertion.{Insertion}

pub all_entered : (answers : List (Result Insertion Refusal)) → entered false answers ≡ answers
unfolding entered
all_entered [] = refl
all_entered (answer ∷ rest) = ap (λ (others : List (Result Insertion Refusal)). answer ∷ others) (all_entered rest)
