-- What a call gives whose answer is the one that is due: that answer, the buffer that it leaves, and what it tells.
use Rattle.std.specs.Prelude.{List, ◌≡◌, ℕ, Result}
use Rattle.std.proofs.Common.{ap, ◌∙◌}
use Rattle.control_point.specs.Told.{Told}
use Rattle.map_writing.specs.Answer.{write_told, buffer_with}
use Rattle.control_point.specs.declared.refusal.Refusal.{Refusal}

-- an answer and a buffer, by what is due
abbrev pub Gives : List ℕ → List ℕ → Result ℕ Refusal → Told → Result ℕ Refusal → List ℕ → Type 0
Gives file buffer due table answer after = (answer ≡ due) × ((after ≡ buffer_with file due buffer) × (write_told answer ≡ table))

pub due_gives : (file buffer : List ℕ) (due : Result ℕ Refusal) (table : Told) → write_told due ≡ table → (answer : Result ℕ Refusal) → answer ≡ due
    → Gives file buffer due table answer (buffer_with file answer buffer)
due_gives file buffer due table told answer is = (is, (ap (λ (a : Result ℕ Refusal). buffer_with file a buffer) is, ap write_told is ∙ told))
