-- What the answer of a load gives: the number that is returned, and that it is the table's.
use Rattle.std.specs.Prelude.{ℕ, List, ◌≡◌, length, Result}
use Rattle.std.proofs.Common.{ap, ◌∙◌}
use Rattle.load.specs.Load.{load_answer, load_table}
use Rattle.map_writing.specs.Answer.{write_told, length_or_number}
use Rattle.gatemap_host.specs.LoadCall.{host_load_number}
use Rattle.control_point.specs.declared.refusal.Refusal.{Refusal}

pub host_load_gives : (seed count : ℕ) (out : List ℕ) (answer : Result ℕ Refusal) (number : ℕ) → number ≡ length_or_number (write_told answer)
    → answer ≡ load_answer seed count (length out) → write_told answer ≡ load_table seed count (length out)
    → (number ≡ host_load_number seed count out) × (number ≡ length_or_number (load_table seed count (length out)))
host_load_gives seed count out answer number returned is told =
    (returned ∙ ap (λ (a : Result ℕ Refusal). length_or_number (write_told a)) is, returned ∙ ap length_or_number told)
