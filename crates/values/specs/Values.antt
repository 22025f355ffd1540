-- A list as the values of a function, number by number.
use Rattle.std.specs.Prelude.{ℕ, zero, suc, ◌+◌, List, [], ◌∷◌}

-- at so many numbers, from n on
unfoldable pub values_from : {A : Type 0} → (ℕ → A) → ℕ → ℕ → List A
values_from f zero n = []
values_from f (suc left) n = f n ∷ values_from f left (n + 1)
