-- Counts and sums over the numbers below one; whether some number below one passes a test, and the last that does.
use Rattle.std.specs.Prelude.{ℕ, zero, suc, ◌+◌, Bool, false, cond, ◌||◌}

-- how many numbers below n pass a test
unfoldable pub count_below : ℕ → (ℕ → Bool) → ℕ
count_below zero test = 0
count_below (suc n) test = count_below n test + cond (test n) 1 0

-- the values of the numbers below n, added up
unfoldable pub sum_below : ℕ → (ℕ → ℕ) → ℕ
sum_below zero value = 0
sum_below (suc n) value = sum_below n value + value n

-- whether some number below n passes a test
unfoldable pub some_below : ℕ → (ℕ → Bool) → Bool
some_below zero test = false
some_below (suc n) test = test n || some_below n test

-- the last number below n that passes a test, and 0 where none does
unfoldable pub last_below : ℕ → (ℕ → Bool) → ℕ
last_below zero test = 0
last_below (suc n) test = cond (test n) n (last_below n test)
