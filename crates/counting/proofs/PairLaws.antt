-- Laws of counting pairs of numbers: by rows and by columns there are as many. So, where each number that passes one test is paired with one that
-- passes another, and no number with two, as many pass the one as the other.
use Prim.Native.Nat.{ℕ, zero, suc, ◌+◌, ◌<◌}
use Rattle.std.specs.Prelude.{◌≡◌, Bool}
use Rattle.std.proofs.Math.Path.{sym, ap}
use Rattle.std.proofs.Common.{◌∙◌}
use Rattle.std.proofs.Math.Bool.{cond}
use Rattle.counting.specs.Counting.{count_below, sum_below}
use Rattle.counting.proofs.SumLaws.{sum_same, sum_nothing, sum_both, count_is_sum}

module _ (paired : ℕ → ℕ → Bool) where
  -- by rows and by columns
  exchange : (rows columns : ℕ)
      → sum_below rows (λ (i : ℕ). count_below columns (paired i)) ≡ sum_below columns (λ (j : ℕ). count_below rows (λ (i : ℕ). paired i j))
  unfolding count_below sum_below
  exchange zero columns = sym (sum_nothing columns)
  exchange (suc rows) columns =
      ap (λ (sum : ℕ). sum + count_below columns (paired rows)) (exchange rows columns)
      ∙ ap (λ (sum : ℕ). sum_below columns (λ (j : ℕ). count_below rows (λ (i : ℕ). paired i j)) + sum) (count_is_sum columns (paired rows))
      ∙ sym (sum_both columns (λ (j : ℕ). count_below rows (λ (i : ℕ). paired i j)) (λ (j : ℕ). cond (paired rows j) 1 0))

  -- the numbers that pass the first test are paired with one each, and so are those that pass the second
  pub count_paired : (n : ℕ) (first second : ℕ → Bool)
      → ((i : ℕ) → i < n → count_below n (paired i) ≡ cond (first i) 1 0)
      → ((j : ℕ) → j < n → count_below n (λ (i : ℕ). paired i j) ≡ cond (second j) 1 0)
      → count_below n first ≡ count_below n second
  count_paired n first second by_Row by-column =
      count_is_sum n first
      ∙ sum_same n _ _ (λ (i : ℕ) (l : i < n). sym (by_Row i l))
      ∙ exchange n n
      ∙ sum_same n _ _ by-column
      ∙ sym (count_is_sum n second)
