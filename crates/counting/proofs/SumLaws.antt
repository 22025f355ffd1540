-- Laws of sums over the numbers below one. Two that differ in one summand differ by that; a count is a sum of ones.
use Prim.Native.Nat.{ℕ, zero, suc, ◌+◌, ◌<◌}
use Rattle.std.specs.Prelude.{◌≡◌, Bool, cond, ◌||◌}
use Rattle.std.proofs.Math.Path.{refl, ap}
use Rattle.std.proofs.Common.{sym}
use Rattle.std.proofs.Math.Bool.{true, false}
use native.Mathlib.Omega.{arith}
use borrow.Author.Tests.{eqb-true, eqb-false, eq-eqb, ne_eqb}
use Rattle.std.proofs.Math.Dec.{eqb}
use Rattle.counting.specs.Counting.{count_below, sum_below}

pub sum_same : (n : ℕ) (f g : ℕ → ℕ) → ((i : ℕ) → i < n → f i ≡ g i) → sum_below n f ≡ sum_below n g
unfolding sum_below
sum_same zero f g same = refl
sum_same (suc n) f g same = rw (sum_same n f g (λ (i : ℕ) (l : i < n). same i (omega arith)), same n (omega arith))

pub sum_nothing : (n : ℕ) → sum_below n (λ (i : ℕ). 0) ≡ 0
unfolding sum_below
sum_nothing zero = refl
sum_nothing (suc n) = omega (arith, sum_nothing n)

pub sum_both : (n : ℕ) (f g : ℕ → ℕ) → sum_below n (λ (i : ℕ). f i + g i) ≡ sum_below n f + sum_below n g
unfolding sum_below
sum_both zero f g = refl
sum_both (suc n) f g = omega (arith, sum_both n f g)

pub count_is_sum : (n : ℕ) (test : ℕ → Bool) → count_below n test ≡ sum_below n (λ (i : ℕ). cond (test i) 1 0)
unfolding count_below sum_below
count_is_sum zero test = refl
count_is_sum (suc n) test = ap (λ (sum : ℕ). sum + cond (test n) 1 0) (count_is_sum n test)

-- all summands but one are the same
module _ (f g : ℕ → ℕ) (a : ℕ) (same : (i : ℕ) → (i ≡ a → ⊥) → f i ≡ g i) where
  pub sum_but : (n : ℕ) → a < n → sum_below n f + g a ≡ sum_below n g + f a
  unfolding sum_below
  sum_but zero below = absurd (omega arith)
  sum_but (suc n) below = by_test (λ l. sum_but n l) (eqb a n) refl
    where
      by_test : (a < n → sum_below n f + g a ≡ sum_below n g + f a) → (b : Bool) → eqb a n ≡ b
          → sum_below n f + f n + g a ≡ sum_below n g + g n + f a
      by_test rest true e =
          let here : a ≡ n = eqb-true a n e in
          let before = sum_same n f g (λ i l. same i (omega arith)) in
          omega (arith, ap f here, ap g here)
      by_test rest false e =
          let apart : a ≡ n → ⊥ = eqb-false a n e in
          let last = same n (λ i. apart (sym i)) in
          let others = rest (omega arith) in
          omega arith

-- one number more passes the test
pub count_with : (n : ℕ) (before after : ℕ → Bool) (k : ℕ) → k < n → before k ≡ false → ((i : ℕ) → after i ≡ (eqb i k || before i))
    → count_below n after ≡ count_below n before + 1
count_with n before after k below none more =
    let here : cond {A = ℕ} (after k) 1 0 ≡ 1 = rw (more k, eq-eqb k k refl) in
    let not-before : cond {A = ℕ} (before k) 1 0 ≡ 0 = rw none in
    omega (
      arith,
      count_is_sum n after,
      count_is_sum n before,
      sum_but (λ i. cond (after i) 1 0) (λ i. cond (before i) 1 0) k (λ i apart. rw (more i, ne_eqb i k apart)) n below,
    )
