-- Laws of counting the numbers that pass a test.
use Rattle.std.specs.Prelude.{ℕ, zero, suc, ◌+◌, ◌<◌, ◌≤◌, ◌≡◌, refl, Bool, true, false, cond, ◌&&◌, eqb}
use Rattle.std.proofs.Common.{arith, add-one, eqb-true, lit≤}
use Rattle.std.proofs.lemmas.Bool.{eqb-false}
use Rattle.counting.specs.Counting.{count_below}

-- 1 where both tests hold
pub one_both : (a b : Bool) → cond {A = ℕ} (a && b) 1 0 ≡ cond a (cond b 1 0) 0
one_both true b = refl
one_both false b = refl

-- a sum that counts where a test holds, term by term
pub plus_where : (b : Bool) (x y : ℕ) → cond b (x + y) 0 ≡ cond b x 0 + cond b y 0
plus_where true x y = refl
plus_where false x y = refl

-- ---- number by number
pub count_none : (test : ℕ → Bool) → count_below 0 test ≡ 0
unfolding count_below
count_none test = refl

pub count_next : (n : ℕ) (test : ℕ → Bool) → count_below (n + 1) test ≡ count_below n test + cond (test n) 1 0
unfolding count_below
count_next n test = rw (add-one n)

pub count_more : (n sum one : ℕ) (test : ℕ → Bool) → sum ≡ count_below n test → one ≡ cond (test n) 1 0 → sum + one ≡ count_below (n + 1) test
count_more n sum one test s o = omega (arith, count_next n test)

one_few : (b : Bool) → cond {A = ℕ} b 1 0 ≤ 1
one_few true = lit≤ tt
one_few false = lit≤ tt

pub one_at_most : (b : Bool) (one : ℕ) → one ≡ cond b 1 0 → one ≤ 1
one_at_most b one is = omega (arith, is, one_few b)

pub count_few : (n : ℕ) (test : ℕ → Bool) → count_below n test ≤ n
unfolding count_below
count_few zero test = lit≤ tt
count_few (suc n) test = omega (arith, count_few n test, one_few (test n))

pub count_same : (n : ℕ) (f g : ℕ → Bool) → ((i : ℕ) → i < n → f i ≡ g i) → count_below n f ≡ count_below n g
unfolding count_below
count_same zero f g h = refl
count_same (suc n) f g h = rw (count_same n f g (λ (i : ℕ) (l : i < n). h i (omega arith)), h n (omega arith))

-- ---- counts of few
pub count_nothing : (n : ℕ) (test : ℕ → Bool) → ((i : ℕ) → i < n → test i ≡ false) → count_below n test ≡ 0
unfolding count_below
count_nothing zero test none = refl
count_nothing (suc n) test none = rw (count_nothing n test (λ (i : ℕ) (l : i < n). none i (omega arith)), none n (omega arith))

-- one number passes, and no other
pub count_one : (n k : ℕ) (test : ℕ → Bool) → k < n → test k ≡ true → ((i : ℕ) → i < n → (i ≡ k → ⊥) → test i ≡ false) → count_below n test ≡ 1
unfolding count_below
count_one zero k test h passes others = absurd (omega arith)
count_one (suc n) k test h passes others =
    by_test (eqb n k) refl (λ (l : k < n). count_one n k test l passes (λ (i : ℕ) (m : i < n) (apart : i ≡ k → ⊥). others i (omega arith) apart))
  where
    by_test : (b : Bool) → eqb n k ≡ b → (k < n → count_below n test ≡ 1) → count_below n test + cond (test n) 1 0 ≡ 1
    by_test true e below =
        let last : n ≡ k = eqb-true n k e in
        rw (
          count_nothing n test (λ (i : ℕ) (l : i < n). others i (omega arith) (λ (same : i ≡ k). omega arith)),
          last,
          passes,
        )
    by_test false e below =
        let other : n ≡ k → ⊥ = eqb-false n k e in
        rw (below (omega arith), others n (omega arith) other)
