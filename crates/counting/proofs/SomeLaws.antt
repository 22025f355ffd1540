-- Laws of whether some number below one passes a test: that it is an existence, one number more, and the last number that passes.
use Rattle.std.specs.Prelude.{ℕ, zero, suc, ◌-◌, ◌<◌, ◌≤◌, ◌≡◌, refl, Bool, true, false, cond, ◌||◌, eqb}
use Rattle.std.proofs.Common.{sym, ◌∙◌, add-one, arith, eqb-true}
use Rattle.std.proofs.Math.Path.{ap}
use Rattle.std.proofs.lemmas.Bool.{eqb-false}
use Rattle.counting.proofs.BoolLaws.{both_ways, or_case, or_first, or_second, same_tests}
use Rattle.counting.specs.Counting.{some_below, last_below}

-- ---- an existence
pub some_tells : (n : ℕ) (test : ℕ → Bool) → some_below n test ≡ true → (m : ℕ) × (m < n) × (test m ≡ true)
unfolding some_below
some_tells zero test some = both_ways false some refl
some_tells (suc n) test some =
    or_case (test n) (some_below n test) some (λ here. (n, omega arith, here))
    (λ before. let found = some_tells n test before in let below = found.1 in (found.0, omega arith, found.2))

pub some_shows : (n : ℕ) (test : ℕ → Bool) (m : ℕ) → m < n → test m ≡ true → some_below n test ≡ true
unfolding some_below
some_shows zero test m below passes = absurd (omega arith)
some_shows (suc n) test m below passes = by_place (some_shows n test m) (eqb m n) refl
  where
    by_place : (m < n → test m ≡ true → some_below n test ≡ true) → (here : Bool) → eqb m n ≡ here → (test n || some_below n test) ≡ true
    by_place before true same = or_first (test n) (some_below n test) (ap test (sym (eqb-true m n same)) ∙ passes)
    by_place before false other = or_second (test n) (some_below n test) (before (let apart = eqb-false m n other in omega arith) passes)

-- a test that holds exactly where there is such a number
pub some_is : (n : ℕ) (test : ℕ → Bool) (decided : Bool) → (decided ≡ true → (m : ℕ) × (m < n) × (test m ≡ true)) → ((m : ℕ) → m < n → test m ≡ true → decided ≡ true)
    → decided ≡ some_below n test
some_is n test decided there back =
    same_tests decided (some_below n test) (λ h. let found = there h in some_shows n test found.0 found.1 found.2)
    (λ h. let found = some_tells n test h in back found.0 found.1 found.2)

-- tests that agree
pub some_same : (n : ℕ) (f g : ℕ → Bool) → ((m : ℕ) → m < n → f m ≡ g m) → some_below n f ≡ some_below n g
some_same n f g same =
    some_is n g (some_below n f) (λ h. let found = some_tells n f h in (found.0, found.1, sym (same found.0 found.1) ∙ found.2))
    (λ m below passes. some_shows n f m below (same m below ∙ passes))

-- ---- one number more
-- there is none below 0
pub some_none : (n : ℕ) (test : ℕ → Bool) → n ≤ 0 → false ≡ some_below n test
unfolding some_below
some_none zero test none = refl
some_none (suc n) test none = absurd (omega arith)

module _ (n : ℕ) (test : ℕ → Bool) (some : 0 < n) where
  back : n ≡ suc (n - 1)
  back = omega (arith, add-one (n - 1), some)

  some_next : some_below n test ≡ (test (n - 1) || some_below (n - 1) test)
  unfolding some_below
  some_next = ap (λ (k : ℕ). some_below k test) back

  -- it passes, or the others decide
  pub some_here : test (n - 1) ≡ true → true ≡ some_below n test
  some_here passes = sym (some_next ∙ rw passes refl)

  pub some_before : test (n - 1) ≡ false → some_below (n - 1) test ≡ some_below n test
  some_before fails = sym (some_next ∙ rw fails refl)

  last_next : last_below n test ≡ cond (test (n - 1)) (n - 1) (last_below (n - 1) test)
  unfolding last_below
  last_next = ap (λ (k : ℕ). last_below k test) back

  pub last_here : test (n - 1) ≡ true → n - 1 ≡ last_below n test
  last_here passes = sym (last_next ∙ rw passes refl)

  pub last_before : test (n - 1) ≡ false → last_below (n - 1) test ≡ last_below n test
  last_before fails = sym (last_next ∙ rw fails refl)

-- ---- the last number that passes, where there is one
pub last_passes : (n : ℕ) (test : ℕ → Bool) → some_below n test ≡ true → (last_below n test < n) × (test (last_below n test) ≡ true)
unfolding some_below last_below
last_passes zero test some = both_ways false some refl
last_passes (suc n) test some = by_test (last_passes n test) (test n) refl some
  where
    by_test : (some_below n test ≡ true → (last_below n test < n) × (test (last_below n test) ≡ true)) → (here : Bool) → test n ≡ here → (here || some_below n test) ≡ true
        → (cond here n (last_below n test) < suc n) × (test (cond here n (last_below n test)) ≡ true)
    by_test before true passes h = (omega arith, passes)
    by_test before false fails h = let found = before h in let below = found.0 in (omega arith, found.1)
