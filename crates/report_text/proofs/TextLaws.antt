-- Laws of numbers as text: a number's fewest digits are those of its decimal, and a float's bits have 16 hexadecimal digits.
use Prim.Native.Nat.{ℕ, ◌-◌, ◌^◌, ◌≤◌, ◌<◌}
use mathlib.Core.Path.{◌≡◌, refl, ap, ◌∙◌}
use mathlib.Core.Bool.{Bool, true, false, cond}
use mathlib.Core.List.{◌∷◌}
use native.Mathlib.Nat.{pow-le-pow_right}
use native.Mathlib.Omega.{arith}
use borrow.Author.Tests.{ltb-true, ltb-false}
use lib.Ieee.{Float, binary64, to_bits}
use lib.Dec.{lit<, lit≤, ltb}
use Rattle.io.specs.Digits.{last_digits, IsDigitCount}
use Rattle.report_text.specs.Text.{printed_below, decimal, bits_text}

module _ (base least n count : ℕ) (some : 0 < base) (fewest : IsDigitCount base least n count) where
  -- no more digits than a number below a power needs, or than are asked
  pub at_most : (m : ℕ) → least ≤ m → n < base ^ m → count ≤ m
  at_most m enough below = omega (arith, no)
    where
      no : m < count → ⊥
      no more = omega (arith, fewest.2 (omega arith), pow-le-pow_right {n = base} some {i = m} {j = count - 1} (omega arith))

  -- more digits than the power that a number reaches
  pub at_least : (m : ℕ) → base ^ m ≤ n → m < count
  at_least m reached = omega (arith, no)
    where
      no : count ≤ m → ⊥
      no fewer = omega (arith, fewest.1, pow-le-pow_right {n = base} some {i = count} {j = m} fewer)

-- the fewest digits of a number that is printed
pub decimal_digits : (n count : ℕ) → n < printed_below → IsDigitCount 10 1 n count → last_digits 10 count n ≡ decimal n
unfolding decimal
decimal_digits n count few fewest = ap (λ (k : ℕ). last_digits 10 k n) (by_tests (ltb n 10) (ltb n 100) (ltb n 1000) refl refl refl)
  where
    most : (m : ℕ) → 1 ≤ m → n < 10 ^ m → count ≤ m
    most = at_most 10 1 n count (lit< tt) fewest

    least : (m : ℕ) → 10 ^ m ≤ n → m < count
    least = at_least 10 1 n count (lit< tt) fewest

    by_tests : (a b c : Bool) → ltb n 10 ≡ a → ltb n 100 ≡ b → ltb n 1000 ≡ c → count ≡ cond a 1 (cond b 2 (cond c 3 4))
    by_tests true b c p q r = omega (arith, most 1 (lit≤ tt) (ltb-true n 10 p), fewest.0)
    by_tests false true c p q r = omega (arith, most 2 (lit≤ tt) (ltb-true n 100 q), least 1 (ltb-false n 10 p))
    by_tests false false true p q r = omega (arith, most 3 (lit≤ tt) (ltb-true n 1000 r), least 2 (ltb-false n 100 q))
    by_tests false false false p q r = omega (arith, most 4 (lit≤ tt) few, least 3 (ltb-false n 1000 r))

-- the digits of a float's bits, which are 16
pub bits_digits : (value : Float) (n count : ℕ) → n ≡ to_bits binary64 value → n < 16 ^ 16 → IsDigitCount 16 16 n count → 32 ∷ last_digits 16 count n ≡ bits_text value
unfolding bits_text
bits_digits value n count same fits fewest =
    let whole : count ≡ 16 = omega (arith, fewest.0, at_most 16 16 n count (lit< tt) fewest 16 (lit≤ tt) fits) in
    ap (λ (k : ℕ). 32 ∷ last_digits 16 k n) whole ∙ ap (λ (bits : ℕ). 32 ∷ last_digits 16 16 bits) same
