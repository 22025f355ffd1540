-- Laws of the definitions of specs/Draw.antt. A mixed number is 0 only where the number was, since a number that is its own shifted by d has none but zero bits; and so many parts of 1 are exact, an f64,
-- and from 0 to 1.
use Rattle.std.specs.Prelude.{ℕ, ◌*◌, ◌/◌, ◌%◌, ◌^◌, ◌≤◌, ◌<◌, ◌≡◌, refl, true, false, T, pos, Float}
use Rattle.std.proofs.Common.{sym, ap, ◌∙◌, true≢false, mul-div_cancel, mul_assoc, lt_of_lt_of_le, mod-lt, div-le_self, lt_of_le_of_lt, arith, pow_pos, pow_mono, shl_lt}
use Rattle.std.proofs.Math.Nat.{mul-mod_left}
use Rattle.std.proofs.Math.Arith.{mod-mul}
use Rattle.std.specs.Int.Bits.{bit_xor, xor_add_and}
use Rattle.std.proofs.lemmas.Nat.{xor_lt, and_le_l, and_le_r}
use Rattle.std.specs.Float.{nan, inf, fin, binary64}
use Rattle.std.specs.Float.Ieee.{round, div, le, fits, of_bits, of_int, up, down}
use Rattle.std.specs.Float.Ieee.Back.{round_whole}
use Rattle.std.specs.Float.Ieee.Bits.{is_true}
use Rattle.std.specs.Float.Ieee.Exact.{HasValue, round_exact}
use Rattle.std.specs.Float.Ieee.Fits.{div-fits, down_pos}
use Rattle.std.specs.Float.Ieee.Order.{le_of_values}
use Rattle.std.specs.Float.Ieee.Scale.{round_same}
use Rattle.float64.specs.Sign.{0f, 1f}
use Rattle.float64.proofs.SignLaws.{literal_zero, literal_one}
use Rattle.float64.specs.Unit.{in_unit}
use Rattle.draw.specs.Draw.{mixed_left, mixed_right, next_draw, parts, parts_literal, in_parts}

-- ---- draws
pub next_below : (x : ℕ) → x < 2 ^ 64 → next_draw x < 2 ^ 64
unfolding next_draw
next_below x h = left 17 _ (right 7 _ (left 13 x h))
  where
    left : (by x : ℕ) → x < 2 ^ 64 → mixed_left by x < 2 ^ 64
    left by x h = xor_lt 64 x (x * 2 ^ by % 2 ^ 64) h (mod-lt (x * 2 ^ by) (pow_pos 64))

    right : (by x : ℕ) → x < 2 ^ 64 → mixed_right by x < 2 ^ 64
    right by x h = xor_lt 64 x (x / 2 ^ by) h (lt_of_le_of_lt (div-le_self x (2 ^ by)) h)

-- numbers whose exclusive-or is 0 are the same
xor_zero : (a b : ℕ) → bit_xor a b ≡ 0 → a ≡ b
xor_zero a b h = omega (arith, xor_add_and a b, and_le_l a b, and_le_r a b)

-- a number that is its own shifted by d within n times d is so within n, and is that shifted by d
fewer : (n d y : ℕ) → 0 < n → 0 < d → y ≡ y * d % (n * d) → (y ≡ y % n * d) × (y % n ≡ y % n * d % n)
fewer n d y some more same =
    let whole : y ≡ y % n * d = same ∙ mod-mul (y * d) some more ∙ rw (mul-div_cancel y more, mul-mod_left y d) (omega arith) in
    (whole, ap (λ (k : ℕ). k % n) whole)

-- only the state 0 is followed by 0: a load from a seed that is not 0 never comes to it
pub next_not_zero : (x : ℕ) → next_draw x ≡ 0 → x ≡ 0
unfolding next_draw
next_not_zero x none =
    let first = mixed_left 13 x in
    let second = mixed_right 7 first in
    left13 x (xor_zero x _ (right7 first (xor_zero first _ (left17 second (xor_zero second _ none)))))
  where
    left13 : (y : ℕ) → y ≡ y * 2 ^ 13 % 2 ^ 64 → y ≡ 0
    left13 y same =
        let a = fewer (2 ^ 51) (2 ^ 13) y (omega arith) (omega arith) same in
        let b = fewer (2 ^ 38) (2 ^ 13) (y % 2 ^ 51) (omega arith) (omega arith) a.1 in
        let d = fewer (2 ^ 25) (2 ^ 13) (y % 2 ^ 51 % 2 ^ 38) (omega arith) (omega arith) b.1 in
        let e = fewer (2 ^ 12) (2 ^ 13) (y % 2 ^ 51 % 2 ^ 38 % 2 ^ 25) (omega arith) (omega arith) d.1 in
        omega (arith, a.0, b.0, d.0, e.0, e.1)

    left17 : (y : ℕ) → y ≡ y * 2 ^ 17 % 2 ^ 64 → y ≡ 0
    left17 y same =
        let a = fewer (2 ^ 47) (2 ^ 17) y (omega arith) (omega arith) same in
        let b = fewer (2 ^ 30) (2 ^ 17) (y % 2 ^ 47) (omega arith) (omega arith) a.1 in
        let d = fewer (2 ^ 13) (2 ^ 17) (y % 2 ^ 47 % 2 ^ 30) (omega arith) (omega arith) b.1 in
        omega (arith, a.0, b.0, d.0, d.1)

    right7 : (y : ℕ) → y ≡ y / 2 ^ 7 → y ≡ 0
    right7 y same = omega (arith, same)

-- ---- parts
parts_literal_lem : parts_literal ≡ fin false 1 (pos 10)
unfolding of_bits
parts_literal_lem = refl

-- a whole number by 1024.0 is rounded once
by_parts : (x : Float) (n : ℕ) → HasValue x false n 1 → div binary64 x (fin false 1 (pos 10)) ≡ round binary64 false n parts
unfolding div
by_parts nan n h = absurd h
by_parts (inf s) n h = absurd h
by_parts (fin true m e) n h = absurd (true≢false h.0)
by_parts (fin false m e) n h = round_same binary64 false (m * up e * 1) (1 * 2 ^ 10 * down e) n parts (omega (arith, down_pos e)) (omega arith) (omega (arith, h.1))

in_parts_round : (n : ℕ) → n ≤ parts → in_parts n ≡ round binary64 false n parts
unfolding in_parts of_int
in_parts_round n h = ap (div binary64 (round binary64 false n 1)) parts_literal_lem ∙ by_parts (round binary64 false n 1) n (round_whole binary64 false n (omega arith))

-- exact: the float is the fraction itself
pub in_parts_exact : (n : ℕ) → n ≤ parts → HasValue (in_parts n) false n parts
in_parts_exact n h = rw (in_parts_round n h) (round_exact binary64 false n parts n 1064 (omega arith) (omega arith) (shl_lt 1034 1064 (lt_of_lt_of_le few (pow_mono {i = 11} {j = 1034} (omega arith)))) (sym (mul_assoc n (2 ^ 1064) parts)))
  where
    few : n < 2 ^ 11
    few = omega arith

-- an f64
pub in_parts_fits : (n : ℕ) → T (fits binary64 (in_parts n))
unfolding in_parts
in_parts_fits n = div-fits binary64 (of_int binary64 (pos n)) parts_literal

-- from 0 to 1
pub in_parts_in_unit : (n : ℕ) → n ≤ parts → in_unit (in_parts n) ≡ true
unfolding in_unit
in_parts_in_unit n h =
    let above = le_of_values 0f (in_parts n) 0 1 n parts (omega arith) (omega arith) (refl, refl) (in_parts_exact n h) (omega arith) in
    let below = le_of_values (in_parts n) 1f n parts 1 1 (omega arith) (omega arith) (in_parts_exact n h) (refl, refl) (omega arith) in
    rw (literal_zero, literal_one, is_true (le 0f (in_parts n)) above, is_true (le (in_parts n) 1f) below) refl
