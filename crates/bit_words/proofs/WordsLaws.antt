-- Laws of sets kept in words, over any width: a word fits its width, its bits are the set's tests, its ones are as many as the set has numbers, the word of
-- two sets at once is the `and` of their words, and a word is made from its lowest number up by an `or` for each number of the set.
use Rattle.std.specs.Prelude.{ℕ, zero, suc, ◌+◌, ◌*◌, ◌/◌, ◌%◌, ◌^◌, ◌<◌, min, ◌≡◌, refl, Bool, true, false, cond, ◌&&◌}
use Rattle.std.proofs.Common.{sym, ap, ap₂, ◌∙◌, subst, zero-lt-suc, pow-suc, zero-add, add-zero, suc-add, one-mul, mul_assoc, div-one, mul_comm, arith, shl_exact}
use Rattle.std.proofs.Math.Nat.{div-div-eq-div-mul}
use Rattle.std.proofs.Math.Arith.{digits_lt, digits_div, digits_mod}
use Rattle.std.specs.Int.Bits.{bit_and, bit_or, and_step, or_shifted_r}
use Rattle.std.specs.Int.Count.{ones, ones_step}
use Rattle.bit_words.specs.Words.{digit, word_from, count_from}

digit_lt : (b : Bool) → digit b < 2
digit_lt true = omega arith
digit_lt false = omega arith

-- a word is its bit 0 and the word of the numbers above
module _ (set : ℕ → Bool) (width n : ℕ) where
  word_half : word_from set (suc width) n / 2 ≡ word_from set width (n + 1)
  unfolding word_from
  word_half = digits_div (word_from set width (n + 1)) (digit_lt (set n))

  word_low : word_from set (suc width) n % 2 ≡ digit (set n)
  unfolding word_from
  word_low = digits_mod (word_from set width (n + 1)) (digit_lt (set n))

-- ---- it fits
pub word_lt : (set : ℕ → Bool) (width n : ℕ) → word_from set width n < 2 ^ width
unfolding word_from
word_lt set zero n = zero-lt-suc 0
word_lt set (suc width) n =
    subst (λ (bound : ℕ). word_from set width (n + 1) * 2 + digit (set n) < bound) (sym (pow-suc 2 width))
    (digits_lt (word_lt set width (n + 1)) (digit_lt (set n)))

-- ---- its bits are the set's tests
half_more : (w i : ℕ) → w / 2 ^ suc i ≡ w / 2 / 2 ^ i
half_more w i = ap (λ (k : ℕ). w / k) (pow-suc 2 i ∙ mul_comm (2 ^ i) 2) ∙ sym (div-div-eq-div-mul w 2 (2 ^ i))

pub word_bit : (set : ℕ → Bool) (width n i : ℕ) → i < width → word_from set width n / 2 ^ i % 2 ≡ digit (set (n + i))
word_bit set zero n i h = absurd (omega (arith, h))
word_bit set (suc width) n zero h =
    ap (λ (w : ℕ). w % 2) (div-one (word_from set (suc width) n)) ∙ word_low set width n ∙ ap (λ (k : ℕ). digit (set k)) (omega arith)
word_bit set (suc width) n (suc i) h =
    ap (λ (w : ℕ). w % 2) (half_more (word_from set (suc width) n) i ∙ ap (λ (w : ℕ). w / 2 ^ i) (word_half set width n))
    ∙ word_bit set width (n + 1) i (omega (arith, h))
    ∙ ap (λ (k : ℕ). digit (set k)) (omega arith)

-- ---- sets that agree on its numbers have the same word
pub word_same : (set other : ℕ → Bool) (width n : ℕ) → ((i : ℕ) → i < width → set (n + i) ≡ other (n + i)) → word_from set width n ≡ word_from other width n
unfolding word_from
word_same set other zero n h = refl
word_same set other (suc width) n h =
    ap₂ (λ (rest low : ℕ). rest * 2 + low)
    (word_same set other width (n + 1) (λ i l. subst (λ (k : ℕ). set k ≡ other k) (shifted n i) (h (suc i) (omega (arith, l)))))
    (ap digit (subst (λ (k : ℕ). set k ≡ other k) (add-zero n) (h 0 (omega arith))))
  where
    shifted : (n i : ℕ) → n + suc i ≡ n + 1 + i
    shifted n i = omega arith

-- ---- its ones
pub word_ones : (set : ℕ → Bool) (width n : ℕ) → ones (word_from set width n) ≡ count_from set width n
unfolding count_from word_from ones
word_ones set zero n = refl
word_ones set (suc width) n =
    ones_step (word_from set (suc width) n)
    ∙ ap₂ (λ (low rest : ℕ). low + ones rest) (word_low set width n) (word_half set width n)
    ∙ ap (λ (count : ℕ). digit (set n) + count) (word_ones set width (n + 1))

-- sets that agree on so many numbers have as many of them
pub count_same : (set other : ℕ → Bool) (width n : ℕ) → ((i : ℕ) → i < width → set (n + i) ≡ other (n + i)) → count_from set width n ≡ count_from other width n
count_same set other width n same =
    sym (word_ones set width n) ∙ ap ones (word_same set other width n same) ∙ word_ones other width n

-- the numbers of a set, counted in two parts
pub count_split : (set : ℕ → Bool) (width more n : ℕ) → count_from set (width + more) n ≡ count_from set width n + count_from set more (n + width)
unfolding count_from
count_split set zero more n =
    ap (λ (k : ℕ). count_from set k n) (zero-add more) ∙ sym (zero-add (count_from set more n)) ∙ ap (λ (k : ℕ). 0 + count_from set more k) (sym (add-zero n))
count_split set (suc width) more n =
    ap (λ (k : ℕ). count_from set k n) (suc-add width more)
    ∙ ap (λ (count : ℕ). digit (set n) + count) (count_split set width more (n + 1))
    ∙ turned (digit (set n)) (count_from set width (n + 1)) (count_from set more (n + 1 + width))
    ∙ ap (λ (k : ℕ). digit (set n) + count_from set width (n + 1) + count_from set more k) (omega arith)
  where
    turned : (a b c : ℕ) → a + (b + c) ≡ a + b + c
    turned a b c = omega arith

-- ---- the word of two sets
both_bits : (a b : Bool) → min (digit a) (digit b) ≡ digit (a && b)
both_bits true true = refl
both_bits true false = refl
both_bits false true = refl
both_bits false false = refl

pub word_both : (set other : ℕ → Bool) (width n : ℕ)
    → bit_and (word_from set width n) (word_from other width n) ≡ word_from (λ (i : ℕ). set i && other i) width n
unfolding word_from
word_both set other zero n = refl
word_both set other (suc width) n =
    and_step (word_from set (suc width) n) (word_from other (suc width) n)
    ∙ ap₂ (λ (rest low : ℕ). rest * 2 + low)
    (ap₂ bit_and (word_half set width n) (word_half other width n) ∙ word_both set other width (n + 1))
    (ap₂ min (word_low set width n) (word_low other width n) ∙ both_bits (set n) (other n))

-- ---- a word made from its lowest number up
-- with the next number on top
word_top : (set : ℕ → Bool) (width n : ℕ) → word_from set (suc width) n ≡ digit (set (n + width)) * 2 ^ width + word_from set width n
unfolding word_from
word_top set zero n = ap (λ (k : ℕ). 0 + digit (set k)) (sym (add-zero n)) ∙ alone (digit (set (n + 0)))
  where
    alone : (low : ℕ) → 0 + low ≡ low * 1 + 0
    alone low = omega arith
word_top set (suc width) n =
    ap (λ (rest : ℕ). rest * 2 + digit (set n)) (word_top set width (n + 1))
    ∙ turned (digit (set (n + 1 + width)) * 2 ^ width) (word_from set width (n + 1)) (digit (set n))
    ∙ ap (λ (top : ℕ). top + (word_from set width (n + 1) * 2 + digit (set n)))
    (mul_assoc (digit (set (n + 1 + width))) (2 ^ width) 2
    ∙ ap₂ (λ (k power : ℕ). digit (set k) * power) (omega arith) (sym (pow-suc 2 width)))
  where
    turned : (top rest low : ℕ) → (top + rest) * 2 + low ≡ top * 2 + (rest * 2 + low)
    turned top rest low = omega arith

pub word_more : (set : ℕ → Bool) (width n : ℕ)
    → word_from set (width + 1) n ≡ cond (set (n + width)) (bit_or (word_from set width n) (2 ^ width)) (word_from set width n)
word_more set width n =
    ap (λ (k : ℕ). word_from set k n) (omega arith) ∙ word_top set width n ∙ by_test (set (n + width))
  where
    by_test : (b : Bool) → digit b * 2 ^ width + word_from set width n ≡ cond b (bit_or (word_from set width n) (2 ^ width)) (word_from set width n)
    by_test true =
        sym (or_shifted_r 1 width (word_from set width n) (word_lt set width n)) ∙ ap (bit_or (word_from set width n)) (one-mul (2 ^ width))
    by_test false = ap (λ (top : ℕ). top + word_from set width n) (omega arith) ∙ zero-add (word_from set width n)

-- the bit of a number, as code makes it
pub one_shifted : (i : ℕ) → i < 64 → 1 * 2 ^ i % 2 ^ 64 ≡ 2 ^ i
one_shifted i h = shl_exact {a = 1} 1 i 64 (omega arith) (omega (arith, h)) ∙ one-mul (2 ^ i)
