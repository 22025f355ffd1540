-- Rounding to nearest keeps the order, whatever the signs. `Rounded f x p n c` says that the float x is what the fraction (p - n) / c rounds to in the
-- format f, up to the sign of a zero. Every sum, difference and product of finite values is one, every quotient by a value above 0 (`rounded_add` and the
-- like), and every finite value that fits the format, of itself (`rounded_own`). `rounded_mono` then turns a comparison of two such floats into one of
-- two fractions, which is arithmetic of natural numbers. The fraction of a finite float is Order's: (positive_part x - negative_part x) / den x. Assumes nothing.
use Rattle.std.specs.Prelude.{◌≡◌, refl, ℕ, zero, suc, ◌+◌, ◌-◌, ◌*◌, ◌%◌, ◌^◌, ◌≤◌, ◌<◌, Bool, true, false, not, ◌&&◌, cond, ℤ, pos, negsuc, T, leb, ltb, eqb, Float}
use Rattle.std.proofs.Common.{sym, ap, ◌∙◌, subst, mul_comm, mul_left_comm, mul_assoc, mul-one, one-mul, zero-mul, mul-pos, sub-add_cancel, zero-lt-suc, lt_irrefl, le_of_eq, not-le_of_lt, lt_of_lt_of_le, lt_of_mul-lt-mul_right, mul-lt-mul_of_pos_right, arith, eqb→eq, ltb→lt, leb→le, nltb→le, pow-add, pow_pos}
use Rattle.std.proofs.Math.Dec.{nleb→lt, not_T}
use Rattle.std.proofs.Math.Pow.{pow-lt}
use Rattle.std.specs.Float.{nan, inf, fin, Format, binary32, binary64}
use Rattle.std.specs.Float.Ieee.{prec, emax, low, up, down, odd, units, round, neg, sum, add, sub, mul, div, le, fits, unlike}
use Rattle.std.specs.Float.Ieee.Bits.{cond_no}
use Rattle.std.specs.Float.Ieee.Fits.{down_pos, and_l, and_r, round_is}
use Rattle.std.specs.Float.Ieee.Exact.{HasValue, round_exact}
use Rattle.std.specs.Float.Ieee.Order.{round_mono}
use Rattle.std.specs.Float.Ieee.Scale.{finite, round_same}
use Rattle.std.specs.Float.Ieee.Positive.{den, first_pos}
use Rattle.float64.specs.Sign.{0f, 1f, clear_or_nan}
use Rattle.float64.specs.Order.{positive_part, negative_part, cross→le, le_trans, neg_le}

-- ---- the sign of a rounded value is the sign given

-- x with the sign s
abbrev with_sign : Bool → Float → Float
with_sign s nan = nan
with_sign s (inf t) = inf s
with_sign s (fin t m e) = fin s m e

odd_sign : (d : ℕ) (s : Bool) (q k l : ℕ) → odd d s q k l ≡ with_sign s (odd d false q k l)
unfolding odd
odd_sign d s zero k l = refl
odd_sign d s (suc q) k l = refl

units_sign : (f : Format) (s : Bool) (q k : ℕ) → units f s q k ≡ with_sign s (units f false q k)
unfolding units
units_sign f s q k = go (ltb (q * 2 ^ k) (2 ^ (low f + suc (emax f))))
  where
    go : (b : Bool) → cond b (odd (suc (prec f)) s q k (low f)) (inf s) ≡ with_sign s (cond b (odd (suc (prec f)) false q k (low f)) (inf false))
    go true = odd_sign (suc (prec f)) s q k (low f)
    go false = refl

round_sign : (f : Format) (s : Bool) (a c : ℕ) → round f s a c ≡ with_sign s (round f false a c)
round_sign f s a c = round_is f s a c ∙ units_sign f s _ _ ∙ ap (with_sign s) (sym (round_is f false a c))

pub round_neg : (f : Format) (a c : ℕ) → round f true a c ≡ neg (round f false a c)
unfolding neg
round_neg f a c = round_sign f true a c ∙ sym (turned (round f false a c)) ∙ ap neg (sym (round_sign f false a c))
  where
    turned : (x : Float) → neg (with_sign false x) ≡ with_sign true x
    turned nan = refl
    turned (inf t) = refl
    turned (fin t m e) = refl

pub round_clear : (f : Format) (a c : ℕ) → T (clear_or_nan (round f false a c))
round_clear f a c = rw (round_sign f false a c) (unset (round f false a c))
  where
    unset : (x : Float) → T (clear_or_nan (with_sign false x))
    unset nan = tt
    unset (inf t) = tt
    unset (fin t m e) = tt

-- ---- what 0 and 1 round to

zero_is : (f : Format) (s : Bool) → round f s 0 1 ≡ fin s 0 (pos 0)
unfolding round
zero_is binary32 s = refl
zero_is binary64 s = refl

one_is : (f : Format) → round f false 1 1 ≡ 1f
unfolding round
one_is binary32 = refl
one_is binary64 = refl

pub round_zero : (f : Format) (s : Bool) (c : ℕ) → 0 < c → round f s 0 c ≡ fin s 0 (pos 0)
round_zero f s c C = round_same f s 0 c 0 1 C (zero-lt-suc 0) (sym (zero-mul c)) ∙ zero_is f s

-0≤0 : T (le (neg 0f) 0f)
unfolding le neg
-0≤0 = tt

0≤_0 : T (le 0f (fin true 0 (pos 0)))
unfolding le
0≤_0 = tt

0≤round : (f : Format) (a c : ℕ) → 0 < c → T (le 0f (round f false a c))
0≤round f a c C = subst (λ (z : Float). T (le z (round f false a c))) (zero_is f false) (round_mono f 0 1 a c (zero-lt-suc 0) C (omega arith))

round≤0 : (f : Format) (a c : ℕ) → 0 < c → T (le (round f true a c) 0f)
round≤0 f a c C = rw round_neg (le_trans (neg (round f false a c)) (neg 0f) 0f (neg_le 0f (round f false a c) (0≤round f a c C)) -0≤0)

-- ---- rounding a signed fraction keeps the order

-- p - n is a, or -a where the sign is set
abbrev pub Difference : Bool → ℕ → ℕ → ℕ → Type 0
Difference false a p n = p ≡ n + a
Difference true a p n = n ≡ p + a

-- a product with a positive number is 0 only where the other factor is
pub no_product : (m k : ℕ) → 0 < k → m * k ≡ 0 → m ≡ 0
no_product zero k h e = refl
no_product (suc m) k h e = absurd (clash (suc m * k) (mul-pos (zero-lt-suc m) h) e)
  where
    clash : (k : ℕ) → 0 < k → k ≡ 0 → ⊥
    clash k h e = omega arith

signed_mono : (f : Format) (s t : Bool) (a p n c a' p' n' c' : ℕ) → 0 < c → 0 < c' → Difference s a p n → Difference t a' p' n'
    → p * c' + n' * c ≤ p' * c + n * c' → T (le (round f s a c) (round f t a' c'))
signed_mono f false false a p n c a' p' n' c' C C' d d' h =
    round_mono f a c a' c' C C' (omega (arith, ap (λ (z : ℕ). z * c') d, ap (λ (z : ℕ). z * c) d'))
signed_mono f true true a p n c a' p' n' c' C C' d d' h =
    rw (round_neg f a c, round_neg f a' c')
    (neg_le (round f false a' c') (round f false a c) (round_mono f a' c' a c C' C (omega (arith, ap (λ (z : ℕ). z * c') d, ap (λ (z : ℕ). z * c) d'))))
signed_mono f true false a p n c a' p' n' c' C C' d d' h = le_trans (round f true a c) 0f (round f false a' c') (round≤0 f a c C) (0≤round f a' c' C')
signed_mono f false true a p n c a' p' n' c' C C' d d' h =
    let k : a * c' + a' * c ≡ 0 = omega (arith, ap (λ (z : ℕ). z * c') d, ap (λ (z : ℕ). z * c) d') in
    let x : a ≡ 0 = no_product a c' C' (omega arith) in
    let y : a' ≡ 0 = no_product a' c C (omega arith) in
    rw (x, y, round_zero f false c C, round_zero f true c' C') 0≤_0

-- x is what (p - n) / c rounds to, up to the sign of a zero: p - n is `magnitude` with the sign `sign`, and x equals what that over c rounds to
pub record Rounded (f : Format) (x : Float) (p n c : ℕ) : Type 0 where
  pub sign : Bool
  pub magnitude : ℕ
  pub above : T (le x (round f sign magnitude c))
  pub below : T (le (round f sign magnitude c) x)
  pub difference : Difference sign magnitude p n
  pub positive : 0 < c

pub rounded_mono : {f : Format} {x y : Float} {p n c q m d : ℕ} → Rounded f x p n c → Rounded f y q m d → p * d + m * c ≤ q * c + n * d → T (le x y)
rounded_mono {f} {x} {y} {p} {n} {c} {q} {m} {d} r t h =
    let x' = round f r.sign r.magnitude c in
    let y' = round f t.sign t.magnitude d in
    le_trans x x' y r.above
    (le_trans x' y' y (signed_mono f r.sign t.sign r.magnitude p n c t.magnitude q m d r.positive t.positive r.difference t.difference h) t.below)

pub rounded_round : {f : Format} (s : Bool) (a : ℕ) {c p n : ℕ} → 0 < c → Difference s a p n → Rounded f (round f s a c) p n c
rounded_round {f} s a {c} {p} {n} C d =
    let same = signed_mono f s s a p n c a p n c C C d d (omega arith) in
    record { sign = s; magnitude = a; above = same; below = same; difference = d; positive = C }

pub rounded_zero : (f : Format) → Rounded f 0f 0 0 1
rounded_zero f = subst (λ (x : Float). Rounded f x 0 0 1) (zero_is f false) (rounded_round false 0 (zero-lt-suc 0) refl)

pub rounded_one : (f : Format) → Rounded f 1f 1 0 1
rounded_one f = subst (λ (x : Float). Rounded f x 1 0 1) (one_is f) (rounded_round false 1 (zero-lt-suc 0) refl)

-- ---- a value that fits rounds to itself

same_value : (s : Bool) (m : ℕ) (e : ℤ) (x : Float) → HasValue x s (m * up e) (down e) → T (le (fin s m e) x) × T (le x (fin s m e))
same_value s m e nan h = absurd h
same_value s m e (inf t) h = absurd h
same_value s m e (fin t n d) h = rw h.0 (go s)
  where
    go : (s : Bool) → T (le (fin s m e) (fin s n d)) × T (le (fin s n d) (fin s m e))
    go false = let k = h.1 in (cross→le (fin false m e) (fin false n d) tt tt (omega arith), cross→le (fin false n d) (fin false m e) tt tt (omega arith))
    go true = let k = h.1 in (cross→le (fin true m e) (fin true n d) tt tt (omega arith), cross→le (fin true n d) (fin true m e) tt tt (omega arith))

-- what `fits` tests of a value that is not 0: the digits, the exponent, the size, and that the digits are odd
pub fits_says : (f : Format) (s : Bool) (m : ℕ) (e : ℤ) → T (fits f (fin s (suc m) e))
    → (suc m < 2 ^ prec f) × (down e ≤ 2 ^ low f) × (suc m * up e < 2 ^ suc (emax f) * down e) × (suc m % 2 ≡ 1)
unfolding fits
fits_says f s m e h =
    let odd-digits = eqb (suc m % 2) 1 in
    let digits = ltb (suc m) (2 ^ prec f) in
    let exponent = leb (down e) (2 ^ low f) in
    let bound = ltb (suc m * up e) (2 ^ suc (emax f) * down e) in
    let first_three = and_l (odd-digits && digits && exponent) bound h in (
      ltb→lt (suc m) (2 ^ prec f) (and_r odd-digits digits (and_l (odd-digits && digits) exponent first_three)),
      leb→le (down e) (2 ^ low f) (and_r (odd-digits && digits) exponent first_three),
      ltb→lt (suc m * up e) (2 ^ suc (emax f) * down e) (and_r (odd-digits && digits && exponent) bound h),
      eqb→eq (suc m % 2) 1 (and_l odd-digits digits (and_l (odd-digits && digits) exponent first_three)),
    )

exponent_le : (i j : ℕ) → 2 ^ i ≤ 2 ^ j → i ≤ j
exponent_le i j h = go (leb i j) (leb→le i j) (nleb→lt i j)
  where
    go : (b : Bool) → (T b → i ≤ j) → (T (not b) → j < i) → i ≤ j
    go true l g = l tt
    go false l g = absurd (not-le_of_lt (pow-lt (g tt)) h)

-- the value in units of the format's smallest: m * 2 ^ j, where 2 ^ j is 2 ^ e * 2 ^ low
own_shift : (f : Format) (e : ℤ) → down e ≤ 2 ^ low f → (j : ℕ) × (up e * 2 ^ low f ≡ 2 ^ j * down e)
own_shift f (pos k) h = (k + low f, sym (pow-add 2 k (low f)) ∙ sym (mul-one (2 ^ (k + low f))))
own_shift f (negsuc k) h =
    let l = exponent_le (suc k) (low f) h in
    (low f - suc k, one-mul (2 ^ low f) ∙ ap (λ (z : ℕ). 2 ^ z) (sym (sub-add_cancel l)) ∙ pow-add 2 (low f - suc k) (suc k))

pub own_value : (f : Format) (s : Bool) (m : ℕ) (e : ℤ) → T (fits f (fin s m e)) → HasValue (round f s (m * up e) (down e)) s (m * up e) (down e)
own_value f s zero e h =
    round_exact f s (0 * up e) (down e) 0 0 (down_pos e) (pow_pos (prec f)) (pow_pos (low f + suc (emax f)))
    (rw (zero-mul (up e), zero-mul (2 ^ low f), zero-mul (down e)))
own_value f s (suc m) e h =
    let w = fits_says f s m e h in
    let g = own_shift f e w.1 in
    let j = g.0 in
    let l = 2 ^ low f in
    let i : suc m * up e * l ≡ suc m * 2 ^ j * down e =
    mul_assoc (suc m) (up e) l ∙ ap (λ (z : ℕ). suc m * z) g.1 ∙ sym (mul_assoc (suc m) (2 ^ j) (down e)) in
    let u : suc m * 2 ^ j * down e < 2 ^ (low f + suc (emax f)) * down e =
    rw (← i, pow-add 2 (low f) (suc (emax f)))
    (lt_of_lt_of_le (mul-lt-mul_of_pos_right w.2 (pow_pos (low f))) (le_of_eq (simp (mul_assoc, mul_comm, mul_left_comm)))) in
    round_exact f s (suc m * up e) (down e) (suc m) j (down_pos e) w.0 (lt_of_mul-lt-mul_right (down e) u) i

own_difference : (s : Bool) (m : ℕ) (e : ℤ) → Difference s (m * up e) (positive_part (fin s m e)) (negative_part (fin s m e))
own_difference false m e = omega arith
own_difference true m e = omega arith

pub rounded_own : (f : Format) (x : Float) → T (fits f x) → T (finite x) → Rounded f x (positive_part x) (negative_part x) (den x)
rounded_own f nan h k = absurd k
rounded_own f (inf s) h k = absurd k
rounded_own f (fin s m e) h k =
    let v = same_value s m e (round f s (m * up e) (down e)) (own_value f s m e h) in
    record { sign = s; magnitude = m * up e; above = v.0; below = v.1; difference = own_difference s m e; positive = down_pos e }

-- ---- a sum

-- of two signed magnitudes over c
rounded_sum : {f : Format} (s t : Bool) (a b : ℕ) {c : ℕ} (p n q m : ℕ) → 0 < c → Difference s a p n → Difference t b q m
    → Rounded f (sum f s a t b c) (p + q) (n + m) c
unfolding sum
rounded_sum false false a b p n q m C d d' = rounded_round false (a + b) C (omega arith)
rounded_sum true true a b p n q m C d d' = rounded_round true (a + b) C (omega arith)
rounded_sum {f} false true a b {c} p n q m C d d' = go (ltb a b) (ltb→lt a b) (nltb→le a b)
  where
    go : (less : Bool) → (T less → a < b) → (T (not less) → b ≤ a) → Rounded f (cond less (round f true (b - a) c) (round f false (a - b) c)) (p + q) (n + m) c
    go true l g = let a<b = l tt in rounded_round true (b - a) C (omega arith)
    go false l g = let b≤a = g tt in rounded_round false (a - b) C (omega arith)
rounded_sum {f} true false a b {c} p n q m C d d' = go (ltb a b) (ltb b a) (ltb→lt a b) (nltb→le a b) (nltb→le b a)
  where
    go : (less more : Bool) → (T less → a < b) → (T (not less) → b ≤ a) → (T (not more) → a ≤ b)
        → Rounded f (cond less (round f false (b - a) c) (round f (true && more) (a - b) c)) (p + q) (n + m) c
    go true more l g g' = let a<b = l tt in rounded_round false (b - a) C (omega arith)
    go false true l g g' = let b≤a = g tt in rounded_round true (a - b) C (omega arith)
    go false false l g g' = let b≤a = g tt in let a≤b = g' tt in rounded_round false (a - b) C (omega arith)

-- the parts of a value, each times k
scaled_difference : (s : Bool) (m : ℕ) (e : ℤ) (k : ℕ) → Difference s (m * up e * k) (positive_part (fin s m e) * k) (negative_part (fin s m e) * k)
scaled_difference false m e k = omega arith
scaled_difference true m e k = omega arith

pub rounded_add : (f : Format) (x y : Float) → T (finite x) → T (finite y)
    → Rounded f (add f x y) (positive_part x * den y + positive_part y * den x) (negative_part x * den y + negative_part y * den x) (den x * den y)
unfolding add
rounded_add f nan y h k = absurd h
rounded_add f (inf s) y h k = absurd h
rounded_add f (fin s m e) nan h k = absurd k
rounded_add f (fin s m e) (inf t) h k = absurd k
rounded_add f (fin s m e) (fin t n d) h k =
    rounded_sum s t (m * up e * down d) (n * up d * down e) _ _ _ _ (mul-pos (down_pos e) (down_pos d)) (scaled_difference s m e (down d)) (scaled_difference t n d (down e))

-- ---- a difference: the sum with -y, whose parts are those of y in the other order

neg_negative_part : (y : Float) → negative_part (neg y) ≡ positive_part y
unfolding neg
neg_negative_part nan = refl
neg_negative_part (inf s) = refl
neg_negative_part (fin true m e) = refl
neg_negative_part (fin false m e) = refl

neg_positive_part : (y : Float) → positive_part (neg y) ≡ negative_part y
unfolding neg
neg_positive_part nan = refl
neg_positive_part (inf s) = refl
neg_positive_part (fin true m e) = refl
neg_positive_part (fin false m e) = refl

neg_den : (y : Float) → den (neg y) ≡ den y
unfolding neg
neg_den nan = refl
neg_den (inf s) = refl
neg_den (fin s m e) = refl

neg_finite : (y : Float) → T (finite y) → T (finite (neg y))
unfolding neg
neg_finite nan h = h
neg_finite (inf s) h = h
neg_finite (fin s m e) h = h

pub rounded_sub : (f : Format) (x y : Float) → T (finite x) → T (finite y)
    → Rounded f (sub f x y) (positive_part x * den y + negative_part y * den x) (negative_part x * den y + positive_part y * den x) (den x * den y)
unfolding sub
rounded_sub f x y p q =
    rw neg_den at (rw neg_negative_part at (rw neg_positive_part at (rounded_add f x (neg y) p (neg_finite y q))))

-- ---- a product

product_difference : (s t : Bool) (m : ℕ) (e : ℤ) (n : ℕ) (d : ℤ)
    → Difference (unlike s t) (m * up e * (n * up d)) (positive_part (fin s m e) * positive_part (fin t n d) + negative_part (fin s m e) * negative_part (fin t n d))
    (positive_part (fin s m e) * negative_part (fin t n d) + negative_part (fin s m e) * positive_part (fin t n d))
product_difference false false m e n d = omega arith
product_difference false true m e n d = omega arith
product_difference true false m e n d = omega arith
product_difference true true m e n d = omega arith

pub rounded_mul : (f : Format) (x y : Float) → T (finite x) → T (finite y)
    → Rounded f (mul f x y) (positive_part x * positive_part y + negative_part x * negative_part y) (positive_part x * negative_part y + negative_part x * positive_part y) (den x * den y)
unfolding mul
rounded_mul f nan y p q = absurd p
rounded_mul f (inf s) y p q = absurd p
rounded_mul f (fin s m e) nan p q = absurd q
rounded_mul f (fin s m e) (inf t) p q = absurd q
rounded_mul f (fin s m e) (fin t n d) p q = rounded_round (unlike s t) (m * up e * (n * up d)) (mul-pos (down_pos e) (down_pos d)) (product_difference s t m e n d)

-- ---- a quotient by a value above 0

not_zero : (n k : ℕ) → 0 < n * k → T (not (eqb n 0))
not_zero n k h = not_T (eqb n 0) (λ (t : T (eqb n 0)). clash n (first_pos n k h) (eqb→eq n 0 t))
  where
    clash : (n : ℕ) → 0 < n → n ≡ 0 → ⊥
    clash n h e = omega arith

pub rounded_div : (f : Format) (x y : Float) → T (finite x) → T (finite y) → 0 < positive_part y
    → Rounded f (div f x y) (positive_part x * den y) (negative_part x * den y) (positive_part y * den x)
unfolding div
rounded_div f nan y p q k = absurd p
rounded_div f (inf s) y p q k = absurd p
rounded_div f (fin s m e) nan p q k = absurd q
rounded_div f (fin s m e) (inf t) p q k = absurd q
rounded_div f (fin s m e) (fin true n d) p q k = absurd (lt_irrefl 0 k)
rounded_div f (fin s m e) (fin false n d) p q k =
    let a = m * up e * down d in
    let c = n * up d * down e in
    rw (cond_no (eqb n 0) (cond (eqb m 0) nan (inf (unlike s false))) (round f (unlike s false) a c) (not_zero n (up d) k), unlike_false s)
    (rounded_round s a (mul-pos k (down_pos e)) (scaled_difference s m e (down d)))
  where
    unlike_false : (s : Bool) → unlike s false ≡ s
    unlike_false true = refl
    unlike_false false = refl
