-- Times 1.0: every f64 times 1.0 is that f64, the NaN too. The product rounds the value's own fraction, which is exact, and a value that fits is written in one way.
use Rattle.std.specs.Prelude.{◌≡◌, refl, ℕ, zero, suc, ◌+◌, ◌*◌, ◌%◌, ◌^◌, ◌<◌, Bool, true, false, ℤ, pos, negsuc, T, Float}
use Rattle.std.proofs.Common.{sym, ap, ◌∙◌, subst, mul_left_comm, mul_assoc, mul-one, one-mul, zero-mul, mul-pos, zero-lt-suc, lt_irrefl, pow-suc, arith, eqb→eq, pow-add, pow_pos}
use Rattle.std.proofs.Math.Nat.{pow-succ', eq_of_mul-eq-mul_right}
use Rattle.std.specs.Float.{nan, inf, fin, Format, binary64}
use Rattle.std.specs.Float.Ieee.{up, down, round, mul, fits, unlike}
use Rattle.std.specs.Float.Ieee.Fits.{up_pos, down_pos, round-fits, mul-fits}
use Rattle.std.specs.Float.Ieee.Exact.{HasValue}
use Rattle.float64.specs.Literals.{one_literal}
use Rattle.float64.specs.Sign.{1f}
use Rattle.float64.proofs.SignLaws.{literal_one}
use Rattle.float64.specs.Rounding.{fits_says, own_value}

-- ---- a value that fits is written in one way
even_odd : (m t : ℕ) → m % 2 ≡ 1 → m ≡ 2 * t → ⊥
even_odd m t o h = omega arith

-- two odd numbers at powers of 2
odd_pow : (m n a b : ℕ) → m % 2 ≡ 1 → n % 2 ≡ 1 → m * 2 ^ a ≡ n * 2 ^ b → (m ≡ n) × (a ≡ b)
odd_pow m n zero zero o p h = (sym (mul-one m) ∙ h ∙ mul-one n, refl)
odd_pow m n zero (suc b) o p h = absurd (even_odd m (n * 2 ^ b) o (sym (mul-one m) ∙ h ∙ ap (λ (x : ℕ). n * x) (pow-succ' 2 b) ∙ mul_left_comm n 2 (2 ^ b)))
odd_pow m n (suc a) zero o p h = absurd (even_odd n (m * 2 ^ a) p (sym (mul-one n) ∙ sym h ∙ ap (λ (x : ℕ). m * x) (pow-succ' 2 a) ∙ mul_left_comm m 2 (2 ^ a)))
odd_pow m n (suc a) (suc b) o p h =
    let r = odd_pow m n a b o p (eq_of_mul-eq-mul_right 2 (zero-lt-suc 1) (m * 2 ^ a) (n * 2 ^ b)
    (mul_assoc m (2 ^ a) 2 ∙ ap (λ (x : ℕ). m * x) (sym (pow-suc 2 a)) ∙ h ∙ ap (λ (x : ℕ). n * x) (pow-suc 2 b) ∙ sym (mul_assoc n (2 ^ b) 2))) in
    (r.0, ap suc r.1)

-- m * 2 ^ e and n * 2 ^ g, m and n odd
same_written : (m n : ℕ) (e g : ℤ) → m % 2 ≡ 1 → n % 2 ≡ 1 → m * up e * down g ≡ n * up g * down e → (m ≡ n) × (e ≡ g)
same_written m n (pos a) (pos b) o p h =
    let r = odd_pow m n a b o p (sym (mul-one (m * 2 ^ a)) ∙ h ∙ mul-one (n * 2 ^ b)) in (r.0, ap pos r.1)
same_written m n (pos a) (negsuc b) o p h =
    let r = odd_pow m n (a + suc b) 0 o p (ap (λ (x : ℕ). m * x) (pow-add 2 a (suc b)) ∙ sym (mul_assoc m (2 ^ a) (2 ^ suc b)) ∙ h ∙ mul-one (n * 1)) in
    let z = r.1 in absurd (omega arith)
same_written m n (negsuc a) (pos b) o p h =
    let r = odd_pow m n 0 (b + suc a) o p (sym (mul-one (m * 1)) ∙ h ∙ mul_assoc n (2 ^ b) (2 ^ suc a) ∙ ap (λ (x : ℕ). n * x) (sym (pow-add 2 b (suc a)))) in
    let z = r.1 in absurd (omega arith)
same_written m n (negsuc a) (negsuc b) o p h =
    let r = odd_pow m n (suc b) (suc a) o p (ap (λ (x : ℕ). x * 2 ^ suc b) (sym (mul-one m)) ∙ h ∙ ap (λ (x : ℕ). x * 2 ^ suc a) (mul-one n)) in
    (r.0, ap negsuc (let z = r.1 in omega arith))

two_up : (p : ℕ) → 0 < p → 2 * p ≡ 1 → ⊥
two_up p h e = omega arith

flat : (e : ℤ) → up e * down e ≡ 1 → e ≡ pos 0
flat (pos zero) h = refl
flat (pos (suc k)) h = absurd (two_up (2 ^ k) (pow_pos k) (sym (pow-succ' 2 k) ∙ sym (mul-one (2 ^ suc k)) ∙ h))
flat (negsuc k) h = absurd (two_up (2 ^ k) (pow_pos k) (sym (pow-succ' 2 k) ∙ sym (one-mul (2 ^ suc k)) ∙ h))

zero_exp : (f : Format) (s : Bool) (e : ℤ) → T (fits f (fin s zero e)) → e ≡ pos 0
unfolding fits
zero_exp f s e t = flat e (eqb→eq (up e * down e) 1 t)

not_zero : (m a b : ℕ) → 0 < a → 0 < b → suc m * a * b ≡ 0 → ⊥
not_zero m a b p q h = lt_irrefl 0 (subst (λ (x : ℕ). 0 < x) h (mul-pos (mul-pos (zero-lt-suc m) p) q))

-- of a sign, where both fit and their sizes are the same
same_size : (f : Format) (s : Bool) (m n : ℕ) (e g : ℤ) → T (fits f (fin s m e)) → T (fits f (fin s n g)) → m * up e * down g ≡ n * up g * down e
    → fin s m e ≡ fin s n g
same_size f s zero zero e g p q h = ap (fin s zero) (zero_exp f s e p ∙ sym (zero_exp f s g q))
same_size f s zero (suc n) e g p q h =
    absurd (not_zero n (up g) (down e) (up_pos g) (down_pos e) (sym h ∙ ap (λ (x : ℕ). x * down g) (zero-mul (up e)) ∙ zero-mul (down g)))
same_size f s (suc m) zero e g p q h =
    absurd (not_zero m (up e) (down g) (up_pos e) (down_pos g) (h ∙ ap (λ (x : ℕ). x * down e) (zero-mul (up g)) ∙ zero-mul (down e)))
same_size f s (suc m) (suc n) e g p q h =
    let r = same_written (suc m) (suc n) e g (fits_says f s m e p).3 (fits_says f s n g q).3 h in λ i. fin s (r.0 i) (r.1 i)

value_unique : (f : Format) (s : Bool) (m : ℕ) (e : ℤ) (x : Float) → T (fits f (fin s m e)) → T (fits f x) → HasValue x s (m * up e) (down e) → x ≡ fin s m e
value_unique f s m e nan p q v = absurd v
value_unique f s m e (inf t) p q v = absurd v
value_unique f s m e (fin t n g) p q v =
    ap (λ (u : Bool). fin u n g) v.0 ∙ same_size f s n m g e (subst (λ (u : Bool). T (fits f (fin u n g))) v.0 q) p v.1

-- a value that fits is rounded to itself
pub round_own : (f : Format) (s : Bool) (m : ℕ) (e : ℤ) → T (fits f (fin s m e)) → round f s (m * up e) (down e) ≡ fin s m e
round_own f s m e h = value_unique f s m e (round f s (m * up e) (down e)) h (round-fits f s (m * up e) (down e)) (own_value f s m e h)

-- ---- TIMES 1.0
like : (s : Bool) → unlike s false ≡ s
like true = refl
like false = refl

pub mul_one_right : (f : Format) (x : Float) → T (fits f x) → mul f x 1f ≡ x
unfolding mul
mul_one_right f nan h = refl
mul_one_right f (inf s) h = ap inf (like s)
mul_one_right f (fin s m e) h =
    ap (λ (u : Bool). round f u (m * up e * 1) (down e * 1)) (like s)
    ∙ ap (λ (a : ℕ). round f s a (down e * 1)) (mul-one (m * up e))
    ∙ ap (round f s (m * up e)) (mul-one (down e))
    ∙ round_own f s m e h

-- a product times the literal 1.0 is that product
pub product_one : (x y : Float) → mul binary64 (mul binary64 x y) one_literal ≡ mul binary64 x y
product_one x y = ap (mul binary64 (mul binary64 x y)) literal_one ∙ mul_one_right binary64 (mul binary64 x y) (mul-fits binary64 x y)
