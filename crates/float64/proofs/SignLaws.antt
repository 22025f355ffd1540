-- Signs through the operations, in any format. What Sign calls `nonneg` is 0 ≤ x. It is kept by sums, and with the NaN let in (`nonneg_or_nan`) by sums,
-- products, and quotients by a value whose sign bit is clear or that is a NaN (`clear_or_nan`); a difference x - y is `nonneg_or_nan` unless x < y, and
-- `clear_or_nan` if y < x. So no argument on overflow, underflow or 0 / 0 is needed by who cites them. Assumes nothing.
use Rattle.std.specs.Prelude.{◌≡◌, refl, ℕ, zero, suc, ◌+◌, ◌-◌, ◌*◌, ◌<◌, Bool, true, false, not, ◌&&◌, cond, ℤ, pos, T, ltb, eqb, Float}
use Rattle.std.proofs.Common.{ap, mul-pos, zero-mul, zero-lt-suc, arith, eqb→eq, ltb→lt, T_not}
use Rattle.std.specs.Float.{nan, inf, fin, Format, binary64}
use Rattle.std.specs.Float.Ieee.{up, down, round, neg, sum, add, sub, mul, div, below, lt, le, fits, is_nan, of_bits, unlike}
use Rattle.std.specs.Float.Ieee.Fits.{up_pos}
use Rattle.std.specs.Float.Ieee.Positive.{den}
use Rattle.std.specs.Float.Ieee.Scale.{finite}
use Rattle.float64.specs.Sign.{0f, 1f, nonneg, nonneg_or_nan, clear_or_nan}
use Rattle.float64.specs.Literals.{zero_literal, one_literal}
use Rattle.float64.specs.Order.{positive_part, negative_part, cross→le, le→cross, nlt→cross, le_num_r}
use Rattle.float64.specs.Rounding.{rounded_mono, rounded_zero, rounded_own, rounded_add, rounded_sub, rounded_mul, rounded_div, round_clear, no_product}

-- ---- the tests

zero_of : (m k : ℕ) → T (eqb m 0) → m * k ≡ 0
zero_of m k h = rw (eqb→eq m 0 h) (zero-mul k)

pub nonneg→le : (x : Float) → T (nonneg x) → T (le 0f x)
unfolding le
nonneg→le nan h = absurd h
nonneg→le (inf true) h = absurd h
nonneg→le (inf false) h = tt
nonneg→le (fin true m e) h = cross→le 0f (fin true m e) tt tt (let k = zero_of m (up e) h in omega arith)
nonneg→le (fin false m e) h = cross→le 0f (fin false m e) tt tt (omega arith)

pub le→nonneg : (x : Float) → T (le 0f x) → T (nonneg x)
unfolding le
le→nonneg nan h = h
le→nonneg (inf true) h = h
le→nonneg (inf false) h = tt
le→nonneg (fin true m e) h =
    let c = le→cross 0f (fin true m e) tt tt h in
    let z : m * up e ≡ 0 = omega arith in
    rw (no_product m (up e) (up_pos e) z) tt
le→nonneg (fin false m e) h = tt

pub nonneg_number : (x : Float) → T (nonneg x) → T (not (is_nan x))
nonneg_number x h = le_num_r 0f x (nonneg→le x h)

pub nonneg_negative_part : (x : Float) → T (nonneg x) → negative_part x ≡ 0
nonneg_negative_part nan h = refl
nonneg_negative_part (inf s) h = refl
nonneg_negative_part (fin true m e) h = zero_of m (up e) h
nonneg_negative_part (fin false m e) h = refl

pub nonneg→nonneg_or_nan : (x : Float) → T (nonneg x) → T (nonneg_or_nan x)
nonneg→nonneg_or_nan nan h = tt
nonneg→nonneg_or_nan (inf s) h = h
nonneg→nonneg_or_nan (fin s m e) h = h

pub finite_number : (x : Float) → T (finite x) → T (not (is_nan x))
unfolding is_nan
finite_number nan h = h
finite_number (inf s) h = tt
finite_number (fin s m e) h = tt

pub nonneg_or_nan→nonneg : (x : Float) → T (nonneg_or_nan x) → T (not (is_nan x)) → T (nonneg x)
unfolding is_nan
nonneg_or_nan→nonneg nan h k = k
nonneg_or_nan→nonneg (inf s) h k = h
nonneg_or_nan→nonneg (fin s m e) h k = h

pub clear_or_nan→nonneg_or_nan : (x : Float) → T (clear_or_nan x) → T (nonneg_or_nan x)
clear_or_nan→nonneg_or_nan nan h = tt
clear_or_nan→nonneg_or_nan (inf s) h = h
clear_or_nan→nonneg_or_nan (fin true m e) h = absurd h
clear_or_nan→nonneg_or_nan (fin false m e) h = tt

-- ---- the literals 0.0, 1.0 and -0.0, which code gives by their bits

pub literal_zero : zero_literal ≡ 0f
unfolding of_bits
literal_zero = refl

pub literal_one : one_literal ≡ 1f
unfolding of_bits
literal_one = refl

pub literal_minus_zero : of_bits binary64 0x8000_0000_0000_0000 ≡ fin true 0 (pos 0)
unfolding of_bits
literal_minus_zero = refl

pub minus_zero_nonneg : T (nonneg (of_bits binary64 0x8000_0000_0000_0000))
minus_zero_nonneg = rw literal_minus_zero tt

-- ---- sums and differences with a value that is not negative

pub add_nonneg : (f : Format) (x y : Float) → T (nonneg x) → T (nonneg y) → T (nonneg (add f x y))
unfolding add
add_nonneg f nan y h k = absurd h
add_nonneg f (inf true) y h k = absurd h
add_nonneg f (inf false) nan h k = k
add_nonneg f (inf false) (inf true) h k = k
add_nonneg f (inf false) (inf false) h k = tt
add_nonneg f (inf false) (fin t n d) h k = tt
add_nonneg f (fin s m e) nan h k = k
add_nonneg f (fin s m e) (inf t) h k = k
add_nonneg f (fin s m e) (fin t n d) h k =
    let x = fin s m e in
    let y = fin t n d in
    le→nonneg (add f x y)
    (rounded_mono (rounded_zero f) (rounded_add f x y tt tt) (omega (arith, ap (λ (z : ℕ). z * den y) (nonneg_negative_part x h), ap (λ (z : ℕ). z * den x) (nonneg_negative_part y k))))

-- a sum with y ≥ 0 is no smaller, where it is no NaN (-inf + inf is one)
pub add_up : (f : Format) (x y : Float) → T (fits f x) → T (nonneg y) → T (not (is_nan (add f x y))) → T (le x (add f x y))
unfolding add is_nan le
add_up f nan y h k l = absurd l
add_up f (inf s) nan h k l = absurd k
add_up f (inf s) (inf true) h k l = absurd k
add_up f (inf true) (inf false) h k l = absurd l
add_up f (inf false) (inf false) h k l = tt
add_up f (inf true) (fin t n d) h k l = tt
add_up f (inf false) (fin t n d) h k l = tt
add_up f (fin s m e) nan h k l = absurd k
add_up f (fin s m e) (inf true) h k l = absurd k
add_up f (fin s m e) (inf false) h k l = tt
add_up f (fin s m e) (fin t n d) h k l =
    let x = fin s m e in
    let y = fin t n d in
    rounded_mono (rounded_own f x h tt) (rounded_add f x y tt tt) (omega (arith, ap (λ (z : ℕ). z * (den x * den x)) (nonneg_negative_part y k)))

-- and a difference is no greater
pub sub_down : (f : Format) (x y : Float) → T (fits f x) → T (nonneg y) → T (not (is_nan (sub f x y))) → T (le (sub f x y) x)
unfolding sub neg is_nan le
sub_down f nan y h k l = absurd l
sub_down f (inf s) nan h k l = absurd k
sub_down f (inf s) (inf true) h k l = absurd k
sub_down f (inf true) (inf false) h k l = tt
sub_down f (inf false) (inf false) h k l = absurd l
sub_down f (inf true) (fin t n d) h k l = tt
sub_down f (inf false) (fin t n d) h k l = tt
sub_down f (fin s m e) nan h k l = absurd k
sub_down f (fin s m e) (inf true) h k l = absurd k
sub_down f (fin s m e) (inf false) h k l = tt
sub_down f (fin s m e) (fin t n d) h k l =
    let x = fin s m e in
    let y = fin t n d in
    rounded_mono (rounded_sub f x y tt tt) (rounded_own f x h tt) (omega (arith, ap (λ (z : ℕ). z * (den x * den x)) (nonneg_negative_part y k)))

-- ---- sums, products and quotients, the NaN let in

pub nonneg_or_nan_add : (f : Format) (x y : Float) → T (nonneg_or_nan x) → T (nonneg_or_nan y) → T (nonneg_or_nan (add f x y))
unfolding add
nonneg_or_nan_add f nan y h k = tt
nonneg_or_nan_add f (inf s) nan h k = tt
nonneg_or_nan_add f (inf s) (inf t) h k = nonneg→nonneg_or_nan (add f (inf s) (inf t)) (add_nonneg f (inf s) (inf t) h k)
nonneg_or_nan_add f (inf s) (fin t n d) h k = h
nonneg_or_nan_add f (fin s m e) nan h k = tt
nonneg_or_nan_add f (fin s m e) (inf t) h k = k
nonneg_or_nan_add f (fin s m e) (fin t n d) h k = nonneg→nonneg_or_nan (add f (fin s m e) (fin t n d)) (add_nonneg f (fin s m e) (fin t n d) h k)

-- a value above 0 has its sign bit clear
above_clear : (s : Bool) (m : ℕ) (e : ℤ) → T (nonneg (fin s m e)) → T (not (eqb m 0)) → T (not s)
above_clear true m e h k = T_not (eqb m 0) k h
above_clear false m e h k = tt

clear_unlike : (s t : Bool) → T (not s) → T (not t) → T (not (unlike s t))
clear_unlike true t h k = absurd h
clear_unlike false true h k = absurd k
clear_unlike false false h k = tt

-- a test that a choice passes, if each arm does
chosen : (test : Float → Bool) (b : Bool) (x y : Float) → (T b → T (test x)) → (T (not b) → T (test y)) → T (test (cond b x y))
chosen test true x y h k = h tt
chosen test false x y h k = k tt

pub nonneg_or_nan_mul : (f : Format) (x y : Float) → T (nonneg_or_nan x) → T (nonneg_or_nan y) → T (nonneg_or_nan (mul f x y))
unfolding mul
nonneg_or_nan_mul f nan y h k = tt
nonneg_or_nan_mul f (inf s) nan h k = tt
nonneg_or_nan_mul f (inf s) (inf t) h k = clear_unlike s t h k
nonneg_or_nan_mul f (inf s) (fin t n d) h k =
    chosen nonneg_or_nan (eqb n 0) nan (inf (unlike s t)) (λ _. tt) (λ (z : T (not (eqb n 0))). clear_unlike s t h (above_clear t n d k z))
nonneg_or_nan_mul f (fin s m e) nan h k = tt
nonneg_or_nan_mul f (fin s m e) (inf t) h k =
    chosen nonneg_or_nan (eqb m 0) nan (inf (unlike s t)) (λ _. tt) (λ (z : T (not (eqb m 0))). clear_unlike s t (above_clear s m e h z) k)
nonneg_or_nan_mul f (fin s m e) (fin t n d) h k =
    let x = fin s m e in
    let y = fin t n d in
    nonneg→nonneg_or_nan (mul f x y)
    (le→nonneg (mul f x y)
    (rounded_mono (rounded_zero f) (rounded_mul f x y tt tt)
    (omega (arith, ap (λ (z : ℕ). positive_part x * z) (nonneg_negative_part y k), ap (λ (z : ℕ). z * positive_part y) (nonneg_negative_part x h)))))

pub clear_or_nan_mul : (f : Format) (x y : Float) → T (clear_or_nan x) → T (clear_or_nan y) → T (clear_or_nan (mul f x y))
unfolding mul
clear_or_nan_mul f nan y h k = tt
clear_or_nan_mul f (inf s) nan h k = tt
clear_or_nan_mul f (inf s) (inf t) h k = clear_unlike s t h k
clear_or_nan_mul f (inf s) (fin t n d) h k = chosen clear_or_nan (eqb n 0) nan (inf (unlike s t)) (λ _. tt) (λ _. clear_unlike s t h k)
clear_or_nan_mul f (fin s m e) nan h k = tt
clear_or_nan_mul f (fin s m e) (inf t) h k = chosen clear_or_nan (eqb m 0) nan (inf (unlike s t)) (λ _. tt) (λ _. clear_unlike s t h k)
clear_or_nan_mul f (fin true m e) (fin t n d) h k = absurd h
clear_or_nan_mul f (fin false m e) (fin true n d) h k = absurd k
clear_or_nan_mul f (fin false m e) (fin false n d) h k = round_clear f (m * up e * (n * up d)) (down e * down d)

pub nonneg_or_nan_div : (f : Format) (x y : Float) → T (nonneg_or_nan x) → T (clear_or_nan y) → T (nonneg_or_nan (div f x y))
unfolding div
nonneg_or_nan_div f nan y h k = tt
nonneg_or_nan_div f (inf s) nan h k = tt
nonneg_or_nan_div f (inf s) (inf t) h k = tt
nonneg_or_nan_div f (inf s) (fin t n d) h k = clear_unlike s t h k
nonneg_or_nan_div f (fin s m e) nan h k = tt
nonneg_or_nan_div f (fin s m e) (inf true) h k = absurd k
nonneg_or_nan_div f (fin true m e) (inf false) h k = tt
nonneg_or_nan_div f (fin false m e) (inf false) h k = tt
nonneg_or_nan_div f (fin s m e) (fin true n d) h k = absurd k
nonneg_or_nan_div f (fin s m e) (fin false zero d) h k =
    chosen nonneg_or_nan (eqb m 0) nan (inf (unlike s false)) (λ _. tt) (λ (z : T (not (eqb m 0))). clear_unlike s false (above_clear s m e h z) tt)
nonneg_or_nan_div f (fin s m e) (fin false (suc n) d) h k =
    let x = fin s m e in
    let y = fin false (suc n) d in
    nonneg→nonneg_or_nan (div f x y)
    (le→nonneg (div f x y)
    (rounded_mono (rounded_zero f) (rounded_div f x y tt tt (mul-pos (zero-lt-suc n) (up_pos d))) (omega (arith, ap (λ (z : ℕ). z * den y) (nonneg_negative_part x h)))))

-- ---- differences

-- y ≤ x, or one is a NaN
pub sub_nonneg_or_nan : (f : Format) (x y : Float) → T (not (lt x y)) → T (nonneg_or_nan (sub f x y))
unfolding sub neg add lt
sub_nonneg_or_nan f nan y h = tt
sub_nonneg_or_nan f (inf s) nan h = tt
sub_nonneg_or_nan f (inf true) (inf true) h = tt
sub_nonneg_or_nan f (inf true) (inf false) h = absurd h
sub_nonneg_or_nan f (inf false) (inf true) h = tt
sub_nonneg_or_nan f (inf false) (inf false) h = tt
sub_nonneg_or_nan f (inf s) (fin t n d) h = h
sub_nonneg_or_nan f (fin s m e) nan h = tt
sub_nonneg_or_nan f (fin s m e) (inf true) h = tt
sub_nonneg_or_nan f (fin s m e) (inf false) h = absurd h
sub_nonneg_or_nan f (fin s m e) (fin t n d) h =
    let x = fin s m e in
    let y = fin t n d in
    let c = nlt→cross x y tt tt h in
    nonneg→nonneg_or_nan (sub f x y) (le→nonneg (sub f x y) (rounded_mono (rounded_zero f) (rounded_sub f x y tt tt) (omega arith)))

-- ±a / c - ±b / c is not negative where ±b < ±a, and its sign bit is clear also where it underflows
sum_clear : (f : Format) (s t : Bool) (a b c : ℕ) → T (below t b s a) → T (clear_or_nan (sum f s a (not t) b c))
unfolding sum
sum_clear f true false a b c h = absurd h
sum_clear f false true a b c h = round_clear f (a + b) c
sum_clear f false false a b c h =
    chosen clear_or_nan (ltb a b) (round f true (b - a) c) (round f false (a - b) c) (λ (z : T (ltb a b)). absurd (clash a b (ltb→lt a b z) (ltb→lt b a h))) (λ _. round_clear f (a - b) c)
  where
    clash : (a b : ℕ) → a < b → b < a → ⊥
    clash a b p q = omega arith
sum_clear f true true a b c h =
    chosen clear_or_nan (ltb a b) (round f false (b - a) c) (round f (true && ltb b a) (a - b) c) (λ _. round_clear f (b - a) c) (λ (z : T (not (ltb a b))). absurd (T_not (ltb a b) z h))

-- y < x
pub sub_clear_or_nan : (f : Format) (x y : Float) → T (lt y x) → T (clear_or_nan (sub f x y))
unfolding sub neg add lt
sub_clear_or_nan f nan y h = tt
sub_clear_or_nan f (inf s) nan h = tt
sub_clear_or_nan f (inf true) (inf true) h = tt
sub_clear_or_nan f (inf true) (inf false) h = absurd h
sub_clear_or_nan f (inf false) (inf true) h = tt
sub_clear_or_nan f (inf false) (inf false) h = tt
sub_clear_or_nan f (inf s) (fin t n d) h = h
sub_clear_or_nan f (fin s m e) nan h = tt
sub_clear_or_nan f (fin s m e) (inf true) h = tt
sub_clear_or_nan f (fin s m e) (inf false) h = absurd h
sub_clear_or_nan f (fin s m e) (fin t n d) h = sum_clear f s t (m * up e * down d) (n * up d * down e) (down e * down d) h
