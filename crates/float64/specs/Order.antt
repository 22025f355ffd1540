-- The order of floats, as Rust compares them: `lt` and `le` of the IEEE library. A float is `nan`, an infinity `inf s`, or `fin s m e`, the number
-- m * 2 ^ e, negative where s is true. The infinities are the least and the greatest value, the two zeros are equal, and nothing is below,
-- above or equal to a NaN: so a law that holds of numbers only has `not (is_nan x)` for a premise, and a comparison that holds says that both sides are numbers.
-- A finite x is the signed fraction (positive_part x - negative_part x) / den x. The laws of the order are those of cross products (`Cross`), so
-- later files turn a comparison of finite values into arithmetic of natural numbers, and back. Assumes nothing.
use Rattle.std.specs.Prelude.{◌≡◌, refl, ◌⊎◌, ℕ, zero, suc, ◌+◌, ◌*◌, ◌≤◌, ◌<◌, Bool, true, false, not, ◌&&◌, ◌||◌, T, ltb, eqb, Float}
use Rattle.std.proofs.Common.{sym, inl, inr, le_of_lt, le_of_eq, eq-or-lt_of_le, mul-le-mul_right, le_of_mul-le-mul_right, arith, eqb→eq, ltb→lt, lt→ltb, nltb→le, T_not}
use Rattle.std.proofs.Math.Dec.{not_T}
use Rattle.std.specs.Float.{nan, inf, fin}
use Rattle.std.specs.Float.Ieee.{up, down, neg, lt, eq, le, is_nan}
use Rattle.std.specs.Float.Ieee.Fits.{and_l, and_r, and_i, eq→eqb}
use Rattle.std.specs.Float.Ieee.Positive.{den, den_pos}
use Rattle.std.specs.Float.Ieee.Scale.{finite}

-- ---- a finite value as a signed fraction

-- the numerator of x, if x is not negative, and else 0
abbrev pub positive_part : Float → ℕ
positive_part nan = 0
positive_part (inf s) = 0
positive_part (fin true m e) = 0
positive_part (fin false m e) = m * up e

-- the numerator of -x, if x is negative, and else 0
abbrev pub negative_part : Float → ℕ
negative_part nan = 0
negative_part (inf s) = 0
negative_part (fin true m e) = m * up e
negative_part (fin false m e) = 0

-- x ≤ y, by the cross products of the two fractions
abbrev pub Cross : Float → Float → Type 0
Cross x y = positive_part x * den y + negative_part y * den x ≤ positive_part y * den x + negative_part x * den y

-- x < y, likewise
abbrev pub Cross< : Float → Float → Type 0
Cross< x y = positive_part x * den y + negative_part y * den x < positive_part y * den x + negative_part x * den y

-- ---- the tests that `le` makes of two magnitudes

or_split : (a b : Bool) → T (a || b) → T a ⊎ T b
or_split true b t = inl tt
or_split false b t = inr t

or_l : (a b : Bool) → T a → T (a || b)
or_l true b t = tt
or_l false b t = absurd t

or_r : (a b : Bool) → T b → T (a || b)
or_r true b t = tt
or_r false b t = t

-- at two values of like signs: a < b, or they are the same
le_of_test : (a b : ℕ) (same : Bool) → (T same → a ≡ b) → T (ltb a b || (same && true)) → a ≤ b
le_of_test a b same e t =
    elim (or_split (ltb a b) (same && true) t) [ inl u ↦ le_of_lt (ltb→lt a b u) | inr u ↦ le_of_eq (e (and_l same true u)) ]

test_of_le : (a b : ℕ) (same : Bool) → (a ≡ b → T same) → a ≤ b → T (ltb a b || (same && true))
test_of_le a b same e h =
    elim (eq-or-lt_of_le h) [ inl p ↦ or_r (ltb a b) (same && true) (and_i same true (e p) tt) | inr q ↦ or_l (ltb a b) (same && true) (lt→ltb a b q) ]

-- at two values of unlike signs: -a ≤ b
test_of_signs : (a b : ℕ) → T (ltb 0 (a + b) || (eqb a b && (false || eqb a 0)))
test_of_signs a b = go (a + b) refl
  where
    go : (k : ℕ) → a + b ≡ k → T (ltb 0 (a + b) || (eqb a b && (false || eqb a 0)))
    go zero e =
        let x : a ≡ b = omega arith in
        let y : a ≡ 0 = omega arith in
        or_r (ltb 0 (a + b)) (eqb a b && eqb a 0) (and_i (eqb a b) (eqb a 0) (eq→eqb x) (eq→eqb y))
    go (suc k) e = or_l (ltb 0 (a + b)) (eqb a b && eqb a 0) (lt→ltb 0 (a + b) (omega arith))

-- ---- the order of finite values is that of their cross products

pub le→cross : (x y : Float) → T (finite x) → T (finite y) → T (le x y) → Cross x y
unfolding le
le→cross nan y p q h = absurd p
le→cross (inf s) y p q h = absurd p
le→cross (fin s m e) nan p q h = absurd q
le→cross (fin s m e) (inf t) p q h = absurd q
le→cross (fin false m e) (fin false n d) p q h =
    let a = m * up e * down d in
    let b = n * up d * down e in
    let k = le_of_test a b (eqb a b) (eqb→eq a b) h in
    omega arith
le→cross (fin false m e) (fin true n d) p q h =
    let a = m * up e * down d in
    let b = n * up d * down e in
    let k = eqb→eq a b (and_l (eqb a b) (eqb a 0) h) in
    let l = eqb→eq a 0 (and_r (eqb a b) (eqb a 0) h) in
    omega arith
le→cross (fin true m e) (fin false n d) p q h = omega arith
le→cross (fin true m e) (fin true n d) p q h =
    let a = m * up e * down d in
    let b = n * up d * down e in
    let k = le_of_test b a (eqb a b) (λ (t : T (eqb a b)). sym (eqb→eq a b t)) h in
    omega arith

pub cross→le : (x y : Float) → T (finite x) → T (finite y) → Cross x y → T (le x y)
unfolding le
cross→le nan y p q h = absurd p
cross→le (inf s) y p q h = absurd p
cross→le (fin s m e) nan p q h = absurd q
cross→le (fin s m e) (inf t) p q h = absurd q
cross→le (fin false m e) (fin false n d) p q h =
    let a = m * up e * down d in
    let b = n * up d * down e in
    test_of_le a b (eqb a b) eq→eqb (omega arith)
cross→le (fin false m e) (fin true n d) p q h =
    let a = m * up e * down d in
    let b = n * up d * down e in
    and_i (eqb a b) (eqb a 0) (eq→eqb {a = a} {b = b} (omega arith)) (eq→eqb {a = a} {b = 0} (omega arith))
cross→le (fin true m e) (fin false n d) p q h = test_of_signs (m * up e * down d) (n * up d * down e)
cross→le (fin true m e) (fin true n d) p q h =
    let a = m * up e * down d in
    let b = n * up d * down e in
    test_of_le b a (eqb a b) (λ (x : b ≡ a). eq→eqb (sym x)) (omega arith)

pub lt→cross : (x y : Float) → T (finite x) → T (finite y) → T (lt x y) → Cross< x y
unfolding lt
lt→cross nan y p q h = absurd p
lt→cross (inf s) y p q h = absurd p
lt→cross (fin s m e) nan p q h = absurd q
lt→cross (fin s m e) (inf t) p q h = absurd q
lt→cross (fin false m e) (fin false n d) p q h = let k = ltb→lt (m * up e * down d) (n * up d * down e) h in omega arith
lt→cross (fin false m e) (fin true n d) p q h = absurd h
lt→cross (fin true m e) (fin false n d) p q h = let k = ltb→lt 0 (m * up e * down d + n * up d * down e) h in omega arith
lt→cross (fin true m e) (fin true n d) p q h = let k = ltb→lt (n * up d * down e) (m * up e * down d) h in omega arith

pub nlt→cross : (x y : Float) → T (finite x) → T (finite y) → T (not (lt x y)) → Cross y x
unfolding lt
nlt→cross nan y p q h = absurd p
nlt→cross (inf s) y p q h = absurd p
nlt→cross (fin s m e) nan p q h = absurd q
nlt→cross (fin s m e) (inf t) p q h = absurd q
nlt→cross (fin false m e) (fin false n d) p q h = let k = nltb→le (m * up e * down d) (n * up d * down e) h in omega arith
nlt→cross (fin false m e) (fin true n d) p q h = omega arith
nlt→cross (fin true m e) (fin false n d) p q h = let k = nltb→le 0 (m * up e * down d + n * up d * down e) h in omega arith
nlt→cross (fin true m e) (fin true n d) p q h = let k = nltb→le (n * up d * down e) (m * up e * down d) h in omega arith

-- of three signed fractions (a - a') / A, (b - b') / B and (c - c') / C
pub cross_trans : (a a' A b b' B c c' C : ℕ) → 0 < B → a * B + b' * A ≤ b * A + a' * B → b * C + c' * B ≤ c * B + b' * C
    → a * C + c' * A ≤ c * A + a' * C
cross_trans a a' A b b' B c c' C h k l = le_of_mul-le-mul_right {k = B} (omega (arith, mul-le-mul_right C k, mul-le-mul_right A l)) h

-- ---- the order of all values

not_le_nan : (x : Float) → T (le x nan) → ⊥
unfolding le
not_le_nan nan h = h
not_le_nan (inf s) h = h
not_le_nan (fin s m e) h = h

-- the least and the greatest value
pub bottom : (z : Float) → T (not (is_nan z)) → T (le (inf true) z)
unfolding le is_nan
bottom nan h = absurd h
bottom (inf true) h = tt
bottom (inf false) h = tt
bottom (fin s m e) h = tt

pub top : (z : Float) → T (not (is_nan z)) → T (le z (inf false))
unfolding le is_nan
top nan h = absurd h
top (inf true) h = tt
top (inf false) h = tt
top (fin s m e) h = tt

pub le_refl : (z : Float) → T (not (is_nan z)) → T (le z z)
unfolding le is_nan
le_refl nan h = absurd h
le_refl (inf true) h = tt
le_refl (inf false) h = tt
le_refl (fin s m e) h = cross→le (fin s m e) (fin s m e) tt tt (omega arith)

-- what is compared is a number
pub le_num_l : (x y : Float) → T (le x y) → T (not (is_nan x))
unfolding le is_nan
le_num_l nan y h = absurd h
le_num_l (inf s) y h = tt
le_num_l (fin s m e) y h = tt

pub le_num_r : (x y : Float) → T (le x y) → T (not (is_nan y))
unfolding is_nan
le_num_r x nan h = absurd (not_le_nan x h)
le_num_r x (inf s) h = tt
le_num_r x (fin s m e) h = tt

pub le_trans : (x y z : Float) → T (le x y) → T (le y z) → T (le x z)
unfolding le
le_trans nan y z h k = absurd h
le_trans (inf true) y z h k = bottom z (le_num_r y z k)
le_trans (inf false) nan z h k = absurd h
le_trans (inf false) (inf true) z h k = absurd h
le_trans (inf false) (inf false) z h k = k
le_trans (inf false) (fin t n d) z h k = absurd h
le_trans (fin s m e) nan z h k = absurd h
le_trans (fin s m e) (inf true) z h k = absurd h
le_trans (fin s m e) (inf false) nan h k = absurd k
le_trans (fin s m e) (inf false) (inf true) h k = absurd k
le_trans (fin s m e) (inf false) (inf false) h k = tt
le_trans (fin s m e) (inf false) (fin r k' g) h k = absurd k
le_trans (fin s m e) (fin t n d) nan h k = absurd k
le_trans (fin s m e) (fin t n d) (inf true) h k = absurd k
le_trans (fin s m e) (fin t n d) (inf false) h k = tt
le_trans (fin s m e) (fin t n d) (fin r o g) h k =
    let x = fin s m e in
    let y = fin t n d in
    let z = fin r o g in
    cross→le x z tt tt
    (cross_trans (positive_part x) (negative_part x) (den x) (positive_part y) (negative_part y) (den y) (positive_part z) (negative_part z) (den z) (den_pos y) (le→cross x y tt tt h) (le→cross y z tt tt k))

pub lt→not_le : (x y : Float) → T (lt x y) → T (le y x) → ⊥
unfolding lt le
lt→not_le nan y h k = h
lt→not_le (inf s) nan h k = h
lt→not_le (inf true) (inf true) h k = h
lt→not_le (inf true) (inf false) h k = k
lt→not_le (inf false) (inf t) h k = h
lt→not_le (inf true) (fin t n d) h k = k
lt→not_le (inf false) (fin t n d) h k = h
lt→not_le (fin s m e) nan h k = h
lt→not_le (fin s m e) (inf true) h k = h
lt→not_le (fin s m e) (inf false) h k = k
lt→not_le (fin s m e) (fin t n d) h k =
    let x = fin s m e in
    let y = fin t n d in
    let a = lt→cross x y tt tt h in
    let b = le→cross y x tt tt k in
    omega arith

pub nlt→le : (x y : Float) → T (not (is_nan x)) → T (not (is_nan y)) → T (not (lt x y)) → T (le y x)
unfolding lt le is_nan
nlt→le nan y p q h = absurd p
nlt→le (inf s) nan p q h = absurd q
nlt→le (inf true) (inf true) p q h = tt
nlt→le (inf true) (inf false) p q h = absurd h
nlt→le (inf false) (inf true) p q h = tt
nlt→le (inf false) (inf false) p q h = tt
nlt→le (inf true) (fin t n d) p q h = absurd h
nlt→le (inf false) (fin t n d) p q h = tt
nlt→le (fin s m e) nan p q h = absurd q
nlt→le (fin s m e) (inf true) p q h = tt
nlt→le (fin s m e) (inf false) p q h = absurd h
nlt→le (fin s m e) (fin t n d) p q h = cross→le (fin t n d) (fin s m e) tt tt (nlt→cross (fin s m e) (fin t n d) tt tt h)

pub lt→le : (x y : Float) → T (lt x y) → T (le x y)
unfolding le
lt→le x y h = or_l (lt x y) (eq x y) h

pub lt_num_l : (x y : Float) → T (lt x y) → T (not (is_nan x))
lt_num_l x y h = le_num_l x y (lt→le x y h)

pub lt_num_r : (x y : Float) → T (lt x y) → T (not (is_nan y))
lt_num_r x y h = le_num_r x y (lt→le x y h)

pub le→nlt : (x y : Float) → T (le y x) → T (not (lt x y))
le→nlt x y h = not_T (lt x y) (λ (k : T (lt x y)). lt→not_le x y k h)

pub nle→lt : (x y : Float) → T (not (is_nan x)) → T (not (is_nan y)) → T (not (le y x)) → T (lt x y)
nle→lt x y p q h = go (lt x y) (nlt→le x y p q)
  where
    go : (b : Bool) → (T (not b) → T (le y x)) → T b
    go true f = tt
    go false f = T_not (le y x) h (f tt)

pub lt_le_trans : (x y z : Float) → T (lt x y) → T (le y z) → T (lt x z)
lt_le_trans x y z h k =
    nle→lt x z (lt_num_l x y h) (le_num_r y z k) (not_T (le z x) (λ (l : T (le z x)). lt→not_le x y h (le_trans y z x k l)))

pub le_lt_trans : (x y z : Float) → T (le x y) → T (lt y z) → T (lt x z)
le_lt_trans x y z h k =
    nle→lt x z (le_num_l x y h) (lt_num_r y z k) (not_T (le z x) (λ (l : T (le z x)). lt→not_le y z k (le_trans z x y l h)))

-- ---- negation turns the order round

pub neg_le : (x y : Float) → T (le x y) → T (le (neg y) (neg x))
unfolding le neg
neg_le nan y h = absurd h
neg_le (inf true) nan h = absurd h
neg_le (inf true) (inf true) h = tt
neg_le (inf true) (inf false) h = tt
neg_le (inf true) (fin t n d) h = tt
neg_le (inf false) nan h = absurd h
neg_le (inf false) (inf true) h = absurd h
neg_le (inf false) (inf false) h = tt
neg_le (inf false) (fin t n d) h = absurd h
neg_le (fin s m e) nan h = absurd h
neg_le (fin s m e) (inf true) h = absurd h
neg_le (fin s m e) (inf false) h = tt
neg_le (fin s m e) (fin t n d) h = go s t (le→cross (fin s m e) (fin t n d) tt tt h)
  where
    go : (s t : Bool) → Cross (fin s m e) (fin t n d) → T (le (fin (not t) n d) (fin (not s) m e))
    go true true k = cross→le (fin false n d) (fin false m e) tt tt (omega arith)
    go true false k = cross→le (fin true n d) (fin false m e) tt tt (omega arith)
    go false true k = cross→le (fin false n d) (fin true m e) tt tt (omega arith)
    go false false k = cross→le (fin true n d) (fin true m e) tt tt (omega arith)
