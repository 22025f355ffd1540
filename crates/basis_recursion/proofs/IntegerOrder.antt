-- A comparison or an equation of integers is kept by a positive factor, since one of natural numbers is.
use mathlib.Core.Path.{◌≡◌, refl, sym, ap, ◌∙◌, subst}
use mathlib.Core.Bool.{Bool, true, false, not}
use Prim.Native.Nat.{ℕ, zero, suc, ◌*◌, ◌<◌, ◌≤◌}
use native.Mathlib.Nat.{mul-pos, zero-lt-suc, eq_of_mul-eq-mul_right, mul-lt-mul_of_pos_right, lt_of_mul-lt-mul_right, lt_irrefl}
use native.Mathlib.Omega.{arith}
use lib.Dec.{T, not_T, leb, ltb, leb→le, le→leb, ltb→lt, lt→ltb, nltb→le}
use lib.IntN.{ℤ, pos, negsuc, neg_ℤ, nat_abs, ◌*ℤ◌, pos-ne-negsuc}
use lib.Signed.{lt_z, le_z}

-- Two tests that imply one another are the same.
pub bool_ext : (a b : Bool) → (T a → T b) → (T b → T a) → a ≡ b
bool_ext true true f g = refl
bool_ext true false f g = absurd (f tt)
bool_ext false true f g = absurd (g tt)
bool_ext false false f g = refl

pub is_T : {b : Bool} → b ≡ true → T b
is_T e = subst T (sym e) tt

-- The negative numbers, as negations.
pub neg_suc : (n : ℕ) → 0 < n → (k : ℕ) × (neg_ℤ (pos n) ≡ negsuc k) × (n ≡ suc k)
neg_suc zero h = absurd (lt_irrefl zero h)
neg_suc (suc k) h = (k, refl, refl)

scale_ltb : (m n k : ℕ) → 0 < k → ltb (m * k) (n * k) ≡ ltb m n
scale_ltb m n k h = bool_ext (ltb (m * k) (n * k)) (ltb m n)
    (λ t. lt→ltb m n (lt_of_mul-lt-mul_right k (ltb→lt (m * k) (n * k) t)))
    (λ t. lt→ltb (m * k) (n * k) (mul-lt-mul_of_pos_right (ltb→lt m n t) h))

pub ltb_suc : (m n : ℕ) → ltb (suc m) (suc n) ≡ ltb m n
ltb_suc m n = bool_ext (ltb (suc m) (suc n)) (ltb m n)
    (λ t. lt→ltb m n (down (ltb→lt (suc m) (suc n) t))) (λ t. lt→ltb (suc m) (suc n) (up (ltb→lt m n t)))
  where
    down : suc m < suc n → m < n
    down h = omega arith

    up : m < n → suc m < suc n
    up h = omega arith

-- A comparison is kept by a positive factor.
pub scale_lt_z : (x y : ℤ) (k : ℕ) → 0 < k → lt_z (x *ℤ pos k) (y *ℤ pos k) ≡ lt_z x y
scale_lt_z (pos m) (pos n) k h = scale_ltb m n k h
scale_lt_z (pos m) (negsuc n) k h =
    let e = neg_suc (suc n * k) (mul-pos (zero-lt-suc n) h) in ap (λ z. lt_z (pos (m * k)) z) e.1
scale_lt_z (negsuc m) (pos n) k h =
    let e = neg_suc (suc m * k) (mul-pos (zero-lt-suc m) h) in ap (λ z. lt_z z (pos (n * k))) e.1
scale_lt_z (negsuc m) (negsuc n) k h =
    let e = neg_suc (suc m * k) (mul-pos (zero-lt-suc m) h) in
    let f = neg_suc (suc n * k) (mul-pos (zero-lt-suc n) h) in
    ap (λ z. lt_z z (neg_ℤ (pos (suc n * k)))) e.1 ∙ ap (λ z. lt_z (negsuc e.0) z) f.1
    ∙ sym (ltb_suc f.0 e.0) ∙ ap (λ (z : ℕ). ltb z (suc e.0)) (sym f.2) ∙ ap (λ (z : ℕ). ltb (suc n * k) z) (sym e.2)
    ∙ scale_ltb (suc n) (suc m) k h ∙ ltb_suc n m

leb_not : (m n : ℕ) → leb m n ≡ not (ltb n m)
leb_not m n = bool_ext (leb m n) (not (ltb n m))
    (λ t. not_T (ltb n m) (λ s. clash (leb→le m n t) (ltb→lt n m s))) (λ t. le→leb m n (nltb→le n m t))
  where
    clash : m ≤ n → n < m → ⊥
    clash h k = omega arith

pub le_z_not : (x y : ℤ) → le_z x y ≡ not (lt_z y x)
le_z_not (pos m) (pos n) = leb_not m n
le_z_not (pos m) (negsuc n) = refl
le_z_not (negsuc m) (pos n) = refl
le_z_not (negsuc m) (negsuc n) = leb_not n m

pub scale_le_z : (x y : ℤ) (k : ℕ) → 0 < k → le_z (x *ℤ pos k) (y *ℤ pos k) ≡ le_z x y
scale_le_z x y k h = le_z_not (x *ℤ pos k) (y *ℤ pos k) ∙ ap not (scale_lt_z y x k h) ∙ sym (le_z_not x y)

-- A positive factor can be taken away.
pub cancel : (x y : ℤ) (k : ℕ) → 0 < k → x *ℤ pos k ≡ y *ℤ pos k → x ≡ y
cancel (pos m) (pos n) k h e = ap pos (eq_of_mul-eq-mul_right k h m n (ap nat_abs e))
cancel (pos m) (negsuc n) k h e = let f = neg_suc (suc n * k) (mul-pos (zero-lt-suc n) h) in absurd (pos-ne-negsuc (m * k) f.0 (e ∙ f.1))
cancel (negsuc m) (pos n) k h e = let f = neg_suc (suc m * k) (mul-pos (zero-lt-suc m) h) in absurd (pos-ne-negsuc (n * k) f.0 (sym e ∙ f.1))
cancel (negsuc m) (negsuc n) k h e =
    let f = neg_suc (suc m * k) (mul-pos (zero-lt-suc m) h) in
    let g = neg_suc (suc n * k) (mul-pos (zero-lt-suc n) h) in
    ap negsuc (suc_inj (eq_of_mul-eq-mul_right k h (suc m) (suc n) (f.2 ∙ ap suc (ap under (sym f.1 ∙ e ∙ g.1)) ∙ sym g.2)))
  where
    under : ℤ → ℕ
    under (pos n) = n
    under (negsuc n) = n

    suc_inj : {a b : ℕ} → suc a ≡ suc b → a ≡ b
    suc_inj e = omega arith
