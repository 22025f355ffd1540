-- The laws of fractions, up to being the same number: each is an identity of integers.
use mathlib.Core.Path.{◌≡◌, refl, sym, ap, ap₂, ◌∙◌, subst}
use mathlib.Core.Bool.{Bool, true, false, not}
use Prim.Native.Nat.{ℕ, zero, suc, ◌*◌, ◌<◌}
use native.Mathlib.Nat.{mul-pos, zero-lt-suc}
use native.Mathlib.Omega.{arith}
use lib.Dec.{T, eqb→eq, eqb_refl}
use lib.Ieee.Bits.{is_true}
use lib.IntN.{ℤ, pos, negsuc, neg_ℤ, nat_abs, ◌+ℤ◌, ◌-ℤ◌, ◌*ℤ◌, zero-*ℤ, +ℤ_idl, -ℤ-+ℤ_cancel, *ℤ_comm, one, *ℤ-one, neg_ℤ-neg_ℤ, pos-ne-negsuc}
use lib.Signed.{lt_z, le_z, lt_z_yes, le_z_yes, <ℤ-≤ℤ_trans, <ℤ_irrefl}
use Rattle.basis_recursion.proofs.IntegerLaws.{ring, neg_*ℤ}
use Rattle.basis_recursion.proofs.IntegerOrder.{bool_ext, is_T, neg_suc, scale_lt_z, scale_le_z, le_z_not, cancel}
use Rattle.basis_recursion.specs.Fraction.{Fraction, bottom, ◌≈◌, whole, plus, minus, times, turned, over, eq_z, fraction_arithmetic}

-- ---- `◌≈◌` is an equivalence

pub ≈_refl : (x : Fraction) → x ≈ x
≈_refl x = refl

pub ≈_sym : (x y : Fraction) → x ≈ y → y ≈ x
≈_sym x y h = sym h

chain : (a b c d e f : ℤ) → a *ℤ d ≡ c *ℤ b → c *ℤ f ≡ e *ℤ d → (a *ℤ f) *ℤ d ≡ (e *ℤ b) *ℤ d
chain a b c d e f h k = l a d f ∙ ap (λ z. z *ℤ f) h ∙ m c b f ∙ ap (λ z. z *ℤ b) k ∙ sym (l e d b)
  where
    l : (a d f : ℤ) → (a *ℤ f) *ℤ d ≡ (a *ℤ d) *ℤ f
    l a d f = simp ring

    m : (c b f : ℤ) → (c *ℤ b) *ℤ f ≡ (c *ℤ f) *ℤ b
    m c b f = simp ring

pub ≈_trans : (x y z : Fraction) → x ≈ y → y ≈ z → x ≈ z
≈_trans x y z h k = cancel (x.numerator *ℤ bottom z) (z.numerator *ℤ bottom x) y.denominator y.positive (chain x.numerator (bottom x) y.numerator (bottom y) z.numerator (bottom z) h k)

-- ---- the operations respect it

plus_ring : (a b c d a' b' c' d' : ℤ) → a *ℤ b' ≡ a' *ℤ b → c *ℤ d' ≡ c' *ℤ d
    → (a *ℤ d +ℤ c *ℤ b) *ℤ (b' *ℤ d') ≡ (a' *ℤ d' +ℤ c' *ℤ b') *ℤ (b *ℤ d)
plus_ring a b c d a' b' c' d' h k =
    l a b c d b' d' ∙ ap₂ (λ (x y : ℤ). x *ℤ (d *ℤ d') +ℤ y *ℤ (b *ℤ b')) h k ∙ r b d a' b' c' d'
  where
    l : (a b c d b' d' : ℤ) → (a *ℤ d +ℤ c *ℤ b) *ℤ (b' *ℤ d') ≡ (a *ℤ b') *ℤ (d *ℤ d') +ℤ (c *ℤ d') *ℤ (b *ℤ b')
    l a b c d b' d' = simp ring

    r : (b d a' b' c' d' : ℤ) → (a' *ℤ b) *ℤ (d *ℤ d') +ℤ (c' *ℤ d) *ℤ (b *ℤ b') ≡ (a' *ℤ d' +ℤ c' *ℤ b') *ℤ (b *ℤ d)
    r b d a' b' c' d' = simp ring

pub plus_≈ : (x y x' y' : Fraction) → x ≈ x' → y ≈ y' → plus x y ≈ plus x' y'
unfolding plus
plus_≈ x y x' y' h k = plus_ring x.numerator (bottom x) y.numerator (bottom y) x'.numerator (bottom x') y'.numerator (bottom y') h k

pub minus_≈ : (x y x' y' : Fraction) → x ≈ x' → y ≈ y' → minus x y ≈ minus x' y'
unfolding minus
minus_≈ x y x' y' h k =
    ap (λ z. (x.numerator *ℤ bottom y +ℤ z) *ℤ (bottom x' *ℤ bottom y')) (sym (neg_*ℤ y.numerator (bottom x)))
    ∙ plus_ring x.numerator (bottom x) (neg_ℤ y.numerator) (bottom y) x'.numerator (bottom x') (neg_ℤ y'.numerator) (bottom y') h (neg_*ℤ y.numerator (bottom y') ∙ ap neg_ℤ k ∙ sym (neg_*ℤ y'.numerator (bottom y)))
    ∙ ap (λ z. (x'.numerator *ℤ bottom y' +ℤ z) *ℤ (bottom x *ℤ bottom y)) (neg_*ℤ y'.numerator (bottom x'))

times_ring : (a b c d : ℤ) → (a *ℤ b) *ℤ (c *ℤ d) ≡ (a *ℤ c) *ℤ (b *ℤ d)
times_ring a b c d = simp ring

pub times_≈ : (x y x' y' : Fraction) → x ≈ x' → y ≈ y' → times x y ≈ times x' y'
unfolding times
times_≈ x y x' y' h k =
    times_ring x.numerator y.numerator (bottom x') (bottom y') ∙ ap₂ (λ (u v : ℤ). u *ℤ v) h k ∙ sym (times_ring x'.numerator y'.numerator (bottom x) (bottom y))

neg_inj : (m n : ℕ) → neg_ℤ (pos m) ≡ neg_ℤ (pos n) → m ≡ n
neg_inj m n e = ap nat_abs (sym (neg_ℤ-neg_ℤ (pos m)) ∙ ap neg_ℤ e ∙ neg_ℤ-neg_ℤ (pos n))

no_pos_neg : {X : Type 0} (m n : ℕ) → 0 < n → pos m ≡ neg_ℤ (pos n) → X
no_pos_neg m n h e = let f = neg_suc n h in absurd (pos-ne-negsuc m f.0 (e ∙ f.1))

pub turned_≈ : (a c : ℤ) (b d : ℕ) → 0 < b → 0 < d → a *ℤ pos d ≡ c *ℤ pos b → turned a b ≈ turned c d
unfolding turned
turned_≈ (pos zero) (pos zero) b d hb hd e = refl
turned_≈ (pos zero) (pos (suc n)) b d hb hd e = absurd (bad (ap nat_abs e) (mul-pos (zero-lt-suc n) hb))
  where
    bad : zero * d ≡ suc n * b → 0 < suc n * b → ⊥
    bad p q = omega arith
turned_≈ (pos zero) (negsuc n) b d hb hd e = no_pos_neg (zero * d) (suc n * b) (mul-pos (zero-lt-suc n) hb) e
turned_≈ (pos (suc m)) (pos zero) b d hb hd e = absurd (bad (ap nat_abs e) (mul-pos (zero-lt-suc m) hd))
  where
    bad : suc m * d ≡ zero * b → 0 < suc m * d → ⊥
    bad p q = omega arith
turned_≈ (pos (suc m)) (pos (suc n)) b d hb hd e = ap pos (go (ap nat_abs e))
  where
    go : suc m * d ≡ suc n * b → b * suc n ≡ d * suc m
    go p = omega arith
turned_≈ (pos (suc m)) (negsuc n) b d hb hd e = no_pos_neg (suc m * d) (suc n * b) (mul-pos (zero-lt-suc n) hb) e
turned_≈ (negsuc m) (pos zero) b d hb hd e = no_pos_neg (zero * b) (suc m * d) (mul-pos (zero-lt-suc m) hd) (sym e)
turned_≈ (negsuc m) (pos (suc n)) b d hb hd e = no_pos_neg (suc n * b) (suc m * d) (mul-pos (zero-lt-suc m) hd) (sym e)
turned_≈ (negsuc m) (negsuc n) b d hb hd e =
    neg_*ℤ (pos b) (pos (suc n)) ∙ ap (λ (k : ℕ). neg_ℤ (pos k)) (go (neg_inj (suc m * d) (suc n * b) e)) ∙ sym (neg_*ℤ (pos d) (pos (suc m)))
  where
    go : suc m * d ≡ suc n * b → b * suc n ≡ d * suc m
    go p = omega arith

pub over_≈ : (x y x' y' : Fraction) → x ≈ x' → y ≈ y' → over x y ≈ over x' y'
unfolding over
over_≈ x y x' y' h k = times_≈ x (turned y.numerator y.denominator) x' (turned y'.numerator y'.denominator) h (turned_≈ y.numerator y'.numerator y.denominator y'.denominator y.positive y'.positive k)

-- ---- the tests respect it

exchange : (a d b : ℤ) → (a *ℤ d) *ℤ b ≡ (a *ℤ b) *ℤ d
exchange a d b = simp ring

lt_left : (x x' y : Fraction) → x ≈ x' → fraction_arithmetic.lt x y ≡ fraction_arithmetic.lt x' y
lt_left x x' y h =
    sym (scale_lt_z (x.numerator *ℤ bottom y) (y.numerator *ℤ bottom x) x'.denominator x'.positive)
    ∙ ap₂ (λ (u v : ℤ). lt_z u v) (exchange x.numerator (bottom y) (bottom x') ∙ ap (λ z. z *ℤ bottom y) h ∙ exchange x'.numerator (bottom x) (bottom y)) (exchange y.numerator (bottom x) (bottom x'))
    ∙ scale_lt_z (x'.numerator *ℤ bottom y) (y.numerator *ℤ bottom x') x.denominator x.positive

lt_right : (x y y' : Fraction) → y ≈ y' → fraction_arithmetic.lt x y ≡ fraction_arithmetic.lt x y'
lt_right x y y' h =
    sym (scale_lt_z (x.numerator *ℤ bottom y) (y.numerator *ℤ bottom x) y'.denominator y'.positive)
    ∙ ap₂ (λ (u v : ℤ). lt_z u v) (exchange x.numerator (bottom y) (bottom y')) (exchange y.numerator (bottom x) (bottom y') ∙ ap (λ z. z *ℤ bottom x) h ∙ exchange y'.numerator (bottom y) (bottom x))
    ∙ scale_lt_z (x.numerator *ℤ bottom y') (y'.numerator *ℤ bottom x) y.denominator y.positive

pub lt_≈ : (x y x' y' : Fraction) → x ≈ x' → y ≈ y' → fraction_arithmetic.lt x y ≡ fraction_arithmetic.lt x' y'
lt_≈ x y x' y' h k = lt_left x x' y h ∙ lt_right x' y y' k

pub le_not : (x y : Fraction) → fraction_arithmetic.le x y ≡ not (fraction_arithmetic.lt y x)
le_not x y = le_z_not (x.numerator *ℤ bottom y) (y.numerator *ℤ bottom x)

pub le_≈ : (x y x' y' : Fraction) → x ≈ x' → y ≈ y' → fraction_arithmetic.le x y ≡ fraction_arithmetic.le x' y'
le_≈ x y x' y' h k = le_not x y ∙ ap not (lt_≈ y x y' x' k h) ∙ sym (le_not x' y')

eq_z→eq : (a b : ℤ) → T (eq_z a b) → a ≡ b
eq_z→eq (pos a) (pos b) t = ap pos (eqb→eq a b t)
eq_z→eq (pos a) (negsuc b) t = absurd t
eq_z→eq (negsuc a) (pos b) t = absurd t
eq_z→eq (negsuc a) (negsuc b) t = ap negsuc (eqb→eq a b t)

eq_z_self : (a : ℤ) → T (eq_z a a)
eq_z_self (pos a) = eqb_refl a
eq_z_self (negsuc a) = eqb_refl a

eq→eq_z : (a b : ℤ) → a ≡ b → T (eq_z a b)
eq→eq_z a b e = subst (λ z. T (eq_z a z)) e (eq_z_self a)

pub eq_≈ : (x y x' y' : Fraction) → x ≈ x' → y ≈ y' → fraction_arithmetic.eq x y ≡ fraction_arithmetic.eq x' y'
eq_≈ x y x' y' h k = bool_ext (fraction_arithmetic.eq x y) (fraction_arithmetic.eq x' y')
    (λ t. eq→eq_z (x'.numerator *ℤ bottom y') (y'.numerator *ℤ bottom x') (≈_trans x' x y' (≈_sym x x' h) (≈_trans x y y' (eq_z→eq (x.numerator *ℤ bottom y) (y.numerator *ℤ bottom x) t) k)))
    (λ t. eq→eq_z (x.numerator *ℤ bottom y) (y.numerator *ℤ bottom x) (≈_trans x x' y h (≈_trans x' y' y (eq_z→eq (x'.numerator *ℤ bottom y') (y'.numerator *ℤ bottom x') t) (≈_sym y y' k))))

pub eq→≈ : (x y : Fraction) → fraction_arithmetic.eq x y ≡ true → x ≈ y
eq→≈ x y e = eq_z→eq (x.numerator *ℤ bottom y) (y.numerator *ℤ bottom x) (is_T e)

pub ≈→eq : (x y : Fraction) → x ≈ y → fraction_arithmetic.eq x y ≡ true
≈→eq x y h = is_true (fraction_arithmetic.eq x y) (eq→eq_z (x.numerator *ℤ bottom y) (y.numerator *ℤ bottom x) h)

-- ---- the laws

pub zero_plus : (x : Fraction) → plus (whole (pos 0)) x ≈ x
unfolding plus
zero_plus x = go x.numerator (bottom x)
  where
    go : (a b : ℤ) → (pos 0 *ℤ b +ℤ a *ℤ pos 1) *ℤ b ≡ a *ℤ (pos 1 *ℤ b)
    go a b = ap (λ z. (z +ℤ a *ℤ pos 1) *ℤ b) (zero-*ℤ b) ∙ ap (λ z. z *ℤ b) (+ℤ_idl (a *ℤ pos 1)) ∙ assoc a (pos 1) b
      where
        assoc : (a o b : ℤ) → (a *ℤ o) *ℤ b ≡ a *ℤ (o *ℤ b)
        assoc a o b = simp ring

pub plus_comm : (x y : Fraction) → plus x y ≈ plus y x
unfolding plus
plus_comm x y = go x.numerator (bottom x) y.numerator (bottom y)
  where
    go : (a b c d : ℤ) → (a *ℤ d +ℤ c *ℤ b) *ℤ (d *ℤ b) ≡ (c *ℤ b +ℤ a *ℤ d) *ℤ (b *ℤ d)
    go a b c d = simp ring

pub plus_assoc : (x y z : Fraction) → plus (plus x y) z ≈ plus x (plus y z)
unfolding plus
plus_assoc x y z = go x.numerator (bottom x) y.numerator (bottom y) z.numerator (bottom z)
  where
    go : (a b c d e f : ℤ) → ((a *ℤ d +ℤ c *ℤ b) *ℤ f +ℤ e *ℤ (b *ℤ d)) *ℤ (b *ℤ (d *ℤ f)) ≡ (a *ℤ (d *ℤ f) +ℤ (c *ℤ f +ℤ e *ℤ d) *ℤ b) *ℤ ((b *ℤ d) *ℤ f)
    go a b c d e f = simp ring

pub times_assoc : (x y z : Fraction) → times (times x y) z ≈ times x (times y z)
unfolding times
times_assoc x y z = go x.numerator (bottom x) y.numerator (bottom y) z.numerator (bottom z)
  where
    go : (a b c d e f : ℤ) → ((a *ℤ c) *ℤ e) *ℤ (b *ℤ (d *ℤ f)) ≡ (a *ℤ (c *ℤ e)) *ℤ ((b *ℤ d) *ℤ f)
    go a b c d e f = simp ring

pub times_comm : (x y : Fraction) → times x y ≈ times y x
unfolding times
times_comm x y = go x.numerator (bottom x) y.numerator (bottom y)
  where
    go : (a b c d : ℤ) → (a *ℤ c) *ℤ (d *ℤ b) ≡ (c *ℤ a) *ℤ (b *ℤ d)
    go a b c d = simp ring

pub one_times : (x : Fraction) → times (whole (pos 1)) x ≈ x
unfolding times
one_times x = go (pos 1) x.numerator (bottom x)
  where
    go : (o a b : ℤ) → (o *ℤ a) *ℤ b ≡ a *ℤ (o *ℤ b)
    go o a b = simp ring

pub zero_times : (x : Fraction) → times (whole (pos 0)) x ≈ whole (pos 0)
unfolding times
zero_times x = ap (λ z. z *ℤ pos 1) (zero-*ℤ x.numerator) ∙ sym (zero-*ℤ (pos 1 *ℤ bottom x))

pub times_plus : (x y z : Fraction) → times x (plus y z) ≈ plus (times x y) (times x z)
unfolding times plus
times_plus x y z = go x.numerator (bottom x) y.numerator (bottom y) z.numerator (bottom z)
  where
    go : (a b c d e f : ℤ) → (a *ℤ (c *ℤ f +ℤ e *ℤ d)) *ℤ ((b *ℤ d) *ℤ (b *ℤ f)) ≡ ((a *ℤ c) *ℤ (b *ℤ f) +ℤ (a *ℤ e) *ℤ (b *ℤ d)) *ℤ (b *ℤ (d *ℤ f))
    go a b c d e f = simp ring

times_reciprocal : (n : ℤ) (d : ℕ) (h : 0 < d) → (n ≡ pos 0 → ⊥) → times (record { numerator = n; denominator = d; positive = h }) (turned n d) ≈ whole (pos 1)
unfolding times turned
times_reciprocal (pos zero) d h ne = absurd (ne refl)
times_reciprocal (pos (suc n)) d h ne = ap pos go
  where
    go : suc n * d * 1 ≡ 1 * (d * suc n)
    go = omega arith
times_reciprocal (negsuc n) d h ne =
    ap (λ z. z *ℤ pos 1) (*ℤ_comm (negsuc n) (neg_ℤ (pos d)) ∙ neg_*ℤ (pos d) (negsuc n) ∙ neg_ℤ-neg_ℤ (pos (d * suc n))) ∙ ap pos go
  where
    go : d * suc n * 1 ≡ 1 * (d * suc n)
    go = omega arith

pub times_turned : (x : Fraction) → fraction_arithmetic.eq x (whole (pos 0)) ≡ false → times x (turned x.numerator x.denominator) ≈ whole (pos 1)
times_turned x e = times_reciprocal x.numerator x.denominator x.positive
    (λ p. absurd (differ (sym (≈→eq x (whole (pos 0)) (ap (λ z. z *ℤ pos 1) p ∙ sym (zero-*ℤ (bottom x)))) ∙ e)))
  where
    differ : true ≡ false → ⊥
    differ q = is_T (sym q)

pub lt_le_lt : (x y z : Fraction) → fraction_arithmetic.lt x y ≡ true → fraction_arithmetic.le y z ≡ true → fraction_arithmetic.lt x z ≡ true
lt_le_lt x y z h k =
    sym (scale_lt_z (x.numerator *ℤ bottom z) (z.numerator *ℤ bottom x) y.denominator y.positive)
    ∙ is_true (lt_z ((x.numerator *ℤ bottom z) *ℤ bottom y) ((z.numerator *ℤ bottom x) *ℤ bottom y))
    (<ℤ-≤ℤ_trans {a = (x.numerator *ℤ bottom z) *ℤ bottom y} {b = (y.numerator *ℤ bottom x) *ℤ bottom z} {c = (z.numerator *ℤ bottom x) *ℤ bottom y}
    (lt_z_yes (subst (λ w. T (lt_z w ((y.numerator *ℤ bottom x) *ℤ bottom z))) (exchange x.numerator (bottom y) (bottom z)) (is_T (scale_lt_z (x.numerator *ℤ bottom y) (y.numerator *ℤ bottom x) z.denominator z.positive ∙ h))))
    (le_z_yes (subst (λ w. T (le_z w ((z.numerator *ℤ bottom x) *ℤ bottom y))) (exchange y.numerator (bottom z) (bottom x))
    (subst (λ w. T (le_z ((y.numerator *ℤ bottom z) *ℤ bottom x) w)) (exchange z.numerator (bottom y) (bottom x)) (is_T (scale_le_z (y.numerator *ℤ bottom z) (z.numerator *ℤ bottom y) x.denominator x.positive ∙ k)))))).lt

pub lt_self : (x : Fraction) → fraction_arithmetic.lt x x ≡ false
lt_self x = bool_ext (fraction_arithmetic.lt x x) false (λ t. <ℤ_irrefl {a = x.numerator *ℤ bottom x} (lt_z_yes t)) (λ t. absurd t)

-- What has a difference of zero is the same number.
minus_zero_lem : (x y : Fraction) → fraction_arithmetic.eq (minus x y) (whole (pos 0)) ≡ true → x ≈ y
unfolding minus one
minus_zero_lem x y e = go (x.numerator *ℤ bottom y) (y.numerator *ℤ bottom x) (bottom x *ℤ bottom y) (eq→≈ (minus x y) (whole (pos 0)) e)
  where
    go : (a b c : ℤ) → (a -ℤ b) *ℤ pos 1 ≡ pos 0 *ℤ c → a ≡ b
    go a b c e = sym (-ℤ-+ℤ_cancel a b) ∙ ap (λ z. z +ℤ b) (sym (*ℤ-one (a -ℤ b)) ∙ e ∙ zero-*ℤ c) ∙ +ℤ_idl b

pub lt_minus : (x y : Fraction) → fraction_arithmetic.lt x y ≡ true → fraction_arithmetic.eq (minus y x) (whole (pos 0)) ≡ false
lt_minus x y h = go (fraction_arithmetic.eq (minus y x) (whole (pos 0))) refl
  where
    go : (b : Bool) → fraction_arithmetic.eq (minus y x) (whole (pos 0)) ≡ b → b ≡ false
    go false e = refl
    go true e = sym h ∙ lt_≈ x y x x refl (minus_zero_lem y x e) ∙ lt_self x
