-- A field with a test of equality, an order, and 1 / 0 = 0: the laws from which formula and recursion are seen to be equal.
use mathlib.Core.Path.{◌≡◌, refl, sym, ap, ◌∙◌}
use mathlib.Core.Bool.{Bool, true, false, not, cond, ◌||◌}
use Rattle.basis.specs.Formula.{Arithmetic}
use Rattle.basis_recursion.specs.Recursion.{blend}

-- The order of an arithmetic.
pub record Order {F : Type 0} (arithmetic : Arithmetic F) : Type 0 where
  pub le_is : (x y : F) → arithmetic.le x y ≡ not (arithmetic.lt y x)
  pub lt_le : (x y z : F) → arithmetic.lt x y ≡ true → arithmetic.le y z ≡ true → arithmetic.lt x z ≡ true

-- Its sums, products and quotients. No law of differences is wanted.
pub record Field {F : Type 0} (arithmetic : Arithmetic F) : Type 0 where
  pub inverse : F → F
  pub zero_add : (x : F) → arithmetic.add arithmetic.zero x ≡ x
  pub add_comm : (x y : F) → arithmetic.add x y ≡ arithmetic.add y x
  pub add_assoc : (x y z : F) → arithmetic.add (arithmetic.add x y) z ≡ arithmetic.add x (arithmetic.add y z)
  pub mul_assoc : (x y z : F) → arithmetic.mul (arithmetic.mul x y) z ≡ arithmetic.mul x (arithmetic.mul y z)
  pub mul_comm : (x y : F) → arithmetic.mul x y ≡ arithmetic.mul y x
  pub one_mul : (x : F) → arithmetic.mul arithmetic.one x ≡ x
  pub zero_mul : (x : F) → arithmetic.mul arithmetic.zero x ≡ arithmetic.zero
  pub mul_add : (x y z : F) → arithmetic.mul x (arithmetic.add y z) ≡ arithmetic.add (arithmetic.mul x y) (arithmetic.mul x z)
  pub div_is : (x y : F) → arithmetic.div x y ≡ arithmetic.mul x (inverse y)
  pub mul_inverse : (x : F) → arithmetic.eq x arithmetic.zero ≡ false → arithmetic.mul x (inverse x) ≡ arithmetic.one
  pub inverse_zero : inverse arithmetic.zero ≡ arithmetic.zero
  pub eq_is : (x y : F) → arithmetic.eq x y ≡ true → x ≡ y
  pub eq_self : (x : F) → arithmetic.eq x x ≡ true

module _ {F : Type 0} (arithmetic : Arithmetic F) (field : Field arithmetic) where
  pub mul_left : (x y z : F) → arithmetic.mul x (arithmetic.mul y z) ≡ arithmetic.mul y (arithmetic.mul x z)
  mul_left x y z = sym (field.mul_assoc x y z) ∙ ap (λ w. arithmetic.mul w z) (field.mul_comm x y) ∙ field.mul_assoc y x z

  pub mul_zero : (x : F) → arithmetic.mul x arithmetic.zero ≡ arithmetic.zero
  mul_zero x = field.mul_comm x arithmetic.zero ∙ field.zero_mul x

  pub mul_one : (x : F) → arithmetic.mul x arithmetic.one ≡ x
  mul_one x = field.mul_comm x arithmetic.one ∙ field.one_mul x

  pub add_zero : (x : F) → arithmetic.add x arithmetic.zero ≡ x
  add_zero x = field.add_comm x arithmetic.zero ∙ field.zero_add x

  pub add_left : (x y z : F) → arithmetic.add x (arithmetic.add y z) ≡ arithmetic.add y (arithmetic.add x z)
  add_left x y z = sym (field.add_assoc x y z) ∙ ap (λ w. arithmetic.add w z) (field.add_comm x y) ∙ field.add_assoc y x z

  -- A factor that is not 0 can be taken away.
  cancel : (x y : F) → arithmetic.eq x arithmetic.zero ≡ false → arithmetic.mul x y ≡ arithmetic.zero → y ≡ arithmetic.zero
  cancel x y e h =
      sym (field.one_mul y) ∙ ap (λ w. arithmetic.mul w y) (sym (field.mul_inverse x e) ∙ field.mul_comm x (field.inverse x))
      ∙ field.mul_assoc (field.inverse x) x y ∙ ap (arithmetic.mul (field.inverse x)) h ∙ mul_zero (field.inverse x)

  -- A product is 0 where a factor is.
  pub eq_mul : (x y : F) → arithmetic.eq (arithmetic.mul x y) arithmetic.zero ≡ (arithmetic.eq x arithmetic.zero || arithmetic.eq y arithmetic.zero)
  eq_mul x y = go (arithmetic.eq x arithmetic.zero) (arithmetic.eq y arithmetic.zero) (arithmetic.eq (arithmetic.mul x y) arithmetic.zero) refl refl refl
    where
      go : (b c d : Bool) → arithmetic.eq x arithmetic.zero ≡ b → arithmetic.eq y arithmetic.zero ≡ c → arithmetic.eq (arithmetic.mul x y) arithmetic.zero ≡ d → d ≡ (b || c)
      go true c d e f g = sym g ∙ rw (field.eq_is x arithmetic.zero e, field.zero_mul y) (field.eq_self arithmetic.zero)
      go false true d e f g = sym g ∙ rw (field.eq_is y arithmetic.zero f, mul_zero x) (field.eq_self arithmetic.zero)
      go false false false e f g = refl
      go false false true e f g = sym (field.eq_self arithmetic.zero) ∙ ap (λ w. arithmetic.eq w arithmetic.zero) (sym (cancel x y e (field.eq_is (arithmetic.mul x y) arithmetic.zero g))) ∙ f

  regroup : (x y p q r : F) → arithmetic.mul r (arithmetic.mul (arithmetic.mul x p) (arithmetic.mul y q)) ≡ arithmetic.mul (arithmetic.mul (arithmetic.mul x y) r) (arithmetic.mul p q)
  regroup x y p q r = simp (field.mul_assoc, field.mul_comm, mul_left)

  -- The inverse of a product.
  pub inverse_mul : (x y : F) → field.inverse (arithmetic.mul x y) ≡ arithmetic.mul (field.inverse x) (field.inverse y)
  inverse_mul x y = go (arithmetic.eq x arithmetic.zero) (arithmetic.eq y arithmetic.zero) refl refl
    where
      go : (b c : Bool) → arithmetic.eq x arithmetic.zero ≡ b → arithmetic.eq y arithmetic.zero ≡ c → field.inverse (arithmetic.mul x y) ≡ arithmetic.mul (field.inverse x) (field.inverse y)
      go true c e f = rw (field.eq_is x arithmetic.zero e, field.zero_mul y, field.inverse_zero, field.zero_mul (field.inverse y))
      go false true e f = rw (field.eq_is y arithmetic.zero f, mul_zero x, field.inverse_zero, mul_zero (field.inverse x))
      go false false e f =
          sym (mul_one (field.inverse (arithmetic.mul x y)))
          ∙ ap (arithmetic.mul (field.inverse (arithmetic.mul x y))) (sym (ap (λ w. arithmetic.mul w (arithmetic.mul y (field.inverse y))) (field.mul_inverse x e) ∙ field.one_mul (arithmetic.mul y (field.inverse y)) ∙ field.mul_inverse y f))
          ∙ regroup x y (field.inverse x) (field.inverse y) (field.inverse (arithmetic.mul x y))
          ∙ ap (λ w. arithmetic.mul w (arithmetic.mul (field.inverse x) (field.inverse y))) (field.mul_inverse (arithmetic.mul x y) (eq_mul x y ∙ rw (e, f)))
          ∙ field.one_mul (arithmetic.mul (field.inverse x) (field.inverse y))

  -- A term with a zero denominator needs no test where 1 / 0 is 0.
  pub blend_is : (numerator denominator value : F) → blend arithmetic numerator denominator value ≡ arithmetic.mul numerator (arithmetic.mul (field.inverse denominator) value)
  unfolding blend
  blend_is n d v = go (arithmetic.eq d arithmetic.zero) refl
    where
      go : (b : Bool) → arithmetic.eq d arithmetic.zero ≡ b → cond b arithmetic.zero (arithmetic.mul (arithmetic.div n d) v) ≡ arithmetic.mul n (arithmetic.mul (field.inverse d) v)
      go true e = sym (rw (field.eq_is d arithmetic.zero e, field.inverse_zero, field.zero_mul v, mul_zero n))
      go false e = rw (field.div_is, field.mul_assoc)
