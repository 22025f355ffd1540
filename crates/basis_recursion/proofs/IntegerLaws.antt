-- The laws of the integers' product that lib.IntN leaves out: each holds at 0 and is kept by one step up and one down.
use mathlib.Core.Path.{◌≡◌, sym, ap, ◌∙◌}
use Prim.Native.Nat.{zero, suc}
use lib.IntN.{ℤ, pos, negsuc, suc_ℤ, pred_ℤ, neg_ℤ, ◌+ℤ◌, ◌-ℤ◌, ◌*ℤ◌, +ℤ_idl, +ℤ_assoc, +ℤ_comm, suc_ℤ-+ℤ, pred_ℤ-+ℤ, suc_ℤ-*ℤ, pred_ℤ-*ℤ, zero-*ℤ, *ℤ_comm, neg_ℤ-+ℤ, neg_ℤ-suc_ℤ, neg_ℤ-pred_ℤ, neg_ℤ-neg_ℤ}

-- What holds at 0 and is kept by one step up and one down holds everywhere.
pub by_steps : (P : ℤ → Type 0) → P (pos zero) → ((m : ℤ) → P m → P (suc_ℤ m)) → ((m : ℤ) → P m → P (pred_ℤ m)) → (k : ℤ) → P k
by_steps P z s p (pos zero) = z
by_steps P z s p (pos (suc n)) = s (pos n) (by_steps P z s p (pos n))
by_steps P z s p (negsuc zero) = p (pos zero) z
by_steps P z s p (negsuc (suc n)) = p (negsuc n) (by_steps P z s p (negsuc n))

pub +ℤ_left : (a b c : ℤ) → a +ℤ (b +ℤ c) ≡ b +ℤ (a +ℤ c)
+ℤ_left a b c = sym (+ℤ_assoc a b c) ∙ ap (λ x. x +ℤ c) (+ℤ_comm a b) ∙ +ℤ_assoc b a c

-- The last two of three summands, exchanged.
swap : (x y z : ℤ) → (x +ℤ y) +ℤ z ≡ (x +ℤ z) +ℤ y
swap x y z = +ℤ_assoc x y z ∙ ap (λ w. x +ℤ w) (+ℤ_comm y z) ∙ sym (+ℤ_assoc x z y)

pub *ℤ_distribʳ : (a b c : ℤ) → (a +ℤ b) *ℤ c ≡ a *ℤ c +ℤ b *ℤ c
*ℤ_distribʳ a b c = by_steps (λ a. (a +ℤ b) *ℤ c ≡ a *ℤ c +ℤ b *ℤ c)
    (ap (λ x. x *ℤ c) (+ℤ_idl b) ∙ sym (+ℤ_idl (b *ℤ c)) ∙ ap (λ x. x +ℤ b *ℤ c) (sym (zero-*ℤ c)))
    (λ m h. ap (λ x. x *ℤ c) (suc_ℤ-+ℤ m b) ∙ suc_ℤ-*ℤ (m +ℤ b) c ∙ ap (λ x. x +ℤ c) h ∙ swap (m *ℤ c) (b *ℤ c) c ∙ ap (λ x. x +ℤ b *ℤ c) (sym (suc_ℤ-*ℤ m c)))
    (λ m h. ap (λ x. x *ℤ c) (pred_ℤ-+ℤ m b) ∙ pred_ℤ-*ℤ (m +ℤ b) c ∙ ap (λ x. x -ℤ c) h ∙ swap (m *ℤ c) (b *ℤ c) (neg_ℤ c) ∙ ap (λ x. x +ℤ b *ℤ c) (sym (pred_ℤ-*ℤ m c)))
    a

pub *ℤ_distribˡ : (a b c : ℤ) → a *ℤ (b +ℤ c) ≡ a *ℤ b +ℤ a *ℤ c
*ℤ_distribˡ a b c = *ℤ_comm a (b +ℤ c) ∙ *ℤ_distribʳ b c a ∙ ap (λ x. x +ℤ c *ℤ a) (*ℤ_comm b a) ∙ ap (λ x. a *ℤ b +ℤ x) (*ℤ_comm c a)

pub neg_*ℤ : (a c : ℤ) → neg_ℤ a *ℤ c ≡ neg_ℤ (a *ℤ c)
neg_*ℤ a c = by_steps (λ a. neg_ℤ a *ℤ c ≡ neg_ℤ (a *ℤ c))
    (zero-*ℤ c ∙ ap neg_ℤ (sym (zero-*ℤ c)))
    (λ m h. ap (λ x. x *ℤ c) (neg_ℤ-suc_ℤ m) ∙ pred_ℤ-*ℤ (neg_ℤ m) c ∙ ap (λ x. x -ℤ c) h ∙ sym (neg_ℤ-+ℤ (m *ℤ c) c) ∙ ap neg_ℤ (sym (suc_ℤ-*ℤ m c)))
    (λ m h. ap (λ x. x *ℤ c) (neg_ℤ-pred_ℤ m) ∙ suc_ℤ-*ℤ (neg_ℤ m) c ∙ ap (λ x. x +ℤ c) h ∙ ap (λ x. neg_ℤ (m *ℤ c) +ℤ x) (sym (neg_ℤ-neg_ℤ c)) ∙ sym (neg_ℤ-+ℤ (m *ℤ c) (neg_ℤ c)) ∙ ap neg_ℤ (sym (pred_ℤ-*ℤ m c)))
    a

pub *ℤ_assoc : (a b c : ℤ) → (a *ℤ b) *ℤ c ≡ a *ℤ (b *ℤ c)
*ℤ_assoc a b c = by_steps (λ a. (a *ℤ b) *ℤ c ≡ a *ℤ (b *ℤ c))
    (ap (λ x. x *ℤ c) (zero-*ℤ b) ∙ zero-*ℤ c ∙ sym (zero-*ℤ (b *ℤ c)))
    (λ m h. ap (λ x. x *ℤ c) (suc_ℤ-*ℤ m b) ∙ *ℤ_distribʳ (m *ℤ b) b c ∙ ap (λ x. x +ℤ b *ℤ c) h ∙ sym (suc_ℤ-*ℤ m (b *ℤ c)))
    (λ m h. ap (λ x. x *ℤ c) (pred_ℤ-*ℤ m b) ∙ *ℤ_distribʳ (m *ℤ b) (neg_ℤ b) c ∙ ap (λ x. x +ℤ neg_ℤ b *ℤ c) h ∙ ap (λ x. m *ℤ (b *ℤ c) +ℤ x) (neg_*ℤ b c) ∙ sym (pred_ℤ-*ℤ m (b *ℤ c)))
    a

pub *ℤ_left : (a b c : ℤ) → a *ℤ (b *ℤ c) ≡ b *ℤ (a *ℤ c)
*ℤ_left a b c = sym (*ℤ_assoc a b c) ∙ ap (λ x. x *ℤ c) (*ℤ_comm a b) ∙ *ℤ_assoc b a c

-- A sum of products, in one order.
pub ruleset ring = (*ℤ_distribʳ, *ℤ_distribˡ, *ℤ_assoc, *ℤ_comm, *ℤ_left, +ℤ_assoc, +ℤ_comm, +ℤ_left)
