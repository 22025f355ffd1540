-- The statements of Bits hold by the IEEE library's laws of `of_bits` and `to_bits`, and by computing at the one NaN. Assumes nothing.
use Rattle.std.specs.Prelude.{ℕ, ◌%◌, ◌≤◌, ◌<◌, ◌≡◌, refl, false, not, T, ltb, eqb}
use Rattle.std.proofs.Common.{subst, arith, eqb→eq, ltb→lt, lt→ltb}
use Rattle.std.proofs.Math.Dec.{not_T}
use Rattle.std.specs.Float.{nan, inf, binary64}
use Rattle.std.specs.Float.Ieee.{div, nan_bits, of_bits, of_fields, to_bits}
use Rattle.std.specs.Float.Ieee.Bits.{nan_bits_is, nan_bits_above, of_bits-to_bits}
use Rattle.std.specs.Float.Ieee.Fits.{and_i, eq→eqb}
use Rattle.float64.specs.Literals.{zero_literal, one_literal}
use Rattle.float64.specs.Nan.{is_nan_lem}
use Rattle.float64.specs.Bits.{sign_bit, infinity_bits, exponent_field, fraction_field, NanWritten, NanRead, ReadBack}

pub nan_written : NanWritten
unfolding to_bits
nan_written = refl

nan_bits_lem : (bits : ℕ) → T (nan_bits binary64 bits) → of_bits binary64 bits ≡ nan
nan_bits_lem bits h = is_nan_lem (of_bits binary64 bits) (subst T (nan_bits_is binary64 bits) h)

pub nan_read : NanRead
unfolding nan_bits
nan_read bits e h =
    let ones = eqb (exponent_field bits) 0x7ff in
    let some = not (eqb (fraction_field bits) 0) in
    nan_bits_lem bits (and_i ones some (eq→eqb e) (not_T (eqb (fraction_field bits) 0) (nonzero (fraction_field bits) h)))
  where
    nonzero : (n : ℕ) → 0 < n → T (eqb n 0) → ⊥
    nonzero n h t = let z = eqb→eq n 0 t in omega arith

pub read_back : ReadBack
read_back x h = of_bits-to_bits binary64 x h

-- ---- what code can test: without its sign a NaN's pattern is above the infinity's

pub above_infinity : (bits : ℕ) → infinity_bits < bits % sign_bit → of_bits binary64 bits ≡ nan
above_infinity bits h = nan_bits_lem bits (rw (nan_bits_above binary64 bits) (lt→ltb infinity_bits (bits % sign_bit) h))

pub up_to_infinity : (bits : ℕ) → bits % sign_bit ≤ infinity_bits → T (not (nan_bits binary64 bits))
up_to_infinity bits h = rw (nan_bits_above binary64 bits) (not_below infinity_bits (bits % sign_bit) h)
  where
    not_below : (a b : ℕ) → b ≤ a → T (not (ltb a b))
    not_below a b h = not_T (ltb a b) (λ (t : T (ltb a b)). let a<b = ltb→lt a b t in omega arith)

-- 0.0 / 0.0
pub zero_by_zero : div binary64 (of_bits binary64 0) (of_bits binary64 0) ≡ nan
unfolding div of_bits
zero_by_zero = refl

-- 1.0 / 0.0, as code writes the infinity
pub infinity : div binary64 one_literal zero_literal ≡ inf false
unfolding of_bits of_fields div
infinity = refl
