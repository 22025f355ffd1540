-- The arithmetic of IEEE binary64, which is Rust's f64: each operation rounds once, to nearest, ties to even.
use Rattle.std.specs.Prelude.{List, ℕ, get_or, Float}
use Rattle.std.specs.Float.{nan, binary64}
use Rattle.std.specs.Float.Ieee as Ieee
use Rattle.float64.specs.Sign.{0f, 1f}
use Rattle.basis.specs.Formula.{Arithmetic}

-- The operations of f64, with +0.0 and 1.0.
abbrev pub binary64_arithmetic : Arithmetic Float
binary64_arithmetic = record {
  zero = 0f;
  one = 1f;
  add = Ieee.add binary64;
  sub = Ieee.sub binary64;
  mul = Ieee.mul binary64;
  div = Ieee.div binary64;
  lt = Ieee.lt;
  le = Ieee.le;
  eq = Ieee.eq;
}

-- The knots of an array of five, by index.
abbrev pub knots : List Float → ℕ → Float
knots array i = get_or array i nan
