-- Closeness. Every definition that tests it takes the closeness e as an argument; `millionth` is that of a map that states none.
use Rattle.std.specs.Prelude.{Bool, ◌&&◌, Float}
use Rattle.std.specs.Float.{binary64}
use Rattle.std.specs.Float.Ieee.{div, neg, le}
use Rattle.float64.specs.Literals.{one_literal, million_literal}

-- 1.0 / 1000000.0
unfoldable pub millionth : Float
millionth = div binary64 one_literal million_literal

-- −e ≤ value ≤ e
unfoldable pub small : Float → Float → Bool
small e value = le (neg e) value && le value e
