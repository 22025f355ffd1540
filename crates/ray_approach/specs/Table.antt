-- The table of an approach: round by round the walk's refusal; a round beyond as many as points made 9. An approach that is not refused is part of a
-- ray's entry, so that what is then told, where the march is left and where the approach ends, is given.
use Rattle.std.specs.Prelude.{ℕ, zero, suc, cond, Float}
use Rattle.std.specs.Float.{binary64}
use Rattle.std.specs.Float.Ieee.{sub, lt}
use Rattle.float64.specs.Literals.{zero_literal}
use Rattle.control_point.specs.Direction.{clockwise_of}
use Rattle.control_point.specs.Sides.{Sides}
use Rattle.control_point.specs.Small.{small}
use Rattle.control_point.specs.Told.{Told, refused_by}
use Rattle.control_point.specs.declared.t_mesh_direction.TmeshDirection.{TmeshDirection}
use Rattle.navigation.specs.Table.{walked_table}
use Rattle.navigation.specs.Walk.{walk_of}

module _ (e : Float) (sides : Sides) (made : ℕ) (d : TmeshDirection) (aligned : ℕ → Told) (crossed : ℕ → Float → Told) where
  -- r less the walk's sum is small: leave the march; negative: end the approach; else another round
  abbrev pub round_table : ℕ → Float → (ℕ → Float → Told) → ℕ → Float → Told
  round_table at r again n sum =
      cond (small e (sub binary64 r sum))
      (aligned at)
      (cond (lt (sub binary64 r sum) zero_literal) (crossed at r) (again n (sub binary64 r sum)))

  -- with so many rounds left
  unfoldable pub rounds_table : ℕ → ℕ → Float → Told
  rounds_table zero at r = refused_by 9
  rounds_table (suc left) at r = walked_table (walk_of sides made at (clockwise_of d) d) (round_table at r (λ n rest. rounds_table left n rest))

  abbrev pub approach_table : ℕ → Float → Told
  approach_table at r = rounds_table made at r
