-- Mirrored links: every link of a made point leads to another made point, whose facing side links back with the same interval, bit
-- for bit. It is a statement on sides; a store is sound where its sides are mirrored and its list of points has room for all made.
use Rattle.std.specs.Prelude.{ℕ, ◌<◌, ◌≤◌, ◌≡◌, Float, length}
use Rattle.control_point.specs.Direction.{flip_of}
use Rattle.control_point.specs.Sides.{Sides}
use Rattle.control_point.specs.declared.t_mesh_direction.TmeshDirection.{TmeshDirection}
use Rattle.control_point.specs.declared.t_mesh_control_point.Side.TheVariants.{Link, Opening}
use Rattle.store.specs.Store.{store_sides}
use Rattle.store.specs.declared.store.Store.{Store}

-- the mirror of a link from n in direction d to m: m is made, it is not n, and its facing side links back with the same interval
pub record MirrorOf (made : ℕ) (sides : Sides) (n : ℕ) (d : TmeshDirection) (m : ℕ) (interval : Float) : Type 0 where
  pub leads : m < made
  pub apart : m ≡ n → ⊥
  pub faces : sides m (flip_of d) ≡ Link n interval

-- each link of a made point has its mirror
abbrev pub Mirrored : ℕ → Sides → Type 0
Mirrored made sides =
    (n : ℕ) (d : TmeshDirection) (m : ℕ) (interval : Float) → n < made → sides n d ≡ Link m interval → MirrorOf made sides n d m interval

-- a store of 128 points, of which no more are made, with mirrored links
pub record Sound (store : Store) : Type 0 where
  pub room : length store.points ≡ 128
  pub fits : store.made ≤ 128
  pub mirrored : Mirrored store.made (store_sides store)

-- two facing sides that may be joined: those of two made points, not the same, both open
pub record Joining (made : ℕ) (sides : Sides) (first other : ℕ) (d : TmeshDirection) : Type 0 where
  pub first_made : first < made
  pub other_made : other < made
  pub apart : first ≡ other → ⊥
  pub first_open : sides first d ≡ Opening
  pub other_open : sides other (flip_of d) ≡ Opening
