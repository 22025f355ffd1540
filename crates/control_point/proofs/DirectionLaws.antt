-- Laws of directions.
use Rattle.std.specs.Prelude.{◌<◌, ◌≡◌, refl, true}
use Rattle.std.proofs.Common.{sym, ap, ◌∙◌, eqb-true, lit<}
use Rattle.control_point.specs.Direction.{clockwise_of, anti_clockwise_of, flip_of, direction_number, direction_numbered, same_direction}
use Rattle.control_point.specs.declared.t_mesh_direction.TmeshDirection.{TmeshDirection}
use Rattle.control_point.specs.declared.t_mesh_direction.TmeshDirection.TheVariants.{Up, Right, Down, Left}

pub number_small : (d : TmeshDirection) → direction_number d < 4
number_small Up = lit< tt
number_small Right = lit< tt
number_small Down = lit< tt
number_small Left = lit< tt

pub numbered_number : (d : TmeshDirection) → direction_numbered (direction_number d) ≡ d
numbered_number Up = refl
numbered_number Right = refl
numbered_number Down = refl
numbered_number Left = refl

pub flip_flip : (d : TmeshDirection) → flip_of (flip_of d) ≡ d
flip_flip Up = refl
flip_flip Right = refl
flip_flip Down = refl
flip_flip Left = refl

pub same_self : (d : TmeshDirection) → same_direction d d ≡ true
same_self Up = refl
same_self Right = refl
same_self Down = refl
same_self Left = refl

pub same_true : (d e : TmeshDirection) → same_direction d e ≡ true → d ≡ e
same_true d e h = sym (numbered_number d) ∙ ap direction_numbered (eqb-true (direction_number d) (direction_number e) h) ∙ numbered_number e

-- anticlockwise is opposite to clockwise
pub flip_clockwise : (d : TmeshDirection) → flip_of (clockwise_of d) ≡ anti_clockwise_of d
flip_clockwise Up = refl
flip_clockwise Right = refl
flip_clockwise Down = refl
flip_clockwise Left = refl
