use Rattle.lent_points.specs.Lent.{lent_points}
use Rattle.lent_points.proofs.LentPoints.lent_point.Goals as goal

pub returns : goal.returns
unfolding lent_points
returns c =
    rw (c.side_at.ensures, c.side_at-2.ensures, c.side_at-3.ensures, c.side_at-4.ensures, c.across_at.ensures, c.upwards_at.ensures)
