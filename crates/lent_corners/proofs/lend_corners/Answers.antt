-- `lend_corners` meets its contract: the points are the four corners, and the rows and the listing are stored whole, then corner by corner.
use mathlib.Core.Path.{refl}
use Rattle.lent_mesh.proofs.LentMeshLaws.{corner_rows_lem, corners_map}
use Rattle.lent_corners.proofs.lend_corners.Goals as goal

pub returns : goal.returns
returns c =
    let a = c.args in
    record {
      map =
          corners_map a.bottom_left a.bottom_right a.top_right a.top_left _ a.weight _ _ c.lend_corner_points.ensures.held
          (corner_rows_lem a.bottom_left a.bottom_right a.top_right a.top_left _ _ _ _ c.row_of.ensures c.row_of-2.ensures c.row_of-3.ensures c.row_of-4.ensures)
          refl;
      room = (c.lend_corner_points.ensures.room, (refl, refl));
    }
