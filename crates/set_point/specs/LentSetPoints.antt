-- LENT, A MAP HAS ITS SET-POINTS. Take any closeness, any map that is lent with it, and any (s, t). The set-point of the map that the arrays hold answers what the set-point of the map lent answers, bit for bit: 20 off
-- the map, 15 without weight, and else the value. The map held keeps its knots, so that the closeness does not matter there. Where building the knots is refused nothing is lent, and `lend` has answered so. Only answers are
-- compared: lending has built the knots, and the map that it hands back keeps them, also where (s, t) is off the map.
use Rattle.std.specs.Prelude.{◌≡◌, Float, Ok}
use Rattle.surface.specs.SetPoint.{set_point}
use Rattle.t_mesh.specs.declared.t_mesh.Tmesh.{Tmesh}
use Rattle.lent_surface.specs.Lent.{held_by, lend_of}

abbrev pub LentSetPoints : Type 0
LentSetPoints =
    (e f : Float) (map : Tmesh) (s t : Float)
    → (lend_of e map).0.outcome ≡ Ok tt
    → (set_point f (held_by (lend_of e map).1) s t).answer ≡ (set_point e map s t).answer
