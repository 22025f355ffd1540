-- LENT, A MAP IS EVALUATED AS IT IS. Take any closeness, any map and any (s, t). Lending the map and then evaluating what the arrays hold at
-- (s, t) gives what `subs` gives of the map, bit for bit: the answer, and the map after it with the knots that it keeps. Where building the
-- knots is refused, both are refused alike. Evaluating over the arrays changes nothing, so it is so for every later (s, t) too.
use Rattle.std.specs.Prelude.{◌≡◌, Float}
use Rattle.surface.specs.Evaluation.{answer_by, value_of, subs_of}
use Rattle.t_mesh.specs.declared.t_mesh.Tmesh.{Tmesh}
use Rattle.lent_surface.specs.Lent.{held_by, lend_of}

abbrev pub LendingIsSubs : Type 0
LendingIsSubs =
    (e : Float) (map : Tmesh) (s t : Float)
    → subs_of e map s t
    ≡ record { answer = answer_by (lend_of e map).0.outcome (value_of (held_by (lend_of e map).1) s t); map = (lend_of e map).0.map }
