-- `listed_knots` meets its contract: at each turn the rows of the numbers below n are filled, and those left give the whole.
use Prim.Native.Nat.{◌-◌, ◌+◌}
use mathlib.Core.Path.{◌∙◌, sym, ap, refl}
use native.Mathlib.Omega.{arith}
use Rattle.control_point.specs.Sides.{lent_sides}
use Rattle.t_mesh.specs.Tmesh.{store_of}
use Rattle.knot_vectors.specs.Knots.{all_knots, held_knots}
use Rattle.knot_vectors.proofs.KnotsLaws.{knots_over, rows_end, rows_passed, rows_put, rows_refused}
use Rattle.knot_vectors.proofs.knots.listed_knots.Goals as goal
use Rattle.knot_vectors.proofs.knots.listed_knots.Goals.{then-listed-n+in_default, else-listed-n}

pub loop-n-init : goal.loop-n-init
unfolding all_knots
loop-n-init c = refl

pub returns-in-Err : goal.returns-in-Err
returns-in-Err c =
    let a = c.args in
    let n = c.loop-n.n in
    sym
    (ap (held_knots a.map.knots)
    (c.loop-n.invariant
    ∙ rows_refused a.closeness a.map n c.loop-n.knots (128 - n) (128 - (n + 1)) (omega arith) c.knots_at-built.result
    (c.knots_at-built.ensures ∙ knots_over a.closeness (store_of a.map) n (lent_sides a.sides.now) c.requires)
    c.if-listed-n.true
    c.in-Err.refusal
    c.in-Err.is))

pub loop-n-preserved : goal.loop-n-preserved
loop-n-preserved c =
    let a = c.args in
    let n = c.loop-n.n in elim c.if-listed-n.branch [
      | then-listed-n+in_default w ↦
          rw w.knots-is
          (c.loop-n.invariant
          ∙ rows_put a.closeness a.map n c.loop-n.knots (128 - n) (128 - (n + 1)) (omega arith) w.knots_at-built.result
          (w.knots_at-built.ensures ∙ knots_over a.closeness (store_of a.map) n (lent_sides a.sides.now) c.requires)
          w.if-listed-n.true
          w.in_default.is)
      | else-listed-n w ↦
          rw w.knots-is
          (c.loop-n.invariant
          ∙ rows_passed a.closeness a.map n c.loop-n.knots (128 - n) (128 - (n + 1)) (omega arith) w.if-listed-n.false)
    ]

pub returns : goal.returns
returns c =
    let a = c.args in
    sym (ap (held_knots a.map.knots) (c.loop-n.invariant ∙ rows_end a.closeness a.map c.loop-n.n c.loop-n.knots (128 - c.loop-n.n) (omega arith)))
