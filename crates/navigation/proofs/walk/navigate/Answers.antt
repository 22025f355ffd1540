-- The walk over lent sides meets its contract: what is left of the walk at each turn of the loop gives the whole.
use Rattle.navigation.proofs.WalkLaws.{walk_unmade, walk_starts, onward_unmade, onward_reached, onward_ring, onward_step}
use Rattle.control_point.specs.declared.t_mesh_control_point.Side.{Side}
use Rattle.control_point.specs.declared.refusal.Refusal.TheVariants.{Ring}
use lib.Ieee.{add, binary64}
use Rattle.navigation.proofs.Links.{step_refused, onward_refused}
use Prim.Native.Nat.{◌-◌, ◌+◌}
use mathlib.Core.Path.{◌∙◌, sym, ap}
use mathlib.Core.Bool.{true, false}
use native.Mathlib.Omega.{arith}
use Rattle.control_point.specs.Point.{is_made, is_link}
use Rattle.control_point.proofs.PointLaws.{is_made_made}
use Rattle.control_point.specs.Sides.{lent_sides}
use Rattle.navigation.specs.Walk.{onward, step_over}
use Rattle.navigation.proofs.walk.navigate.Goals as goal
use Rattle.std.specs.Prelude.{Err}

pub returns-then-not-is_made : goal.returns-then-not-is_made
returns-then-not-is_made c =
    let a = c.args in
    sym (walk_unmade (lent_sides c.args.sides.now) a.made a.travel a.watch a.start (sym c.is_made.ensures ∙ c.if-not-is_made.true))

pub returns-in_default : goal.returns-in_default
returns-in_default c =
    let a = c.args in
    ap Err c.side_refusal.ensures
    ∙ sym (step_refused c.side_at-side.result (λ n k. onward (a.made - 1) (lent_sides c.args.sides.now) a.made a.travel a.watch n k 1) c.in_default.not-Link)
    ∙ ap (λ (s : Side). step_over s (λ n k. onward (a.made - 1) (lent_sides c.args.sides.now) a.made a.travel a.watch n k 1)) c.side_at-side.ensures
    ∙ sym (walk_starts (lent_sides c.args.sides.now) a.made a.travel a.watch a.start ((sym c.is_made.ensures ∙ c.if-not-is_made.false)))

pub loop-travel-init : goal.loop-travel-init
loop-travel-init c =
    let a = c.args in (
      omega (arith, is_made_made _ _ ((sym c.is_made.ensures ∙ c.if-not-is_made.false))),
      walk_starts (lent_sides c.args.sides.now) a.made a.travel a.watch a.start ((sym c.is_made.ensures ∙ c.if-not-is_made.false))
          ∙ ap (λ (s : Side). step_over s (λ n k. onward (a.made - 1) (lent_sides c.args.sides.now) a.made a.travel a.watch n k 1))
          (sym c.side_at-side.ensures ∙ c.in-Link.is),
    )

pub returns-then-not-is_made-2 : goal.returns-then-not-is_made-2
returns-then-not-is_made-2 c =
    let a = c.args in
    sym (c.loop-travel.invariant.1 ∙ onward_unmade (lent_sides c.args.sides.now) a.made a.travel a.watch _ _ _ _ (sym c.is_made-in-loop-travel.ensures ∙ c.if-not-is_made-2.true))

pub returns-then-is_link : goal.returns-then-is_link
returns-then-is_link c =
    let a = c.args in
    sym (c.loop-travel.invariant.1 ∙ onward_reached (lent_sides c.args.sides.now) a.made a.travel a.watch _ _ _ _ ((sym c.is_made-in-loop-travel.ensures ∙ c.if-not-is_made-2.false)) (sym ((c.is_link.ensures ∙ ap is_link c.side_at.ensures)) ∙ c.if-is_link.true))

pub returns-in_default-side : goal.returns-in_default-side
returns-in_default-side c =
    let a = c.args in
    ap Err c.side_refusal-in_default-side.ensures
    ∙ sym
    (c.loop-travel.invariant.1
    ∙ onward_refused (lent_sides c.args.sides.now) a.made a.travel a.watch _ _ _ ((sym c.is_made-in-loop-travel.ensures ∙ c.if-not-is_made-2.false)) ((sym ((c.is_link.ensures ∙ ap is_link c.side_at.ensures)) ∙ c.if-is_link.false)) _
    c.side_at-side-in-loop-travel.result (sym c.side_at-side-in-loop-travel.ensures) c.in_default-side.not-Link)

pub returns-then-made-moves : goal.returns-then-made-moves
returns-then-made-moves c =
    let a = c.args in
    sym
    (c.loop-travel.invariant.1
    ∙ onward_ring (lent_sides c.args.sides.now) a.made a.travel a.watch _ _ _ ((sym c.is_made-in-loop-travel.ensures ∙ c.if-not-is_made-2.false)) ((sym ((c.is_link.ensures ∙ ap is_link c.side_at.ensures)) ∙ c.if-is_link.false)) _ (omega arith)
    ∙ ap (λ (s : Side). step_over s (λ n k. Err Ring)) (sym c.side_at-side-in-loop-travel.ensures ∙ c.in-Link-side.is))

pub loop-travel-preserved : goal.loop-travel-preserved
loop-travel-preserved c =
    let a = c.args in (
      omega arith,
      c.loop-travel.invariant.1
          ∙ onward_step (lent_sides c.args.sides.now) a.made a.travel a.watch _ _ _ ((sym c.is_made-in-loop-travel.ensures ∙ c.if-not-is_made-2.false)) ((sym ((c.is_link.ensures ∙ ap is_link c.side_at.ensures)) ∙ c.if-is_link.false)) _ (a.made - (c.loop-travel.moves + 1)) (omega arith)
          ∙ ap (λ (s : Side). step_over s (λ n k. onward (a.made - (c.loop-travel.moves + 1)) (lent_sides c.args.sides.now) a.made a.travel a.watch n (add binary64 c.loop-travel.sum k) (c.loop-travel.moves + 1)))
          (sym c.side_at-side-in-loop-travel.ensures ∙ c.in-Link-side.is),
    )
