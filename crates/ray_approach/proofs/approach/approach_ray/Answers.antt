-- `approach_ray` meets its contract: what is left of the approach at each turn of the loop gives the whole.
use Rattle.std.proofs.lemmas.Result.{err_from_is_err_and}
use Rattle.std.specs.Prelude.{Err}
use Prim.Native.Nat.{ℕ, ◌-◌, ◌+◌, ◌<◌}
use mathlib.Core.Path.{◌≡◌, ◌∙◌, sym, ap}
use native.Mathlib.Nat.{sub-zero}
use native.Mathlib.Omega.{arith}
use lib.Ieee.{Float}
use Rattle.control_point.specs.Direction.{clockwise_of}
use Rattle.control_point.specs.Sides.{Sides, lent_sides}
use Rattle.navigation.specs.Walk.{walk_of}
use Rattle.control_point.specs.declared.t_mesh_direction.TmeshDirection.{TmeshDirection}
use Rattle.ray_approach.specs.Approach.{approach_round, approach_in, approach_of}
use Rattle.ray_approach.proofs.ApproachLaws.{approach_ring, approach_round_lem}
use Rattle.ray_approach.proofs.approach.approach_ray.Goals as goal
use Rattle.std.specs.Prelude.{Result}
use Rattle.control_point.specs.declared.refusal.Refusal.{Refusal}
use Rattle.navigation.specs.declared.walk.Walk.{Walk}

-- a turn of the loop, by what its walk gives
walked : (e : Float) (sides : Sides) (made : ℕ) (d : TmeshDirection) (start : ℕ) (distance : Float) (at : ℕ) (left : Float) (rounds : ℕ) (clockwise : TmeshDirection) (walk : Result Walk Refusal)
    → rounds < made
    → approach_of e sides made d start distance ≡ approach_in e sides made d (made - rounds) at left
    → clockwise ≡ clockwise_of d
    → walk ≡ walk_of sides made at clockwise d
    → approach_of e sides made d start distance ≡ approach_round e walk at left (λ n rest. approach_in e sides made d (made - (rounds + 1)) n rest)
walked e sides made d start distance at left rounds clockwise walk h so_far turned is =
    so_far
    ∙ approach_round_lem e sides made d at left _ (made - (rounds + 1)) (omega arith)
    ∙ ap (λ (w : Result Walk Refusal). approach_round e w at left (λ n rest. approach_in e sides made d (made - (rounds + 1)) n rest))
    (sym (is ∙ ap (λ (x : TmeshDirection). walk_of sides made at x d) turned))

pub loop-rounds-init : goal.loop-rounds-init
unfolding approach_of
loop-rounds-init c = rw sub-zero

pub returns-in_err-walk : goal.returns-in_err-walk
returns-in_err-walk c =
    let a = c.args in
    let l = c.loop-rounds in
    let left = err_from_is_err_and c.from_residual.result c.from_residual.ensures.1 in
    sym
    (walked a.closeness (lent_sides a.sides.now) a.made a.direction a.start a.distance l.at l.left l.rounds _ c.navigate.result
    (omega arith) l.invariant c.clockwise-clockwise.ensures c.navigate.ensures
    ∙ rw c.in_err-walk.was (sym (left.1 ∙ ap Err left.2)))

pub returns-then-so_small : goal.returns-then-so_small
returns-then-so_small c =
    let a = c.args in
    let l = c.loop-rounds in
    sym
    (walked a.closeness (lent_sides a.sides.now) a.made a.direction a.start a.distance l.at l.left l.rounds _ c.navigate.result
    (omega arith) l.invariant c.clockwise-clockwise.ensures c.navigate.ensures
    ∙ rw c.in_ok-walk.was (simp (sym c.so_small.ensures ∙ c.if-so_small.true)))

pub returns-then-difference : goal.returns-then-difference
returns-then-difference c =
    let a = c.args in
    let l = c.loop-rounds in
    sym
    (walked a.closeness (lent_sides a.sides.now) a.made a.direction a.start a.distance l.at l.left l.rounds _ c.navigate.result
    (omega arith) l.invariant c.clockwise-clockwise.ensures c.navigate.ensures
    ∙ rw c.in_ok-walk.was (simp (sym c.so_small.ensures ∙ c.if-so_small.false, c.if-difference.true)))

pub loop-rounds-preserved : goal.loop-rounds-preserved
loop-rounds-preserved c =
    let a = c.args in
    let l = c.loop-rounds in walked a.closeness (lent_sides a.sides.now) a.made a.direction a.start a.distance l.at l.left l.rounds _ c.navigate.result
    (omega arith) l.invariant c.clockwise-clockwise.ensures c.navigate.ensures
    ∙ rw c.in_ok-walk.was (simp (sym c.so_small.ensures ∙ c.if-so_small.false, c.if-difference.false))

pub returns : goal.returns
returns c =
    let a = c.args in
    let sides = lent_sides a.sides.now in
    sym (c.loop-rounds.invariant ∙ approach_ring a.closeness sides a.made a.direction c.loop-rounds.at c.loop-rounds.left _ (omega arith))
