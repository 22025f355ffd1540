-- a turn that meets a link goes by what is judged at the point moved to
use Rattle.std.proofs.Common.{◌≡◌, ◌∙◌, sym, ap, Ok, Err}
use Rattle.std.proofs.lemmas.Result.{err_from_is_err_and}
use Rattle.control_point.specs.Direction.{anti_clockwise_of}
use Rattle.control_point.specs.Sides.{lent_sides}
use Rattle.control_point.specs.declared.t_mesh_control_point.Side.TheVariants.{Link}
use Rattle.search.proofs.Links.{turn_judged}
use Rattle.search.proofs.search.seek.Goals as goal

pub returns-in-Here : goal.returns-in-Here
returns-in-Here c =
    let a = c.args in
    let sides = lent_sides a.sides.now in
    let met : Link c.in-Link.n c.in-Link.k ≡ sides c.loop-moves.at (anti_clockwise_of a.f) = cc in
    sym
    (c.loop-moves.invariant
    ∙ turn_judged a.closeness sides a.made a.p a.f a.measure a.interval c.loop-moves.at c.loop-moves.sum c.loop-moves.moves c.loop-moves-test.true c.in-Link.n c.in-Link.k met
    _ (ap Ok (sym c.in-Here.is) ∙ sym c.in_ok-judged.was ∙ c.judge.ensures))

pub returns-in-Ends : goal.returns-in-Ends
returns-in-Ends c =
    let a = c.args in
    let sides = lent_sides a.sides.now in
    let met : Link c.in-Link.n c.in-Link.k ≡ sides c.loop-moves.at (anti_clockwise_of a.f) = cc in
    sym
    (c.loop-moves.invariant
    ∙ turn_judged a.closeness sides a.made a.p a.f a.measure a.interval c.loop-moves.at c.loop-moves.sum c.loop-moves.moves c.loop-moves-test.true c.in-Link.n c.in-Link.k met
    _ (ap Ok (sym c.in-Ends.is) ∙ sym c.in_ok-judged.was ∙ c.judge.ensures))

pub returns-in_err-judged : goal.returns-in_err-judged
returns-in_err-judged c =
    let a = c.args in
    let sides = lent_sides a.sides.now in
    let met : Link c.in-Link.n c.in-Link.k ≡ sides c.loop-moves.at (anti_clockwise_of a.f) = cc in
    let left = err_from_is_err_and c.from_residual.result c.from_residual.ensures.1 in
    sym
    (c.loop-moves.invariant
    ∙ turn_judged a.closeness sides a.made a.p a.f a.measure a.interval c.loop-moves.at c.loop-moves.sum c.loop-moves.moves c.loop-moves-test.true c.in-Link.n c.in-Link.k met
    _ c.judge.ensures
    ∙ rw c.in_err-judged.was (sym (left.1 ∙ ap Err left.2)))

pub loop-moves-preserved : goal.loop-moves-preserved
loop-moves-preserved c =
    let a = c.args in
    let sides = lent_sides a.sides.now in
    let met : Link c.in-Link.n c.in-Link.k ≡ sides c.loop-moves.at (anti_clockwise_of a.f) = cc in c.loop-moves.invariant
    ∙ turn_judged a.closeness sides a.made a.p a.f a.measure a.interval c.loop-moves.at c.loop-moves.sum c.loop-moves.moves c.loop-moves-test.true c.in-Link.n c.in-Link.k met
    _ (ap Ok (sym c.in-On.is) ∙ sym c.in_ok-judged.was ∙ c.judge.ensures)
