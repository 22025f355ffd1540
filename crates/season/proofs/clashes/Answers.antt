-- `clashes` meets its contract: what is left decides as all do, until one can't hold, one holds with another, or none is left.
use Prim.Native.Nat.{◌-◌}
use mathlib.Core.Path.{sym, ap, ◌∙◌}
use native.Mathlib.Omega.{arith}
use Rattle.counting.proofs.SomeLaws.{some_none}
use Rattle.season_window.specs.Window.{can_hold}
use Rattle.season.specs.Season.{holds_with_one}
use Rattle.season.proofs.SeasonLaws.{clash_alone, clash_with, clash_before}
use Rattle.season.proofs.clashes.Goals as goal

pub returns-then-not-can_hold : goal.returns-then-not-can_hold
returns-then-not-can_hold c =
    let l = c.loop-n in
    clash_alone _ l.n (omega arith) (sym (c.can_hold.ensures ∙ ap can_hold c.window_of-window.ensures) ∙ c.if-not-can_hold.true) ∙ l.invariant

pub returns-then-holds_with_one : goal.returns-then-holds_with_one
returns-then-holds_with_one c =
    let l = c.loop-n in
    let season = c.args.season.now in
    clash_with season l.n (omega arith) (sym (c.holds_with_one.ensures ∙ ap (holds_with_one season (l.n - 1)) c.window_of-window.ensures) ∙ c.if-holds_with_one.true) ∙ l.invariant

pub loop-n-preserved : goal.loop-n-preserved
loop-n-preserved c =
    let l = c.loop-n in
    let season = c.args.season.now in
    let is = c.window_of-window.ensures in
    clash_before season l.n (omega arith) (sym (c.can_hold.ensures ∙ ap can_hold is) ∙ c.if-not-can_hold.false)
    (sym (c.holds_with_one.ensures ∙ ap (holds_with_one season (l.n - 1)) is) ∙ c.if-holds_with_one.false)
    ∙ l.invariant

pub returns : goal.returns
returns c = let l = c.loop-n in some_none l.n _ (omega arith) ∙ l.invariant
