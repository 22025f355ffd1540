-- `holds_with_one` meets its contract: what is left decides as all do, until one holds with the window or none is left.
use mathlib.Core.Path.{sym, ap, ◌∙◌}
use native.Mathlib.Omega.{arith}
use Rattle.counting.proofs.SomeLaws.{some_none, some_here, some_before}
use Rattle.season_window.specs.Window.{hold_together}
use Rattle.season.proofs.holds_with_one.Goals as goal

pub returns-then-holds_with : goal.returns-then-holds_with
returns-then-holds_with c =
    let l = c.loop-n in
    let window = c.args.window in
    some_here l.n _ (omega arith) (sym (c.holds_with.ensures ∙ ap (hold_together window) c.window_of.ensures) ∙ c.if-holds_with.true) ∙ l.invariant

pub loop-n-preserved : goal.loop-n-preserved
loop-n-preserved c =
    let l = c.loop-n in
    let window = c.args.window in
    some_before l.n _ (omega arith) (sym (c.holds_with.ensures ∙ ap (hold_together window) c.window_of.ensures) ∙ c.if-holds_with.false) ∙ l.invariant

pub returns : goal.returns
returns c = let l = c.loop-n in some_none l.n _ (omega arith) ∙ l.invariant
