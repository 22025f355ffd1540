-- `days_wrong` meets its contract: what is left decides as all do, until one is past the day or none is left.
use mathlib.Core.Path.{sym, ap, ◌∙◌}
use native.Mathlib.Omega.{arith}
use Rattle.counting.proofs.SomeLaws.{some_none, some_here, some_before}
use Rattle.season_window.specs.Window.{past_day}
use Rattle.season.proofs.days_wrong.Goals as goal

pub returns-then-past_day : goal.returns-then-past_day
returns-then-past_day c =
    let l = c.loop-n in
    some_here l.n _ (omega arith) (sym (c.past_day.ensures ∙ ap past_day c.window_of.ensures) ∙ c.if-past_day.true) ∙ l.invariant

pub loop-n-preserved : goal.loop-n-preserved
loop-n-preserved c =
    let l = c.loop-n in
    some_before l.n _ (omega arith) (sym (c.past_day.ensures ∙ ap past_day c.window_of.ensures) ∙ c.if-past_day.false) ∙ l.invariant

pub returns : goal.returns
returns c = let l = c.loop-n in some_none l.n _ (omega arith) ∙ l.invariant
