-- `map_among` meets its contract: what is left answers as all do, until one holds or none is left.
use mathlib.Core.Path.{sym, ap, ◌∙◌}
use native.Mathlib.Omega.{arith}
use Rattle.season_window.specs.Window.{holds_at}
use Rattle.season_window.specs.declared.Window.{Window}
use Rattle.season.proofs.SeasonLaws.{map_none, map_here, map_before}
use Rattle.season.proofs.map_among.Goals as goal
use Rattle.std.specs.Prelude.{Ok}

pub returns-then-holds : goal.returns-then-holds
returns-then-holds c =
    let l = c.loop-n in
    let minute = c.args.minute in
    let is = c.window_of-window.ensures in
    ap (λ (w : Window). Ok w.map) is
    ∙ map_here _ minute l.n (omega arith) (sym (c.holds.ensures ∙ ap (λ (w : Window). holds_at w minute) is) ∙ c.if-holds.true)
    ∙ l.invariant

pub loop-n-preserved : goal.loop-n-preserved
loop-n-preserved c =
    let l = c.loop-n in
    let minute = c.args.minute in
    map_before _ minute l.n (omega arith) (sym (c.holds.ensures ∙ ap (λ (w : Window). holds_at w minute) c.window_of-window.ensures) ∙ c.if-holds.false) ∙ l.invariant

pub returns : goal.returns
returns c = let l = c.loop-n in map_none _ _ l.n (omega arith) ∙ l.invariant
