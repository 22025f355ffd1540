-- `navigate_until_con` meets its contract: the filled arrays hold the store's sides, so the walk over them is the walk over the store.
use mathlib.Core.Path.{◌∙◌, ap}
use Rattle.control_point.specs.Sides.{Sides}
use Rattle.control_point.proofs.ToldLaws.{beside}
use Rattle.navigation.proofs.TableLaws.{walk_told_lem}
use Rattle.navigation.specs.Walk.{walk_told, walk_of}
use Rattle.store.specs.Store.{store_sides}
use Rattle.store.proofs.walk.navigate_until_con.Goals as goal

pub returns : goal.returns
returns c =
    let all = (let a = c.args in
    beside walk_told _ _ (walk_told_lem (store_sides a.store) a.store.made a.travel a.watch a.start) _
    (c.navigate.ensures ∙ ap (λ (sides : Sides). walk_of sides a.store.made a.start a.travel a.watch) c.fill.ensures.1)) in record { is = all.0; told = all.1 }
