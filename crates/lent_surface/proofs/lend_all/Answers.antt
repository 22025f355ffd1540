-- `lend_all` meets its contract: the points below n stand in the arrays, and the listing is stored whole.
use mathlib.Core.Path.{◌≡◌}
use native.Mathlib.Omega.{arith}
use Rattle.lent_surface.proofs.LentLaws.{all_lent}
use Rattle.lent_surface.proofs.lend_all.Goals as goal

pub returns : goal.returns
returns c =
    let own = c.args.map in
    let g = c.well_formed.1.1.1.1.0 in
    let k = c.loop-n in
    let h : k.n ≡ 128 = omega arith in
    all_lent own k.n k.across k.upwards k.places h
    g.1.1.1.0.1.0.1
    g.1.1.0.1.1.1.0.1.0.1
    k.invariant.0 k.invariant.1.0 k.invariant.1.1
