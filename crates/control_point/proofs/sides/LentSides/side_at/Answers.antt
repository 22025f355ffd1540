-- `side_at` meets its contract: the kind that stands at the place says which side is read.
use borrow.Author.Tests.{le-ltb}
use Rattle.control_point.specs.Sides.{sides_in}
use Rattle.control_point.proofs.SidesLaws.{reads_link, reads_border, reads_opening}
use Rattle.control_point.proofs.sides.LentSides.side_at.Goals as goal

pub returns-then-n-ge128 : goal.returns-then-n-ge128
unfolding sides_in
returns-then-n-ge128 c = simp (le-ltb _ _ c.if-n-ge128.true)

pub returns-then-kind-eq0 : goal.returns-then-kind-eq0
returns-then-kind-eq0 c =
    let p = c.before.before.before.before in
    let a = p.before.before.args in
    reads_link a.self.now.kinds a.self.now.numbers a.self.now.intervals a.n a.direction p.place_of-i.result p.place_of-i.ensures.0 p.before.if-n-ge128.false c.before.before.if-kind-eq0.true

pub returns-then-kind-eq1 : goal.returns-then-kind-eq1
returns-then-kind-eq1 c =
    let p = c.before.before.before.before in
    let a = p.before.before.args in
    reads_border a.self.now.kinds a.self.now.numbers a.self.now.intervals a.n a.direction p.place_of-i.result p.place_of-i.ensures.0 p.before.if-n-ge128.false c.before.before.if-kind-eq0.false c.before.if-kind-eq1.true

pub returns : goal.returns
returns c =
    let p = c.before.before.before in
    let a = p.before.before.args in
    reads_opening a.self.now.kinds a.self.now.numbers a.self.now.intervals a.n a.direction p.place_of-i.result p.place_of-i.ensures.0 p.before.if-n-ge128.false c.before.if-kind-eq0.false c.if-kind-eq1.false
