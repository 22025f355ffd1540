use Rattle.control_point.proofs.SidesLaws.{put_law, put_full}
use Rattle.control_point.proofs.sides.LentSides.put_side.Goals as goal

pub returns : goal.returns
returns c =
    let s = c.before.before.before.before in
    let a = s.args in
    rw (c.before.before.before.place_of-i.ensures.0, c.before.before.kind_of.ensures, c.before.linked_of.ensures, c.interval_of.ensures)
    (put_full a.self.now.kinds a.self.now.numbers a.self.now.intervals a.n a.direction a.side s.requires.0 s.requires.1, put_law a.self.now.kinds a.self.now.numbers a.self.now.intervals a.n a.direction a.side s.requires.0 s.requires.1)
