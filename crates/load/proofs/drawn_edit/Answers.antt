-- `drawn_edit` meets its contract: each call's promise, put in for its result, gives the definition.
use mathlib.Core.Path.{refl}
use Rattle.draw.specs.Draw.{later_draw}
use Rattle.load.specs.Load.{drawn_edit}
use Rattle.load.proofs.drawn_edit.Goals as goal

pub returns : goal.returns
unfolding drawn_edit later_draw
returns c =
    record {
      edit = rw (c.drawn_float-z.ensures, c.drawn_float-y.ensures, c.drawn_float-x.ensures, c.drawn_float-ratio.ensures, c.numbered-direction.ensures, c.next_draw-sixth.ensures, c.next_draw-fifth.ensures, c.next_draw-fourth.ensures, c.next_draw-third.ensures, c.next_draw-second.ensures, c.next_draw-first.ensures) refl;
      state = rw (c.next_draw-sixth.ensures, c.next_draw-fifth.ensures, c.next_draw-fourth.ensures, c.next_draw-third.ensures, c.next_draw-second.ensures, c.next_draw-first.ensures) refl;
    }
