-- `index_of` meets its contract: at each turn the words of the lines are those of the points below i, and of the points below i from 64 on.
use mathlib.Core.Path.{refl, ◌∙◌}
use native.Mathlib.Omega.{arith}
use Rattle.grid_index.proofs.IndexLaws.{lines_none, lines_full, lines_marked, lines_passed, index_built}
use Rattle.grid_index.proofs.index_of.Goals as goal
use Rattle.grid_index.proofs.index_of.Goals.{then-listed-i, else-listed-i, then-listed-i-2, else-listed-i-2}

pub loop-i-init : goal.loop-i-init
loop-i-init c = (lines_none _ _ 0, lines_none _ _ 64)

pub mark_point-requires : goal.mark_point-requires
mark_point-requires c = lines_full c.loop-i.invariant.0

pub mark_point-requires-then-listed-i-2 : goal.mark_point-requires-then-listed-i-2
mark_point-requires-then-listed-i-2 c = lines_full c.loop-i.invariant.1

pub loop-i-preserved : goal.loop-i-preserved
loop-i-preserved c =
    let k = c.loop-i in (
      elim c.if-listed-i.branch [
        | then-listed-i w ↦
            lines_marked k.invariant.0 k.i _ _ (omega arith) (omega arith) w.if-listed-i.true
            (w.columns-is ∙ w.mark_point.ensures.0)
            (w.rows-is ∙ w.mark_point.ensures.1)
        | else-listed-i w ↦ lines_passed k.invariant.0 k.i _ _ (omega arith) w.if-listed-i.false w.columns-is w.rows-is
      ],
      elim c.if-listed-i-2.branch [
        | then-listed-i-2 w ↦
            lines_marked k.invariant.1 _ _ _ refl (omega arith) w.if-listed-i-2.true
            (w.later_columns-is ∙ w.mark_point-then-listed-i-2.ensures.0)
            (w.later_rows-is ∙ w.mark_point-then-listed-i-2.ensures.1)
        | else-listed-i-2 w ↦ lines_passed k.invariant.1 _ _ _ refl w.if-listed-i-2.false w.later_columns-is w.later_rows-is
      ],
    )

pub returns : goal.returns
returns c =
    let k = c.loop-i in
    index_built _ _ k.i _ _ _ _ _ _ (omega arith) k.invariant.0 k.invariant.1 c.cell_words.ensures c.cell_words-2.ensures
