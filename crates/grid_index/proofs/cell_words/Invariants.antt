-- `cell_words` meets its contract: at each turn the words of the cells below 16 times the row plus the column stand in the array.
use Prim.Native.Nat.{◌+◌, ◌*◌}
use Rattle.values.proofs.ValuesLaws.{StoredTo}
use Rattle.grid_index.specs.Lines.{both_word}
use Rattle.grid_index.proofs.cell_words.Given as goal

abbrev pub invariant-loop-column : goal.invariant-loop-column
invariant-loop-column l = StoredTo (both_word l.columns l.rows) 0 256 (l.row * 16 + l.column) l.words

abbrev pub invariant-loop-row : goal.invariant-loop-row
invariant-loop-row l = StoredTo (both_word l.columns l.rows) 0 256 (l.row * 16) l.words
