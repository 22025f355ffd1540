-- `write_cell` meets its contract: two numbers and a byte written one behind the other are the cell's bytes written at once.
use Prim.Native.Nat.{◌<◌}
use native.Mathlib.Omega.{arith}
use Rattle.cell_bytes.proofs.Laws.{written_cell}
use Rattle.cell_bytes.proofs.write_cell.Goals as goal

pub returns : goal.returns
returns c =
    let fits : c.args.words.count < 256 = omega (arith, c.well_formed) in
    written_cell c.args.words fits _ _ _ _ c.put_number.ensures c.put_number-2.ensures c.put_byte.ensures
