-- Laws of specs/CellCall.antt: which answer a buffer's length gives, what an answer returns and leaves, and that it tells what its table says.
use Rattle.std.specs.Prelude.{ℕ, ◌≤◌, ◌<◌, ◌≡◌, List, length, Err, Result}
use Rattle.std.proofs.Math.Path.{refl}
use Rattle.cell_bytes.specs.CellBytes.{cell_bytes}
use Rattle.cells.specs.Cells.{cell_told, cell_number}
use Rattle.control_point.specs.Small.{millionth}
use Rattle.control_point.specs.declared.refusal.Refusal.TheVariants.{Short}
use Rattle.map_cell.specs.FileCell.{file_cell}
use Rattle.map_cell.proofs.FileCellLaws.{file_cell_told}
use Rattle.gatemap_host.proofs.CallLaws.{room_short, room_enough, room_told, found_gives}
use Rattle.gatemap_host.specs.CellCall.{host_cell, cell_buffer_after, host_cell_number, host_cell_buffer, host_cell_table}
use Rattle.control_point.specs.declared.refusal.Refusal.{Refusal}
use Rattle.grid_index.specs.declared.Cell.{Cell}

module _ (file : List ℕ) (cell : ℕ) where
  pub cell_short : (room : ℕ) → room < cell_bytes → Err Short ≡ host_cell file cell room
  unfolding host_cell
  cell_short room = room_short cell_bytes room _ _

  pub cell_of_file : (room : ℕ) → cell_bytes ≤ room → file_cell millionth file cell ≡ host_cell file cell room
  unfolding host_cell
  cell_of_file room = room_enough cell_bytes room _ _

  host_cell_told : (room : ℕ) → cell_told (host_cell file cell room) ≡ host_cell_table file cell room
  unfolding host_cell
  host_cell_told room = room_told cell_bytes room _ _ cell_told _ (file_cell_told millionth file cell) refl

  pub host_cell_with : (out : List ℕ) (answer : Result Cell Refusal) → host_cell file cell (length out) ≡ answer
      → (cell_number answer ≡ host_cell_number file cell out) × (cell_buffer_after answer out ≡ host_cell_buffer file cell out) × (cell_number answer ≡ (host_cell_table file cell (length out)).number)
  host_cell_with out = found_gives cell_told (λ (a : Result Cell Refusal). cell_buffer_after a out) _ _ (host_cell_told (length out))
