-- Laws of specs/SetPoint.antt: which answer a buffer's length gives, what an answer returns and leaves, and that it tells what its table says.
use Rattle.std.specs.Prelude.{ℕ, ◌≤◌, ◌<◌, ◌≡◌, List, length, Err, Result}
use Rattle.std.proofs.Math.Path.{refl}
use Rattle.std.specs.Float.Ieee.{binary64, of_bits}
use Rattle.control_point.specs.Small.{millionth}
use Rattle.control_point.specs.declared.refusal.Refusal.TheVariants.{Short}
use Rattle.surface.specs.Evaluation.{evaluation_told, evaluation_number}
use Rattle.map_file.specs.Run.{file_set_point}
use Rattle.map_file.proofs.TableLaws.{file_set_point_told}
use Rattle.value_bytes.specs.Value.{value_bytes}
use Rattle.gatemap_host.proofs.CallLaws.{room_short, room_enough, room_told, found_gives}
use Rattle.gatemap_host.specs.SetPoint.{host_answer, buffer_after, host_number, host_buffer, host_table}
use Rattle.control_point.specs.declared.refusal.Refusal.{Refusal}
use Rattle.surface.specs.declared.evaluation.Evaluation.{Evaluation}

module _ (file : List ℕ) (s t : ℕ) where
  pub answer_short : (room : ℕ) → room < value_bytes → Err Short ≡ host_answer file s t room
  unfolding host_answer
  answer_short room = room_short value_bytes room _ _

  pub answer_of_file : (room : ℕ) → value_bytes ≤ room → file_set_point millionth file (of_bits binary64 s) (of_bits binary64 t) ≡ host_answer file s t room
  unfolding host_answer
  answer_of_file room = room_enough value_bytes room _ _

  host_told : (room : ℕ) → evaluation_told (host_answer file s t room) ≡ host_table file s t room
  unfolding host_answer
  host_told room = room_told value_bytes room _ _ evaluation_told _ (file_set_point_told millionth file (of_bits binary64 s) (of_bits binary64 t)) refl

  pub host_with : (out : List ℕ) (answer : Result Evaluation Refusal) → host_answer file s t (length out) ≡ answer
      → (evaluation_number answer ≡ host_number file s t out) × (buffer_after answer out ≡ host_buffer file s t out) × (evaluation_number answer ≡ (host_table file s t (length out)).number)
  host_with out = found_gives evaluation_told (λ (a : Result Evaluation Refusal). buffer_after a out) _ _ (host_told (length out))
