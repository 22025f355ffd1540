-- Parts that are written one behind the other are the whole, written at once.
use Rattle.std.specs.Prelude.{ℕ, ◌+◌, ◌*◌, ◌-◌, ◌≡◌, List, ◌∷◌, ◌++◌, set}
use Rattle.std.proofs.Common.{sym, ap, ◌∙◌, arith}
use Rattle.big_endian.specs.Written.{written, bytes_of, bytes_of_float}
use Rattle.big_endian.proofs.WrittenLaws.{length_bytes, written_part}
use Rattle.control_point.specs.Direction.{direction_number}
use Rattle.counted_file.specs.Counted.{count_bytes, version_at}
use Rattle.map_format.specs.Format.{border_at, corners_at, position_bytes, direction_in, ratio_in, position_in, bytes_of_position, Edit, bytes_of_edit, file_length, front_of}
use Rattle.map_format.specs.declared.format.Head.{Head}
use Rattle.t_mesh.specs.declared.t_mesh.Position.{Position}
use Rattle.map_writing.proofs.LengthLaws.{length_float, length_position}

-- the same place, otherwise counted
at_place : (buffer : List ℕ) (at place : ℕ) (part : List ℕ) → at ≡ place → written buffer at part ≡ written buffer place part
at_place buffer at place part same = ap (λ (n : ℕ). written buffer n part) same

pub put_position : (buffer : List ℕ) (at : ℕ) (p : Position)
    → written (written (written buffer at (bytes_of_float p.x)) (at + 8) (bytes_of_float p.y)) (at + 16) (bytes_of_float p.z) ≡ written buffer at (bytes_of_position p)
put_position buffer at p =
    let x = bytes_of_float p.x in
    let y = bytes_of_float p.y in
    let z = bytes_of_float p.z in
    sym
    (written_part buffer at 8 x (y ++ z) (length_float p.x)
    ∙ written_part (written buffer at x) (at + 8) 8 y z (length_float p.y)
    ∙ at_place (written (written buffer at x) (at + 8) y) (at + 8 + 8) (at + 16) z (omega arith))

pub put_edit : (buffer : List ℕ) (at : ℕ) (edit : Edit)
    → written
    (written (set (set buffer at edit.point) (at + direction_in) (direction_number edit.direction)) (at + ratio_in) (bytes_of_float edit.ratio))
    (at + position_in)
    (bytes_of_position edit.position)
    ≡ written buffer at (bytes_of_edit edit)
unfolding written
put_edit buffer at edit =
    let two = set (set buffer at edit.point) (at + direction_in) (direction_number edit.direction) in
    let ratio = bytes_of_float edit.ratio in
    let position = bytes_of_position edit.position in
    sym
    (at_place two (at + 1 + 1) (at + ratio_in) (ratio ++ position) (omega arith)
    ∙ written_part two (at + ratio_in) 8 ratio position (length_float edit.ratio)
    ∙ at_place (written two (at + ratio_in) ratio) (at + ratio_in + 8) (at + position_in) position (omega arith))

-- the count, the version, the border weight and the corners
pub put_front : (buffer : List ℕ) (count : ℕ) (head : Head)
    → written
    (written
    (written
    (written
    (written (set (written buffer 0 (bytes_of count_bytes (file_length count - count_bytes))) version_at head.version) border_at (bytes_of_float head.border))
    corners_at
    (bytes_of_position head.bottom_left))
    (corners_at + position_bytes)
    (bytes_of_position head.bottom_right))
    (corners_at + 2 * position_bytes)
    (bytes_of_position head.top_right))
    (corners_at + 3 * position_bytes)
    (bytes_of_position head.top_left)
    ≡ written buffer 0 (front_of count head)
unfolding written front_of
put_front buffer count head =
    let size = bytes_of count_bytes (file_length count - count_bytes) in
    let weight = bytes_of_float head.border in
    let a = bytes_of_position head.bottom_left in
    let b = bytes_of_position head.bottom_right in
    let c = bytes_of_position head.top_right in
    let d = bytes_of_position head.top_left in
    sym
    (written_part buffer 0 count_bytes size (head.version ∷ (weight ++ (a ++ (b ++ (c ++ d))))) (length_bytes count_bytes (file_length count - count_bytes))
    ∙ written_part _ border_at 8 weight (a ++ (b ++ (c ++ d))) (length_float head.border)
    ∙ written_part _ corners_at position_bytes a (b ++ (c ++ d)) (length_position head.bottom_left)
    ∙ written_part _ (corners_at + position_bytes) position_bytes b (c ++ d) (length_position head.bottom_right)
    ∙ written_part _ (corners_at + 2 * position_bytes) position_bytes c d (length_position head.top_right))
