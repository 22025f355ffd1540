-- How many bytes each part of a file has: the places of specs/Format.antt are the sums of these.
use Rattle.std.specs.Prelude.{ℕ, ◌*◌, ◌≡◌, refl, List, [], ◌∷◌, Float, length}
use Rattle.std.proofs.Common.{◌∙◌, arith, length-append}
use Rattle.std.specs.Float.{binary64}
use Rattle.std.specs.Float.Ieee.{to_bits}
use Rattle.big_endian.specs.Written.{bytes_of_float}
use Rattle.big_endian.proofs.WrittenLaws.{length_bytes}
use Rattle.map_format.specs.Format.{position_bytes, edits_at, edit_bytes, bytes_of_position, Edit, bytes_of_edit, bytes_of_edits, file_length, front_of, file_of}
use Rattle.map_format.specs.declared.format.Head.{Head}
use Rattle.t_mesh.specs.declared.t_mesh.Position.{Position}

pub length_float : (x : Float) → length (bytes_of_float x) ≡ 8
length_float x = length_bytes 8 (to_bits binary64 x)

pub length_position : (p : Position) → length (bytes_of_position p) ≡ position_bytes
length_position p = simp (length-append, length_bytes)

pub length_edit : (edit : Edit) → length (bytes_of_edit edit) ≡ edit_bytes
length_edit edit = simp (length-append, length_bytes)

pub length_edits : (edits : List Edit) → length (bytes_of_edits edits) ≡ length edits * edit_bytes
unfolding bytes_of_edits
length_edits [] = refl
length_edits (edit ∷ rest) = let one = length_edit edit in let others = length_edits rest in length-append (bytes_of_edit edit) (bytes_of_edits rest) ∙ omega arith

pub length_front : (count : ℕ) (head : Head) → length (front_of count head) ≡ edits_at
unfolding front_of
length_front count head = simp (length-append, length_bytes)

pub length_file : (head : Head) (edits : List Edit) → length (file_of head edits) ≡ file_length (length edits)
unfolding file_of
length_file head edits =
    length-append (front_of (length edits) head) (bytes_of_edits edits) ∙ (let front = length_front (length edits) head in let rest = length_edits edits in omega arith)
