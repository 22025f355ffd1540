-- Laws of specs/CellBytes.antt: what two numbers and a byte written one behind the other leave.
use Prim.Native.Nat.{ℕ, ◌<◌}
use mathlib.Core.Path.{◌≡◌, sym, ap, ◌∙◌}
use mathlib.Core.List.{List}
use native.Mathlib.Nat.{mod-eq_of_lt}
use lib.ListN.{set}
use Rattle.big_endian.specs.Written.{written, bytes_of}
use Rattle.big_endian.proofs.WrittenLaws.{written_number}
use Rattle.grid_index.specs.declared.Cell.{Cell}
use Rattle.cell_bytes.specs.CellBytes.{bytes_of_cell}

-- one byte
written_byte : (out : List ℕ) (at byte : ℕ) → byte < 256 → set out at byte ≡ written out at (bytes_of 1 byte)
unfolding written bytes_of
written_byte out at byte h = ap (set out at) (sym (mod-eq_of_lt h))

-- the words and the count of a cell, each at its place
pub written_cell : (words : Cell) → words.count < 256 → (out first second third : List ℕ) → first ≡ written out 0 (bytes_of 8 words.first) → second ≡ written first 8 (bytes_of 8 words.second)
    → third ≡ set second 16 words.count → third ≡ written out 0 (bytes_of_cell words)
written_cell words h out first second third a b c =
    c
    ∙ written_byte second 16 words.count h
    ∙ ap (λ (l : List ℕ). written l 16 (bytes_of 1 words.count)) (b ∙ ap (λ (l : List ℕ). written l 8 (bytes_of 8 words.second)) a)
    ∙ sym (written_number out 0 8 _ _ ∙ written_number _ 8 8 _ _)
