-- Laws of the definitions of specs/Written.antt.
use Rattle.std.specs.Prelude.{ℕ, zero, suc, ◌+◌, ◌*◌, ◌/◌, ◌%◌, ◌^◌, ◌≤◌, ◌≡◌, refl, List, [], ◌∷◌, ◌++◌, length, set, take, drop}
use Rattle.std.proofs.Common.{sym, ap, ◌∙◌, append_assoc, pow-suc, add-one, arith, length-append, length-set, length-drop}
use Rattle.std.specs.Int.{byte_at, bytes_high_first}
use Rattle.std.proofs.Math.Nat.{div-div-eq-div-mul}
use Rattle.std.proofs.lemmas.List.{set_comm, set_past, take-append-drop, length-take-le}
use borrow.Rule.Slice.PartMut.{put_mid}
use Rattle.big_endian.specs.Written.{written, bytes_of}

-- bytes written after others stand behind them
pub written_append : (buffer : List ℕ) (at : ℕ) (a b : List ℕ) → written buffer at (a ++ b) ≡ written (written buffer at a) (at + length a) b
unfolding written
written_append buffer at [] b = ap (λ (place : ℕ). written buffer place b) (omega arith)
written_append buffer at (byte ∷ rest) b =
    written_append (set buffer at byte) (at + 1) rest b
    ∙ ap (λ (place : ℕ). written (written (set buffer at byte) (at + 1) rest) place b) (omega (arith, add-one (length rest)))

-- the length stays
pub length_written : (buffer : List ℕ) (at : ℕ) (bytes : List ℕ) → length (written buffer at bytes) ≡ length buffer
unfolding written
length_written buffer at [] = refl
length_written buffer at (byte ∷ rest) = length_written (set buffer at byte) (at + 1) rest ∙ length-set buffer at byte

-- a number has as many bytes as are asked for
pub length_bytes : (width number : ℕ) → length (bytes_of width number) ≡ width
unfolding bytes_of
length_bytes zero number = refl
length_bytes (suc width) number =
    length-append (bytes_of width (number / 256)) (number % 256 ∷ []) ∙ ap (λ (n : ℕ). n + 1) (length_bytes width (number / 256)) ∙ add-one width

-- a part of known length, and what is written behind it
pub written_part : (buffer : List ℕ) (at size : ℕ) (part rest : List ℕ) → length part ≡ size → written buffer at (part ++ rest) ≡ written (written buffer at part) (at + size) rest
written_part buffer at size part rest long = written_append buffer at part rest ∙ ap (λ (n : ℕ). written (written buffer at part) (at + n) rest) long

-- a number's bytes, and what is written behind them
pub written_number : (buffer : List ℕ) (at width number : ℕ) (rest : List ℕ)
    → written buffer at (bytes_of width number ++ rest) ≡ written (written buffer at (bytes_of width number)) (at + width) rest
written_number buffer at width number rest = written_part buffer at width (bytes_of width number) rest (length_bytes width number)

-- a byte behind them is written before or after them
pub written_set : (buffer : List ℕ) (at : ℕ) (bytes : List ℕ) (place byte : ℕ) → at + length bytes ≤ place
    → written (set buffer place byte) at bytes ≡ set (written buffer at bytes) place byte
unfolding written
written_set buffer at [] place byte behind = refl
written_set buffer at (first ∷ rest) place byte behind =
    let beyond : at + 1 + length rest ≤ place = omega (arith, add-one (length rest)) in
    ap (λ (l : List ℕ). written l (at + 1) rest) (set_comm buffer place at byte first (λ same. omega arith))
    ∙ written_set (set buffer at first) (at + 1) rest place byte beyond

-- one byte more: the last one is written where it stands, the others are the rest
pub written_more : (width : ℕ) (buffer : List ℕ) (at number : ℕ)
    → written (set buffer (at + width) (number % 256)) at (bytes_of width (number / 256)) ≡ written buffer at (bytes_of (width + 1) number)
unfolding written bytes_of
written_more width buffer at number =
    let others = bytes_of width (number / 256) in
    let many : length others ≡ width = length_bytes width (number / 256) in
    let last : List ℕ = number % 256 ∷ [] in
    written_set buffer at others (at + width) (number % 256) (omega arith)
    ∙ sym (written_append buffer at others last ∙ ap (λ (n : ℕ). written (written buffer at others) (at + n) last) many)
    ∙ ap (λ (w : ℕ). written buffer at (bytes_of w number)) (sym (add-one width))

-- std's bytes of a number are ours: its last byte stands behind those of the rest
byte_of_rest : (i number : ℕ) → byte_at (suc i) number ≡ byte_at i (number / 256)
byte_of_rest zero number = refl
byte_of_rest (suc i) number = ap (λ (n : ℕ). n % 256) (ap (λ (power : ℕ). number / power) (pow-suc 256 (suc i) ∙ times_256) ∙ sym (div-div-eq-div-mul number 256 (256 ^ suc i)))
  where
    times_256 : 256 ^ suc i * 256 ≡ 256 * 256 ^ suc i
    times_256 = omega arith

last_behind : (width number : ℕ) → bytes_high_first (suc width) number ≡ bytes_high_first width (number / 256) ++ (number % 256 ∷ [])
last_behind zero number = refl
last_behind (suc width) number = ap (λ (l : List ℕ). byte_at (suc width) number ∷ l) (last_behind width number)
    ∙ ap (λ (byte : ℕ). byte ∷ (bytes_high_first width (number / 256) ++ (number % 256 ∷ []))) (byte_of_rest width number)

pub bytes_as_std : (width number : ℕ) → bytes_high_first width number ≡ bytes_of width number
unfolding bytes_of
bytes_as_std zero number = refl
bytes_as_std (suc width) number = last_behind width number ∙ ap (λ (l : List ℕ). l ++ (number % 256 ∷ [])) (bytes_as_std width (number / 256))

-- past the end nothing is written
pub written_past : (buffer : List ℕ) (at : ℕ) (bytes : List ℕ) → length buffer ≤ at → written buffer at bytes ≡ buffer
unfolding written
written_past buffer at [] past = refl
written_past buffer at (byte ∷ rest) past =
    ap (λ (l : List ℕ). written l (at + 1) rest) (set_past buffer at byte past) ∙ written_past buffer (at + 1) rest (omega arith)

-- ---- what is written at the front of a buffer
set_behind : (before : List ℕ) (byte first : ℕ) (rest : List ℕ) → set (before ++ (first ∷ rest)) (length before) byte ≡ before ++ (byte ∷ rest)
set_behind [] byte first rest = refl
set_behind (b ∷ before) byte first rest = ap (λ (l : List ℕ). b ∷ l) (set_behind before byte first rest)

written_behind : (text before buffer : List ℕ) → length text ≤ length buffer
    → written (before ++ buffer) (length before) text ≡ before ++ (text ++ drop (length text) buffer)
unfolding written
written_behind [] before buffer room = refl
written_behind (byte ∷ text) before [] room = absurd (omega arith)
written_behind (byte ∷ text) before (first ∷ buffer) room =
    let next = before ++ (byte ∷ []) in
    let place : length before + 1 ≡ length next = sym (length-append before (byte ∷ [])) in
    ap (λ (l : List ℕ). written l (length before + 1) text) (set_behind before byte first buffer ∙ sym (append_assoc before (byte ∷ []) buffer))
    ∙ ap (λ (n : ℕ). written (next ++ buffer) n text) place
    ∙ written_behind text next buffer (omega arith)
    ∙ append_assoc before (byte ∷ []) (text ++ drop (length text) buffer)

-- it stands there, and the rest is untouched
pub written_front : (text buffer : List ℕ) → length text ≤ length buffer → written buffer 0 text ≡ text ++ drop (length text) buffer
written_front text buffer room = written_behind text [] buffer room

-- ---- what is written inside a buffer stands in the place of as many bytes
pub written_mid : (buffer : List ℕ) (at size : ℕ) (bytes : List ℕ) → size ≡ length bytes → at + length bytes ≤ length buffer
    → written buffer at bytes ≡ put_mid at size buffer bytes
written_mid buffer at size bytes long room =
    let before = take at buffer in
    let behind = drop at buffer in
    let place : length before ≡ at = length-take-le at buffer (omega arith) in
    ap (λ (l : List ℕ). written l at bytes) (sym (take-append-drop at buffer))
    ∙ ap (λ (n : ℕ). written (before ++ behind) n bytes) (sym place)
    ∙ written_behind bytes before behind (omega (arith, length-drop at buffer))
    ∙ ap (λ (n : ℕ). before ++ (bytes ++ drop n behind)) (sym long)

-- and of more bytes than there is room for, those that have room
pub written_room : (buffer : List ℕ) (at room : ℕ) (bytes : List ℕ) → at + room ≡ length buffer → room ≤ length bytes
    → written buffer at bytes ≡ put_mid at room buffer (take room bytes)
written_room buffer at room bytes end more =
    let fitting = take room bytes in
    let many : length fitting ≡ room = length-take-le room bytes more in
    ap (written buffer at) (sym (take-append-drop room bytes))
    ∙ written_append buffer at fitting (drop room bytes)
    ∙ written_past (written buffer at fitting) (at + length fitting) (drop room bytes) (omega (arith, length_written buffer at fitting))
    ∙ written_mid buffer at room fitting (sym many) (omega arith)
