-- What was written is read back: a byte of it, and a number and a float in it, wherever they stand in what was written; and a byte, a number and a float of a text, wherever they stand in it.
use Rattle.std.specs.Prelude.{ℕ, zero, suc, ◌+◌, ◌*◌, ◌/◌, ◌%◌, ◌^◌, ◌≤◌, ◌<◌, ◌≡◌, refl, List, [], ◌∷◌, ◌++◌, T, Float, length, get_or, set}
use Rattle.std.proofs.Common.{sym, ap, ◌∙◌, subst, append_assoc, pow-suc, arith, get_or-append-add, length-append, length-set}
use Rattle.std.proofs.lemmas.List.{get_or-set_same, get_or-set_other}
use Rattle.std.specs.Float.{binary64}
use Rattle.std.specs.Float.Ieee.{of_bits, to_bits, fits}
use Rattle.std.specs.Float.Ieee.Bits.{to_bits-lt, of_bits-to_bits}
use Rattle.big_endian.specs.BigEndian.{byte_at, number_at, float_at}
use Rattle.big_endian.specs.Written.{written, bytes_of, bytes_of_float}
use Rattle.big_endian.proofs.WrittenLaws.{length_bytes}

-- ---- bytes
-- what stands before the place of writing stays
before_stays : (text buffer : List ℕ) (at place : ℕ) → place < at → get_or (written buffer at text) place 0 ≡ get_or buffer place 0
unfolding written
before_stays [] buffer at place h = refl
before_stays (byte ∷ text) buffer at place h = before_stays text (set buffer at byte) (at + 1) place (omega arith) ∙ get_or-set_other buffer at place byte 0 (λ same. omega arith)

-- a byte of what was written
byte_back : (text buffer : List ℕ) (at i : ℕ) → i < length text → at + length text ≤ length buffer → get_or (written buffer at text) (at + i) 0 ≡ get_or text i 0
unfolding written
byte_back [] buffer at i h room = absurd (omega arith)
byte_back (byte ∷ text) buffer at zero h room =
    ap (λ (place : ℕ). get_or (written (set buffer at byte) (at + 1) text) place 0) {x = at + 0} {y = at} (omega arith)
    ∙ before_stays text (set buffer at byte) (at + 1) at (omega arith)
    ∙ get_or-set_same buffer at byte 0 (omega arith)
byte_back (byte ∷ text) buffer at (suc i) h room =
    ap (λ (place : ℕ). get_or (written (set buffer at byte) (at + 1) text) place 0) {x = at + suc i} {y = at + 1 + i} (omega arith)
    ∙ byte_back text (set buffer at byte) (at + 1) i (omega arith) (let same = length-set buffer at byte in omega arith)

-- ---- numbers
-- by their bytes
same_number : (width : ℕ) (bytes others : List ℕ) (at place : ℕ) → ((i : ℕ) → i < width → get_or bytes (at + i) 0 ≡ get_or others (place + i) 0) → number_at width bytes at ≡ number_at width others place
unfolding number_at
same_number zero bytes others at place same = refl
same_number (suc width) bytes others at place same =
    ap (λ (high : ℕ). high * 256 + get_or bytes (at + width) 0) (same_number width bytes others at place (λ i h. same i (omega arith)))
    ∙ ap (λ (low : ℕ). number_at width others place * 256 + low) (same width (omega arith))

-- the bytes of a number, whatever follows them, are that number
number_of_bytes : (width number : ℕ) (rest : List ℕ) → number < 256 ^ width → number_at width (bytes_of width number ++ rest) 0 ≡ number
unfolding number_at bytes_of
number_of_bytes zero number rest h = omega (arith, h)
number_of_bytes (suc width) number rest h =
    let high = bytes_of width (number / 256) in
    let low = number % 256 ∷ rest in
    ap (λ (bytes : List ℕ). number_at width bytes 0 * 256 + get_or bytes (0 + width) 0) (append_assoc high (number % 256 ∷ []) rest)
    ∙ ap (λ (n : ℕ). n * 256 + get_or (high ++ low) (0 + width) 0) (number_of_bytes width (number / 256) low (fewer h))
    ∙ ap (λ (n : ℕ). number / 256 * 256 + n)
    (ap (λ (place : ℕ). get_or (high ++ low) place 0) {x = 0 + width} {y = length high + 0} (let same = length_bytes width (number / 256) in omega arith)
    ∙ get_or-append-add high low 0 0)
    ∙ omega arith
  where
    fewer : number < 256 ^ suc width → number / 256 < 256 ^ width
    fewer below = let more = pow-suc 256 width in omega (arith, subst (λ (n : ℕ). number < n) more below)

-- a number in what was written, after some bytes and before others
pub number_back : (width number : ℕ) (before rest buffer : List ℕ) → number < 256 ^ width → length (before ++ (bytes_of width number ++ rest)) ≤ length buffer
    → number_at width (written buffer 0 (before ++ (bytes_of width number ++ rest))) (length before) ≡ number
number_back width number before rest buffer below room =
    let text = before ++ (bytes_of width number ++ rest) in
    same_number width (written buffer 0 text) (bytes_of width number ++ rest) (length before) 0
    (λ i h.
    ap (λ (place : ℕ). get_or (written buffer 0 text) place 0) {x = length before + i} {y = 0 + (length before + i)} (omega arith)
    ∙ byte_back text buffer 0 (length before + i)
    (let whole = length-append before (bytes_of width number ++ rest) in let own = length-append (bytes_of width number) rest in let same = length_bytes width number in omega arith)
    (omega (arith, room))
    ∙ get_or-append-add before (bytes_of width number ++ rest) i 0
    ∙ ap (λ (place : ℕ). get_or (bytes_of width number ++ rest) place 0) {x = i} {y = 0 + i} (omega arith))
    ∙ number_of_bytes width number rest below

-- ---- in a text whose bytes before a place are so many
pub byte_in : (before rest text : List ℕ) (at i : ℕ) → text ≡ before ++ rest → length before ≡ at → byte_at text (at + i) ≡ byte_at rest i
byte_in before rest text at i parts place =
    ap (λ (l : List ℕ). byte_at l (at + i)) parts ∙ ap (λ (n : ℕ). byte_at (before ++ rest) (n + i)) (sym place) ∙ get_or-append-add before rest i 0

-- a number there is that of what stands there
number_there : (width : ℕ) (before rest text : List ℕ) (at : ℕ) → text ≡ before ++ rest → length before ≡ at → number_at width text at ≡ number_at width rest 0
unfolding number_at
number_there zero before rest text at parts place = refl
number_there (suc width) before rest text at parts place =
    ap (λ (high : ℕ). high * 256 + byte_at text (at + width)) (number_there width before rest text at parts place)
    ∙ ap (λ (low : ℕ). number_at width rest 0 * 256 + low) (byte_in before rest text at width parts place ∙ ap (byte_at rest) {x = width} {y = 0 + width} (omega arith))

pub number_in : (width number : ℕ) (before rest text : List ℕ) (at : ℕ) → number < 256 ^ width → text ≡ before ++ (bytes_of width number ++ rest) → length before ≡ at
    → number_at width text at ≡ number
number_in width number before rest text at below parts place =
    number_there width before (bytes_of width number ++ rest) text at parts place ∙ number_of_bytes width number rest below

pub float_in : (x : Float) (before rest text : List ℕ) (at : ℕ) → T (fits binary64 x) → text ≡ before ++ (bytes_of_float x ++ rest) → length before ≡ at → float_at text at ≡ x
float_in x before rest text at fit parts place =
    ap (of_bits binary64) (number_in 8 (to_bits binary64 x) before rest text at (to_bits-lt binary64 x fit) parts place) ∙ of_bits-to_bits binary64 x fit

-- ---- a float in what was written, after some bytes and before others
pub float_back : (x : Float) (before rest buffer : List ℕ) → T (fits binary64 x) → length (before ++ (bytes_of_float x ++ rest)) ≤ length buffer
    → float_at (written buffer 0 (before ++ (bytes_of_float x ++ rest))) (length before) ≡ x
float_back x before rest buffer fit room =
    ap (of_bits binary64) (number_back 8 (to_bits binary64 x) before rest buffer (to_bits-lt binary64 x fit) room) ∙ of_bits-to_bits binary64 x fit
