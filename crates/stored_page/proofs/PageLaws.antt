-- One byte more of a page is held against what it should be.
use Rattle.std.specs.Prelude.{ℕ, zero, suc, ◌+◌, ◌-◌, ◌≤◌, ◌<◌, true, ◌&&◌, List, [], ◌∷◌, ◌≡◌, refl, eqb, get_or, length}
use Rattle.std.proofs.Common.{not-suc-le-zero, le_of_suc-le-suc, add-one, lt-ltb, le-ltb}
use Rattle.std.proofs.Math.ListN.{get_or-eq_default}
use Rattle.big_endian.specs.BigEndian.{byte_at}
use Rattle.stored_page.specs.Page.{guard, filler, expected_byte, holds_to}

-- ---- the byte expected
-- an element that is there does not depend on the default
there : (l : List ℕ) (n a b : ℕ) → n < length l → get_or l n a ≡ get_or l n b
there [] n a b within = absurd (not-suc-le-zero within)
there (x ∷ rest) zero a b within = refl
there (x ∷ rest) (suc n) a b within = there rest n a b (le_of_suc-le-suc within)

pub expected_before : (held : List ℕ) (place : ℕ) → place < guard → filler ≡ expected_byte held place
unfolding expected_byte
expected_before held place before = rw (lt-ltb place guard before)

pub expected_within : (held : List ℕ) (place : ℕ) → guard ≤ place → place - guard < length held → byte_at held (place - guard) ≡ expected_byte held place
unfolding expected_byte
expected_within held place within is = rw (le-ltb place guard within) (there held (place - guard) 0 filler is)

pub expected_behind : (held : List ℕ) (place : ℕ) → guard ≤ place → length held ≤ place - guard → filler ≡ expected_byte held place
unfolding expected_byte
expected_behind held place within behind = rw (le-ltb place guard within, get_or-eq_default held filler {n = place - guard} behind)

-- ---- the page
pub holds_none : (page held : List ℕ) → holds_to 0 page held ≡ true
unfolding holds_to
holds_none page held = refl

pub holds_more : (n : ℕ) (page held : List ℕ)
    → holds_to (n + 1) page held ≡ (holds_to n page held && eqb (byte_at page n) (expected_byte held n))
unfolding holds_to
holds_more n page held = rw add-one refl
