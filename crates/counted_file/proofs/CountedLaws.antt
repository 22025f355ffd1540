-- What a right length tells, what makes one right or wrong, and that a valid file is not refused.
use Rattle.std.specs.Prelude.{ℕ, ◌+◌, ◌*◌, ◌-◌, ◌/◌, ◌%◌, ◌≤◌, ◌<◌, ◌≡◌, Bool, true, false, ◌&&◌, List, leb, eqb, length, Err, Ok}
use Rattle.std.proofs.Math.Path.{refl}
use Rattle.std.proofs.Common.{sym, true≢false, div-add-mod', arith}
use borrow.Author.Tests.{le-leb, lt-leb, eq-eqb, ne_eqb, leb-true, eqb-true}
use Rattle.big_endian.specs.BigEndian.{number_at}
use Rattle.control_point.specs.declared.refusal.Refusal.{Refusal}
use Rattle.counted_file.specs.Counted.{count_bytes, item_count, counted_right}

-- of four tests that hold, the first and the last two
held : (a b c d : Bool) → (a && (b && (c && d))) ≡ true → (a ≡ true) × (c ≡ true) × (d ≡ true)
held true true true d all = (refl, refl, all)
held true true false d all = absurd (true≢false (sym all))
held true false c d all = absurd (true≢false (sym all))
held false b c d all = absurd (true≢false (sym all))

-- the head is whole, and the rest are at most so many whole items
pub record Whole (head item most : ℕ) (bytes : List ℕ) : Type 0 where
  pub headed : head ≤ length bytes
  pub filled : head + item_count head item bytes * item ≡ length bytes
  pub few : item_count head item bytes ≤ most

pub length_tells : (head item most : ℕ) (bytes : List ℕ) → counted_right head item most bytes ≡ true → Whole head item most bytes
unfolding counted_right
length_tells head item most bytes right =
    let items = length bytes - head in
    let tests = held (leb head (length bytes)) (eqb (count_bytes + number_at count_bytes bytes 0) (length bytes)) (eqb (items % item) 0) (leb (item_count head item bytes) most) right in
    let long = leb-true head (length bytes) tests.0 in
    let whole = eqb-true (items % item) 0 tests.1 in
    record {
      headed = long;
      filled = omega (arith, long, whole, div-add-mod' items item);
      few = leb-true (item_count head item bytes) most tests.2;
    }

-- ---- test by test
module _ (head item most : ℕ) (bytes : List ℕ) where
  count : ℕ
  count = count_bytes + number_at count_bytes bytes 0

  items : ℕ
  items = length bytes - head

  -- where one fails, the length is wrong
  pub head_missing : length bytes < head → false ≡ counted_right head item most bytes
  unfolding counted_right
  head_missing short = rw (lt-leb head (length bytes) short) refl

  pub count_wrong : head ≤ length bytes → (count_bytes + number_at count_bytes bytes 0 ≡ length bytes → ⊥) → false ≡ counted_right head item most bytes
  unfolding counted_right count
  count_wrong long other = rw (le-leb head (length bytes) long, ne_eqb count (length bytes) other) refl

  pub part_left : head ≤ length bytes → count_bytes + number_at count_bytes bytes 0 ≡ length bytes → ((length bytes - head) % item ≡ 0 → ⊥) → false ≡ counted_right head item most bytes
  unfolding counted_right count items
  part_left long same part = rw (le-leb head (length bytes) long, eq-eqb count (length bytes) same, ne_eqb (items % item) 0 part) refl

  -- past the first three the last decides
  pub items_decide : head ≤ length bytes → count_bytes + number_at count_bytes bytes 0 ≡ length bytes → (length bytes - head) % item ≡ 0
      → leb ((length bytes - head) / item) most ≡ counted_right head item most bytes
  unfolding counted_right count items
  items_decide long same whole = rw (le-leb head (length bytes) long, eq-eqb count (length bytes) same, eq-eqb (items % item) 0 whole) refl

-- a check that is valid is no refusal
pub valid_refused : (refusal : Refusal) (n : ℕ) → Err refusal ≡ Ok n → ⊥
valid_refused refusal n same = let z : ◌≡◌ {A = ℕ} 0 1 = cc in omega arith
