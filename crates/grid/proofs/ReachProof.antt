-- The theorems of Reach. What two stretches have in common starts at the greater of their starts, which is a number of both if anything is; and a number
-- of both lies between each start and each end.
use Rattle.std.specs.Prelude.{ℕ, zero, suc, ◌+◌, ◌*◌, ◌<◌, ◌≡◌, refl, Bool, true, false, not, ◌&&◌, T, eqb, pos, Float}
use Rattle.std.proofs.Common.{sym, subst, arith, eqb-true, eqb→eq}
use Rattle.std.proofs.lemmas.Bool.{eqb-false}
use Rattle.std.specs.Float.{nan, inf, fin, binary64}
use Rattle.std.specs.Float.Ieee.{up, down, of_bits, of_fields, odd, of_int, round, size, span, climb, units, div, lt, le, fits}
use Rattle.std.specs.Float.Ieee.Exact.{HasValue}
use Rattle.std.specs.Float.Ieee.Fits.{and_l, and_r, and_i, div-fits}
use Rattle.float64.specs.Order.{le_refl, le_lt_trans, lt_num_l, nle→lt, lt→le}
use Rattle.grid.specs.Grid.{sixteen_literal, line, From, overlap, on_line, reaches}
use Rattle.grid.specs.Reach.{TrueWhereReached, ReachedWhereTrue, LineExact}

-- ---- two stretches
-- a number of both
record Common (first last from to : Float) : Type 0 where
  at : Float
  in_first : From first last at
  in_second : From from to at

module _ (first last from to : Float) where
  common : T (fits binary64 first) → T (fits binary64 from) → T (lt from to) → T (overlap first last from to) → Common first last from to
  common first-f64 from-f64 rising h = by_start (le first from) refl
    where
      a : T (lt first last)
      a = and_l (lt first last) (lt first to) (and_l (lt first last && lt first to) (lt from last) h)

      b : T (lt first to)
      b = and_r (lt first last) (lt first to) (and_l (lt first last && lt first to) (lt from last) h)

      c : T (lt from last)
      c = and_r (lt first last && lt first to) (lt from last) h

      by_start : (x : Bool) → le first from ≡ x → Common first last from to
      by_start true e =
          record {
            at = from;
            in_first = record { is_f64 = from-f64; from = subst T (sym e) tt; below = c };
            in_second = record { is_f64 = from-f64; from = le_refl from (lt_num_l from to rising); below = rising };
          }
      by_start false e =
          record {
            at = first;
            in_first = record { is_f64 = first-f64; from = le_refl first (lt_num_l first last a); below = a };
            in_second = record {
              is_f64 = first-f64;
              from = lt→le from first (nle→lt from first (lt_num_l from to rising) (lt_num_l first last a) (subst (λ (x : Bool). T (not x)) (sym e) tt));
              below = b;
            };
          }

  overlapping : (x : Float) → From first last x → From from to x → T (overlap first last from to)
  overlapping x f g =
      and_i (lt first last && lt first to) (lt from last)
      (and_i (lt first last) (lt first to) (le_lt_trans first x last f.from f.below) (le_lt_trans first x to f.from g.below))
      (le_lt_trans from x last g.from f.below)

-- ---- the lines
-- a test of every number below k
abbrev every_below : ℕ → (ℕ → Bool) → Bool
every_below zero test = true
every_below (suc k) test = test k && every_below k test

at_each : (k : ℕ) (test : ℕ → Bool) → T (every_below k test) → (i : ℕ) → i < k → T (test i)
at_each zero test h i l = absurd (omega (arith, l))
at_each (suc k) test h i l = by_last (eqb i k) refl (at_each k test (and_r (test k) (every_below k test) h) i)
  where
    by_last : (b : Bool) → eqb i k ≡ b → (i < k → T (test i)) → T (test i)
    by_last true e lower = subst (λ (j : ℕ). T (test j)) (sym (eqb-true i k e)) (and_l (test k) (every_below k test) h)
    by_last false e lower = lower (omega (arith, l, eqb-false i k e))

-- they rise
rises : (i : ℕ) → i < 16 → T (lt (line i) (line (i + 1)))
unfolding line lt of_bits of_fields odd of_int round size span climb units div
rises = at_each 16 (λ (i : ℕ). lt (line i) (line (i + 1))) tt

-- whether x is i / 16
abbrev is_sixteenths : Float → ℕ → Bool
is_sixteenths nan i = false
is_sixteenths (inf s) i = false
is_sixteenths (fin true m e) i = false
is_sixteenths (fin false m e) i = eqb (m * up e * 16) (i * down e)

sixteenths : (x : Float) (i : ℕ) → T (is_sixteenths x i) → HasValue x false i 16
sixteenths nan i h = absurd h
sixteenths (inf s) i h = absurd h
sixteenths (fin true m e) i h = absurd h
sixteenths (fin false m e) i h = (refl, eqb→eq (m * up e * 16) (i * down e) h)

are_sixteenths : (i : ℕ) → i < 17 → T (is_sixteenths (line i) i)
unfolding line of_bits of_fields odd of_int round size span climb units div
are_sixteenths = at_each 17 (λ (i : ℕ). is_sixteenths (line i) i) tt

pub line_exact : LineExact
line_exact i h = sixteenths (line i) i (are_sixteenths i h)

line_f64 : (i : ℕ) → T (fits binary64 (line i))
unfolding line
line_f64 i = div-fits binary64 (of_int binary64 (pos i)) sixteen_literal

-- ---- a cell
T→true : (b : Bool) → T b → b ≡ true
T→true true h = refl
T→true false h = absurd h

pub true_where_reached : TrueWhereReached
true_where_reached own column row r =
    T→true (reaches own column row)
    (and_i (on_line own.s column) (on_line own.t row)
    (overlapping _ _ _ _ r.s r.within.across r.in_cell.across)
    (overlapping _ _ _ _ r.t r.within.upwards r.in_cell.upwards))

pub reached_where_true : ReachedWhereTrue
reached_where_true own column row h k starts e =
    let both : T (reaches own column row) = subst T (sym e) tt in
    let a = common _ _ _ _ starts.across (line_f64 column) (rises column h) (and_l (on_line own.s column) (on_line own.t row) both) in
    let b = common _ _ _ _ starts.upwards (line_f64 row) (rises row k) (and_r (on_line own.s column) (on_line own.t row) both) in
    record {
      s = a.at;
      t = b.at;
      in_cell = record { across = a.in_second; upwards = b.in_second };
      within = record { across = a.in_first; upwards = b.in_first };
    }
