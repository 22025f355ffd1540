-- The theorem of CellTheorem: the cell's words are those of the set of the points that are listed and reach it, and the test is true where they do.
use Rattle.std.specs.Prelude.{ℕ, ◌+◌, ◌/◌, ◌%◌, ◌^◌, ◌<◌, Bool, true, false, cond, ◌&&◌, List, ◌≡◌, refl, eqb, ltb, get_or}
use Rattle.std.proofs.lemmas.Bool.{false≢true}
use Rattle.std.proofs.Common.{sym, ap, ap₂, ◌∙◌, subst, arith, ltb-true, ltb-false}
use Rattle.bit_words.specs.Words.{digit, word_from}
use Rattle.bit_words.proofs.WordsLaws.{word_lt, word_bit, count_same}
use Rattle.grid.specs.Grid.{cell_column, cell_row, reaches}
use Rattle.grid.specs.Reach.{StartsF64}
use Rattle.grid.proofs.ReachProof.{true_where_reached, reached_where_true}
use Rattle.ray.specs.declared.knots.PointKnots.{PointKnots}
use Rattle.grid_index.specs.CellTheorem.{HasReaching, Says, EveryCellSays}
use Rattle.grid_index.specs.Index.{bit_of, knots_in, reaches_cell, first_word, second_word, counted}
use Rattle.grid_index.proofs.IndexLaws.{ones_counted, cell_is}
use Rattle.grid_index.specs.declared.Cell.{Cell}

-- the bit of a number is its test
module _ (set : ℕ → Bool) (n : ℕ) (h : n < 128) where
  by_half : (b : Bool) → ltb n 64 ≡ b → cond b (word_from set 64 0) (word_from set 64 64) / 2 ^ (n % 64) % 2 ≡ digit (set n)
  by_half true e = word_bit set 64 0 (n % 64) (omega arith) ∙ ap (λ (k : ℕ). digit (set k)) (omega (arith, ltb-true n 64 e))
  by_half false e = word_bit set 64 64 (n % 64) (omega arith) ∙ ap (λ (k : ℕ). digit (set k)) (omega (arith, h, ltb-false n 64 e))

digit_is : (b : Bool) → eqb (digit b) 1 ≡ b
digit_is true = refl
digit_is false = refl

same_tests : (a b : Bool) → (a ≡ true → b ≡ true) → (b ≡ true → a ≡ true) → a ≡ b
same_tests true b there back = sym (there refl)
same_tests false true there back = absurd (false≢true (back refl))
same_tests false false there back = refl

both_true : (a b : Bool) → (a && b) ≡ true → (a ≡ true) × (b ≡ true)
both_true true b e = (refl, e)
both_true false b e = absurd (false≢true e)

module _ (listed : List Bool) (knots : List PointKnots) (starts : (n : ℕ) → get_or listed n false ≡ true → StartsF64 (knots_in knots n)) (cell : ℕ) (in-grid : cell < 256) where
  abbrev reaching : ℕ → Bool
  reaching = reaches_cell listed knots cell

  -- the test of code has the numbers that it must
  tested : HasReaching listed knots cell reaching
  tested =
      record {
        only = λ n h e.
            let tests = both_true (get_or listed n false) (reaches (knots_in knots n) (cell_column cell) (cell_row cell)) e in
            (tests.0, reached_where_true (knots_in knots n) (cell_column cell) (cell_row cell) (omega arith) (omega (arith, in-grid)) (starts n tests.0) tests.1);
        all = λ n h l r. ap₂ (λ (a b : Bool). a && b) l (true_where_reached (knots_in knots n) (cell_column cell) (cell_row cell) r);
      }

  -- and so has every set that agrees with it, as the bits do
  abbrev words : Cell
  words = counted (first_word listed knots cell) (second_word listed knots cell)

  bit_is : (n : ℕ) → n < 128 → reaching n ≡ eqb (bit_of words n) 1
  bit_is n h = sym (digit_is (reaching n)) ∙ ap (λ (bit : ℕ). eqb bit 1) (sym (by_half reaching n h (ltb n 64) refl))

  by_words : Says listed knots cell words
  by_words =
      record {
        bits = record { only = λ n h e. tested.only n h (bit_is n h ∙ e); all = λ n h l r. sym (bit_is n h) ∙ tested.all n h l r };
        first_fits = word_lt reaching 64 0;
        second_fits = word_lt reaching 64 64;
        ones_count = refl;
        points_count = λ set has.
            ones_counted reaching
            ∙ count_same reaching set 128 0
            (λ i h.
            let here : 0 + i < 128 = omega (arith, h) in
            same_tests (reaching (0 + i)) (set (0 + i))
            (λ e. let reached = tested.only (0 + i) here e in has.all (0 + i) here reached.0 reached.1)
            (λ e. let reached = has.only (0 + i) here e in tested.all (0 + i) here reached.0 reached.1));
      }

pub every_cell_says : EveryCellSays
every_cell_says listed knots starts cell h =
    subst (Says listed knots cell) (sym (cell_is listed knots cell h)) (by_words listed knots starts cell h)
