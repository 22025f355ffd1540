-- Laws of the index: the words of the columns and of the rows as a loop makes them, point by point; that what each column and row have in common is the index; what
-- the cell of a byte in it is; and that it rests on the listing and on the knots of listed points alone.
use Rattle.std.specs.Prelude.{ℕ, ◌+◌, ◌*◌, ◌%◌, ◌^◌, ◌<◌, ◌≤◌, Bool, ◌&&◌, ◌≡◌, Float, length, set, replicate}
use Rattle.std.proofs.Math.Bool.{true, false}
use mathlib.Core.List.{List}
use Rattle.std.proofs.Math.Path.{refl, sym, ap, ap₂}
use Rattle.std.proofs.Common.{◌∙◌, subst, arith, get_or-set_other}
use Rattle.std.specs.Int.Bits.{bit_and}
use Rattle.std.specs.Int.Count.{ones}
use Rattle.std.proofs.Math.ListN.{get_or}
use Rattle.values.specs.Values.{values_from}
use Rattle.values.proofs.ValuesLaws.{values_length, values_first, values_same, StoredTo, stored_none, stored_more, stored_all}
use Rattle.bit_words.specs.Words.{word_from, count_from}
use Rattle.bit_words.proofs.WordsLaws.{word_same, word_both, word_ones, word_more, one_shifted, count_split}
use Rattle.grid.specs.Grid.{line, cell_column, cell_row, first_knot, last_knot, overlap, on_line, reaches}
use Rattle.ray.specs.declared.knots.PointKnots.{PointKnots}
use Rattle.grid_index.specs.Index.{knots_in, reaches_cell, first_word, second_word, index_of, counted, cell_of}
use Rattle.grid_index.specs.Lines.{knots_across, knots_upwards, on_stretch, stretch_word, marked_by, marked_at, both_word}

-- ---- the words of 16 lines, marked in place
-- those of so many lines are marked, and the others are as they were
pub record MarkedTo (before : List ℕ) (bit : ℕ) (first last : Float) (count : ℕ) (words : List ℕ) : Type 0 where
  pub marked : StoredTo (marked_at before bit first last) 0 16 count words
  pub kept : (n : ℕ) → count ≤ n → get_or words n 0 ≡ get_or before n 0

module _ (before : List ℕ) (bit : ℕ) (first last : Float) where
  pub marked_none : length before ≡ 16 → MarkedTo before bit first last 0 before
  marked_none full = record { marked = stored_none _ 0 16 before full; kept = λ n _. refl }

  pub marked_more : (count : ℕ) (words : List ℕ) (test : Bool) (word : ℕ)
      → count < 16
      → test ≡ overlap first last (line count) (line (count + 1))
      → word ≡ marked_by test (get_or words count 0) bit
      → MarkedTo before bit first last count words
      → MarkedTo before bit first last (count + 1) (set words count word)
  marked_more count words test word h t w so_far =
      record {
        marked =
            stored_more (marked_at before bit first last) 0 16 count words _ h
            (ap (set words count) (w ∙ ap₂ (λ (b : Bool) (old : ℕ). marked_by b old bit) t (so_far.kept count (omega arith)))) so_far.marked;
        kept = λ n l. get_or-set_other words count n word 0 (omega (arith, l)) ∙ so_far.kept n (omega (arith, l));
      }

  pub marked_all : (count : ℕ) (words : List ℕ) → count ≡ 16 → MarkedTo before bit first last count words → words ≡ values_from (marked_at before bit first last) 16 0
  marked_all count words e so_far = stored_all (marked_at before bit first last) 0 16 count words e so_far.marked

-- ---- the words of 16 lines with one point more
module _ (way : PointKnots → List Float) (listed : List Bool) (knots : List PointKnots) (start count n : ℕ) (e : n ≡ start + count) where
  -- the words of so many points
  abbrev words_of : ℕ → List ℕ
  words_of many = values_from (stretch_word way listed knots many start) 16 0

  with_point_lem : (i : ℕ) (b : Bool) → get_or listed n false ≡ b
      → marked_by (b && on_line (way (knots_in knots n)) i) (stretch_word way listed knots count start i) (2 ^ count) ≡ stretch_word way listed knots (count + 1) start i
  with_point_lem i b is =
      ap (λ (test : Bool). marked_by test (stretch_word way listed knots count start i) (2 ^ count))
      (ap (λ (b : Bool). b && on_line (way (knots_in knots n)) i) (sym is) ∙ ap (on_stretch way listed knots i) e)
      ∙ sym (word_more (on_stretch way listed knots i) count start)

  stretch_marked : (before after : List ℕ) → count < 64 → get_or listed n false ≡ true → before ≡ words_of count
      → after ≡ values_from (marked_at before (1 * 2 ^ count % 2 ^ 64) (first_knot (way (knots_in knots n))) (last_knot (way (knots_in knots n)))) 16 0
      → after ≡ words_of (count + 1)
  stretch_marked before after h is stood marked =
      marked
      ∙ values_same _ _ 0 16
      (λ i l.
      ap₂ (λ (word bit : ℕ). marked_by (on_line (way (knots_in knots n)) i) word bit)
      (ap (λ (words : List ℕ). get_or words i 0) stood ∙ values_first (stretch_word way listed knots count start) 0 16 i l)
      (one_shifted count h)
      ∙ with_point_lem i true is)

  stretch_passed : get_or listed n false ≡ false → words_of count ≡ words_of (count + 1)
  stretch_passed is = values_same _ _ 0 16 (λ i l. with_point_lem i false is)

-- ---- the columns and the rows
-- their words, of so many points from a number on
pub record LinesTo (listed : List Bool) (knots : List PointKnots) (start count : ℕ) (columns rows : List ℕ) : Type 0 where
  pub columns_are : columns ≡ values_from (stretch_word knots_across listed knots count start) 16 0
  pub rows_are : rows ≡ values_from (stretch_word knots_upwards listed knots count start) 16 0

pub lines_none : (listed : List Bool) (knots : List PointKnots) (start : ℕ) → LinesTo listed knots start 0 (replicate 16 0) (replicate 16 0)
unfolding values_from word_from
lines_none listed knots start = record { columns_are = refl; rows_are = refl }

module _ {listed : List Bool} {knots : List PointKnots} {start count : ℕ} {columns rows : List ℕ} (lines : LinesTo listed knots start count columns rows) where
  pub lines_full : (length columns ≡ 16) × (length rows ≡ 16)
  lines_full = (
    ap length lines.columns_are ∙ values_length (stretch_word knots_across listed knots count start) 16 0,
    ap length lines.rows_are ∙ values_length (stretch_word knots_upwards listed knots count start) 16 0,
  )

  -- a point that is listed, and marked
  pub lines_marked : (n : ℕ) (columns' rows' : List ℕ)
      → n ≡ start + count
      → count < 64
      → get_or listed n false ≡ true
      → columns' ≡ values_from (marked_at columns (1 * 2 ^ count % 2 ^ 64) (first_knot (knots_in knots n).s) (last_knot (knots_in knots n).s)) 16 0
      → rows' ≡ values_from (marked_at rows (1 * 2 ^ count % 2 ^ 64) (first_knot (knots_in knots n).t) (last_knot (knots_in knots n).t)) 16 0
      → LinesTo listed knots start (count + 1) columns' rows'
  lines_marked n columns' rows' e h is across upwards =
      record {
        columns_are = stretch_marked knots_across listed knots start count n e columns columns' h is lines.columns_are across;
        rows_are = stretch_marked knots_upwards listed knots start count n e rows rows' h is lines.rows_are upwards;
      }

  -- a point that is not listed
  pub lines_passed : (n : ℕ) (columns' rows' : List ℕ) → n ≡ start + count → get_or listed n false ≡ false → columns' ≡ columns → rows' ≡ rows
      → LinesTo listed knots start (count + 1) columns' rows'
  lines_passed n columns' rows' e is across upwards =
      record {
        columns_are = across ∙ lines.columns_are ∙ stretch_passed knots_across listed knots start count n e is;
        rows_are = upwards ∙ lines.rows_are ∙ stretch_passed knots_upwards listed knots start count n e is;
      }

-- ---- the words of the cells
-- with one more, in the next column of a row
pub cells_more : (columns rows words : List ℕ) (row column : ℕ)
    → row < 16
    → column < 16
    → StoredTo (both_word columns rows) 0 256 (row * 16 + column) words
    → StoredTo (both_word columns rows) 0 256 (row * 16 + (column + 1)) (set words (row * 16 + column) (bit_and (get_or columns column 0) (get_or rows row 0)))
cells_more columns rows words row column h k so_far =
    subst (λ (count : ℕ). StoredTo (both_word columns rows) 0 256 count (set words (row * 16 + column) (bit_and (get_or columns column 0) (get_or rows row 0)))) (omega arith)
    (stored_more (both_word columns rows) 0 256 (row * 16 + column) words _ (omega (arith, h, k))
    (ap (set words (row * 16 + column))
    (ap₂ (λ (c r : ℕ). bit_and (get_or columns c 0) (get_or rows r 0)) (omega (arith, k)) (omega (arith, k)))) so_far)

-- all of them, where every row has had its turn
pub cells_all : (columns rows words : List ℕ) (row : ℕ) → row ≡ 16 → StoredTo (both_word columns rows) 0 256 (row * 16) words → words ≡ values_from (both_word columns rows) 256 0
cells_all columns rows words row e so_far = stored_all (both_word columns rows) 0 256 (row * 16) words (omega (arith, e)) so_far

-- the test of a listed point and a cell is that of the cell's column and that of its row
both_ways : (listed column row : Bool) → ((listed && column) && (listed && row)) ≡ (listed && (column && row))
both_ways true column row = refl
both_ways false column row = refl

module _ (listed : List Bool) (knots : List PointKnots) where
  -- a cell's word is what those of its column and its row have in common
  cell_word : (start cell : ℕ)
      → bit_and (stretch_word knots_across listed knots 64 start (cell_column cell)) (stretch_word knots_upwards listed knots 64 start (cell_row cell)) ≡ word_from (reaches_cell listed knots cell) 64 start
  cell_word start cell =
      word_both (on_stretch knots_across listed knots (cell_column cell)) (on_stretch knots_upwards listed knots (cell_row cell)) 64 start
      ∙ word_same _ (reaches_cell listed knots cell) 64 start
      (λ i _. both_ways (get_or listed (start + i) false) (on_line (knots_in knots (start + i)).s (cell_column cell)) (on_line (knots_in knots (start + i)).t (cell_row cell)))

  words_built : (start : ℕ) (columns rows : List ℕ) → LinesTo listed knots start 64 columns rows
      → values_from (both_word columns rows) 256 0 ≡ values_from (λ (cell : ℕ). word_from (reaches_cell listed knots cell) 64 start) 256 0
  words_built start columns rows lines =
      values_same _ _ 0 256
      (λ cell h.
      ap₂ bit_and
      (ap (λ (words : List ℕ). get_or words (cell_column cell) 0) lines.columns_are ∙ values_first (stretch_word knots_across listed knots 64 start) 0 16 (cell_column cell) (omega arith))
      (ap (λ (words : List ℕ). get_or words (cell_row cell) 0) lines.rows_are ∙ values_first (stretch_word knots_upwards listed knots 64 start) 0 16 (cell_row cell) (omega (arith, h)))
      ∙ cell_word start cell)

  -- THE INDEX, made of them
  pub index_built : (count : ℕ) (columns rows later-columns later_rows first second : List ℕ)
      → count ≡ 64
      → LinesTo listed knots 0 count columns rows
      → LinesTo listed knots 64 count later-columns later_rows
      → first ≡ values_from (both_word columns rows) 256 0
      → second ≡ values_from (both_word later-columns later_rows) 256 0
      → record { first = first; second = second } ≡ index_of listed knots
  unfolding index_of
  index_built count columns rows later-columns later_rows first second whole lines later e f =
      rw (
        e ∙ words_built 0 columns rows (subst (λ (count : ℕ). LinesTo listed knots 0 count columns rows) whole lines),
        f ∙ words_built 64 later-columns later_rows (subst (λ (count : ℕ). LinesTo listed knots 64 count later-columns later_rows) whole later),
      )

  -- THE CELL of a byte in it
  pub cell_is : (cell : ℕ) → cell < 256 → cell_of (index_of listed knots) cell ≡ counted (first_word listed knots cell) (second_word listed knots cell)
  unfolding index_of
  cell_is cell h = ap₂ counted (values_first (first_word listed knots) 0 256 cell h) (values_first (second_word listed knots) 0 256 cell h)

-- the ones in two words of a set are as many as the set has numbers
pub ones_counted : (set : ℕ → Bool) → ones (word_from set 64 0) + ones (word_from set 64 64) ≡ count_from set 128 0
ones_counted set = ap₂ (λ (a b : ℕ). a + b) (word_ones set 64 0) (word_ones set 64 64) ∙ sym (count_split set 64 64 0)

-- ---- THE INDEX IS THE SAME where the listings and the knots of the listed points are
module _ (listed listed' : List Bool) (knots knots' : List PointKnots) where
  pub index_same : ((n : ℕ) → n < 128 → get_or listed n false ≡ get_or listed' n false)
      → ((n : ℕ) → n < 128 → get_or listed n false ≡ true → knots_in knots n ≡ knots_in knots' n)
      → index_of listed knots ≡ index_of listed' knots'
  unfolding index_of
  index_same listings rows =
      ap₂ (λ (first second : List ℕ). record { first = first; second = second }) (half 0 (omega arith)) (half 64 (omega arith))
    where
      alike : (cell n : ℕ) (b : Bool) → get_or listed n false ≡ b → n < 128 → reaches_cell listed knots cell n ≡ reaches_cell listed' knots' cell n
      alike cell n true e h =
          ap₂ (λ (b : Bool) (own : PointKnots). b && reaches own (cell_column cell) (cell_row cell)) (listings n h) (rows n h e)
      alike cell n false e h =
          ap (λ (b : Bool). b && reaches (knots_in knots n) (cell_column cell) (cell_row cell)) e
          ∙ sym (ap (λ (b : Bool). b && reaches (knots_in knots' n) (cell_column cell) (cell_row cell)) (sym (listings n h) ∙ e))

      half : (start : ℕ) → start ≤ 64
          → values_from (λ (cell : ℕ). word_from (reaches_cell listed knots cell) 64 start) 256 0
          ≡ values_from (λ (cell : ℕ). word_from (reaches_cell listed' knots' cell) 64 start) 256 0
      half start h =
          values_same _ _ 0 256
          (λ cell _. word_same _ _ 64 start (λ i l. alike cell (start + i) (get_or listed (start + i) false) refl (omega (arith, l, h))))
