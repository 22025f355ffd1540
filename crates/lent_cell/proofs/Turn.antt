-- Laws of a question that goes point by point over a lent mesh and keeps no knots: a point's test over the arrays is that by the knots of all, so the words so far are those of the
-- points below n, and the end of the turns is the answer of `cell_points`.
use Prim.Native.Nat.{ℕ, ◌+◌, ◌*◌, ◌-◌, ◌/◌, ◌%◌, ◌^◌, ◌<◌, min}
use mathlib.Core.Path.{◌≡◌, refl, sym, ap, ap₂, ◌∙◌}
use mathlib.Core.Bool.{Bool, true, false, ◌&&◌}
use mathlib.Core.List.{List, []}
use native.Mathlib.Omega.{arith}
use borrow.Author.Tests.{eqb-true, eqb-false}
use lib.Dec.{eqb}
use lib.Ieee.{Float}
use Rattle.bit_words.specs.Words.{word_from}
use Rattle.bit_words.proofs.WordsLaws.{word_more, one_shifted}
use Rattle.cells.specs.Cells.{cell_answer_by, cell_points}
use Rattle.control_point.specs.declared.refusal.Refusal.{Refusal}
use Rattle.grid.specs.Grid.{cell_column, cell_row, reaches}
use Rattle.grid_index.specs.Index.{knots_in, reaches_cell, index_of, counted, cell_of}
use Rattle.grid_index.proofs.IndexLaws.{cell_is}
use Rattle.grid_index.specs.Lines.{marked_by}
use Rattle.knot_vectors.specs.Knots.{AllKnots, all, none, all_knots, keeping, generate_knot_vectors}
use Rattle.lent_knots.proofs.TurnLaws.{FilledTo, lent_knots, filled_none, filled_all, filled_passed, filled_refused, filled_put, filled_row}
use Rattle.lent_mesh.specs.LentMesh.{lent_mesh, unkept, lent_map}
use Rattle.lent_mesh.specs.declared.LentMesh.{LentMesh}
use Rattle.lent_points.specs.declared.LentPoints.{LentPoints}
use Rattle.ray.specs.declared.knots.KnotsAnswer.{KnotsAnswer}
use Rattle.ray.specs.declared.knots.PointKnots.{PointKnots}
use Rattle.surface.specs.Evaluation.{with_knots}
use Rattle.t_mesh.specs.Tmesh.{listed_in}
use Rattle.t_mesh.specs.declared.t_mesh.Mesh.{Mesh}
use Rattle.t_mesh.specs.declared.t_mesh.Tmesh.{Tmesh}
use Rattle.std.specs.Prelude.{Err, Ok}

-- ---- the words, number by number
-- of the 64 numbers whose quotient by 64 is `half`, the word of those below n
abbrev word_to : (ℕ → Bool) → ℕ → ℕ → ℕ
word_to set half n = word_from set (min (n - half * 64) 64) (half * 64)

-- the bit of a number, as code makes it
abbrev pub bit_at : ℕ → ℕ
bit_at n = 1 * 2 ^ (n % 64) % 2 ^ 64

-- one number more: its bit, where it is in the set and in this half
word_next : (set : ℕ → Bool) (half n word : ℕ) (b : Bool) → word ≡ word_to set half n → b ≡ set n
    → marked_by (b && eqb (n / 64) half) word (bit_at n) ≡ word_to set half (n + 1)
word_next set half n word b so_far is = by_half (eqb (n / 64) half) refl
  where
    here : (b : Bool) → (b && true) ≡ b
    here true = refl
    here false = refl

    passed : (b : Bool) → marked_by (b && false) word (bit_at n) ≡ word
    passed true = refl
    passed false = refl

    by_half : (test : Bool) → eqb (n / 64) half ≡ test → marked_by (b && test) word (bit_at n) ≡ word_to set half (n + 1)
    by_half true e =
        let quotient = eqb-true (n / 64) half e in
        ap (λ (t : Bool). marked_by t word (bit_at n)) (here b ∙ is ∙ ap set (omega arith))
        ∙ ap₂ (λ (w bit : ℕ). marked_by (set (half * 64 + n % 64)) w bit)
        (so_far ∙ ap (λ (width : ℕ). word_from set width (half * 64)) (omega arith))
        (one_shifted (n % 64) (omega arith))
        ∙ sym (word_more set (n % 64) (half * 64))
        ∙ ap (λ (width : ℕ). word_from set width (half * 64)) (omega arith)
    by_half false e =
        let other = eqb-false (n / 64) half e in
        passed b ∙ so_far ∙ ap (λ (width : ℕ). word_from set width (half * 64)) (omega arith)

-- the two words of a cell, as far as the points below n have part in them
pub record WordsTo (listed : List Bool) (rows : List PointKnots) (cell n first second : ℕ) : Type 0 where
  pub first_is : first ≡ word_to (reaches_cell listed rows cell) 0 n
  pub second_is : second ≡ word_to (reaches_cell listed rows cell) 1 n

-- a lent mesh of points, of which so many are made, and a listing; the positions have no part in what is asked
abbrev pub unplaced : LentPoints → ℕ → List Bool → LentMesh
unplaced points made listed = record { points = points; made = made; positions = []; listed = listed }

module _ (listed : List Bool) (rows : List PointKnots) (cell : ℕ) where
  words_none : WordsTo listed rows cell 0 0 0
  unfolding word_from
  words_none = record { first_is = refl; second_is = refl }

  words_next : (n first second : ℕ) → WordsTo listed rows cell n first second → (reached : Bool) → reached ≡ reaches_cell listed rows cell n
      → (first' second' : ℕ) → first' ≡ marked_by (reached && eqb (n / 64) 0) first (bit_at n) → second' ≡ marked_by (reached && eqb (n / 64) 1) second (bit_at n)
      → WordsTo listed rows cell (n + 1) first' second'
  words_next n first second words reached is first' second' a b =
      record {
        first_is = a ∙ word_next (reaches_cell listed rows cell) 0 n first reached words.first_is is;
        second_is = b ∙ word_next (reaches_cell listed rows cell) 1 n second reached words.second_is is;
      }

  words_all : (n first second : ℕ) → n ≡ 128 → WordsTo listed rows cell n first second → cell < 256 → counted first second ≡ cell_of (index_of listed rows) cell
  words_all n first second h words fits =
      let set = reaches_cell listed rows cell in
      ap₂ counted (words.first_is ∙ ap (word_to set 0) h) (words.second_is ∙ ap (word_to set 1) h) ∙ sym (cell_is listed rows cell fits)

-- ---- what stands at a turn: the rows of the points below n are filled, and where no refusal is to come the words by the knots of all are those of the points below n
pub record Turn (e : Float) (mesh : Mesh) (cell n first second : ℕ) : Type 0 where
  pub filled : FilledTo e mesh n
  pub words : (rows : List PointKnots) → all_knots e (unkept mesh) ≡ all rows → WordsTo mesh.listed rows cell n first second

-- ---- `cell_points` of a map that keeps no knots: its answer, by the knots of all listed points or the refusal met
cell_by : (e : Float) (mesh : Mesh) (cell : ℕ) (rows : AllKnots) → all_knots e (unkept mesh) ≡ rows
    → (cell_points e (unkept mesh) cell).answer ≡ cell_answer_by (keeping (unkept mesh) rows).outcome (cell_of (keeping (unkept mesh) rows).map.index cell)
unfolding cell_points with_knots generate_knot_vectors unkept
cell_by e mesh cell rows are = ap (λ (r : AllKnots). cell_answer_by (keeping (unkept mesh) r).outcome (cell_of (keeping (unkept mesh) r).map.index cell)) are

-- ---- the turns, in the map that lent arrays hold
module _ (e : Float) (arrays : LentMesh) (cell : ℕ) (positions : List (List Float)) where
  abbrev lent : LentMesh
  lent = record arrays { positions = positions }

  abbrev map : Tmesh
  map = lent_map lent

  abbrev mesh : Mesh
  mesh = lent_mesh lent

  abbrev pub LentTurn : ℕ → ℕ → ℕ → Type 0
  LentTurn n first second = Turn e mesh cell n first second

  pub turn_first : LentTurn 0 0 0
  turn_first =
      record {
        filled = filled_none e lent;
        words = λ rows are. words_none arrays.listed rows cell;
      }

  module _ (n first second : ℕ) (turn : LentTurn n first second) where
    pub turn_end : n ≡ 128 → cell < 256 → Ok (counted first second) ≡ (cell_points e map cell).answer
    unfolding unkept
    turn_end h fits =
        let rows = turn.filled.rows in
        let are = filled_all e lent n turn.filled h in
        ap Ok (words_all arrays.listed rows cell n first second h (turn.words rows are) fits) ∙ sym (cell_by e mesh cell (all rows) are)

    module _ (h : n < 128) where
      pub turn_passed : listed_in arrays.listed n ≡ false → (first' second' : ℕ) → first' ≡ first → second' ≡ second → LentTurn (n + 1) first' second'
      turn_passed l first' second' a b =
          record {
            filled = filled_passed e lent n turn.filled h l;
            words = λ rows are.
                words_next arrays.listed rows cell n first second (turn.words rows are) false (sym (ap (λ (x : Bool). x && reaches (knots_in rows n) (cell_column cell) (cell_row cell)) l))
                first' second' a b;
          }

      module _ (built : KnotsAnswer) (k : built ≡ lent_knots e arrays n) (l : listed_in arrays.listed n ≡ true) where
        pub turn_refused : (refusal : Refusal) → built.outcome ≡ Err refusal → Err refusal ≡ (cell_points e map cell).answer
        turn_refused refusal o =
            sym (cell_by e mesh cell (none refusal) (filled_refused e lent n turn.filled h built k l refusal o))

        pub turn_marked : built.outcome ≡ Ok tt → (reached : Bool) → reached ≡ reaches built.knots (cell_column cell) (cell_row cell)
            → (first' second' : ℕ) → first' ≡ marked_by (reached && eqb (n / 64) 0) first (bit_at n) → second' ≡ marked_by (reached && eqb (n / 64) 1) second (bit_at n)
            → LentTurn (n + 1) first' second'
        turn_marked o reached is first' second' a b =
            record {
              filled = filled_put e lent n turn.filled h built k l o;
              words = λ rows are. words_next arrays.listed rows cell n first second (turn.words rows are) reached (tested rows are) first' second' a b;
            }
          where
            tested : (rows : List PointKnots) → all_knots e map ≡ all rows → reached ≡ reaches_cell arrays.listed rows cell n
            tested rows are =
                is
                ∙ ap₂ (λ (x : Bool) (own : PointKnots). x && reaches own (cell_column cell) (cell_row cell)) (sym l)
                (sym (filled_row e lent n turn.filled h built k l o rows are))
