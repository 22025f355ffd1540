-- Worked examples of questions, on a map with border 1.0 and any four corners, at a closeness of a millionth. No reading looks at a position, so those of the corners and of the
-- points inserted are any.
use Rattle.std.specs.Prelude.{ℕ, zero, suc, ◌≡◌, Ok, Result}
use Rattle.float64.specs.Literals.{one_literal}
use Rattle.control_point.specs.Small.{millionth}
use Rattle.control_point.specs.declared.t_mesh_direction.TmeshDirection.TheVariants.{Right}
use Rattle.store.specs.Store.{make_loose}
use Rattle.store.specs.declared.store.Store.{Store}
use Rattle.t_mesh.specs.Tmesh.{store_of, with_store}
use Rattle.t_mesh.specs.declared.t_mesh.Position.{Position}
use Rattle.t_mesh.specs.declared.t_mesh.Tmesh.{Tmesh}
use Rattle.cells.specs.Cells.{cell_points}
use Rattle.calls.specs.ExampleValues.{half}
use Rattle.calls.specs.Readings.{plate, inserted, after_first}
use Rattle.control_point.specs.declared.refusal.Refusal.{Refusal}
use Rattle.grid_index.specs.declared.Cell.{Cell}

-- a question's answer, and the answer of two words and a count
abbrev pub answer_for : Tmesh → ℕ → Result Cell Refusal
answer_for map cell = (cell_points millionth map cell).answer

abbrev pub words_are : ℕ → ℕ → ℕ → Result Cell Refusal
words_are first second count = Ok (record { first = first; second = second; count = count })

-- a store with so many points more, each made alone
unfoldable pub loosened : ℕ → Store → Store
loosened zero store = store
loosened (suc more) store = loosened more (make_loose store one_literal).store

module _ (at_bottom_left at_bottom_right at_top_right at_top_left position : Position) where
  -- the fresh map
  abbrev pub fresh : Tmesh
  fresh = plate at_bottom_left at_bottom_right at_top_right at_top_left position

  -- after 0.5 from 0 Right, and again
  abbrev pub after_two : Tmesh
  after_two =
      (inserted at_bottom_left at_bottom_right at_top_right at_top_left position (after_first at_bottom_left at_bottom_right at_top_right at_top_left position).map 0 Right half).map

  -- with 60 points made alone, none of them listed, and then 0.5 from 0 Right: the point inserted has number 64
  abbrev pub with_sixty_four : Tmesh
  with_sixty_four = (inserted at_bottom_left at_bottom_right at_top_right at_top_left position (with_store fresh (loosened 60 (store_of fresh))) 0 Right half).map

  pub record CellReadings : Type 0 where
    -- the fresh map's cell at the left of the top row: all four corners reach it
    pub all_corners : answer_for fresh 240 ≡ words_are 15 0 4
    -- of six points the first has its outer s knots at −1 and 0.5, so that it misses the last cell of the bottom row; the five others reach it
    pub one_misses : answer_for after_two 15 ≡ words_are 62 0 5
    -- the bit of point 64 is the second word's first
    pub second_word : answer_for with_sixty_four 0 ≡ words_are 15 1 5

-- for every four corners and position
abbrev pub PlateCells : Type 0
PlateCells = (at_bottom_left at_bottom_right at_top_right at_top_left position : Position) → CellReadings at_bottom_left at_bottom_right at_top_right at_top_left position
