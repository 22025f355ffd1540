-- The theorems of IndexTheorem: the kept index is that of the kept knots (KeptLaws), and of such an index every cell says which points reach it.
use Rattle.std.specs.Prelude.{ℕ, ◌<◌, ◌≡◌, refl, Bool, List, Float, Err, Ok, Result, ⊤}
use Rattle.std.proofs.Common.{sym, ap, ◌∙◌, subst}
use Rattle.grid_index.specs.Index.{index_of, cell_of}
use Rattle.grid_index.specs.declared.Cell.{Cell}
use Rattle.grid_index.specs.declared.Index.{Index}
use Rattle.grid_index.specs.CellTheorem.{Says}
use Rattle.grid_index.proofs.CellProof.{every_cell_says}
use Rattle.surface.specs.Evaluation.{with_knots}
use Rattle.surface.proofs.EvaluationLaws.{ready_mesh}
use Rattle.cells.specs.Cells.{cell_answer_by, cell_points}
use Rattle.t_mesh.specs.declared.t_mesh.Mesh.{Mesh}
use Rattle.t_mesh.specs.declared.t_mesh.Tmesh.{Tmesh}
use Rattle.soundness.specs.IndexTheorem.{KeptIndexIsOfKnots, EveryAnswerSays}
use Rattle.soundness.proofs.KeptLaws.{SoundMap, ready, every_map_sound}
use Rattle.control_point.specs.declared.refusal.Refusal.{Refusal}

pub kept_index_is_of_knots : KeptIndexIsOfKnots
kept_index_is_of_knots e weight at_bottom_left at_bottom_right at_top_right at_top_left calls =
    (every_map_sound e weight at_bottom_left at_bottom_right at_top_right at_top_left calls).index

-- ---- an answer
abbrev pub is_words : Result Cell Refusal → Type 0
is_words (Ok words) = Unit {0}
is_words (Err refusal) = ⊥

abbrev words_in : Cell → Result Cell Refusal → Cell
words_in other (Ok words) = words
words_in other (Err refusal) = other

-- that is words: the building was done, and the words are the cell's
words_are : (outcome : Result ⊤ Refusal) (own words : Cell) → cell_answer_by outcome own ≡ Ok words → (outcome ≡ Ok tt) × (own ≡ words)
words_are (Ok tt) own words is = (refl, ap (words_in own) is)
words_are (Err refusal) own words is = absurd (subst is_words (sym is) tt)

answer_says : (map : Tmesh) → SoundMap map → (e : Float) (cell : ℕ) (words : Cell) → cell < 256 → (cell_points e map cell).answer ≡ Ok words
    → Says map.mesh.listed (cell_points e map cell).map.knots cell words
unfolding cell_points
answer_says map sound e cell words h is =
    let own = (with_knots e map).map in
    let ready-map = ready map sound e in
    let those = words_are (with_knots e map).outcome (cell_of own.index cell) words is in
    let same = ap (λ (mesh : Mesh). mesh.listed) (ready_mesh e map) in
    let index : own.index ≡ index_of map.mesh.listed own.knots =
    ready-map.0.index (ready-map.1 those.0) ∙ ap (λ (listed : List Bool). index_of listed own.knots) same in
    subst (Says map.mesh.listed own.knots cell) (ap (λ (kept : Index). cell_of kept cell) (sym index) ∙ those.1)
    (every_cell_says map.mesh.listed own.knots (λ n _. ready-map.0.rows.starts n) cell h)

pub every_answer_says : EveryAnswerSays
every_answer_says e weight at_bottom_left at_bottom_right at_top_right at_top_left calls =
    answer_says _ (every_map_sound e weight at_bottom_left at_bottom_right at_top_right at_top_left calls)
