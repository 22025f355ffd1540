-- THE LEDGER OF SIDES. Take any list of insertions, with evaluations, set-points, questions of cells and settings of pulls among them or none, on a fresh map of any border weight and corners,
-- with any closeness and any arguments, calls refused, torn or withdrawn among them. Let C be how many insertions are answered done or torn and are not withdrawn, O the
-- sum of the sides that they opened and I the sum of the links that they inferred, as they answer. Then the map that the list leaves has
--
--   points made    4 + C
--   two-way links  4 + C + I
--   borders        8 + 2 × C − O
--   openings       O − 2 × I
--
-- and neither difference is cut off at 0. The left sides are counted from the mesh, as the calls `counts` and `openings` answer them; the right sides take the answers
-- alone. `counts` answers the points listed too: they are 4 and the insertions done. Each link has its mirror, with the same interval, bit for bit.
use Rattle.std.specs.Prelude.{ℕ, ◌+◌, ◌*◌, ◌<◌, ◌≤◌, Bool, List, [], ◌∷◌, ◌≡◌, Float, Result}
use Rattle.control_point.specs.declared.t_mesh_control_point.Side.TheVariants.{Link}
use Rattle.control_point.specs.declared.t_mesh_direction.TmeshDirection.{TmeshDirection}
use Rattle.store.specs.Store.{store_sides}
use Rattle.mirror.specs.Mirror.{MirrorOf}
use Rattle.t_mesh.specs.Tmesh.{store_of, new_tmesh}
use Rattle.t_mesh.specs.declared.t_mesh.Position.{Position}
use Rattle.t_mesh.specs.declared.t_mesh.Tmesh.{Tmesh}
use Rattle.census.specs.Census.{counts_of}
use Rattle.openings.specs.Openings.{openings_of, openings_answer}
use Rattle.calls.specs.Calls.{Call, Answer, inserted, evaluated, questioned, pulled, call_withdraws, Event, run_of}
use Rattle.soundness.specs.MapCalls.{map_after_all, entries}
use Rattle.soundness.specs.Theorems.{EveryMap}
use Rattle.ledger.specs.Ledger.{entered_before, done_or_torn, sides_opened, links_inferred, counts_by, openings_by}
use Rattle.control_point.specs.declared.refusal.Refusal.{Refusal}
use Rattle.insertion.specs.declared.insertion.Insertion.{Insertion}

-- an answer before others, if it is that of an insertion that is not withdrawn
abbrev pub answer_before : Bool → Answer → List (Result Insertion Refusal) → List (Result Insertion Refusal)
answer_before withdraws (inserted answer) rest = entered_before withdraws answer rest
answer_before withdraws (evaluated answer) rest = rest
answer_before withdraws (questioned answer) rest = rest
answer_before withdraws (pulled outcome) rest = rest

-- what the insertions of a run that are not withdrawn answered, in order
unfoldable pub entered_answers : List Event → List (Result Insertion Refusal)
entered_answers [] = []
entered_answers (event ∷ rest) = answer_before (call_withdraws event.call) event.answer (entered_answers rest)

-- what is said of a map and of the answers of the insertions that made it from a fresh one:
-- the points made and listed, the two-way links and the borders;
-- the openings;
-- that both differences are whole;
-- and that each link has its mirror (`Mirrored` of crates/mirror, written out so that the interval is seen)
pub record HasLedger (map : Tmesh) (answers : List (Result Insertion Refusal)) : Type 0 where
  pub counts : counts_of map ≡ counts_by answers
  pub openings : (openings_answer (openings_of (store_of map))).count ≡ openings_by answers
  pub borders_whole : sides_opened answers ≤ 8 + 2 * done_or_torn answers
  pub openings_whole : 2 * links_inferred answers ≤ sides_opened answers
  pub mirrored : (n : ℕ) (d : TmeshDirection) (m : ℕ) (interval : Float) → n < (store_of map).made → store_sides (store_of map) n d ≡ Link m interval
      → MirrorOf (store_of map).made (store_sides (store_of map)) n d m interval

abbrev pub LedgerOfSides : Type 0
LedgerOfSides =
    (e weight : Float) (at_bottom_left at_bottom_right at_top_right at_top_left : Position) (calls : List Call)
    → let fresh = new_tmesh weight at_bottom_left at_bottom_right at_top_right at_top_left in
    HasLedger (map_after_all e fresh (entries calls)) (entered_answers (run_of e fresh calls))

-- ---- with direct calls too
-- Direct calls change sides by themselves, so that no ledger of insertions holds of a list with them. What holds after every list of calls (`MapCall`), direct ones among them, is that
-- the four sides of each point made are counted, once each: both sides of each two-way link, the borders and the openings.
abbrev pub SidesAddUp : Type 0
SidesAddUp = EveryMap (λ map. 4 * (counts_of map).made ≡ 2 * (counts_of map).links + (counts_of map).borders + (openings_answer (openings_of (store_of map))).count)
