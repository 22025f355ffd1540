-- The ledger of a list of insertions: what their answers, done, torn or refused, say of the sides of the map that they leave. Nothing but the answers is looked at. A
-- withdrawn insertion has no place in it.
use Rattle.std.specs.Prelude.{ℕ, ◌+◌, ◌*◌, ◌-◌, Bool, List, [], ◌∷◌, Err, Ok, Result}
use Rattle.insertion.specs.Withdrawal.{unless_withdrawn}
use Rattle.insertion.specs.declared.insertion.Insertion.TheVariants.{Done, Torn}
use Rattle.census.specs.declared.census.Counts.{Counts}
use Rattle.control_point.specs.declared.refusal.Refusal.{Refusal}
use Rattle.insertion.specs.declared.insertion.Insertion.{Insertion}

-- ---- which answers are entered
-- an answer before others, unless it is that of a withdrawn insertion
abbrev pub entered_before : Bool → Result Insertion Refusal → List (Result Insertion Refusal) → List (Result Insertion Refusal)
entered_before withdraws answer rest = unless_withdrawn withdraws answer rest (answer ∷ rest)

-- of a list of answers, where torn insertions are withdrawn or are not
unfoldable pub entered : Bool → List (Result Insertion Refusal) → List (Result Insertion Refusal)
entered withdraws [] = []
entered withdraws (answer ∷ rest) = entered_before withdraws answer (entered withdraws rest)

-- ---- what one answer says
-- whether a point was made, 1 or 0, and whether it was listed
abbrev pub made_by : Result Insertion Refusal → ℕ
made_by (Ok (Done opened inferred)) = 1
made_by (Ok (Torn opened inferred)) = 1
made_by (Err refusal) = 0

abbrev pub listed_by : Result Insertion Refusal → ℕ
listed_by (Ok (Done opened inferred)) = 1
listed_by (Ok (Torn opened inferred)) = 0
listed_by (Err refusal) = 0

-- how many sides were opened, and how many links inferred
abbrev pub opened_by : Result Insertion Refusal → ℕ
opened_by (Ok (Done opened inferred)) = opened
opened_by (Ok (Torn opened inferred)) = opened
opened_by (Err refusal) = 0

abbrev pub inferred_by : Result Insertion Refusal → ℕ
inferred_by (Ok (Done opened inferred)) = inferred
inferred_by (Ok (Torn opened inferred)) = inferred
inferred_by (Err refusal) = 0

-- ---- summed over all answers
unfoldable pub total : (Result Insertion Refusal → ℕ) → List (Result Insertion Refusal) → ℕ
total number [] = 0
total number (answer ∷ rest) = number answer + total number rest

-- C, the insertions done or torn, no withdrawn one among them
abbrev pub done_or_torn : List (Result Insertion Refusal) → ℕ
done_or_torn = total made_by

-- its O, the sides that they opened
abbrev pub sides_opened : List (Result Insertion Refusal) → ℕ
sides_opened = total opened_by

-- its I, the links that they inferred
abbrev pub links_inferred : List (Result Insertion Refusal) → ℕ
links_inferred = total inferred_by

-- the insertions done
abbrev pub insertions_done : List (Result Insertion Refusal) → ℕ
insertions_done = total listed_by

-- ---- the map that they leave of a fresh one
-- what `counts` answers of it
abbrev pub counts_by : List (Result Insertion Refusal) → Counts
counts_by answers =
    record {
      made = 4 + done_or_torn answers;
      listed = 4 + insertions_done answers;
      links = 4 + done_or_torn answers + links_inferred answers;
      borders = 8 + 2 * done_or_torn answers - sides_opened answers;
    }

-- how many openings it has
abbrev pub openings_by : List (Result Insertion Refusal) → ℕ
openings_by answers = sides_opened answers - 2 * links_inferred answers
