-- The ledger of sides by the stored answers of a list's insertions: with C the insertions done or torn, O and I the sums of their
-- opened and inferred counts, there are 4 + C points made, 4 + C + I two-way links, 8 + 2 × C − O borders and O − 2 × I openings; and 4 points more are listed
-- than insertions are done. A withdrawn insertion is in none of them. Nothing here asks what an insertion does: the totals are of stored bytes, the counts are of the map.
use Rattle.std.specs.Prelude.{ℕ, ◌+◌, ◌*◌, ◌%◌, Bool, true, false, cond, ◌&&◌, List, eqb, ltb, length}
use Rattle.big_endian.specs.BigEndian.{byte_at}
use Rattle.census.specs.Census.{counts_of}
use Rattle.census.specs.declared.census.Counts.{Counts}
use Rattle.openings.specs.Openings.{openings_of}
use Rattle.t_mesh.specs.Tmesh.{store_of}
use Rattle.t_mesh.specs.declared.t_mesh.Tmesh.{Tmesh}
use Rattle.stored_ledger.specs.declared.Totals.{Totals}

-- ---- a stored insertion
-- where its number and its two counts stand
abbrev pub number_place : ℕ
number_place = 35

abbrev pub opened_place : ℕ
opened_place = 36

abbrev pub inferred_place : ℕ
inferred_place = 37

-- ---- the totals
abbrev pub no_calls : Totals
no_calls = record { done = 0; torn = 0; opened = 0; inferred = 0; direct = false }

-- more than any total: a list has at most 65,535 calls, and each adds at most 255
abbrev pub most : ℕ
most = 0x8000_0000

-- a total with more in it: the remainder is the total itself
abbrev pub with_more : ℕ → ℕ → ℕ
with_more total more = total % most + more

-- after an insertion that made a point
abbrev pub with_made : Totals → ℕ → ℕ → List ℕ → Totals
with_made ledger done torn call = record {
  done = with_more ledger.done done;
  torn = with_more ledger.torn torn;
  opened = with_more ledger.opened (byte_at call opened_place);
  inferred = with_more ledger.inferred (byte_at call inferred_place);
  direct = ledger.direct;
}

-- after an insertion, by its number: 0 is done, 8 is torn, any other a refusal, which made no point
abbrev pub with_insertion : Totals → List ℕ → Totals
with_insertion ledger call =
    cond (eqb (byte_at call number_place) 0) (with_made ledger 1 0 call) (cond (eqb (byte_at call number_place) 8) (with_made ledger 0 1 call) ledger)

-- after one that is withdrawn where it is torn, and is then in none of the totals
abbrev pub with_withdrawing : Totals → List ℕ → Totals
with_withdrawing ledger call = cond (eqb (byte_at call number_place) 0) (with_made ledger 1 0 call) ledger

abbrev pub with_direct_call : Totals → Totals
with_direct_call ledger = record {
  done = ledger.done;
  torn = ledger.torn;
  opened = ledger.opened;
  inferred = ledger.inferred;
  direct = true;
}

-- after a call, by its kind: 0 is an insertion, 10 one that is withdrawn where it is torn, 16 and above a direct call; any other changes no side
abbrev pub with_call : Totals → List ℕ → Totals
with_call ledger call =
    cond (eqb (byte_at call 0) 0) (with_insertion ledger call)
    (cond (eqb (byte_at call 0) 10) (with_withdrawing ledger call) (cond (ltb (byte_at call 0) 16) ledger (with_direct_call ledger)))

-- ---- the counts
abbrev pub done_or_torn : Totals → ℕ
done_or_torn ledger = ledger.done + ledger.torn

abbrev pub points_are_right : Totals → Counts → Bool
points_are_right ledger counts = eqb counts.made (4 + done_or_torn ledger) && eqb counts.listed (4 + ledger.done)

-- what the request subtracts is added on the other side, so that nothing is cut off at 0
abbrev pub sides_are_right : Totals → Counts → ℕ → Bool
sides_are_right ledger counts openings =
    eqb counts.links (4 + done_or_torn ledger + ledger.inferred)
    && (eqb (counts.borders + ledger.opened) (8 + 2 * done_or_torn ledger) && eqb (openings + 2 * ledger.inferred) ledger.opened)

-- whether the counts are what the totals say, where no direct call was made
abbrev pub ledger_is_right : Totals → Counts → ℕ → Bool
ledger_is_right ledger counts openings = cond ledger.direct true (points_are_right ledger counts && sides_are_right ledger counts openings)

abbrev pub ledger_holds : Totals → Tmesh → Bool
ledger_holds ledger map = ledger_is_right ledger (counts_of map) (length (openings_of (store_of map)))
