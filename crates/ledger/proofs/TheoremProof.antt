-- The ledger holds because a fresh map has four links and eight borders, and each call moves what its sides come to by what its answer says; a withdrawn insertion moves nothing.
use Rattle.std.specs.Prelude.{ℕ, ◌+◌, ◌*◌, ◌≡◌, Bool, true, false, cond, ◌&&◌, ◌||◌, List, [], ◌∷◌, eqb, Float, Err, Ok, Result}
use Rattle.std.proofs.Math.Path.{refl, ap}
use Rattle.std.proofs.Common.{sym, ◌∙◌, subst}
use native.Mathlib.Omega.{arith}
use Rattle.float64.specs.Literals.{one_literal}
use Rattle.counting.specs.Counting.{count_below, sum_below}
use Rattle.counting.proofs.CountLaws.{count_same}
use Rattle.counting.proofs.SumLaws.{count_with}
use Rattle.control_point.specs.Direction.{flip_of}
use Rattle.control_point.specs.Point.{is_made, is_link, is_border, is_opening}
use Rattle.control_point.specs.Sides.{sides_of}
use Rattle.control_point.specs.declared.t_mesh_control_point.Side.TheVariants.{Link, Border, Opening}
use Rattle.control_point.specs.declared.t_mesh_direction.TmeshDirection.{TmeshDirection}
use Rattle.control_point.specs.declared.t_mesh_direction.TmeshDirection.TheVariants.{Up, Right, Down, Left}
use Rattle.store.specs.declared.store.Store.{Store}
use Rattle.insertion.specs.Insert.{is_done, is_refused, insert_point}
use Rattle.insertion.specs.Withdrawal.{is_withdrawn}
use Rattle.insertion.specs.declared.insertion.Insertion.TheVariants.{Done, Torn}
use Rattle.insertion.specs.declared.insertion.Inserted.{Inserted}
use Rattle.t_mesh.specs.Insertion.{after_insertion, add_control_point}
use Rattle.t_mesh.specs.Tmesh.{store_of, mesh_store, listed_in, is_listed, corner_store, new_tmesh}
use Rattle.t_mesh.specs.declared.t_mesh.Mesh.{Mesh}
use Rattle.t_mesh.specs.declared.t_mesh.Position.{Position}
use Rattle.t_mesh.specs.declared.t_mesh.Tmesh.{Tmesh}
use Rattle.surface.specs.Evaluation.{subs_of}
use Rattle.surface.proofs.EvaluationLaws.{ready_mesh}
use Rattle.surface.proofs.SetPointLaws.{set_point_leaves}
use Rattle.cells.specs.Cells.{cell_points}
use Rattle.census.specs.Census.{counts_of}
use Rattle.census.proofs.CensusLaws.{same_counts}
use Rattle.openings.specs.Openings.{openings_of}
use Rattle.openings.proofs.OpeningsLaws.{answer_count}
use Rattle.calls.specs.Calls.{Call, insertion, evaluation, set_point_call, question, pulling, map_after, run_of}
use Rattle.calls.proofs.PullingLaws.{pulled_case}
use Rattle.soundness.proofs.FreshLaws.{sound_fresh}
use Rattle.soundness.proofs.InsertionLaws.{Grown}
use Rattle.soundness.specs.MapCalls.{entry, map_after_all, entries}
use Rattle.soundness.proofs.MapLaws.{SoundMesh, unlisted, insertion_grown, insertion_lists, sound_call}
use Rattle.ledger.specs.Ledger.{made_by, listed_by, opened_by, inferred_by, total, done_or_torn, insertions_done, sides_opened, links_inferred, counts_by}
use Rattle.ledger.specs.Theorem.{entered_answers, HasLedger, LedgerOfSides}
use Rattle.ledger.proofs.PriceLaws.{Price, worth}
use Rattle.ledger.proofs.ChangeLaws.{worth_of, Prices}
use Rattle.ledger.proofs.BookingLaws.{Booked, books}
use Rattle.ledger.proofs.CountedLaws.{passing, ahead, worth_passing, worth_ahead, worth_openings}
use Rattle.control_point.specs.declared.refusal.Refusal.{Refusal}
use Rattle.insertion.specs.declared.insertion.Insertion.{Insertion}

-- ---- a step from one mesh to another
-- with so many points more, so many of them listed, its sides come to what was booked
record Step (before : Mesh) (made listed opened inferred : ℕ) (after : Mesh) : Type 0 where
  made_is : after.made ≡ before.made + made
  listed_is : count_below 128 (listed_in after.listed) ≡ count_below 128 (listed_in before.listed) + listed
  booked : Booked (mesh_store before) made opened inferred (mesh_store after)

no_step : (mesh : Mesh) → Step mesh 0 0 0 0 mesh
no_step mesh = record { made_is = omega arith; listed_is = omega arith; booked = λ price link border opening prices. omega arith }

-- one step after the other
step_then : {first second third : Mesh} {made listed opened inferred made' listed' opened' inferred' : ℕ}
    → Step first made listed opened inferred second → Step second made' listed' opened' inferred' third
    → Step first (made + made') (listed + listed') (opened + opened') (inferred + inferred') third
step_then one rest =
    record {
      made_is = omega (arith, one.made_is, rest.made_is);
      listed_is = omega (arith, one.listed_is, rest.listed_is);
      booked = λ price link border opening prices. omega (arith, one.booked price link border opening prices, rest.booked price link border opening prices);
    }

-- ---- an insertion
module _ (map : Tmesh) (sound : SoundMesh map.mesh) (e : Float) (con : ℕ) (d : TmeshDirection) (ratio : Float) (position : Position) where
  abbrev AnswerStep : Result Insertion Refusal → Mesh → Type 0
  AnswerStep answer after = Step map.mesh (made_by answer) (listed_by answer) (opened_by answer) (inferred_by answer) after

  result : Inserted
  result = insert_point e (store_of map) (is_listed map con) con d ratio

  result_books : Booked (store_of map) (made_by result.answer) (opened_by result.answer) (inferred_by result.answer) result.store
  unfolding result
  result_books = books e (store_of map) sound.sound con d ratio (is_listed map con) (sound.listed_made con)

  result_grown : is_refused result.answer ≡ false → Grown (store_of map) result.store
  unfolding result
  result_grown = insertion_grown map sound e con d ratio

  result_lists : (n : ℕ) → is_listed (after_insertion map position result.answer result.store) n ≡ ((is_done result.answer && eqb n (store_of map).made) || is_listed map n)
  unfolding result add_control_point
  result_lists = insertion_lists map sound e con d ratio position

  by_answer : (answer : Result Insertion Refusal) (store : Store) → Booked (store_of map) (made_by answer) (opened_by answer) (inferred_by answer) store
      → (is_refused answer ≡ false → Grown (store_of map) store)
      → ((n : ℕ) → is_listed (after_insertion map position answer store) n ≡ ((is_done answer && eqb n (store_of map).made) || is_listed map n))
      → AnswerStep answer (after_insertion map position answer store).mesh
  by_answer (Ok (Done opened inferred)) store booked grown lists =
      record {
        made_is = (grown refl).made_is;
        listed_is = count_with 128 (is_listed map) _ (store_of map).made (grown refl).roomy (unlisted map sound) lists;
        booked = booked;
      }
  by_answer (Ok (Torn opened inferred)) store booked grown lists =
      record {
        made_is = (grown refl).made_is;
        listed_is = omega (arith, count_same 128 _ (is_listed map) (λ n below. lists n));
        booked = booked;
      }
  by_answer (Err refusal) store booked grown lists = no_step map.mesh

  insertion_step : AnswerStep (add_control_point e map con d ratio position).answer (add_control_point e map con d ratio position).map.mesh
  unfolding add_control_point result
  insertion_step = by_answer result.answer result.store result_books result_grown result_lists

-- ---- a list of calls
-- it follows the answers of its insertions, to a sound mesh
record Follows (before : Mesh) (answers : List (Result Insertion Refusal)) (after : Mesh) : Type 0 where
  sound : SoundMesh after
  step : Step before (done_or_torn answers) (insertions_done answers) (sides_opened answers) (links_inferred answers) after

-- an answer before others: withdrawn, it is passed over and the mesh is as it was
answer_then : (withdrawn : Bool) (before inserted : Tmesh) (answer : Result Insertion Refusal) {answers : List (Result Insertion Refusal)} {after : Mesh}
    → Step before.mesh (made_by answer) (listed_by answer) (opened_by answer) (inferred_by answer) inserted.mesh
    → Follows (cond withdrawn before inserted).mesh answers after
    → Follows before.mesh (cond withdrawn answers (answer ∷ answers)) after
unfolding total
answer_then true before inserted answer step rest = rest
answer_then false before inserted answer step rest = record { sound = rest.sound; step = step_then step rest.step }

-- from the same mesh
from_same : {before other after : Mesh} {answers : List (Result Insertion Refusal)} → before ≡ other → Follows before answers after → Follows other answers after
from_same {before} {other} {after} {answers} same ran = subst (λ (mesh : Mesh). Follows mesh answers after) same ran

-- from the mesh after a setting of a pull, which has the store and the listing of the one before
from_pulled : (e : Float) (map : Tmesh) (n : ℕ) (pull : Float) {after : Mesh} {answers : List (Result Insertion Refusal)}
    → Follows (map_after e map (pulling n pull)).mesh answers after → Follows map.mesh answers after
from_pulled e map n pull {after} {answers} =
    pulled_case map n pull (λ own. Follows own.mesh answers after → Follows map.mesh answers after) (λ ran. ran)
    (λ _ _ ran. record { sound = ran.sound; step = record { made_is = ran.step.made_is; listed_is = ran.step.listed_is; booked = ran.step.booked } })

follows : (e : Float) (calls : List Call) (map : Tmesh) → SoundMesh map.mesh
    → Follows map.mesh (entered_answers (run_of e map calls)) (map_after_all e map (entries calls)).mesh
unfolding run_of map_after_all entries entered_answers total subs_of cell_points
follows e [] map sound = record { sound = sound; step = no_step map.mesh }
follows e (insertion withdraws con d ratio position ∷ calls) map sound =
    let added = add_control_point e map con d ratio position in
    let call = insertion withdraws con d ratio position in
    answer_then (is_withdrawn withdraws added.answer) map added.map added.answer (insertion_step map sound e con d ratio position)
    (follows e calls (map_after e map call) (sound_call map sound e (entry call)))
follows e (evaluation s t ∷ calls) map sound =
    from_same (ready_mesh e map) (follows e calls (map_after e map (evaluation s t)) (sound_call map sound e (entry (evaluation s t))))
follows e (set_point_call s t ∷ calls) map sound =
    from_same (set_point_leaves e map s t (λ own. own.mesh ≡ map.mesh) refl (ready_mesh e map)) (follows e calls (map_after e map (set_point_call s t)) (sound_call map sound e (entry (set_point_call s t))))
follows e (question cell ∷ calls) map sound =
    from_same (ready_mesh e map) (follows e calls (map_after e map (question cell)) (sound_call map sound e (entry (question cell))))
follows e (pulling n pull ∷ calls) map sound =
    from_pulled e map n pull (follows e calls (map_after e map (pulling n pull)) (sound_call map sound e (entry (pulling n pull))))

-- ---- the prices that count
link_price : Prices (ahead is_link) 1 0 0
link_price = record { links = links; borders = borders; openings = openings }
  where
    links : (d : TmeshDirection) (n m : ℕ) (near far : Float) → ahead is_link d (Link n near) + ahead is_link (flip_of d) (Link m far) ≡ 1
    links Up n m near far = refl
    links Right n m near far = refl
    links Down n m near far = refl
    links Left n m near far = refl

    borders : (d : TmeshDirection) (weight : Float) → ahead is_link d (Border weight) ≡ 0
    borders Up weight = refl
    borders Right weight = refl
    borders Down weight = refl
    borders Left weight = refl

    openings : (d : TmeshDirection) → ahead is_link d Opening ≡ 0
    openings Up = refl
    openings Right = refl
    openings Down = refl
    openings Left = refl

border_price : Prices (passing is_border) 0 1 0
border_price = record { links = λ d n m near far. refl; borders = λ d weight. refl; openings = λ d. refl }

opening_price : Prices (passing is_opening) 0 0 1
opening_price = record { links = λ d n m near far. refl; borders = λ d weight. refl; openings = λ d. refl }

-- ---- a fresh map
module _ (weight : Float) (price : Price) (link border opening : ℕ) (prices : Prices price link border opening) where
  corner_worth : worth_of price (corner_store weight) ≡ 4 * link + 8 * border
  unfolding worth sum_below sides_of is_made
  corner_worth =
      omega (
        arith,
        prices.links Up 3 0 one_literal one_literal,
        prices.links Right 1 0 one_literal one_literal,
        prices.links Up 2 1 one_literal one_literal,
        prices.links Right 2 3 one_literal one_literal,
        prices.borders Up weight,
        prices.borders Right weight,
        prices.borders Down weight,
        prices.borders Left weight,
      )

module _ (weight : Float) (at_bottom_left at_bottom_right at_top_right at_top_left : Position) where
  abbrev fresh : Mesh
  fresh = (new_tmesh weight at_bottom_left at_bottom_right at_top_right at_top_left).mesh

  fresh_store : mesh_store fresh ≡ corner_store weight
  unfolding new_tmesh
  fresh_store = refl

  fresh_listed : count_below 128 (listed_in fresh.listed) ≡ 4
  unfolding new_tmesh count_below
  fresh_listed = refl

  -- ---- THE LEDGER OF SIDES
  module _ (answers : List (Result Insertion Refusal)) (map : Tmesh) (ran : Follows fresh answers map.mesh) where
    abbrev C : ℕ
    C = done_or_torn answers

    abbrev O : ℕ
    O = sides_opened answers

    abbrev I : ℕ
    I = links_inferred answers

    -- what the sides come to, at a price
    now : (price : Price) (link border opening : ℕ) → Prices price link border opening
        → worth_of price (store_of map) + (O * border + I * (opening + opening)) ≡ (4 + C + I) * link + ((8 + 2 * C) * border + O * opening)
    now price link border opening prices =
        omega (
          arith,
          ran.step.booked price link border opening prices,
          ap (λ (store : Store). worth_of price store) fresh_store,
          corner_worth weight price link border opening prices,
        )

    links : worth_of (ahead is_link) (store_of map) ≡ 4 + C + I
    links = omega (arith, now (ahead is_link) 1 0 0 link_price)

    borders : worth_of (passing is_border) (store_of map) + O ≡ 8 + 2 * C
    borders = omega (arith, now (passing is_border) 0 1 0 border_price)

    openings : worth_of (passing is_opening) (store_of map) + 2 * I ≡ O
    openings = omega (arith, now (passing is_opening) 0 0 1 opening_price)

    counts : counts_of map ≡ counts_by answers
    unfolding counts_of
    counts =
        same_counts
        (omega (arith, ran.step.made_is, ap (λ (store : Store). store.made) fresh_store))
        (omega (arith, ran.step.listed_is, fresh_listed))
        (sym (worth_ahead is_link (store_of map)) ∙ links)
        (omega (arith, worth_passing is_border (store_of map), borders))

    ledger : HasLedger map answers
    ledger =
        record {
          counts = counts;
          openings = omega (arith, answer_count (openings_of (store_of map)), worth_openings (store_of map), openings);
          borders_whole = omega (arith, borders);
          openings_whole = omega (arith, openings);
          mirrored = ran.sound.sound.mirrored;
        }

pub ledger_of_sides : LedgerOfSides
ledger_of_sides e weight at_bottom_left at_bottom_right at_top_right at_top_left calls =
    let map = new_tmesh weight at_bottom_left at_bottom_right at_top_right at_top_left in
    ledger weight at_bottom_left at_bottom_right at_top_right at_top_left _ _ (follows e calls map (sound_fresh weight at_bottom_left at_bottom_right at_top_right at_top_left))
