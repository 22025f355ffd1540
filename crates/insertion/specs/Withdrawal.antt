-- What becomes of a torn insertion is a rule: it stays, as in the source, or it is withdrawn, and then all is as it was before it. The answer is the same by
-- either rule, and of an insertion that is done or refused they say the same.
use Rattle.std.specs.Prelude.{ℕ, Bool, true, false, cond, not, ◌&&◌, List, ◌≡◌, Float, Err, Ok, Result}
use Rattle.control_point.specs.declared.t_mesh_control_point.TmeshControlPoint.{TmeshControlPoint}
use Rattle.control_point.specs.declared.t_mesh_direction.TmeshDirection.{TmeshDirection}
use Rattle.lent_points.specs.Lent.{Points, Held}
use Rattle.store.specs.declared.store.Store.{Store}
use Rattle.insertion.specs.Insert.{is_torn, insert_point}
use Rattle.insertion.specs.declared.insertion.Insertion.TheVariants.{Done, Torn}
use Rattle.insertion.specs.declared.insertion.Inserted.{Inserted}
use Rattle.control_point.specs.declared.refusal.Refusal.{Refusal}
use Rattle.insertion.specs.declared.insertion.Insertion.{Insertion}

-- whether an insertion that is so answered is withdrawn, where torn ones are withdrawn or are not
abbrev pub is_withdrawn : Bool → Result Insertion Refusal → Bool
is_withdrawn withdraws answer = withdraws && is_torn answer

-- of what stood before an insertion and what it left, that which stands
abbrev pub unless_withdrawn : {A : Type 0} → Bool → Result Insertion Refusal → A → A → A
unless_withdrawn withdraws answer before after = cond (is_withdrawn withdraws answer) before after

-- whether its point stands
abbrev pub leaves_point : Bool → Result Insertion Refusal → Bool
leaves_point withdraws (Ok (Done opened inferred)) = true
leaves_point withdraws (Ok (Torn opened inferred)) = not withdraws
leaves_point withdraws (Err refusal) = false

-- ---- over a store
abbrev pub store_by : Bool → Store → Inserted → Store
store_by withdraws store inserted = unless_withdrawn withdraws inserted.answer store inserted.store

-- whatever store's points they were, of which so many are made, they are after it those of the store that the insertion leaves by the rule, and the answer is its
abbrev pub InsertsBy : Bool → Float → Points → ℕ → Bool → ℕ → TmeshDirection → Float → Result Insertion Refusal → Points → Type 0
InsertsBy withdraws e points made listed con d ratio answer after =
    (rest : List TmeshControlPoint) (store : Store) → Held points rest store → store.made ≡ made
    → (answer ≡ (insert_point e store listed con d ratio).answer) × Held after rest (store_by withdraws store (insert_point e store listed con d ratio))
