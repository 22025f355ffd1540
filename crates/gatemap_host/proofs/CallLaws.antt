-- Laws that the calls share: the buffer's length decides between 16 and what the file answers, and what the answer gives.
use Rattle.std.specs.Prelude.{ℕ, ◌≤◌, ◌<◌, ◌≡◌, Bool, true, false, cond, List, leb}
use Rattle.std.proofs.Common.{sym, ap, ◌∙◌, le-leb}
use Rattle.std.proofs.lemmas.Bool.{lt-leb}
use Rattle.control_point.specs.Told.{Told, refused_by, unless}

-- what is found in a buffer of a length, if so many bytes are to be written
module _ {A : Type 0} (bytes room : ℕ) (answer short : A) where
  pub room_short : room < bytes → short ≡ cond (leb bytes room) answer short
  room_short h = rw (lt-leb bytes room h)

  pub room_enough : bytes ≤ room → answer ≡ cond (leb bytes room) answer short
  room_enough h = rw (le-leb bytes room h)

  -- it tells what the table of the call says
  pub room_told : (tell : A → Told) (table : Told) → tell answer ≡ table → tell short ≡ refused_by 16 → tell (cond (leb bytes room) answer short) ≡ unless 16 (leb bytes room) table
  room_told tell table told refused = by_room (leb bytes room)
    where
      by_room : (enough : Bool) → tell (cond enough answer short) ≡ unless 16 enough table
      by_room true = told
      by_room false = refused

-- by the answer found: the number that is returned, the buffer that is left, and that the number is the table's
pub found_gives : {A : Type 0} (tell : A → Told) (after : A → List ℕ) (table : Told) (found : A) → tell found ≡ table → (answer : A) → found ≡ answer
    → ((tell answer).number ≡ (tell found).number) × (after answer ≡ after found) × ((tell answer).number ≡ table.number)
found_gives tell after table found told answer is =
    let number = ap (λ a. (tell a).number) (sym is) in
    (number, ap after (sym is), number ∙ ap (λ (t : Told). t.number) told)
