-- `map_is_right` meets its contract: each part is compared with the bytes behind the one before, and all of them are counted.
use mathlib.Core.Path.{sym}
use native.Mathlib.Omega.{arith}
use Rattle.map_replay.proofs.AnswersLaws.{map_too_large, map_with_room_lem}
use Rattle.map_replay.proofs.answers.map_is_right.Goals as goal

pub returns-then-made-gt-CAPACITY : goal.returns-then-made-gt-CAPACITY
returns-then-made-gt-CAPACITY c = sym (map_too_large _ _ c.if-made-gt-CAPACITY.true)

pub returns : goal.returns
returns c =
    rw (c.both-3.ensures, c.both-2.ensures, c.both.ensures, c.kept_are_right-kept.ensures, c.after-2.ensures, c.wide-2.ensures, c.places_are_right-placed.ensures, c.after.ensures, c.wide.ensures, c.shape_is_right-shape.ensures, c.store_of.ensures, c.map_bytes.ensures) (sym (map_with_room_lem _ _ (omega arith)))
