-- `edit_position` meets its contract: what stands after the first bytes stands in all bytes, that many places on.
use Prim.Native.Nat.{ℕ}
use mathlib.Core.Path.{ap, ◌∙◌}
use mathlib.Core.List.{List}
use Rattle.map_format.specs.Format.{position_in, position_at}
use Rattle.map_format.proofs.FormatLaws.{position_after}
use Rattle.map_format.proofs.format.edit_position.Goals as goal

pub returns : goal.returns
returns c =
    let a = c.args in
    c.position_at.ensures
    ∙ ap (λ (bytes : List ℕ). position_at bytes position_in) c.after-place.ensures
    ∙ position_after a.file.now a.at position_in
