-- The edits of a file are a list of calls on its map, by the rule of its version on torn ones: the run of the edits is the run of those calls.
use Rattle.std.specs.Prelude.{◌≡◌, refl, Bool, List, [], ◌∷◌, Float}
use Rattle.t_mesh.specs.declared.t_mesh.Tmesh.{Tmesh}
use Rattle.calls.specs.Calls.{Call, insertion}
use Rattle.soundness.specs.MapCalls.{map_after_all, entries}
use Rattle.map_file.specs.Run.{edited, after_edits}
use Rattle.map_format.specs.Format.{Edit}

-- an edit as a call, where torn ones are withdrawn or are not
abbrev call_of : Bool → Edit → Call
call_of withdraws edit = insertion withdraws edit.point edit.direction edit.ratio edit.position

unfoldable pub calls_of : Bool → List Edit → List Call
calls_of withdraws [] = []
calls_of withdraws (edit ∷ rest) = call_of withdraws edit ∷ calls_of withdraws rest

pub edits_are_calls : (withdraws : Bool) (e : Float) (map : Tmesh) (edits : List Edit)
    → after_edits withdraws e map edits ≡ map_after_all e map (entries (calls_of withdraws edits))
unfolding after_edits map_after_all entries calls_of
edits_are_calls withdraws e map [] = refl
edits_are_calls withdraws e map (edit ∷ rest) = edits_are_calls withdraws e (edited withdraws e map edit).map rest
