-- Each direct call changes the store alone, so a list of them does.
use Rattle.std.specs.Prelude.{refl, [], ◌∷◌}
use Rattle.mirror.specs.Calls.{call_store, run_calls}
use Rattle.t_mesh.specs.Tmesh.{store_of, with_store}
use Rattle.soundness.specs.MapCalls.{map_after_all, directs}
use Rattle.soundness.specs.Theorems.{DirectCallsOnStore}

pub direct_calls_on_store : DirectCallsOnStore
unfolding map_after_all directs run_calls
direct_calls_on_store e map [] = refl
direct_calls_on_store e map (call ∷ rest) = direct_calls_on_store e (with_store map (call_store (store_of map) call)) rest
