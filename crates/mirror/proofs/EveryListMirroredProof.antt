-- Every list leaves a sound store, because the empty store is sound and each call keeps it so.
use Rattle.std.specs.Prelude.{List, [], ◌∷◌}
use Rattle.std.proofs.Common.{arith}
use Rattle.float64.specs.Literals.{zero_literal}
use Rattle.std.proofs.lemmas.List.{length-replicate}
use Rattle.control_point.specs.Point.{loose_point}
use Rattle.store.specs.Store.{empty_store}
use Rattle.store.specs.declared.store.Changed.{Changed}
use Rattle.store.specs.declared.store.Store.{Store}
use Rattle.mirror.proofs.CallLaws.{Settles, refuses, changes, every_call}
use Rattle.mirror.specs.Calls.{Call, call_store, run_calls}
use Rattle.mirror.specs.Mirror.{Sound}
use Rattle.mirror.specs.Theorems.{EveryListMirrored}

pub sound_empty : Sound empty_store
unfolding empty_store
sound_empty =
    record { room = length-replicate 128 (loose_point zero_literal); fits = omega arith; mirrored = λ n d m interval h e. absurd (omega arith) }

sound_settled : (store : Store) → Sound store → (changed : Changed) → Settles store changed → Sound changed.store
sound_settled store sound changed (refuses refusal) = sound
sound_settled store sound changed (changes new keeps) = keeps sound

pub sound_call : (store : Store) (call : Call) → Sound store → Sound (call_store store call)
sound_call store call sound = every_call store (λ number new. Sound new) (sound_settled store sound) (λ number. sound) call

pub sound_run : (store : Store) (calls : List Call) → Sound store → Sound (run_calls store calls)
unfolding run_calls
sound_run store [] sound = sound
sound_run store (call ∷ calls) sound = sound_run (call_store store call) calls (sound_call store call sound)

pub every_list_mirrored : EveryListMirrored
every_list_mirrored calls = sound_run empty_store calls sound_empty
