-- The calls that are left, and the store at the end: the two clauses of `calls_are_right`, with the calls counted that were made.
use Rattle.std.specs.Prelude.{ℕ, ◌+◌, ◌-◌, ◌<◌, ◌≤◌, Bool, ◌&&◌, List, ◌≡◌, refl, drop}
use Rattle.std.proofs.Common.{sym, ap, subst, ◌∙◌, add-one, arith}
use Rattle.store.specs.declared.store.Store.{Store}
use Rattle.stored_calls.specs.Call.{replay_call}
use Rattle.stored_calls.proofs.CallLaws.{call_short}
use Rattle.stored_calls.specs.declared.call.Replayed.{Replayed}
use Rattle.big_endian.specs.BigEndian.{byte_at}
use Rattle.store_replay.specs.List.{onward, is_store, calls_are_right}

-- all calls made, the store is left
pub calls_none : (count made : ℕ) (bytes : List ℕ) (store : Store) (right : Bool) → count ≤ made → calls_are_right (count - made) bytes store right ≡ (right && is_store store bytes)
unfolding calls_are_right
calls_none count made bytes store right all = ap (λ (left : ℕ). calls_are_right left bytes store right) {x = count - made} {y = 0} (omega arith)

one_more : (left : ℕ) (bytes : List ℕ) (store : Store) (right : Bool) → calls_are_right (left + 1) bytes store right ≡ onward (calls_are_right left) bytes right (replay_call (byte_at bytes 0) bytes store)
unfolding calls_are_right
one_more left bytes store right = rw add-one refl

-- a call made, the rest is as right as all were
pub calls_more :
    (count made : ℕ) (bytes : List ℕ) (store : Store) (right : Bool) (replayed : Replayed) → made < count → replayed ≡ replay_call (byte_at bytes 0) bytes store →
    calls_are_right (count - (made + 1)) (drop replayed.bytes bytes) replayed.store (right && replayed.right) ≡ calls_are_right (count - made) bytes store right
calls_more count made bytes store right replayed some is =
    ap (onward (calls_are_right (count - (made + 1))) bytes right) is
    ∙ sym (one_more (count - (made + 1)) bytes store right)
    ∙ ap (λ (left : ℕ). calls_are_right left bytes store right) {x = count - (made + 1) + 1} {y = count - made} (omega arith)

-- a call made takes at most 19 bytes
pub made_short : (kind : ℕ) (call : List ℕ) (store : Store) (replayed : Replayed) → replayed ≡ replay_call kind call store → replayed.bytes < 20
made_short kind call store replayed made = subst (λ (r : Replayed). r.bytes < 20) (sym made) (call_short kind call store)
