-- Where answers stand and how long calls are: every number that the definitions of Call choose from is small.
use Rattle.std.specs.Prelude.{ℕ, ◌<◌, Bool, true, false, cond, List, eqb}
use Rattle.std.proofs.Common.{arith, lit<}
use Rattle.store.specs.declared.store.Store.{Store}
use Rattle.big_endian.specs.BigEndian.{byte_at}
use Rattle.stored_calls.specs.Call.{answer_place, settled, change, replay_walk, replay_call}
use Rattle.stored_calls.specs.declared.call.Replayed.{Replayed}

-- of two numbers below a bound either is
below : (test : Bool) (x y bound : ℕ) → x < bound → y < bound → cond test x y < bound
below true x y bound p q = p
below false x y bound p q = q

-- of two calls that take fewer bytes than a bound either does
shorter : (test : Bool) (x y : Replayed) (bound : ℕ) → x.bytes < bound → y.bytes < bound → (cond test x y).bytes < bound
shorter true x y bound p q = p
shorter false x y bound p q = q

-- an answer stands within 19 bytes
pub answer_near : (kind : ℕ) → answer_place kind < 19
unfolding answer_place
answer_near kind =
    below (eqb kind 0) 9 _ 19 (lit< tt)
    (below (eqb kind 1) 12 _ 19 (lit< tt)
    (below (eqb kind 2) 3 _ 19 (lit< tt)
    (below (eqb kind 3) 3 _ 19 (lit< tt)
    (below (eqb kind 5) 18 11 19 (lit< tt) (lit< tt)))))

-- a call takes at most 19 bytes
pub call_short : (kind : ℕ) (call : List ℕ) (store : Store) → (replay_call kind call store).bytes < 20
unfolding replay_call replay_walk settled
call_short kind call store =
    shorter (eqb kind 6) (replay_walk call store) (settled (change kind call store) call (answer_place kind)) 20
    (below (eqb (byte_at call 4) 0) 15 5 20 (lit< tt) (lit< tt))
    (let h = answer_near kind in omega arith)
