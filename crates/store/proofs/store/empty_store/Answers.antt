-- `empty_store` meets its contract: it is 128 times one loose point.
use Rattle.store.specs.Store.{empty_store}
use Rattle.store.proofs.store.empty_store.Goals as goal

pub returns : goal.returns
unfolding empty_store
returns c = rw c.loose_point-point.ensures
