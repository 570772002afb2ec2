-- `stores::make` meets its contract. The invariant: the stores so far are the first of the list, one for each place.
-- Assumes nothing.
use Rattle.stores.proofs.Laws.{Storing}
use Rattle.stores.proofs.make.Given as goal

abbrev pub invariant-loop-store : goal.invariant-loop-store
invariant-loop-store l =
    Storing l.initial.kept l.stores l.allowance l.store-index l.made l.kept
