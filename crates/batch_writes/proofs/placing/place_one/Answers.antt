-- `batch_writes::placing::place_one` meets its contract: the slot lies in the queue.
-- Assumes nothing.
use Rattle.batch_writes.proofs.Placed.{slot-fits, slot-room}
use Rattle.batch_writes.proofs.placing.place_one.Goals as goal

pub overflow_mul-slot : goal.overflow_mul-slot
overflow_mul-slot c = record { fits = search slot-fits }

pub store_at-requires : goal.store_at-requires
store_at-requires c = search slot-room
