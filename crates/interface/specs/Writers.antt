-- The C interface: what a caller of the writers is told (document 02, T-10).
-- Assumes nothing.
use Rattle.std.specs.Prelude.{[], ◌∷◌, Err, Ok, Result, ⊤}
use Rattle.writer.specs.declared.WriteRefusal.{WriteRefusal}
use Rattle.writer.specs.declared.WriteRefusal.TheVariants.{BadSlot, Bad}
use Rattle.writer.specs.Writing as writer
use Rattle.batch_writes.specs.declared.BatchRefusal.{BatchRefusal}
use Rattle.batch_writes.specs.declared.BatchRefusal.TheVariants.{Image, BadQueue, BadCommand, NoRoom}
use Rattle.batch_writes.specs.Batch as batch
use Rattle.interface.specs.declared.Reply.{Reply}
use Rattle.interface.specs.Replies.{nothing, answered, carried, image_reply}

-- the writer tells nothing more
abbrev pub write_refusal : WriteRefusal → Reply
write_refusal BadSlot = nothing (writer.number BadSlot)
write_refusal (Bad why) = nothing (writer.number (Bad why))

abbrev pub write_reply : Result ⊤ WriteRefusal → Reply
write_reply = answered write_refusal carried

-- a batch names its first bad command
abbrev pub batch_refusal : BatchRefusal → Reply
batch_refusal (Image why) = image_reply why
batch_refusal BadQueue = nothing (batch.number BadQueue)
batch_refusal (BadCommand i why) =
    record { code = batch.number (BadCommand i why); words = i ∷ 0 ∷ 0 ∷ 0 ∷ 0 ∷ 0 ∷ 0 ∷ 0 ∷ [] }
batch_refusal NoRoom = nothing (batch.number NoRoom)

abbrev pub batch_reply : Result ⊤ BatchRefusal → Reply
batch_reply = answered batch_refusal carried
