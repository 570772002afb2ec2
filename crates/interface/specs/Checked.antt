-- The C interface: what a caller of the batch check is told (document 02, T-12).
-- Assumes nothing.
use Rattle.std.specs.Prelude.{[], ◌∷◌, ℕ, Result}
use Rattle.batches.specs.declared.Batch.{Batch}
use Rattle.batches.specs.declared.Batch.TheVariants.{Original, Proposed}
use Rattle.batches.specs.declared.CheckRefusal.{CheckRefusal}
use Rattle.batches.specs.declared.CheckRefusal.TheVariants.{Image, Table, BadBatch}
use Rattle.batches.specs.declared.Comparison.{Comparison}
use Rattle.batches.specs.declared.Comparison.TheVariants.{Same, Unfit, Differ}
use Rattle.batches.specs.Batches.{number}
use Rattle.interface.specs.declared.Reply.{Reply}
use Rattle.interface.specs.Replies.{nothing, answered, image_reply, table_reply}

abbrev pub which_number : Batch → ℕ
which_number Original = 0
which_number Proposed = 1

abbrev pub check_refusal : CheckRefusal → Reply
check_refusal (Image why) = image_reply why
check_refusal (Table why) = table_reply why
check_refusal BadBatch = nothing (number BadBatch)

-- yes; 1, the batch and the command in it that doesn't qualify; 2 and the lowest row that differs
abbrev pub comparison_reply : Comparison → Reply
comparison_reply Same = nothing 0
comparison_reply (Unfit batch command) = record { code = 0; words = 1 ∷ which_number batch ∷ command ∷ 0 ∷ 0 ∷ 0 ∷ 0 ∷ 0 ∷ [] }
comparison_reply (Differ row) = record { code = 0; words = 2 ∷ row ∷ 0 ∷ 0 ∷ 0 ∷ 0 ∷ 0 ∷ 0 ∷ [] }

abbrev pub check_reply : Result Comparison CheckRefusal → Reply
check_reply = answered check_refusal comparison_reply
