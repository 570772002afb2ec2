-- Document 01, When the unit says no: the table, with each call's numbers in their order.
-- Assumes nothing.
use Rattle.std.specs.Prelude.{Bool, true, false, not, ◌&&◌, List, [], ◌∷◌, ℕ, ◌*◌, ◌%◌, ◌^◌, eqb, leb, ltb, length, Err, None, Ok, Option, Result, Some, ⊤}
use Rattle.words.specs.Choice.{pick}
use Rattle.words.specs.Search.{lowest}
use Rattle.runs.specs.declared.Ran.{Ran}
use Rattle.runs.specs.declared.RunRefusal.{RunRefusal}
use Rattle.fills.specs.declared.Filling.{Filling}
use Rattle.fills.specs.declared.FillRefusal.{FillRefusal}
use Rattle.control_calls.specs.declared.DoorbellRefusal.{DoorbellRefusal}
use Rattle.control_calls.specs.declared.AcknowledgeRefusal.{AcknowledgeRefusal}
use Rattle.control_calls.specs.declared.ClearRefusal.{ClearRefusal}
use Rattle.image.specs.declared.Refusal.{Refusal}
use Rattle.transactions.specs.declared.Outcome.{Outcome}
use Rattle.transactions.specs.declared.TransactionRefusal.{TransactionRefusal}
use Rattle.region_fills.specs.declared.FillRefusal.{FillRefusal as TableFillRefusal}
use Rattle.writer.specs.declared.WriteRefusal.{WriteRefusal}
use Rattle.batch_writes.specs.declared.BatchRefusal.{BatchRefusal}
use Rattle.batch_writes.specs.declared.BatchRefusal.TheVariants.{Image, BadQueue, BadCommand, NoRoom}
use Rattle.attributes.specs.Formats as attributes
use Rattle.rows.specs.declared.Row.{Row}
use Rattle.control.specs.Control as control
use Rattle.control_stores.specs.Stores.{may_ring}
use Rattle.image.specs.Image as image
use Rattle.runs.specs.declared.End.{End}
use Rattle.runs.specs.declared.End.TheVariants.{Off, Held, Empty, Raised, Cut}
use Rattle.runs.specs.Call as runs
use Rattle.doubles.specs.Doubles.{doubled}
use Rattle.fills.specs.declared.FillEnd.{FillEnd}
use Rattle.fills.specs.declared.FillEnd.TheVariants.{Filled, Cut as Fill-as-Cut}
use Rattle.fills.specs.Fills as fills
use Rattle.control_calls.specs.Calls as control-calls
use Rattle.transactions.specs.declared.Transaction.{Transaction}
use Rattle.transactions.specs.Call as transactions
use Rattle.due.specs.declared.Raising.{Raising}
use Rattle.memory.specs.Memory.{Memory}
use Rattle.regions.specs.declared.Region.{Region}
use Rattle.regions.specs.Table as regions
use Rattle.region_fills.specs.Fills as region-fills
use Rattle.commands.specs.declared.Features.{Features}
use Rattle.writer.specs.declared.Fault.{Fault}
use Rattle.writer.specs.declared.Fault.TheVariants.{Missing, Unfit}
use Rattle.writer.specs.Writing as writer
use Rattle.batch_writes.specs.Batch as batch
use Rattle.batch_writes.specs.Batch.{Lent}
use Rattle.batches.specs.declared.Comparison.{Comparison}
use Rattle.batches.specs.declared.CheckRefusal.{CheckRefusal}
use Rattle.batches.specs.Batches as batches

-- the number of an answer: its refusal's, or 0 where the call was carried out
abbrev pub run_number : Result Ran RunRefusal → ℕ
run_number (Err why) = runs.number why
run_number (Ok ran) = 0

abbrev pub fill_number : Result Filling FillRefusal → ℕ
fill_number (Err why) = fills.number why
fill_number (Ok filling) = 0

abbrev pub table_fill_number : Result Filling TableFillRefusal → ℕ
table_fill_number (Err why) = region-fills.number why
table_fill_number (Ok filling) = 0

abbrev pub check_number : Result Comparison CheckRefusal → ℕ
check_number (Err why) = batches.number why
check_number (Ok answer) = 0

abbrev pub doorbell_number : Result ⊤ DoorbellRefusal → ℕ
doorbell_number (Err why) = control-calls.doorbell_number why
doorbell_number (Ok tt) = 0

abbrev pub acknowledge_number : Result ⊤ AcknowledgeRefusal → ℕ
acknowledge_number (Err why) = control-calls.acknowledge_number why
acknowledge_number (Ok tt) = 0

abbrev pub clear_number : Result ⊤ ClearRefusal → ℕ
clear_number (Err why) = control-calls.clear_number why
clear_number (Ok tt) = 0

abbrev pub enable_number : Result ⊤ Refusal → ℕ
enable_number (Err why) = image.number why
enable_number (Ok tt) = 0

abbrev pub translate_number : Result Outcome TransactionRefusal → ℕ
translate_number (Err why) = transactions.number why
translate_number (Ok outcome) = 0

-- a number and when it applies; of several the first that does, or 0
pub record Rule : Type 0 where
  pub number : ℕ
  pub applies : Bool

abbrev pub first : List Rule → ℕ
first [] = 0
first (r ∷ rs) = pick r.applies r.number (first rs)

abbrev pub some : Option ℕ → Bool
some (Some i) = true
some None = false

-- tried first, by every call
abbrev pub of_image : List ℕ → List Rule
of_image m =
    record { number = 1; applies = not (image.length_good m) }
    ∷ record { number = 2; applies = not (control.well_formed (image.control_of m)) }
    ∷ record { number = 3; applies = some (lowest (image.is_bad m) (image.rows_in m) 0) }
    ∷ []

-- document 02, T-11: then the second table's, by the calls that it is lent to
abbrev pub of_table : List ℕ → List Rule
of_table t =
    record { number = 13; applies = not (regions.length_good t) }
    ∷ record { number = 14; applies = some (lowest (regions.is_bad t) (regions.rows_in t) 0) }
    ∷ []

-- then each call's own
abbrev pub of_run : List ℕ → Memory → List Rule
of_run queue m = record { number = 4; applies = not (runs.queue_good queue m) } ∷ []

-- document 02, T-12: 23 if the length of either batch is no multiple of 16
abbrev pub of_check : List ℕ → List ℕ → List Rule
of_check original proposed =
    record { number = 23; applies = not (eqb (length original % 16) 0 && eqb (length proposed % 16) 0) } ∷ []

abbrev pub of_doorbell : List ℕ → ℕ → List Rule
of_doorbell m wr = record { number = 5; applies = not (may_ring (image.control_of m) wr) } ∷ []

abbrev pub of_acknowledge : List ℕ → List Rule
of_acknowledge m = record { number = 6; applies = not (control.active (image.control_of m)) } ∷ []

abbrev pub of_clear : List ℕ → List Rule
of_clear m = record { number = 12; applies = not (control.is_pending (image.control_of m)) } ∷ []

abbrev pub of_fill : List ℕ → ℕ → Row → List Rule
of_fill m row words =
    record { number = 7; applies = leb (image.rows_in m) row }
    ∷ record { number = 8; applies = image.is_used m row }
    ∷ record { number = 9; applies = not (fills.fit words) }
    ∷ record { number = 11; applies = doubled m (image.rows_in m) words }
    ∷ []

abbrev pub of_table_fill : List ℕ → ℕ → Region → List Rule
of_table_fill t row words =
    record { number = 7; applies = leb (regions.rows_in t) row }
    ∷ record { number = 8; applies = regions.is_used t row }
    ∷ record { number = 9; applies = not (region-fills.fit words) }
    ∷ []

abbrev pub of_transaction : Transaction → List Rule
of_transaction t = record { number = 10; applies = not (attributes.well_formed t.attributes) } ∷ []

-- the ends in the order of their numbers
abbrev pub run_ends : Raising → List End
run_ends told = Off ∷ Held ∷ Empty ∷ Raised told ∷ Cut ∷ []

abbrev pub fill_ends : List FillEnd
fill_ends = Filled ∷ Fill-as-Cut ∷ []

-- document 02, T-10: the writer's, which looks at no image, and the batch's, of which 20 or 21 is the first bad command's
abbrev pub write_number : Result ⊤ WriteRefusal → ℕ
write_number (Err why) = writer.number why
write_number (Ok tt) = 0

abbrev pub of_write : Features → List ℕ → List ℕ → List Rule
of_write f d slot =
    record { number = 19; applies = not (eqb (length slot) writer.slot_size) }
    ∷ record { number = 20; applies = writer.lacks f d }
    ∷ record { number = 21; applies = writer.unfit f d }
    ∷ []

abbrev pub batch_number : Result ⊤ BatchRefusal → ℕ
batch_number (Err why) = batch.number why
batch_number (Ok tt) = 0

-- of the commands in their order the first bad one lacks a feature; or it is unfit
abbrev pub tells_of : (Fault → Bool) → Result ⊤ BatchRefusal → Bool
tells_of p (Ok fine) = false
tells_of p (Err (Image why)) = false
tells_of p (Err BadQueue) = false
tells_of p (Err (BadCommand i why)) = p why
tells_of p (Err NoRoom) = false

abbrev pub is_missing : Fault → Bool
is_missing Missing = true
is_missing Unfit = false

abbrev pub first_lacks : Result ⊤ BatchRefusal → Bool
first_lacks = tells_of is_missing

abbrev pub first_unfit : Result ⊤ BatchRefusal → Bool
first_unfit = tells_of (λ why. not (is_missing why))

abbrev pub of_batch : Features → List ℕ → Lent → List Rule
of_batch f ws m =
    let w = image.control_of m.kept in
    let n = batch.commands_in ws in
    record { number = 4; applies = not (eqb (length m.queue) (writer.slot_size * 2 ^ control.log2size w)) }
    ∷ record { number = 20; applies = first_lacks (batch.judged_from f ws n 0) }
    ∷ record { number = 21; applies = first_unfit (batch.judged_from f ws n 0) }
    ∷ record { number = 22; applies = ltb (batch.free_in w) n }
    ∷ []
