-- The C interface: what a caller of the second table's calls is told (document 02, T-11).
-- Assumes nothing.
use Rattle.std.specs.Prelude.{[], ◌∷◌, Err, Ok, Result}
use Rattle.fills.specs.Fills.{end_number}
use Rattle.region_fills.specs.declared.FillRefusal.{FillRefusal}
use Rattle.region_fills.specs.declared.FillRefusal.TheVariants.{Image, Table, NoSuchRow, RowInUse, Unfit}
use Rattle.fills.specs.declared.Filling.{Filling}
use Rattle.region_fills.specs.Fills.{number}
use Rattle.interface.specs.declared.Reply.{Reply}
use Rattle.interface.specs.Replies.{nothing, answered, image_reply, table_reply, filling_reply}

-- a fill: its end, and its stores
abbrev pub table_fill_refusal : FillRefusal → Reply
table_fill_refusal (Image why) = image_reply why
table_fill_refusal (Table why) = table_reply why
table_fill_refusal NoSuchRow = nothing (number NoSuchRow)
table_fill_refusal RowInUse = nothing (number RowInUse)
table_fill_refusal Unfit = nothing (number Unfit)

abbrev pub table_fill_reply : Result Filling FillRefusal → Reply
table_fill_reply = answered table_fill_refusal filling_reply
