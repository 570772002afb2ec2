-- Which call a letter asks for, which calls have an allowance, and which are made on a recorder.
-- Assumes nothing.
use Rattle.std.specs.Prelude.{Bool, true, false, ℕ, ◌==◌, if◌then◌else◌, List, [], ◌∷◌, slice_index, Option, Some, None}
use Rattle.script.specs.declared.calls.Access.{Access}
use Rattle.script.specs.declared.calls.Call.{Call}
use Rattle.script.specs.declared.calls.Call.TheVariants.{Run, Fill, TableFill, Doorbell, Acknowledge, ClearPending, Enable, EventWrite, EventRead, EventAcknowledge, Translate, Other}

abbrev pub access : List ℕ → Access
access w = record {
  stream = slice_index w 0;
  substream = slice_index w 1;
  address = slice_index w 2;
  how = slice_index w 3;
  attributes = record { memattr = slice_index w 4; sh = slice_index w 5; hints = slice_index w 6 };
}

abbrev pub fill : List ℕ → Call
fill w = Fill (slice_index w 0) (slice_index w 1 ∷ slice_index w 2 ∷ slice_index w 3 ∷ slice_index w 4 ∷ []) (slice_index w 5)

abbrev pub table_fill : List ℕ → Call
table_fill w = TableFill (slice_index w 0) (slice_index w 1 ∷ slice_index w 2 ∷ []) (slice_index w 3)

abbrev pub event_write : List ℕ → Call
event_write w = EventWrite (slice_index w 0 ∷ slice_index w 1 ∷ slice_index w 2 ∷ slice_index w 3 ∷ []) (slice_index w 4)

-- the call that a letter asks for with these words: r, f, g, d, a, p, e, w, o, x or t, and any other a transaction's that isn't told
abbrev pub asked : ℕ → List ℕ → Call
asked letter w =
    if letter == 114 then Run (slice_index w 0) (slice_index w 1)
    else if letter == 102 then fill w
    else if letter == 103 then table_fill w
    else if letter == 100 then Doorbell (slice_index w 0)
    else if letter == 97 then Acknowledge
    else if letter == 112 then ClearPending
    else if letter == 101 then Enable (slice_index w 0)
    else if letter == 119 then event_write w
    else if letter == 111 then EventRead
    else if letter == 120 then EventAcknowledge
    else if letter == 116 then Translate (access w)
    else Other (access w)

-- the call with this allowance, if it has one
abbrev pub allowing : ℕ → Call → Option Call
allowing a (Run f _) = Some (Run f a)
allowing a (Fill row w _) = Some (Fill row w a)
allowing a (TableFill row w _) = Some (TableFill row w a)
allowing a (Doorbell _) = None
allowing a Acknowledge = None
allowing a ClearPending = None
allowing a (Enable _) = None
allowing a (EventWrite w _) = Some (EventWrite w a)
allowing a EventRead = None
allowing a EventAcknowledge = None
allowing a (Translate _) = None
allowing a (Other _) = None

abbrev pub is_of_recorder : Call → Bool
is_of_recorder (Run _ _) = false
is_of_recorder (Fill _ _ _) = false
is_of_recorder (TableFill _ _ _) = false
is_of_recorder (Doorbell _) = false
is_of_recorder Acknowledge = false
is_of_recorder ClearPending = false
is_of_recorder (Enable _) = false
is_of_recorder (EventWrite _ _) = true
is_of_recorder EventRead = true
is_of_recorder EventAcknowledge = true
is_of_recorder (Translate _) = false
is_of_recorder (Other _) = false
