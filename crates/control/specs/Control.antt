-- Document 01, The kept memory: the control word. One run: what it lets a run do.
-- Assumes nothing.
use Rattle.std.specs.Prelude.{ℕ, Bool, not, ◌&&◌, ◌||◌, eqb, leb, Option, Some, None}
use Rattle.words.specs.Choice.{pick}
use Rattle.words.specs.Ranges.{Range, bits, get}
use Rattle.indexes.specs.Indexes as indexes
use Rattle.control.specs.declared.Rest.TheVariants.{Off, Held, Empty}
use Rattle.control.specs.declared.Rest.{Rest}
use Rattle.control.specs.declared.Fields.{Fields}

-- its parts
abbrev pub rd_bits : Range
rd_bits = bits 19 0

abbrev pub wr_bits : Range
wr_bits = bits 39 20

abbrev pub err_bits : Range
err_bits = bits 46 40

abbrev pub gerror_bits : Range
gerror_bits = bits 47 47

abbrev pub gerrorn_bits : Range
gerrorn_bits = bits 48 48

abbrev pub cmdqen_bits : Range
cmdqen_bits = bits 49 49

abbrev pub log2size_bits : Range
log2size_bits = bits 54 50

-- document 02, T-08: a completion interrupt is pending
abbrev pub pending_bits : Range
pending_bits = bits 55 55

abbrev pub zero_bits : Range
zero_bits = bits 63 56

abbrev pub rd : ℕ → ℕ
rd w = get rd_bits w

abbrev pub wr : ℕ → ℕ
wr w = get wr_bits w

abbrev pub err : ℕ → ℕ
err w = get err_bits w

abbrev pub gerror : ℕ → ℕ
gerror w = get gerror_bits w

abbrev pub gerrorn : ℕ → ℕ
gerrorn w = get gerrorn_bits w

abbrev pub cmdqen : ℕ → ℕ
cmdqen w = get cmdqen_bits w

abbrev pub log2size : ℕ → ℕ
log2size w = get log2size_bits w

abbrev pub pending : ℕ → ℕ
pending w = get pending_bits w

-- all of them but the zero one
unfoldable pub fields_of : ℕ → Fields
fields_of w =
    record {
      rd = rd w;
      wr = wr w;
      err = err w;
      gerror = gerror w;
      gerrorn = gerrorn w;
      cmdqen = cmdqen w;
      log2size = log2size w;
      pending = pending w;
    }

-- the largest LOG2SIZE (document 02, T-06)
abbrev pub max_log2 : ℕ
max_log2 = 12

abbrev pub is_pending : ℕ → Bool
is_pending w = eqb (pending w) 1

-- an error is active
unfoldable pub active : ℕ → Bool
active w = not (eqb (gerror w) (gerrorn w))

-- the indexes by their own rule, a known error code, and one that is named while it is active
unfoldable pub well_formed : ℕ → Bool
well_formed w =
    eqb (get zero_bits w) 0
    && leb (log2size w) max_log2
    && indexes.well_formed (log2size w) (rd w) (wr w)
    && leb (err w) 1
    && (not (active w) || eqb (err w) 1)

-- CMDQEN, then the error, then the indexes: why a run rests, or none where it takes the command at RD
unfoldable pub standing : ℕ → Option Rest
standing w =
    pick (eqb (cmdqen w) 0) (Some Off)
    (pick (active w) (Some Held)
    (pick (eqb (rd w) (wr w)) (Some Empty)
    None))

-- how many commands wait, and the slot of the first
unfoldable pub distance : ℕ → ℕ
distance w = indexes.distance (log2size w) (rd w) (wr w)

unfoldable pub slot : ℕ → ℕ
slot w = indexes.slot (log2size w) (rd w)
