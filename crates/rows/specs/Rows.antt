-- Document 01, The kept memory, with document 02, T-05: the four words of a row, and their parts.
-- Assumes nothing.
use Rattle.std.specs.Prelude.{ℕ, ◌+◌, ◌^◌, Bool, ◌&&◌, eqb, leb, ltb}
use Rattle.words.specs.Choice.{pick}
use Rattle.words.specs.Ranges.{Range, bits, get}
use Rattle.attributes.specs.declared.Attributes.{Attributes}
use Rattle.attributes.specs.declared.Overrides.{Overrides}
use Rattle.rows.specs.declared.kinds.Kind.{Kind}
use Rattle.rows.specs.declared.kinds.Kind.TheVariants.{Ste, Cd, Stage1, Stage2}
use Rattle.rows.specs.declared.marks.Mark.{Mark}
use Rattle.rows.specs.declared.marks.Mark.TheVariants.{Unmarked, El2, El2E2h, Both}
use Rattle.rows.specs.declared.Row.{Row}
use Rattle.rows.specs.declared.Parts.{Parts}

-- word 0
abbrev pub valid_bits : Range
valid_bits = bits 0 0

abbrev pub kind_bits : Range
kind_bits = bits 2 1

abbrev pub last_bits : Range
last_bits = bits 3 3

abbrev pub global_bits : Range
global_bits = bits 4 4

abbrev pub span_bits : Range
span_bits = bits 10 5

-- document 02, T-05
abbrev pub mark_bits : Range
mark_bits = bits 12 11

abbrev pub vmid_bits : Range
vmid_bits = bits 31 16

abbrev pub asid_bits : Range
asid_bits = bits 47 32

-- its payload in a last-level STE row
abbrev pub mtcfg_bits : Range
mtcfg_bits = bits 48 48

abbrev pub new_mem_attr_bits : Range
new_mem_attr_bits = bits 52 49

abbrev pub shcfg_bits : Range
shcfg_bits = bits 54 53

abbrev pub alloccfg_bits : Range
alloccfg_bits = bits 58 55

abbrev pub instcfg_bits : Range
instcfg_bits = bits 60 59

abbrev pub privcfg_bits : Range
privcfg_bits = bits 62 61

-- its payload in a last-level stage 1 or stage 2 row
abbrev pub mem_attr_bits : Range
mem_attr_bits = bits 51 48

abbrev pub sh_bits : Range
sh_bits = bits 53 52

abbrev pub hints_bits : Range
hints_bits = bits 59 54

-- word 1
abbrev pub stream_bits : Range
stream_bits = bits 31 0

abbrev pub substream_bits : Range
substream_bits = bits 51 32

abbrev pub config_bits : Range
config_bits = bits 54 52

-- words 2 and 3, the input and the output address
abbrev pub whole_word : Range
whole_word = bits 63 0

-- kinds
abbrev pub ste : ℕ
ste = 0

abbrev pub cd : ℕ
cd = 1

abbrev pub stage1 : ℕ
stage1 = 2

abbrev pub stage2 : ℕ
stage2 = 3

-- the number of a kind, and the kind that two bits name
abbrev pub kind_number : Kind → ℕ
kind_number Ste = ste
kind_number Cd = cd
kind_number Stage1 = stage1
kind_number Stage2 = stage2

abbrev pub kind_named : ℕ → Kind
kind_named n = pick (eqb n ste) Ste (pick (eqb n cd) Cd (pick (eqb n stage1) Stage1 Stage2))

-- Document 02, T-05: the hypervisor's own stage 1 rows are marked, bit 11 for EL2 and bit 12 for EL2-E2H
abbrev pub unmarked : ℕ
unmarked = 0

abbrev pub el2 : ℕ
el2 = 1

abbrev pub el2_e2h : ℕ
el2_e2h = 2

-- the number of a mark, and the mark that two bits name: a row with both is ill formed
abbrev pub mark_number : Mark → ℕ
mark_number Unmarked = unmarked
mark_number El2 = el2
mark_number El2E2h = el2_e2h
mark_number Both = el2 + el2_e2h

abbrev pub mark_named : ℕ → Mark
mark_named n = pick (eqb n unmarked) Unmarked (pick (eqb n el2) El2 (pick (eqb n el2_e2h) El2E2h Both))

abbrev pub kind : Row → ℕ
kind row = get kind_bits row.w0

abbrev pub is_last : Row → Bool
is_last row = eqb (get last_bits row.w0) 1

abbrev pub is_global : Row → Bool
is_global row = eqb (get global_bits row.w0) 1

abbrev pub span : Row → ℕ
span row = get span_bits row.w0

abbrev pub mark : Row → ℕ
mark row = get mark_bits row.w0

abbrev pub is_unmarked : Row → Bool
is_unmarked row = eqb (mark row) unmarked

-- a lookup is answered by last-level rows without a mark
abbrev pub may_answer : Row → Bool
may_answer row = is_last row && is_unmarked row

abbrev pub vmid : Row → ℕ
vmid row = get vmid_bits row.w0

abbrev pub asid : Row → ℕ
asid row = get asid_bits row.w0

abbrev pub stream : Row → ℕ
stream row = get stream_bits row.w1

abbrev pub substream : Row → ℕ
substream row = get substream_bits row.w1

abbrev pub config : Row → ℕ
config row = get config_bits row.w1

abbrev pub new_mem_attr : Row → ℕ
new_mem_attr row = get new_mem_attr_bits row.w0

abbrev pub instcfg : Row → ℕ
instcfg row = get instcfg_bits row.w0

abbrev pub privcfg : Row → ℕ
privcfg row = get privcfg_bits row.w0

-- a row's parts, all at once
unfoldable pub parts_of : Row → Parts
parts_of row =
    record {
      kind = kind_named (kind row);
      last = is_last row;
      global = is_global row;
      span = span row;
      mark = mark_named (mark row);
      vmid = vmid row;
      asid = asid row;
      stream = stream row;
      substream = substream row;
      config = config row;
      instcfg = instcfg row;
      privcfg = privcfg row;
    }

-- what a last-level STE row overrides, and the attributes of a last-level stage row
unfoldable pub overrides_of : Row → Overrides
overrides_of row =
    record {
      mtcfg = get mtcfg_bits row.w0;
      memattr = new_mem_attr row;
      shcfg = get shcfg_bits row.w0;
      alloccfg = get alloccfg_bits row.w0;
    }

unfoldable pub attributes_of : Row → Attributes
attributes_of row =
    record {
      memattr = get mem_attr_bits row.w0;
      sh = get sh_bits row.w0;
      hints = get hints_bits row.w0;
    }

-- an empty row
abbrev pub is_empty : Row → Bool
is_empty row = eqb row.w0 0

-- the address lies in the 2 ^ span bytes from word 2 on
unfoldable pub covers : Row → ℕ → Bool
covers row address = leb row.w2 address && ltb address (row.w2 + 2 ^ span row)
