-- Document 01, The kept memory, and document 02, T-04 and T-05: which rows are well formed.
-- Assumes nothing.
use Rattle.std.specs.Prelude.{ℕ, ◌+◌, ◌-◌, ◌*◌, ◌%◌, ◌^◌, Bool, true, not, ◌&&◌, ◌||◌, List, [], ◌∷◌, ◌++◌, eqb, leb, ltb, get_or}
use Rattle.words.specs.Choice.{pick}
use Rattle.words.specs.Parts.{part}
use Rattle.words.specs.Ranges.{Range, bits, get, width, only_in}
use Rattle.attributes.specs.Formats as attributes
use Rattle.rows.specs.declared.Row.{Row}
use Rattle.rows.specs.Rows

-- what every row that is not empty has in word 0
abbrev tag : List Range
tag = Rows.valid_bits ∷ Rows.kind_bits ∷ Rows.last_bits ∷ []

-- The parts named for a row, a list for each of its four words: first the four kinds not last-level, then last-level. Every other part is 0.
abbrev pub named_parts : List (List Range)
named_parts =
    -- STE
    (tag ++ Rows.span_bits ∷ []) ∷ (Rows.stream_bits ∷ []) ∷ [] ∷ []
    -- CD
    ∷ tag ∷ (Rows.stream_bits ∷ []) ∷ [] ∷ []
    -- stage 1
    ∷ (tag ++ Rows.vmid_bits ∷ Rows.asid_bits ∷ Rows.global_bits ∷ Rows.span_bits ∷ Rows.mark_bits ∷ []) ∷ [] ∷ (Rows.whole_word ∷ []) ∷ []
    -- stage 2
    ∷ (tag ++ Rows.vmid_bits ∷ Rows.span_bits ∷ []) ∷ [] ∷ (Rows.whole_word ∷ []) ∷ []
    -- STE, last-level
    ∷ (tag
    ++ Rows.vmid_bits
    ∷ Rows.mtcfg_bits
    ∷ Rows.new_mem_attr_bits
    ∷ Rows.shcfg_bits
    ∷ Rows.alloccfg_bits
    ∷ Rows.instcfg_bits
    ∷ Rows.privcfg_bits
    ∷ [])
    ∷ (Rows.stream_bits ∷ Rows.config_bits ∷ [])
    ∷ []
    ∷ []
    -- CD, last-level
    ∷ (tag ++ Rows.asid_bits ∷ []) ∷ (Rows.stream_bits ∷ Rows.substream_bits ∷ []) ∷ [] ∷ []
    -- stage 1, last-level
    ∷ (tag
    ++ Rows.vmid_bits
    ∷ Rows.asid_bits
    ∷ Rows.global_bits
    ∷ Rows.span_bits
    ∷ Rows.mark_bits
    ∷ Rows.mem_attr_bits
    ∷ Rows.sh_bits
    ∷ Rows.hints_bits
    ∷ [])
    ∷ []
    ∷ (Rows.whole_word ∷ [])
    ∷ (Rows.whole_word ∷ [])
    -- stage 2, last-level
    ∷ (tag ++ Rows.vmid_bits ∷ Rows.span_bits ∷ Rows.mem_attr_bits ∷ Rows.sh_bits ∷ [])
    ∷ []
    ∷ (Rows.whole_word ∷ [])
    ∷ (Rows.whole_word ∷ [])
    ∷ []

-- the place of a row's lists: the bits of kind and last-level, side by side
abbrev pub shape : Row → ℕ
shape row = part 3 1 row.w0

unfoldable pub only_named : Row → Bool
only_named row =
    only_in (get_or named_parts (4 * shape row) []) row.w0
    && only_in (get_or named_parts (4 * shape row + 1) []) row.w1
    && only_in (get_or named_parts (4 * shape row + 2) []) row.w2
    && only_in (get_or named_parts (4 * shape row + 3) []) row.w3

-- an STE row: a known Config and a well-formed MemAttr; or a block of streams that begins at a multiple of its size
abbrev pub known_config : ℕ → Bool
known_config c = eqb c 0 || leb 4 c

unfoldable pub ste_good : Row → Bool
ste_good row =
    pick (Rows.is_last row)
    (known_config (Rows.config row) && attributes.mem_attr_formed (Rows.new_mem_attr row))
    ((eqb (Rows.span row) 6 || eqb (Rows.span row) 8 || eqb (Rows.span row) 10) && eqb (Rows.stream row % 2 ^ Rows.span row) 0)

-- output addresses, and input addresses at stage 2, have this many bits, and are multiples of 2 ^ span
abbrev pub address_bits : ℕ
address_bits = 52

unfoldable pub placed : ℕ → ℕ → Bool
placed n a = ltb a (2 ^ address_bits) && eqb (a % 2 ^ n) 0

-- Document 02, T-04: the bits above those; in the lower half of the input addresses at stage 1 they are all 0, in the upper half all 1
abbrev pub half_bits : Range
half_bits = bits 63 address_bits

abbrev pub all_ones : ℕ
all_ones = 2 ^ width half_bits - 1

unfoldable pub in_half : ℕ → Bool
in_half a = eqb (get half_bits a) 0 || eqb (get half_bits a) all_ones

-- where a row of a stage and a span may begin: at stage 1 in either half
unfoldable pub begins : ℕ → ℕ → ℕ → Bool
begins kind n a = pick (eqb kind Rows.stage1) (in_half a && eqb (a % 2 ^ n) 0) (placed n a)

-- Document 02, T-05: a marked row has VMID 0 and one mark, and only an EL2-E2H one has an ASID or is global
unfoldable pub mark_good : Row → Bool
mark_good row =
    Rows.is_unmarked row
    || (eqb (Rows.vmid row) 0
    && (eqb (Rows.mark row) Rows.el2_e2h
    || (eqb (Rows.mark row) Rows.el2 && eqb (Rows.asid row) 0 && not (Rows.is_global row))))

-- The rules that document 02 widens, so that it can be said that a row well formed by narrower ones still is.
pub record RowRules : Type 0 where
  pub begin : ℕ → ℕ → ℕ → Bool
  pub marks : Row → Bool

-- as document 01 has them
abbrev pub document01 : RowRules
document01 = record { begin = λ kind n a. placed n a; marks = λ row. Rows.is_unmarked row }

-- as they are
abbrev pub present : RowRules
present = record { begin = begins; marks = mark_good }

-- a stage row: its span, its input address, in a last-level one the output address and the attributes, and its mark
unfoldable pub stage_good_by : RowRules → Row → Bool
stage_good_by rules row =
    leb 12 (Rows.span row)
    && leb (Rows.span row) 48
    && rules.begin (Rows.kind row) (Rows.span row) row.w2
    && (not (Rows.is_last row) || (placed (Rows.span row) row.w3 && attributes.well_formed (Rows.attributes_of row)))
    && rules.marks row

unfoldable pub good_by : RowRules → Row → Bool
good_by rules row =
    pick (eqb (Rows.kind row) Rows.ste) (ste_good row) (pick (eqb (Rows.kind row) Rows.cd) true (stage_good_by rules row))

unfoldable pub well_formed_by : RowRules → Row → Bool
well_formed_by rules row = Rows.is_empty row || (eqb (get Rows.valid_bits row.w0) 1 && only_named row && good_by rules row)

abbrev pub stage_good : Row → Bool
stage_good row = stage_good_by present row

abbrev pub good : Row → Bool
good row = good_by present row

abbrev pub well_formed : Row → Bool
well_formed row = well_formed_by present row
