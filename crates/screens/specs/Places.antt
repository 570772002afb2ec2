-- The parts of words 0 and 1 that screens ask about, by their places in a row: masks of ranges, and numbers in their places.
-- Assumes nothing.
use Rattle.std.specs.Prelude.{ℕ, ◌+◌, ◌-◌, ◌*◌, ◌^◌, List, [], ◌∷◌}
use Rattle.words.specs.Parts.{part}
use Rattle.words.specs.Ranges.{Range, bits}
use Rattle.rows.specs.Rows as rows

-- the bits of some ranges
abbrev pub mask_of : List Range → ℕ
mask_of [] = 0
mask_of (bits h l ∷ rs) = 2 ^ (h + 1) - 2 ^ l + mask_of rs

-- kind's upper bit, which both stages have and no other
abbrev pub stages_bits : Range
stages_bits = bits 2 2

-- a number in its place
abbrev pub placed : Range → ℕ → ℕ
placed (bits h l) v = v * 2 ^ l

abbrev pub of_kind : ℕ → ℕ
of_kind k = placed rows.kind_bits k

abbrev pub of_mark : ℕ → ℕ
of_mark m = placed rows.mark_bits m

-- identifiers by their lowest 16 bits: a row has no more
abbrev pub of_vmid : ℕ → ℕ
of_vmid id = placed rows.vmid_bits (part 15 0 id)

abbrev pub of_asid : ℕ → ℕ
of_asid id = placed rows.asid_bits (part 15 0 id)

abbrev pub stream_mask : ℕ
stream_mask = mask_of (rows.stream_bits ∷ [])

-- a row that may answer is a last-level one and has no mark
abbrev pub answer_mask : ℕ
answer_mask = mask_of (rows.kind_bits ∷ rows.last_bits ∷ rows.mark_bits ∷ [])

abbrev pub answer_vmid_mask : ℕ
answer_vmid_mask = mask_of (rows.kind_bits ∷ rows.last_bits ∷ rows.mark_bits ∷ rows.vmid_bits ∷ [])

abbrev pub of_answer : ℕ → ℕ
of_answer k = placed rows.last_bits 1 + of_kind k
