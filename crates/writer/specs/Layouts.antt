-- Document 02, T-10: a command that is asked for is sixteen words, its code and then its fields by their numbers; which fields each code
-- has, and the bits that each is written to. A field that a code does not have has no bits.
-- Assumes nothing.
use Rattle.std.specs.Prelude.{ℕ, zero, suc, Bool, List, [], ◌∷◌, map, eqb, get_or}
use Rattle.words.specs.Choice.{pick}
use Rattle.words.specs.Ranges.{Range, get, width}
use Rattle.words.specs.Search.{place_of}
use Rattle.commands.specs.declared.Target.{Target}
use Rattle.commands.specs.declared.Command.{Command}
use Rattle.commands.specs.declared.Command.TheVariants.{PrefetchConfig, PrefetchAddr, CfgiSte, CfgiSteRange, CfgiCd, CfgiCdAll, TlbiNhAll, TlbiNhAsid, TlbiNhVa, TlbiNhVaa, TlbiEl2All, TlbiEl2Asid, TlbiEl2Va, TlbiEl2Vaa, TlbiS12Vmall, TlbiS2Ipa, TlbiNsnhAll, Sync, DptiAll, DptiPa}
use Rattle.commands.specs.Formats.{code_bits, stream_bits, substream_bits, range_bits, leaf_bits, vmid_bits, asid_bits, page_bits, ipa_page_bits, dpt_page_bits, cs_bits, num_bits, scale_bits, tg_bits, ttl_bits, ttl128_bits, size_bits}

-- how many words there are
abbrev pub wide : ℕ
wide = 16

-- a field: its number among the words, and its bits
pub data Named : Type 0 where
  field : ℕ → Range → Named

abbrev pub number_of : Named → ℕ
number_of (field n r) = n

abbrev pub bits_of : Named → Range
bits_of (field n r) = r

abbrev pub code : Named
code = field 0 code_bits

abbrev pub stream : Named
stream = field 1 stream_bits

abbrev pub substream : Named
substream = field 2 substream_bits

abbrev pub range : Named
range = field 3 range_bits

abbrev pub leaf : Named
leaf = field 4 leaf_bits

abbrev pub vmid : Named
vmid = field 5 vmid_bits

abbrev pub asid : Named
asid = field 6 asid_bits

-- an address without its low 12 bits, which has 52, 40 or 44
abbrev pub page : Named
page = field 7 page_bits

abbrev pub ipa_page : Named
ipa_page = field 7 ipa_page_bits

abbrev pub dpt_page : Named
dpt_page = field 7 dpt_page_bits

abbrev pub cs : Named
cs = field 8 cs_bits

abbrev pub num : Named
num = field 9 num_bits

abbrev pub scale : Named
scale = field 10 scale_bits

abbrev pub tg : Named
tg = field 11 tg_bits

abbrev pub ttl : Named
ttl = field 12 ttl_bits

abbrev pub ttl128 : Named
ttl128 = field 13 ttl128_bits

abbrev pub size : Named
size = field 14 size_bits

-- what a command by address has beside its address
abbrev pub ranged : List Named
ranged = leaf ∷ num ∷ scale ∷ tg ∷ ttl ∷ ttl128 ∷ []

-- a code, and the fields that it has
pub data Layout : Type 0 where
  has : ℕ → List Named → Layout

abbrev pub key_of : Layout → ℕ
key_of (has n fs) = n

abbrev pub fields_in : Layout → List Named
fields_in (has n fs) = fs

-- A line for each code that has fields: 01, 02, 20, 30 and 70 have none.
abbrev pub layouts : List Layout
layouts =
    has 0x03 (stream ∷ leaf ∷ [])
    ∷ has 0x04 (stream ∷ range ∷ [])
    ∷ has 0x05 (stream ∷ substream ∷ leaf ∷ [])
    ∷ has 0x06 (stream ∷ [])
    ∷ has 0x10 (vmid ∷ [])
    ∷ has 0x11 (vmid ∷ asid ∷ [])
    ∷ has 0x12 (vmid ∷ asid ∷ page ∷ ranged)
    ∷ has 0x13 (vmid ∷ page ∷ ranged)
    ∷ has 0x21 (asid ∷ [])
    ∷ has 0x22 (asid ∷ page ∷ ranged)
    ∷ has 0x23 (page ∷ ranged)
    ∷ has 0x28 (vmid ∷ [])
    ∷ has 0x2A (vmid ∷ ipa_page ∷ ranged)
    ∷ has 0x46 (cs ∷ [])
    ∷ has 0x73 (leaf ∷ dpt_page ∷ size ∷ [])
    ∷ []

abbrev pub keys : List ℕ
keys = map key_of layouts

-- the code's own bits, and its fields
abbrev pub layout_of : ℕ → List Named
layout_of c = code ∷ get_or (map fields_in layouts) (place_of keys c) []

-- the bits of some fields
abbrev pub ranges : List Named → List Range
ranges fs = map bits_of fs

-- how many bits a field has, by its number, and what a command says there; without bits, 0
abbrev pub width_at : List Named → ℕ → ℕ
width_at [] k = 0
width_at (field n r ∷ fs) k = pick (eqb k n) (width r) (width_at fs k)

abbrev pub read_at : List Named → ℕ → ℕ → ℕ
read_at [] c k = 0
read_at (field n r ∷ fs) c k = pick (eqb k n) (get r c) (read_at fs c k)

-- some fields with their values, as the sixteen words: those not named are 0
abbrev pub value_at : List (Named × ℕ) → ℕ → ℕ
value_at [] k = 0
value_at (v ∷ vs) k = pick (eqb k (number_of v.0)) v.1 (value_at vs k)

abbrev pub spread : (ℕ → ℕ) → ℕ → ℕ → List ℕ
spread g zero i = []
spread g (suc n) i = g i ∷ spread g n (suc i)

abbrev pub asking : ℕ → List (Named × ℕ) → List ℕ
asking c vs = spread (value_at ((code, c) ∷ vs)) wide 0

abbrev pub bit : Bool → ℕ
bit b = pick b 1 0

abbrev pub ranged_by : Target → List (Named × ℕ)
ranged_by t =
    (leaf, bit t.leaf) ∷ (num, t.num) ∷ (scale, t.scale) ∷ (tg, t.tg) ∷ (ttl, t.ttl) ∷ (ttl128, bit t.ttl128) ∷ []

-- the words that ask for a command
unfoldable pub fields_of : Command → List ℕ
fields_of PrefetchConfig = asking 0x01 []
fields_of PrefetchAddr = asking 0x02 []
fields_of (CfgiSte s l) = asking 0x03 ((stream, s) ∷ (leaf, bit l) ∷ [])
fields_of (CfgiSteRange s r) = asking 0x04 ((stream, s) ∷ (range, r) ∷ [])
fields_of (CfgiCd u s l) = asking 0x05 ((stream, s) ∷ (substream, u) ∷ (leaf, bit l) ∷ [])
fields_of (CfgiCdAll s) = asking 0x06 ((stream, s) ∷ [])
fields_of (TlbiNhAll v) = asking 0x10 ((vmid, v) ∷ [])
fields_of (TlbiNhAsid v a) = asking 0x11 ((vmid, v) ∷ (asid, a) ∷ [])
fields_of (TlbiNhVa v a t) = asking 0x12 ((vmid, v) ∷ (asid, a) ∷ (page, t.page) ∷ ranged_by t)
fields_of (TlbiNhVaa v t) = asking 0x13 ((vmid, v) ∷ (page, t.page) ∷ ranged_by t)
fields_of TlbiEl2All = asking 0x20 []
fields_of (TlbiEl2Asid a) = asking 0x21 ((asid, a) ∷ [])
fields_of (TlbiEl2Va a t) = asking 0x22 ((asid, a) ∷ (page, t.page) ∷ ranged_by t)
fields_of (TlbiEl2Vaa t) = asking 0x23 ((page, t.page) ∷ ranged_by t)
fields_of (TlbiS12Vmall v) = asking 0x28 ((vmid, v) ∷ [])
fields_of (TlbiS2Ipa v t) = asking 0x2A ((vmid, v) ∷ (ipa_page, t.page) ∷ ranged_by t)
fields_of TlbiNsnhAll = asking 0x30 []
fields_of (Sync c) = asking 0x46 ((cs, c) ∷ [])
fields_of DptiAll = asking 0x70 []
fields_of (DptiPa p s l) = asking 0x73 ((leaf, bit l) ∷ (dpt_page, p) ∷ (size, s) ∷ [])
