-- Document 01, Commands and their scopes, with document 02, T-05, T-07 and T-11: the codes, what each needs and names, and the
-- command that it is. Bits are numbered 127:0 over both words.
-- Assumes nothing.
use Rattle.std.specs.Prelude.{ℕ, ◌+◌, ◌≡◌, Bool, true, not, ◌&&◌, List, [], ◌∷◌, ◌++◌, map, eqb, length, get_or}
use Rattle.words.specs.Choice.{pick}
use Rattle.words.specs.Parts.{is_set}
use Rattle.words.specs.Ranges.{Range, bits, get, named, all}
use Rattle.commands.specs.declared.Features.{Features}
use Rattle.commands.specs.declared.Target.{Target}
use Rattle.commands.specs.declared.Shape.{Shape}
use Rattle.commands.specs.declared.Command.{Command}
use Rattle.commands.specs.declared.Command.TheVariants.{PrefetchConfig, PrefetchAddr, CfgiSte, CfgiSteRange, CfgiCd, CfgiCdAll, TlbiNhAll, TlbiNhAsid, TlbiNhVa, TlbiNhVaa, TlbiEl2All, TlbiEl2Asid, TlbiEl2Va, TlbiEl2Vaa, TlbiS12Vmall, TlbiS2Ipa, TlbiNsnhAll, Sync, DptiAll, DptiPa}

abbrev pub code_bits : Range
code_bits = bits 7 0

abbrev pub stream_bits : Range
stream_bits = bits 63 32

abbrev pub substream_bits : Range
substream_bits = bits 31 12

abbrev pub vmid_bits : Range
vmid_bits = bits 47 32

abbrev pub asid_bits : Range
asid_bits = bits 63 48

abbrev pub cs_bits : Range
cs_bits = bits 13 12

abbrev pub leaf_bits : Range
leaf_bits = bits 64 64

abbrev pub range_bits : Range
range_bits = bits 68 64

-- Address[63:12], and Address[51:12] of an intermediate address
abbrev pub page_bits : Range
page_bits = bits 127 76

abbrev pub ipa_page_bits : Range
ipa_page_bits = bits 115 76

-- document 02, T-07: the fields of a range
abbrev pub num_bits : Range
num_bits = bits 16 12

abbrev pub scale_bits : Range
scale_bits = bits 24 20

abbrev pub ttl128_bits : Range
ttl128_bits = bits 71 71

abbrev pub ttl_bits : Range
ttl_bits = bits 73 72

abbrev pub tg_bits : Range
tg_bits = bits 75 74

-- document 02, T-11: Address[55:12] of a physical address, and SIZE
abbrev pub dpt_page_bits : Range
dpt_page_bits = bits 119 76

abbrev pub size_bits : Range
size_bits = bits 75 72

-- without S2P the VMID is Reserved
abbrev pub vmid_with : Features → List Range
vmid_with f = pick f.s2p (vmid_bits ∷ []) []

-- what TG and TTL say of the other bits
abbrev pub shape_of : ℕ → Shape
shape_of c = record { ranged = not (eqb (get tg_bits c) 0); hinted = not (eqb (get ttl_bits c) 0) }

-- without RIL, and with TG 0, the fields of a range are Reserved; with TTL 0, TTL128 is
abbrev pub range_with : Features → Shape → List Range
range_with f s =
    pick (f.ril && s.ranged) (num_bits ∷ scale_bits ∷ ttl_bits ∷ tg_bits ∷ pick s.hinted (ttl128_bits ∷ []) []) []

-- a field of one bit as a yes or no
abbrev pub is_set_in : Range → ℕ → Bool
is_set_in r c = eqb (get r c) 1

-- what a command by address aims at, given the page
abbrev pub target_of : ℕ → ℕ → Target
target_of page c =
    record {
      leaf = is_set_in leaf_bits c;
      page = page;
      num = get num_bits c;
      scale = get scale_bits c;
      tg = get tg_bits c;
      ttl = get ttl_bits c;
      ttl128 = is_set_in ttl128_bits c;
    }

-- what a code needs
abbrev pub always : Features → Bool
always f = true

abbrev pub s1p : Features → Bool
s1p f = f.s1p

abbrev pub s2p : Features → Bool
s2p f = f.s2p

-- document 02, T-05
abbrev pub hyp : Features → Bool
hyp f = f.hyp && f.s1p

-- document 02, T-11
abbrev pub dpt : Features → Bool
dpt f = f.dpt

-- A code; whether the features that it needs are there; the bits besides its own that it names under the features and by the
-- shape, those not looked at among them; and the command, with its fields as they stand.
pub data Format : Type 0 where
  code : ℕ → (Features → Bool) → (Features → Shape → List Range) → (ℕ → Command) → Format

-- The table, a line for each code. Every bit that its line does not name is Reserved.
abbrev pub formats : List Format
formats =
    -- 01, 02: 9:8 and 127:11 are not looked at
    code 0x01 always (λ f s. bits 9 8 ∷ bits 127 11 ∷ []) (λ c. PrefetchConfig)
    ∷ code 0x02 always (λ f s. bits 9 8 ∷ bits 127 11 ∷ []) (λ c. PrefetchAddr)
    ∷ code 0x03 always (λ f s. stream_bits ∷ leaf_bits ∷ []) (λ c. CfgiSte (get stream_bits c) (is_set_in leaf_bits c))
    ∷ code 0x04 always (λ f s. stream_bits ∷ range_bits ∷ []) (λ c. CfgiSteRange (get stream_bits c) (get range_bits c))
    ∷ code 0x05 s1p (λ f s. substream_bits ∷ stream_bits ∷ leaf_bits ∷ []) (λ c. CfgiCd (get substream_bits c) (get stream_bits c) (is_set_in leaf_bits c))
    ∷ code 0x06 s1p (λ f s. stream_bits ∷ []) (λ c. CfgiCdAll (get stream_bits c))
    ∷ code 0x10 s1p (λ f s. vmid_with f) (λ c. TlbiNhAll (get vmid_bits c))
    ∷ code 0x11 s1p (λ f s. vmid_with f ++ asid_bits ∷ []) (λ c. TlbiNhAsid (get vmid_bits c) (get asid_bits c))
    ∷ code 0x12 s1p (λ f s. vmid_with f ++ asid_bits ∷ leaf_bits ∷ page_bits ∷ range_with f s) (λ c. TlbiNhVa (get vmid_bits c) (get asid_bits c) (target_of (get page_bits c) c))
    ∷ code 0x13 s1p (λ f s. vmid_with f ++ leaf_bits ∷ page_bits ∷ range_with f s) (λ c. TlbiNhVaa (get vmid_bits c) (target_of (get page_bits c) c))
    -- document 02, T-05: no VMID
    ∷ code 0x20 hyp (λ f s. []) (λ c. TlbiEl2All)
    ∷ code 0x21 hyp (λ f s. asid_bits ∷ []) (λ c. TlbiEl2Asid (get asid_bits c))
    ∷ code 0x22 hyp (λ f s. asid_bits ∷ leaf_bits ∷ page_bits ∷ range_with f s) (λ c. TlbiEl2Va (get asid_bits c) (target_of (get page_bits c) c))
    ∷ code 0x23 hyp (λ f s. leaf_bits ∷ page_bits ∷ range_with f s) (λ c. TlbiEl2Vaa (target_of (get page_bits c) c))
    ∷ code 0x28 s2p (λ f s. vmid_bits ∷ []) (λ c. TlbiS12Vmall (get vmid_bits c))
    ∷ code 0x2A s2p (λ f s. vmid_bits ∷ leaf_bits ∷ ipa_page_bits ∷ range_with f s) (λ c. TlbiS2Ipa (get vmid_bits c) (target_of (get ipa_page_bits c) c))
    ∷ code 0x30 always (λ f s. []) (λ c. TlbiNsnhAll)
    -- 46: 27:22, 63:32 and 127:64 are not looked at
    ∷ code 0x46 always (λ f s. cs_bits ∷ bits 27 22 ∷ bits 63 32 ∷ bits 127 64 ∷ []) (λ c. Sync (get cs_bits c))
    -- document 02, T-11: any SIZE
    ∷ code 0x70 dpt (λ f s. []) (λ c. DptiAll)
    ∷ code 0x73 dpt (λ f s. leaf_bits ∷ size_bits ∷ dpt_page_bits ∷ []) (λ c. DptiPa (get dpt_page_bits c) (get size_bits c) (is_set_in leaf_bits c))
    ∷ []

abbrev pub how_many : ℕ
how_many = length formats

abbrev pub code_in : Format → ℕ
code_in (code n needs names is) = n

abbrev pub needs_in : Format → Features → Bool
needs_in (code n needs names is) f = needs f

abbrev pub names_in : Format → Features → Shape → List Range
names_in (code n needs names is) f s = names f s

abbrev pub command_in : Format → ℕ → Command
command_in (code n needs names is) c = is c

-- the codes, in ascending order
abbrev pub codes : List ℕ
codes = map code_in formats

-- the bits that the k-th code names
abbrev pub named_at : Features → Shape → ℕ → List Range
named_at f s k = code_bits ∷ get_or (map (λ (l : Format). names_in l f s) formats) k []

-- a pair of masks, for the low word and the high: their set bits are those that lie in the ranges
abbrev pub exactly : (ℕ → Bool) → ℕ → Bool
exactly p m = all 64 (λ i. pick (is_set i m) (p i) (not (p i)))

pub record MasksOf (rs : List Range) (m : List ℕ) : Type 0 where
  pub low : exactly (named rs) (get_or m 0 0) ≡ true
  pub high : exactly (λ i. named rs (64 + i)) (get_or m 1 0) ≡ true
