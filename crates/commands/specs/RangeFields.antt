-- Document 02, T-07: which bits of a range may be set, and the verdict on its fields, as a table to hold decoding to: of 13, with every
-- TG, TTL and TTL128 and with NUM and SCALE 0 or 1. Reasons are numbers, legal is 0.
-- Assumes nothing.
use Rattle.std.specs.Prelude.{ℕ, ◌+◌, ◌*◌, ◌^◌, Bool, true, false, not, ◌&&◌, ◌||◌, [], ◌∷◌, eqb}
use Rattle.words.specs.Choice.{pick}
use Rattle.words.specs.Ranges.{named}
use Rattle.commands.specs.declared.Features.{Features}
use Rattle.commands.specs.declared.Shape.{Shape}
use Rattle.commands.specs.declared.Decoded.{Decoded}
use Rattle.commands.specs.declared.Decoded.TheVariants.{Legal, Illegal}
use Rattle.commands.specs.Formats.{num_bits, scale_bits, ttl128_bits, ttl_bits, tg_bits}
use Rattle.commands.specs.Decoding.{decode, reason_number}

-- with RIL and TG not 0 the fields of a range, of which TTL128 only with TTL not 0
abbrev pub may_be_set : Features → Shape → ℕ → Bool
may_be_set f s i =
    f.ril && s.ranged && (named (num_bits ∷ scale_bits ∷ ttl_bits ∷ tg_bits ∷ []) i || (named (ttl128_bits ∷ []) i && s.hinted))

-- the unit without RIL
abbrev pub without_ril : Features → Features
without_ril f = record { s1p = f.s1p; s2p = f.s2p; asid16 = f.asid16; vmid16 = f.vmid16; hyp = f.hyp; e2h = f.e2h; ril = false; dpt = f.dpt }

abbrev pub none_set : ℕ → ℕ → ℕ → ℕ → Bool
none_set ttl ttl128 num scale = eqb ttl 0 && eqb ttl128 0 && eqb num 0 && eqb scale 0

abbrev pub table_says : Bool → ℕ → ℕ → ℕ → ℕ → ℕ → ℕ
table_says ril tg ttl ttl128 num scale =
    -- no RIL, any of the fields set
    pick (not ril && not (eqb tg 0 && none_set ttl ttl128 num scale)) 3
    -- TG 0, any other set
    (pick (eqb tg 0 && not (none_set ttl ttl128 num scale)) 3
    -- TG not 0, TTL 0, TTL128 set
    (pick (not (eqb tg 0) && eqb ttl 0 && eqb ttl128 1) 3
    -- TG not 0, and NUM, SCALE and TTL 0
    (pick (not (eqb tg 0) && eqb num 0 && eqb scale 0 && eqb ttl 0) 4
    -- TG 2, TTL 1, and NUM and SCALE 0
    (pick (eqb tg 2 && eqb ttl 1 && eqb num 0 && eqb scale 0) 4 0))))

-- a 13 with such fields, its low word and its high one, and what decoding says of it with S1P
abbrev pub ranged : ℕ → ℕ → ℕ → ℕ → ℕ → ℕ × ℕ
ranged tg ttl ttl128 num scale = (0x13 + num * 2 ^ 12 + scale * 2 ^ 20, ttl128 * 2 ^ 7 + ttl * 2 ^ 8 + tg * 2 ^ 10)

abbrev pub with_s1p : Bool → Features
with_s1p ril = record { s1p = true; s2p = false; asid16 = false; vmid16 = false; hyp = false; e2h = false; ril = ril; dpt = false }

abbrev pub number_of : Decoded → ℕ
number_of (Legal command) = 0
number_of (Illegal why) = reason_number why

abbrev pub verdict_of : Bool → ℕ × ℕ → ℕ
verdict_of ril w = number_of (decode (with_s1p ril) w.0 w.1)
