-- Document 01, Commands and their scopes, with document 02, T-05, T-07, T-09 and T-11: which commands are legal, and what they are.
-- Assumes nothing.
use Rattle.std.specs.Prelude.{ℕ, ◌+◌, ◌*◌, Bool, true, false, not, ◌&&◌, ◌||◌, List, [], ◌∷◌, eqb, ltb}
use Rattle.words.specs.Choice.{pick}
use Rattle.words.specs.Parts.{joined}
use Rattle.words.specs.Ranges.{get, named, set_only}
use Rattle.words.specs.Search.{place_of}
use Rattle.words.specs.Bytes.{word_at}
use Rattle.commands.specs.declared.Features.{Features}
use Rattle.commands.specs.declared.Command.{Command}
use Rattle.commands.specs.declared.Command.TheVariants.{PrefetchConfig, PrefetchAddr, CfgiSte, CfgiSteRange, CfgiCd, CfgiCdAll, TlbiNhAll, TlbiNhAsid, TlbiNhVa, TlbiNhVaa, TlbiEl2All, TlbiEl2Asid, TlbiEl2Va, TlbiEl2Vaa, TlbiS12Vmall, TlbiS2Ipa, TlbiNsnhAll, Sync, DptiAll, DptiPa}
use Rattle.commands.specs.declared.Reason.{Reason}
use Rattle.commands.specs.declared.Reason.TheVariants.{UnknownCode, FeatureAbsent, ReservedBit, BadParameter}
use Rattle.commands.specs.declared.Decoded.{Decoded}
use Rattle.commands.specs.declared.Decoded.TheVariants.{Legal, Illegal}
use Rattle.commands.specs.Formats.{Format, code_bits, cs_bits, leaf_bits, num_bits, scale_bits, ttl_bits, tg_bits, dpt_page_bits, size_bits, is_set_in, shape_of, dpt, formats, code_in, needs_in, command_in, codes, how_many, named_at}

-- a command is one number of 128 bits
abbrev pub code_of : ℕ → ℕ
code_of c = get code_bits c

abbrev pub place_in : ℕ → ℕ
place_in c = place_of codes (code_of c)

-- its code is one of those in the table
unfoldable pub known_code : ℕ → Bool
known_code c = ltb (place_in c) how_many

-- what the table has at a code, or else the last
abbrev pub at : {A : Type 0} → (Format → A) → A → List Format → ℕ → A
at column last [] code = last
at column last (l ∷ ls) code = pick (eqb code (code_in l)) (column l) (at column last ls code)

-- the features that a code needs
unfoldable pub feature_present : Features → ℕ → Bool
feature_present f code = at (λ (l : Format). needs_in l f) (dpt f) formats code

-- each set bit is one that the code names
unfoldable pub clean : Features → ℕ → ℕ → Bool
clean f k c = set_only 128 (named (named_at f (shape_of c) k)) c

-- CS of 46 is not 3
abbrev pub bad_cs : ℕ → ℕ → Bool
bad_cs code c = eqb code 0x46 && eqb (get cs_bits c) 3

-- document 02, T-07: the codes whose commands may have a range
abbrev pub by_address : ℕ → Bool
by_address code = eqb code 0x12 || eqb code 0x13 || eqb code 0x22 || eqb code 0x23 || eqb code 0x2A

-- TTL gives no level: it is 0, or 1 of the granule TG 2, which has none
abbrev pub no_level : ℕ → Bool
no_level c = eqb (get ttl_bits c) 0 || (eqb (get tg_bits c) 2 && eqb (get ttl_bits c) 1)

-- and a range of one granule needs one
abbrev pub bad_range : ℕ → ℕ → Bool
bad_range code c =
    by_address code && not (eqb (get tg_bits c) 0) && (eqb (get num_bits c) 0 && eqb (get scale_bits c) 0) && no_level c

unfoldable pub parameter_good : ℕ → ℕ → Bool
parameter_good code c = not (bad_cs code c || bad_range code c)

-- a legal code's command; CMD_DPTI_PA is the last
unfoldable pub command_of : ℕ → ℕ → Command
command_of code c =
    at (λ (l : Format). command_in l c) (DptiPa (get dpt_page_bits c) (get size_bits c) (is_set_in leaf_bits c)) formats code

-- Document 02, T-09: the four tests in their order, each with the reason that it gives where it fails
abbrev pub reasons : Features → ℕ → List (Reason × Bool)
reasons f c =
    (UnknownCode, not (known_code c))
    ∷ (FeatureAbsent, not (feature_present f (code_of c)))
    ∷ (ReservedBit, not (clean f (place_in c) c))
    ∷ (BadParameter, not (parameter_good (code_of c) c))
    ∷ []

-- legal: none applies
abbrev pub none : List (Reason × Bool) → Bool
none [] = true
none (r ∷ rs) = not r.1 && none rs

unfoldable pub is_legal : Features → ℕ → Bool
is_legal f c = none (reasons f c)

-- illegal: the first that applies
abbrev pub first : List (Reason × Bool) → Decoded → Decoded
first [] legal = legal
first (r ∷ rs) legal = pick r.1 (Illegal r.0) (first rs legal)

unfoldable pub decode : Features → ℕ → ℕ → Decoded
decode f lo hi = first (reasons f (joined lo hi)) (Legal (command_of (code_of (joined lo hi)) (joined lo hi)))

-- the reasons, numbered
abbrev pub reason_number : Reason → ℕ
reason_number UnknownCode = 1
reason_number FeatureAbsent = 2
reason_number ReservedBit = 3
reason_number BadParameter = 4

abbrev pub is_illegal : Decoded → Bool
is_illegal (Legal command) = false
is_illegal (Illegal why) = true

-- the command in a slot of the queue: 16 bytes, the low word first
unfoldable pub decode_at : Features → List ℕ → ℕ → Decoded
decode_at f queue slot = decode f (word_at queue (16 * slot)) (word_at queue (16 * slot + 8))

-- a CMD_SYNC with CS 1, of which a run counts those that it consumes
abbrev pub is_counted : Command → Bool
is_counted PrefetchConfig = false
is_counted PrefetchAddr = false
is_counted (CfgiSte stream leaf) = false
is_counted (CfgiSteRange stream range) = false
is_counted (CfgiCd substream stream leaf) = false
is_counted (CfgiCdAll stream) = false
is_counted (TlbiNhAll vmid) = false
is_counted (TlbiNhAsid vmid asid) = false
is_counted (TlbiNhVa vmid asid target) = false
is_counted (TlbiNhVaa vmid target) = false
is_counted TlbiEl2All = false
is_counted (TlbiEl2Asid asid) = false
is_counted (TlbiEl2Va asid target) = false
is_counted (TlbiEl2Vaa target) = false
is_counted (TlbiS12Vmall vmid) = false
is_counted (TlbiS2Ipa vmid target) = false
is_counted TlbiNsnhAll = false
is_counted (Sync cs) = eqb cs 1
is_counted DptiAll = false
is_counted (DptiPa page size leaf) = false

-- how many of those a decoded command is
abbrev pub syncs_of : Decoded → ℕ
syncs_of (Legal command) = pick (is_counted command) 1 0
syncs_of (Illegal why) = 0
