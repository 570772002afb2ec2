-- Document 01, Bench cases: those with a star, each as what the definitions give and what it should be.
-- Assumes nothing.
use Rattle.std.specs.Prelude.{ℕ, ◌+◌, Bool, true, false, ◌&&◌, List, [], ◌∷◌, eqb, None, Option, Some}
use Rattle.words.specs.Choice.{pick}
use Rattle.control.specs.declared.Rest.{Rest}
use Rattle.control.specs.Control as control
use Rattle.control_stores.specs.Stores as stores
use Rattle.combining.specs.Combining.{combine}
use Rattle.rows.specs.declared.Row.{Row}
use Rattle.commands.specs.declared.Features.{Features}
use Rattle.commands.specs.declared.Command.TheVariants.{PrefetchConfig, PrefetchAddr, CfgiSte, CfgiSteRange, CfgiCd, CfgiCdAll, TlbiNhAll, TlbiNhAsid, TlbiNhVa, TlbiNhVaa, TlbiEl2All, TlbiEl2Asid, TlbiEl2Va, TlbiEl2Vaa, TlbiS12Vmall, TlbiS2Ipa, TlbiNsnhAll, Sync, DptiAll, DptiPa}
use Rattle.commands.specs.declared.Decoded.{Decoded}
use Rattle.commands.specs.declared.Decoded.TheVariants.{Legal, Illegal}
use Rattle.commands.specs.Decoding.{decode, is_counted}
use Rattle.scopes.specs.Scopes.{idle, in_scope}

abbrev truth : Bool → ℕ
truth b = pick b 1 0

-- a command as its code and its fields, an illegal one as nothing
abbrev spelled : Decoded → List ℕ
spelled (Illegal why) = []
spelled (Legal PrefetchConfig) = 0x01 ∷ []
spelled (Legal PrefetchAddr) = 0x02 ∷ []
spelled (Legal (CfgiSte stream leaf)) = 0x03 ∷ stream ∷ truth leaf ∷ []
spelled (Legal (CfgiSteRange stream range)) = 0x04 ∷ stream ∷ range ∷ []
spelled (Legal (CfgiCd substream stream leaf)) = 0x05 ∷ substream ∷ stream ∷ truth leaf ∷ []
spelled (Legal (CfgiCdAll stream)) = 0x06 ∷ stream ∷ []
spelled (Legal (TlbiNhAll vmid)) = 0x10 ∷ vmid ∷ []
spelled (Legal (TlbiNhAsid vmid asid)) = 0x11 ∷ vmid ∷ asid ∷ []
spelled (Legal (TlbiNhVa vmid asid target)) = 0x12 ∷ vmid ∷ asid ∷ truth target.leaf ∷ target.page ∷ []
spelled (Legal (TlbiNhVaa vmid target)) = 0x13 ∷ vmid ∷ truth target.leaf ∷ target.page ∷ []
spelled (Legal TlbiEl2All) = 0x20 ∷ []
spelled (Legal (TlbiEl2Asid asid)) = 0x21 ∷ asid ∷ []
spelled (Legal (TlbiEl2Va asid target)) = 0x22 ∷ asid ∷ truth target.leaf ∷ target.page ∷ []
spelled (Legal (TlbiEl2Vaa target)) = 0x23 ∷ truth target.leaf ∷ target.page ∷ []
spelled (Legal (TlbiS12Vmall vmid)) = 0x28 ∷ vmid ∷ []
spelled (Legal (TlbiS2Ipa vmid target)) = 0x2A ∷ vmid ∷ truth target.leaf ∷ target.page ∷ []
spelled (Legal TlbiNsnhAll) = 0x30 ∷ []
spelled (Legal (Sync cs)) = 0x46 ∷ cs ∷ []
spelled (Legal DptiAll) = 0x70 ∷ []
spelled (Legal (DptiPa page size leaf)) = 0x73 ∷ page ∷ size ∷ truth leaf ∷ []

-- whether it is counted, whether it can remove no row, and whether it removes one; an illegal one does none of it
abbrev counted : Decoded → ℕ
counted (Illegal why) = 0
counted (Legal c) = truth (is_counted c)

abbrev idling : Features → Decoded → ℕ
idling f (Illegal why) = 0
idling f (Legal c) = truth (idle f c)

abbrev removing : Features → Decoded → Row → ℕ
removing f (Illegal why) row = 0
removing f (Legal c) row = truth (in_scope f c row)

-- the features of document 01
abbrev all_yes : Features
all_yes = record { s1p = true; s2p = true; asid16 = true; vmid16 = true; hyp = false; e2h = false; ril = false; dpt = false }

abbrev no_asid16 : Features
no_asid16 = record { s1p = true; s2p = true; asid16 = false; vmid16 = true; hyp = false; e2h = false; ril = false; dpt = false }

-- a last-level STE row of a stream, with Config 4; a last-level stage 1 row of VMID 5 and ASID 0x1234
abbrev ste_row : ℕ → Row
ste_row stream = record { w0 = 0x9; w1 = 0x40_0000_0000_0000 + stream; w2 = 0; w3 = 0 }

abbrev stage_row : Row
stage_row = record { w0 = 0x000f_1234_0005_018d; w1 = 0; w2 = 0; w3 = 0 }

abbrev is_open : Option Rest → ℕ
is_open (Some rest) = 0
is_open None = 1

-- LOG2SIZE 8, RD 0x1ff, WR 0, enabled
abbrev at_the_wrap : ℕ
at_the_wrap = 0x22_0000_0000_01ff

abbrev by_range : Features → ℕ → ℕ
by_range f stream = removing f (decode f 0x0000_0107_0000_0004 2) (ste_row stream)

abbrev by_whole_range : Features → ℕ → ℕ
by_whole_range f stream = removing f (decode f 4 0x1f) (ste_row stream)

abbrev pub starred : List (List ℕ × List ℕ)
starred =
    -- VMID 5 and ASID 0x1234; without ASID16 it stays legal and removes nothing
    (spelled (decode all_yes 0x1234_0005_0000_0011 0), 0x11 ∷ 5 ∷ 0x1234 ∷ [])
    ∷ (spelled (decode no_asid16 0x1234_0005_0000_0011 0), 0x11 ∷ 5 ∷ 0x1234 ∷ [])
    ∷ (idling all_yes (decode all_yes 0x1234_0005_0000_0011 0) ∷ idling no_asid16 (decode no_asid16 0x1234_0005_0000_0011 0) ∷ [], 0 ∷ 1 ∷ [])
    ∷ (removing all_yes (decode all_yes 0x1234_0005_0000_0011 0) stage_row ∷ removing no_asid16 (decode no_asid16 0x1234_0005_0000_0011 0) stage_row ∷ [], 1 ∷ 0 ∷ [])
    -- bit 10 of 03
    ∷ (spelled (decode all_yes 0x0000_0100_0000_0003 1), 0x03 ∷ 0x100 ∷ 1 ∷ [])
    ∷ (spelled (decode all_yes 0x0000_0100_0000_0403 1), [])
    -- streams 0x100 to 0x107 and neither neighbour; every stream
    ∷ (by_range all_yes 0xff ∷ by_range all_yes 0x100 ∷ by_range all_yes 0x101 ∷ by_range all_yes 0x102 ∷ by_range all_yes 0x103 ∷ [], 0 ∷ 1 ∷ 1 ∷ 1 ∷ 1 ∷ [])
    ∷ (by_range all_yes 0x104 ∷ by_range all_yes 0x105 ∷ by_range all_yes 0x106 ∷ by_range all_yes 0x107 ∷ by_range all_yes 0x108 ∷ [], 1 ∷ 1 ∷ 1 ∷ 1 ∷ 0 ∷ [])
    ∷ (by_whole_range all_yes 0 ∷ by_whole_range all_yes 0x107 ∷ by_whole_range all_yes 0xffff_ffff ∷ [], 1 ∷ 1 ∷ 1 ∷ [])
    -- CMD_SYNC
    ∷ (counted (decode all_yes 0x1046 0) ∷ counted (decode all_yes 0x2046 0) ∷ [], 1 ∷ 0 ∷ [])
    ∷ (spelled (decode all_yes 0x2046 0), 0x46 ∷ 2 ∷ [])
    ∷ (spelled (decode all_yes 0x3046 0), [])
    -- one command, in slot 255, after which RD is 0
    ∷ (truth (control.well_formed at_the_wrap) ∷ is_open (control.standing at_the_wrap) ∷ [], 1 ∷ 1 ∷ [])
    ∷ (control.distance at_the_wrap ∷ control.slot at_the_wrap ∷ control.rd (stores.consumed at_the_wrap) ∷ [], 1 ∷ 255 ∷ 0 ∷ [])
    -- pairs of attribute numbers
    ∷ (combine 8 20 ∷ combine 27 23 ∷ combine 2 1 ∷ [], 4 ∷ 24 ∷ 1 ∷ [])
    ∷ []

-- each is what it should be
abbrev same : List ℕ → List ℕ → Bool
same [] [] = true
same [] (y ∷ ys) = false
same (x ∷ xs) [] = false
same (x ∷ xs) (y ∷ ys) = eqb x y && same xs ys

abbrev pub agree : List (List ℕ × List ℕ) → Bool
agree [] = true
agree (c ∷ cs) = same c.0 c.1 && agree cs
