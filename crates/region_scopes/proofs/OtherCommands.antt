-- The commands that a match names no arm of its own for are about the first table.
-- Assumes nothing.
use mathlib.Core.Path.{◌≡◌, refl, sym}
use mathlib.Core.Bool.{false}
use mathlib.Core.List.{List, [], ◌∷◌}
use Prim.Native.Nat.{ℕ, zero, suc}
use types.Run.{OneOf, miss}
use denote.Enum.Declared.{tag_of}
use Rattle.commands.specs.declared.Command.{Command}
use Rattle.commands.specs.declared.Command.TheVariants.{PrefetchConfig, PrefetchAddr, CfgiSte, CfgiSteRange, CfgiCd, CfgiCdAll, TlbiNhAll, TlbiNhAsid, TlbiNhVa, TlbiNhVaa, TlbiEl2All, TlbiEl2Asid, TlbiEl2Va, TlbiEl2Vaa, TlbiS12Vmall, TlbiS2Ipa, TlbiNsnhAll, Sync, DptiAll, DptiPa}
use Rattle.commands.specs.contracts.Command.{the_type}
use Rattle.regions.specs.declared.Region.{Region}
use Rattle.region_scopes.specs.Scopes.{is_regional, in_table}
use Rattle.region_scopes.proofs.Laws.{first_only}

-- the tags below n, from i on
abbrev up_to : ℕ → ℕ → List ℕ
up_to zero i = []
up_to (suc n) i = i ∷ up_to n (suc i)

abbrev pub firsts : List ℕ
firsts = up_to 18 0

pub not_regional : (c : Command) → OneOf firsts (tag_of the_type c) → false ≡ is_regional c
unfolding is_regional
not_regional PrefetchConfig m = refl
not_regional PrefetchAddr m = refl
not_regional (CfgiSte s l) m = refl
not_regional (CfgiSteRange s r) m = refl
not_regional (CfgiCd u s l) m = refl
not_regional (CfgiCdAll s) m = refl
not_regional (TlbiNhAll v) m = refl
not_regional (TlbiNhAsid v a) m = refl
not_regional (TlbiNhVa v a t) m = refl
not_regional (TlbiNhVaa v t) m = refl
not_regional TlbiEl2All m = refl
not_regional (TlbiEl2Asid a) m = refl
not_regional (TlbiEl2Va a t) m = refl
not_regional (TlbiEl2Vaa t) m = refl
not_regional (TlbiS12Vmall v) m = refl
not_regional (TlbiS2Ipa v t) m = refl
not_regional TlbiNsnhAll m = refl
not_regional (Sync cs) m = refl
not_regional DptiAll m = absurd (miss firsts (tag_of the_type DptiAll) tt m)
not_regional (DptiPa p s l) m = absurd (miss firsts (tag_of the_type (DptiPa p s l)) tt m)

pub not_in_table : (c : Command) (row : Region) → OneOf firsts (tag_of the_type c) → false ≡ in_table c row
not_in_table c row m = sym (first_only c row (sym (not_regional c m)))
