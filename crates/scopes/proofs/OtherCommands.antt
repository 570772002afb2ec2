-- The commands that a match names no arm of its own for are invalidations.
-- Assumes nothing.
use mathlib.Core.Path.{◌≡◌, refl}
use mathlib.Core.Bool.{true}
use mathlib.Core.List.{List, [], ◌∷◌, ◌++◌}
use Prim.Native.Nat.{ℕ, zero, suc}
use types.Run.{OneOf, miss}
use denote.Enum.Declared.{tag_of}
use Rattle.commands.specs.declared.Command.{Command}
use Rattle.commands.specs.declared.Command.TheVariants.{PrefetchConfig, PrefetchAddr, CfgiSte, CfgiSteRange, CfgiCd, CfgiCdAll, TlbiNhAll, TlbiNhAsid, TlbiNhVa, TlbiNhVaa, TlbiEl2All, TlbiEl2Asid, TlbiEl2Va, TlbiEl2Vaa, TlbiS12Vmall, TlbiS2Ipa, TlbiNsnhAll, Sync, DptiAll, DptiPa}
use Rattle.commands.specs.contracts.Command.{the_type}
use Rattle.scopes.specs.Scopes.{invalidates}

-- n tags from i on
abbrev tags : ℕ → ℕ → List ℕ
tags zero i = []
tags (suc n) i = i ∷ tags n (suc i)

-- those of 03 to 30, and of 70 and 73
abbrev others : List ℕ
others = tags 15 2 ++ tags 2 18

pub does_invalidate : (c : Command) → OneOf others (tag_of the_type c) → true ≡ invalidates c
does_invalidate PrefetchConfig m = absurd (miss others (tag_of the_type PrefetchConfig) tt m)
does_invalidate PrefetchAddr m = absurd (miss others (tag_of the_type PrefetchAddr) tt m)
does_invalidate (CfgiSte s l) m = refl
does_invalidate (CfgiSteRange s r) m = refl
does_invalidate (CfgiCd u s l) m = refl
does_invalidate (CfgiCdAll s) m = refl
does_invalidate (TlbiNhAll v) m = refl
does_invalidate (TlbiNhAsid v a) m = refl
does_invalidate (TlbiNhVa v a t) m = refl
does_invalidate (TlbiNhVaa v t) m = refl
does_invalidate TlbiEl2All m = refl
does_invalidate (TlbiEl2Asid a) m = refl
does_invalidate (TlbiEl2Va a t) m = refl
does_invalidate (TlbiEl2Vaa t) m = refl
does_invalidate (TlbiS12Vmall v) m = refl
does_invalidate (TlbiS2Ipa v t) m = refl
does_invalidate TlbiNsnhAll m = refl
does_invalidate (Sync cs) m = absurd (miss others (tag_of the_type (Sync cs)) tt m)
does_invalidate DptiAll m = refl
does_invalidate (DptiPa p s l) m = refl
