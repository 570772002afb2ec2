-- The commands that are no CMD_SYNC are not counted.
-- Assumes nothing.
use mathlib.Core.Path.{◌≡◌, refl}
use mathlib.Core.Bool.{false}
use mathlib.Core.List.{List, [], ◌∷◌}
use Prim.Native.Nat.{ℕ, zero, suc}
use lib.Dec.{eqb}
use types.Run.{OneOf, miss}
use denote.Enum.Declared.{tag_of}
use Rattle.commands.specs.declared.Command.{Command}
use Rattle.commands.specs.declared.Command.TheVariants.{PrefetchConfig, PrefetchAddr, CfgiSte, CfgiSteRange, CfgiCd, CfgiCdAll, TlbiNhAll, TlbiNhAsid, TlbiNhVa, TlbiNhVaa, TlbiEl2All, TlbiEl2Asid, TlbiEl2Va, TlbiEl2Vaa, TlbiS12Vmall, TlbiS2Ipa, TlbiNsnhAll, Sync, DptiAll, DptiPa}
use Rattle.commands.specs.contracts.Command.{the_type}
use Rattle.words.specs.Choice.{pick}
use Rattle.commands.specs.Formats.{how_many}
use Rattle.commands.specs.Decoding.{is_counted}

-- n numbers from i on, without s
abbrev but : ℕ → ℕ → ℕ → List ℕ
but s zero i = []
but s (suc n) i = pick (eqb i s) (but s n (suc i)) (i ∷ but s n (suc i))

-- the tags of the other commands: there is one command for each code
abbrev pub others : List ℕ
others = but (tag_of the_type (Sync 0)) how_many 0

pub not_counted : (c : Command) → OneOf others (tag_of the_type c) → false ≡ is_counted c
not_counted PrefetchConfig m = refl
not_counted PrefetchAddr m = refl
not_counted (CfgiSte s l) m = refl
not_counted (CfgiSteRange s r) m = refl
not_counted (CfgiCd u s l) m = refl
not_counted (CfgiCdAll s) m = refl
not_counted (TlbiNhAll v) m = refl
not_counted (TlbiNhAsid v a) m = refl
not_counted (TlbiNhVa v a t) m = refl
not_counted (TlbiNhVaa v t) m = refl
not_counted TlbiEl2All m = refl
not_counted (TlbiEl2Asid a) m = refl
not_counted (TlbiEl2Va a t) m = refl
not_counted (TlbiEl2Vaa t) m = refl
not_counted (TlbiS12Vmall v) m = refl
not_counted (TlbiS2Ipa v t) m = refl
not_counted TlbiNsnhAll m = refl
not_counted (Sync cs) m = absurd (miss others (tag_of the_type (Sync cs)) tt m)
not_counted DptiAll m = refl
not_counted (DptiPa p s l) m = refl
