-- Document 01, A transaction, step 2: what an STE row makes of the incoming attributes.
-- Assumes nothing.
use Rattle.std.specs.Prelude.{ℕ, ◌+◌, ◌*◌, Bool, true, false, not, ◌&&◌, eqb}
use Rattle.words.specs.Choice.{pick}
use Rattle.words.specs.Parts.{part}
use Rattle.attributes.specs.declared.Attributes.{Attributes}
use Rattle.attributes.specs.declared.Overrides.{Overrides}
use Rattle.attributes.specs.Formats.{outer_cached, inner_cached, nsh, osh, ish, inner_hints, outer_hints, join_hints}

-- MTCFG 1 takes the row's MemAttr
abbrev pub override_mem_attr : Overrides → ℕ → ℕ
override_mem_attr o m = pick (eqb o.mtcfg 1) o.memattr m

-- SHCFG 0 NSH, 1 incoming, 2 OSH, 3 ISH
unfoldable pub override_sh : ℕ → ℕ → ℕ
override_sh shcfg s = pick (eqb shcfg 0) nsh (pick (eqb shcfg 1) s (pick (eqb shcfg 2) osh ish))

-- a half that turned cacheable: RA 1, WA 1, TR 0
abbrev pub fresh : ℕ
fresh = 3

abbrev pub turned : Bool → Bool → ℕ → ℕ
turned was is h = pick (is && not was) fresh h

-- ALLOCCFG's bits 2, 1 and 0 are RA, WA and TR
abbrev pub allocated : ℕ → ℕ
allocated alloccfg = part 2 2 alloccfg + 2 * part 1 1 alloccfg + 4 * part 0 0 alloccfg

-- its top bit puts them into a half that is cacheable
abbrev pub allocate : ℕ → Bool → ℕ → ℕ
allocate alloccfg is h = pick (eqb (part 3 3 alloccfg) 1 && is) (allocated alloccfg) h

-- the hints of one half, of which was and is say whether it was cacheable before MTCFG and is after it
unfoldable pub half_hints : ℕ → Bool → Bool → ℕ → ℕ
half_hints alloccfg was is h = allocate alloccfg is (turned was is h)

-- the hints of both halves, from MemAttr m to m'
unfoldable pub override_hints : ℕ → ℕ → ℕ → ℕ → ℕ
override_hints alloccfg m m' h =
    join_hints
    (half_hints alloccfg (inner_cached m) (inner_cached m') (inner_hints h))
    (half_hints alloccfg (outer_cached m) (outer_cached m') (outer_hints h))

unfoldable pub overridden : Overrides → Attributes → Attributes
overridden o a =
    record {
      memattr = override_mem_attr o a.memattr;
      sh = override_sh o.shcfg a.sh;
      hints = override_hints o.alloccfg a.memattr (override_mem_attr o a.memattr) a.hints;
    }

-- INSTCFG and PRIVCFG: 2 forces the flag off, 3 on, else incoming
unfoldable pub forced : ℕ → Bool → Bool
forced cfg incoming = pick (eqb cfg 2) false (pick (eqb cfg 3) true incoming)

-- a write is always data
abbrev pub instruction : ℕ → Bool → Bool → Bool
instruction instcfg write incoming = not write && forced instcfg incoming

abbrev pub privileged : ℕ → Bool → Bool
privileged privcfg incoming = forced privcfg incoming
