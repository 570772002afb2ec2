-- Document 01, The kept memory: MemAttr, SH and hints.
-- Assumes nothing.
use Rattle.std.specs.Prelude.{ℕ, ◌+◌, ◌*◌, Bool, not, ◌&&◌, ◌||◌, eqb, leb, ltb}
use Rattle.words.specs.Parts.{part}
use Rattle.attributes.specs.declared.Attributes.{Attributes}
use Rattle.attributes.specs.declared.formats.Half.{Half}
use Rattle.attributes.specs.declared.formats.Half.TheVariants.{Inner, Outer}

-- MemAttr below 4 is a Device type: nGnRnE, nGnRE, nGRE, GRE
abbrev pub is_device : ℕ → Bool
is_device m = ltb m 4

-- otherwise it is Normal, by halves, each 1 NC, 2 WT or 3 WB
abbrev pub outer : ℕ → ℕ
outer m = part 3 2 m

abbrev pub inner : ℕ → ℕ
inner m = part 1 0 m

-- NC in both halves
abbrev pub nc_nc : ℕ
nc_nc = 5

-- a half that is WT or WB
unfoldable pub outer_cached : ℕ → Bool
outer_cached m = not (is_device m) && leb 2 (outer m)

unfoldable pub inner_cached : ℕ → Bool
inner_cached m = not (is_device m) && leb 2 (inner m)

abbrev pub cached : Half → ℕ → Bool
cached Inner m = inner_cached m
cached Outer m = outer_cached m

-- four bits, of which 4, 8 and 12 are ill formed
unfoldable pub mem_attr_formed : ℕ → Bool
mem_attr_formed m = ltb m 16 && not (eqb m 4) && not (eqb m 8) && not (eqb m 12)

-- SH, in two bits, of which 1 is ill formed
abbrev pub nsh : ℕ
nsh = 0

abbrev pub osh : ℕ
osh = 2

abbrev pub ish : ℕ
ish = 3

unfoldable pub sh_formed : ℕ → Bool
sh_formed s = eqb s nsh || eqb s osh || eqb s ish

-- hints, in six bits: RA, WA and TR of the inner half from the lowest bit up, then those of the outer
abbrev pub inner_hints : ℕ → ℕ
inner_hints h = part 2 0 h

abbrev pub outer_hints : ℕ → ℕ
outer_hints h = part 5 3 h

abbrev pub hints_of : Half → ℕ → ℕ
hints_of Inner h = inner_hints h
hints_of Outer h = outer_hints h

abbrev pub join_hints : ℕ → ℕ → ℕ
join_hints i o = i + 8 * o

-- a half that is not cacheable has none
unfoldable pub hints_formed : ℕ → ℕ → Bool
hints_formed m h = ltb h 64 && (inner_cached m || eqb (inner_hints h) 0) && (outer_cached m || eqb (outer_hints h) 0)

-- all three
unfoldable pub well_formed : Attributes → Bool
well_formed a = mem_attr_formed a.memattr && sh_formed a.sh && hints_formed a.memattr a.hints
