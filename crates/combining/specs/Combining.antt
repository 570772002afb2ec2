-- Document 01, A transaction: combining, and the numbers of the consistent values.
-- Assumes nothing.
use Rattle.std.specs.Prelude.{ℕ, ◌+◌, ◌-◌, ◌*◌, ◌/◌, ◌%◌, min, max, ◌||◌, List, [], ◌∷◌, eqb, ltb, get_or}
use Rattle.words.specs.Choice.{pick}
use Rattle.words.specs.Search.{place_of}
use Rattle.attributes.specs.declared.Attributes.{Attributes}
use Rattle.attributes.specs.Formats.{is_device, outer, inner, nc_nc, nsh, osh, ish}

-- OSH beats ISH beats NSH
abbrev pub rank : ℕ → ℕ
rank s = pick (eqb s osh) 2 (pick (eqb s ish) 1 0)

abbrev pub sh_of_rank : ℕ → ℕ
sh_of_rank r = pick (eqb r 2) osh (pick (eqb r 1) ish nsh)

abbrev pub combine_sh : ℕ → ℕ → ℕ
combine_sh s t = sh_of_rank (max (rank s) (rank t))

-- the lower Device type beats the higher and any Normal one; of Normal halves NC beats WT beats WB
abbrev pub combine_mem_attr : ℕ → ℕ → ℕ
combine_mem_attr m n = pick (is_device m || is_device n) (min m n) (4 * min (outer m) (outer n) + min (inner m) (inner n))

-- the 29 consistent values: four Device types, iNC-oNC, and these at each shareability
abbrev pub normals : List ℕ
normals = 6 ∷ 7 ∷ 9 ∷ 10 ∷ 11 ∷ 13 ∷ 14 ∷ 15 ∷ []

-- the number of a MemAttr and an SH
unfoldable pub number : ℕ → ℕ → ℕ
number m s = pick (is_device m) m (pick (eqb m nc_nc) 4 (5 + 3 * place_of normals m + rank s))

-- the MemAttr and the SH of a number
unfoldable pub mem_attr_of : ℕ → ℕ
mem_attr_of c = pick (ltb c 4) c (pick (eqb c 4) nc_nc (get_or normals ((c - 5) / 3) 0))

unfoldable pub sh_of : ℕ → ℕ
sh_of c = pick (ltb c 5) osh (sh_of_rank ((c - 5) % 3))

-- two numbers, combined
unfoldable pub combine : ℕ → ℕ → ℕ
combine a b = number (combine_mem_attr (mem_attr_of a) (mem_attr_of b)) (combine_sh (sh_of a) (sh_of b))

-- attributes with the MemAttr and the SH of a second stage: hints stay
unfoldable pub combined : Attributes → ℕ → ℕ → Attributes
combined a m s =
    record {
      memattr = mem_attr_of (combine (number a.memattr a.sh) (number m s));
      sh = sh_of (combine (number a.memattr a.sh) (number m s));
      hints = a.hints;
    }
