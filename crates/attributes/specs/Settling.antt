-- Document 01, A transaction, step 5.
-- Assumes nothing.
use Rattle.std.specs.Prelude.{ℕ, ◌||◌, eqb}
use Rattle.words.specs.Choice.{pick}
use Rattle.attributes.specs.declared.Attributes.{Attributes}
use Rattle.attributes.specs.Formats.{is_device, nc_nc, osh, outer_cached, inner_cached, inner_hints, outer_hints, join_hints}

-- Device and iNC-oNC become OSH
unfoldable pub settled_sh : ℕ → ℕ → ℕ
settled_sh m s = pick (is_device m || eqb m nc_nc) osh s

-- a half that is not cacheable loses its hints
unfoldable pub settled_hints : ℕ → ℕ → ℕ
settled_hints m h = join_hints (pick (inner_cached m) (inner_hints h) 0) (pick (outer_cached m) (outer_hints h) 0)

unfoldable pub settled : Attributes → Attributes
settled a =
    record {
      memattr = a.memattr;
      sh = settled_sh a.memattr a.sh;
      hints = settled_hints a.memattr a.hints;
    }
