-- The features as bits of one word. Those that are not named are not looked at.
-- Assumes nothing.
use Rattle.std.specs.Prelude.{ℕ}
use Rattle.words.specs.Parts.{is_set}
use Rattle.commands.specs.declared.Features.{Features}

unfoldable pub features_of : ℕ → Features
features_of w =
    record {
      s1p = is_set 0 w;
      s2p = is_set 1 w;
      asid16 = is_set 2 w;
      vmid16 = is_set 3 w;
      hyp = is_set 4 w;
      ril = is_set 5 w;
      dpt = is_set 6 w;
      e2h = is_set 7 w;
    }
