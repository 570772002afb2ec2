-- Document 01, A transaction: what is said of every address that comes out.
-- Assumes nothing.
use Rattle.std.specs.Prelude.{◌≡◌, ℕ, ◌<◌}
use Rattle.attributes.specs.declared.Attributes.{Attributes}
use Rattle.combining.specs.Combining.{combine_mem_attr, combine_sh, mem_attr_of, sh_of}
use Rattle.rows.specs.declared.Row.{Row}
use Rattle.rows.specs.Rows.{attributes_of}
use Rattle.transactions.specs.declared.Access.{Access}
use Rattle.transactions.specs.Steps.{moved}

-- the type and the shareability of one of the 29 numbers
pub record Consistent (a : Attributes) : Type 0 where
  pub number : ℕ
  pub below : number < 29
  pub type_of : a.memattr ≡ mem_attr_of number
  pub share_of : a.sh ≡ sh_of number

-- step 4 by the rule on the attributes themselves, with no numbers
unfoldable pub ruled : Row → Access → Access
ruled row a =
    record {
      address = moved row a.address;
      attributes = record {
        memattr = combine_mem_attr a.attributes.memattr (attributes_of row).memattr;
        sh = combine_sh a.attributes.sh (attributes_of row).sh;
        hints = a.attributes.hints;
      };
    }
