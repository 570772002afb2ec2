-- Document 01, A transaction: its five steps.
-- Assumes nothing.
use Rattle.std.specs.Prelude.{◌≡◌, Bool, true, ◌||◌, List, ℕ, ◌+◌, ◌-◌, ◌^◌, ◌≤◌, ◌<◌, eqb, Err, None, Ok, Option, Result, Some}
use Rattle.words.specs.Choice.{pick}
use Rattle.attributes.specs.Formats as attributes
use Rattle.attributes.specs.Settling.{settled}
use Rattle.overrides.specs.Overrides as overrides
use Rattle.combining.specs.Combining.{combined}
use Rattle.rows.specs.declared.Row.{Row}
use Rattle.rows.specs.Rows.{vmid, asid, config, instcfg, privcfg, overrides_of, attributes_of}
use Rattle.transactions.specs.declared.Miss.{Miss}
use Rattle.image.specs.Image.{rows_in, check}
use Rattle.lookups.specs.declared.Wanted.TheVariants.{Ste, Cd, Stage1, Stage2}
use Rattle.lookups.specs.Lookups.{look}
use Rattle.transactions.specs.declared.Transaction.{Transaction}
use Rattle.transactions.specs.declared.Access.{Access}
use Rattle.transactions.specs.declared.Output.{Output}
use Rattle.transactions.specs.declared.Miss.TheVariants.{Ste as MissSte, Cd as MissCd, Stage1 as MissStage1, Stage2 as MissStage2}
use Rattle.transactions.specs.declared.Outcome.{Outcome}
use Rattle.transactions.specs.declared.Outcome.TheVariants.{Translated, Abort, Missed}

-- Config: 5 stage 1, 6 stage 2, 7 both
abbrev pub uses_stage1 : ℕ → Bool
uses_stage1 c = eqb c 5 || eqb c 7

abbrev pub uses_stage2 : ℕ → Bool
uses_stage2 c = eqb c 6 || eqb c 7

-- an address keeps its offset in the row and moves to the row's output address
abbrev pub moved : Row → ℕ → ℕ
moved row address = row.w3 + (address - row.w2)

-- step 2: the STE row's overrides
unfoldable pub overridden : Row → Transaction → Access
overridden ste t = record { address = t.address; attributes = overrides.overridden (overrides_of ste) t.attributes }

-- step 3: a stage 1 row of the STE row's VMID and the CD row's ASID replaces the attributes and moves the address
abbrev pub replaced : Row → Access → Access
replaced row a = record { address = moved row a.address; attributes = attributes_of row }

abbrev pub by_stage1 : Access → Option Row → Result Access Miss
by_stage1 a (Some row) = Ok (replaced row a)
by_stage1 a None = Err MissStage1

abbrev pub by_cd : List ℕ → Row → Access → Option Row → Result Access Miss
by_cd m ste a (Some cd) = by_stage1 a (look m (Stage1 (vmid ste) (asid cd) a.address))
by_cd m ste a None = Err MissCd

unfoldable pub stage1 : List ℕ → Transaction → Row → Access → Result Access Miss
stage1 m t ste a = pick (uses_stage1 (config ste)) (by_cd m ste a (look m (Cd t.stream t.substream))) (Ok a)

-- step 4: a stage 2 row of the VMID that covers the address so far combines its attributes and moves the address
abbrev pub joined : Row → Access → Access
joined row a =
    record {
      address = moved row a.address;
      attributes = combined a.attributes (attributes_of row).memattr (attributes_of row).sh;
    }

abbrev pub by_stage2 : Access → Option Row → Result Access Miss
by_stage2 a (Some row) = Ok (joined row a)
by_stage2 a None = Err MissStage2

unfoldable pub stage2 : List ℕ → Row → Access → Result Access Miss
stage2 m ste a = pick (uses_stage2 (config ste)) (by_stage2 a (look m (Stage2 (vmid ste) a.address))) (Ok a)

abbrev pub onward : Result Access Miss → (Access → Result Access Miss) → Result Access Miss
onward (Ok a) next = next a
onward (Err miss) next = Err miss

-- step 5, and what step 2 made of instruction and privileged
unfoldable pub output : Row → Transaction → Access → Output
output ste t a =
    record {
      address = a.address;
      attributes = settled a.attributes;
      instruction = overrides.instruction (instcfg ste) t.write t.instruction;
      privileged = overrides.privileged (privcfg ste) t.privileged;
    }

abbrev pub finished : Row → Transaction → Result Access Miss → Outcome
finished ste t (Ok a) = Translated (output ste t a)
finished ste t (Err miss) = Missed miss

-- step 1: the STE row of the stream; its Config 0 aborts
abbrev pub by_ste : List ℕ → Transaction → Option Row → Outcome
by_ste m t (Some ste) =
    pick (eqb (config ste) 0) Abort (finished ste t (onward (stage1 m t ste (overridden ste t)) (stage2 m ste)))
by_ste m t None = Missed MissSte

unfoldable pub translation : List ℕ → Transaction → Outcome
translation m t = by_ste m t (look m (Ste t.stream))

-- what the steps need: an accepted image, well-formed incoming attributes, a row that covers the address that it moves
abbrev pub Ready : List ℕ → Type 0
Ready m = check m ≡ Ok (rows_in m)

abbrev pub Formed : Transaction → Type 0
Formed t = attributes.well_formed t.attributes ≡ true

abbrev pub Typed : Access → Type 0
Typed a = attributes.mem_attr_formed a.attributes.memattr ≡ true

pub record Movable (row : Row) (address : ℕ) : Type 0 where
  pub from : row.w2 ≤ address
  pub room : moved row address < 2 ^ 64
