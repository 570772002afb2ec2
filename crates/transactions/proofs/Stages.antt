-- How a stage passes an access on: as it came, or through the rows that answered.
-- Assumes nothing.
use mathlib.Core.Path.{◌≡◌, refl}
use mathlib.Core.Bool.{Bool, true, false}
use mathlib.Core.List.{List}
use Prim.Native.Nat.{ℕ}
use native.Mathlib.Omega.{arith}
use Rattle.words.specs.Choice.{pick}
use Rattle.rows.specs.declared.Row.{Row}
use Rattle.combining.specs.Combining.{combined}
use Rattle.combining.proofs.Numbers.{number_lt, mem_attr_is_formed, sh_is_formed}
use Rattle.combining.proofs.Laws.{combine_lt}
use Rattle.rows.specs.Rows.{vmid, asid, config, attributes_of}
use Rattle.image.specs.Image.{rows_in}
use Rattle.lookups.specs.declared.Wanted.TheVariants.{Cd, Stage1, Stage2}
use Rattle.std.specs.Prelude.{None, Ok, Option, Some}
use Rattle.lookups.specs.Lookups.{look}
use Rattle.lookups.proofs.Accepted.{stage1-hit, stage2-hit}
use Rattle.transactions.specs.declared.Transaction.{Transaction}
use Rattle.transactions.specs.declared.Access.{Access}
use Rattle.transactions.specs.Steps.{Ready, uses_stage1, uses_stage2, replaced, by_stage1, by_cd, stage1, joined, by_stage2, stage2}
use Rattle.transactions.proofs.Needs.{accepted, Proper, hit_proper}

pub data FromStage1 (m : List ℕ) (t : Transaction) (ste : Row) (x : Access) : Access → Type 0 where
  past : uses_stage1 (config ste) ≡ false → FromStage1 m t ste x x
  through : (cd row : Row) → uses_stage1 (config ste) ≡ true → look m (Cd t.stream t.substream) ≡ Some cd
      → look m (Stage1 (vmid ste) (asid cd) x.address) ≡ Some row → FromStage1 m t ste x (replaced row x)

module _ (m : List ℕ) (t : Transaction) (ste : Row) (x : Access) where
  row_case : (cd : Row) (a : Access) (l : Option Row) → uses_stage1 (config ste) ≡ true → look m (Cd t.stream t.substream) ≡ Some cd
      → look m (Stage1 (vmid ste) (asid cd) x.address) ≡ l → by_stage1 x l ≡ Ok a → FromStage1 m t ste x a
  row_case cd a (Some row) u c h e = let same : replaced row x ≡ a = cc in rw (← same) (through cd row u c h)
  row_case cd a None u c h e = let z : ◌≡◌ {A = ℕ} 0 1 = cc in absurd (omega arith)

  cd_case : (a : Access) (l : Option Row) → uses_stage1 (config ste) ≡ true → look m (Cd t.stream t.substream) ≡ l
      → by_cd m ste x l ≡ Ok a → FromStage1 m t ste x a
  cd_case a (Some cd) u h e = row_case cd a (look m (Stage1 (vmid ste) (asid cd) x.address)) u h refl e
  cd_case a None u h e = let z : ◌≡◌ {A = ℕ} 0 1 = cc in absurd (omega arith)

  pub from-stage1 : (a : Access) → stage1 m t ste x ≡ Ok a → FromStage1 m t ste x a
  unfolding stage1
  from-stage1 a e = by_use (uses_stage1 (config ste)) refl e
    where
      by_use : (b : Bool) → uses_stage1 (config ste) ≡ b → pick b (by_cd m ste x (look m (Cd t.stream t.substream))) (Ok x) ≡ Ok a
          → FromStage1 m t ste x a
      by_use true u e = cd_case a (look m (Cd t.stream t.substream)) u refl e
      by_use false u e = let same : x ≡ a = cc in rw (← same) (past u)

pub data FromStage2 (m : List ℕ) (ste : Row) (x : Access) : Access → Type 0 where
  past : uses_stage2 (config ste) ≡ false → FromStage2 m ste x x
  through : (row : Row) → uses_stage2 (config ste) ≡ true → look m (Stage2 (vmid ste) x.address) ≡ Some row → FromStage2 m ste x (joined row x)

module _ (m : List ℕ) (ste : Row) (x : Access) where
  by_row2 : (a : Access) (l : Option Row) → uses_stage2 (config ste) ≡ true → look m (Stage2 (vmid ste) x.address) ≡ l → by_stage2 x l ≡ Ok a
      → FromStage2 m ste x a
  by_row2 a (Some row) u h e = let same : joined row x ≡ a = cc in rw (← same) (through row u h)
  by_row2 a None u h e = let z : ◌≡◌ {A = ℕ} 0 1 = cc in absurd (omega arith)

  pub from-stage2 : (a : Access) → stage2 m ste x ≡ Ok a → FromStage2 m ste x a
  unfolding stage2
  from-stage2 a e = by_use (uses_stage2 (config ste)) refl e
    where
      by_use : (b : Bool) → uses_stage2 (config ste) ≡ b → pick b (by_stage2 x (look m (Stage2 (vmid ste) x.address))) (Ok x) ≡ Ok a
          → FromStage2 m ste x a
      by_use true u e = by_row2 a (look m (Stage2 (vmid ste) x.address)) u refl e
      by_use false u e = let same : x ≡ a = cc in rw (← same) (past u)

-- either stage leaves a well-formed type and shareability
module _ (m : List ℕ) (r : Ready m) (ste : Row) (x : Access) where
  pub stage1_proper : (t : Transaction) (a : Access) → Proper x.attributes → FromStage1 m t ste x a → Proper a.attributes
  stage1_proper t a p (past u) = p
  stage1_proper t a p (through cd row u c h) = hit_proper (stage1-hit m (rows_in m) (accepted m r) row (vmid ste) (asid cd) x.address h)

  pub stage2_proper : (a : Access) → Proper x.attributes → FromStage2 m ste x a → Proper a.attributes
  unfolding combined
  stage2_proper a p (past u) = p
  stage2_proper a p (through row u h) =
      let q = hit_proper (stage2-hit m (rows_in m) (accepted m r) row (vmid ste) x.address h) in
      let below = combine_lt _ _ (number_lt x.attributes.memattr x.attributes.sh p.typed) (number_lt (attributes_of row).memattr (attributes_of row).sh q.typed) in
      record { typed = mem_attr_is_formed _ below; shared = sh_is_formed _ below }
