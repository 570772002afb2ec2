-- What is known of every address that comes out of a transaction.
-- Assumes nothing.
use mathlib.Core.Path.{◌≡◌, refl, sym}
use mathlib.Core.Bool.{Bool, true, false, ◌||◌}
use mathlib.Core.List.{List}
use Prim.Native.Nat.{ℕ, ◌^◌, ◌<◌}
use native.Mathlib.Omega.{arith}
use lib.Dec.{eqb}
use Rattle.words.specs.Choice.{pick}
use Rattle.words.proofs.Truth.{clash}
use Rattle.attributes.specs.declared.Attributes.{Attributes}
use Rattle.attributes.specs.Settling.{settled}
use Rattle.combining.specs.Combining.{number}
use Rattle.combining.proofs.Numbers.{number_lt, mem_attr_of_number, sh_of_number}
use Rattle.combining.proofs.Laws.{settled-combined}
use Rattle.rows.specs.declared.Row.{Row}
use Rattle.rows.specs.Rows.{vmid, asid, config, attributes_of}
use Rattle.row_forms.specs.WellFormed.{address_bits}
use Rattle.image.specs.Image.{rows_in}
use Rattle.lookups.specs.declared.Wanted.TheVariants.{Ste, Stage2}
use Rattle.std.specs.Prelude.{Err, None, Ok, Option, Result, Some}
use Rattle.transactions.specs.declared.Miss.{Miss}
use Rattle.lookups.specs.Lookups.{look}
use Rattle.lookups.proofs.Accepted.{ste-hit, stage1-hit, stage2-hit}
use Rattle.transactions.specs.declared.Transaction.{Transaction}
use Rattle.transactions.specs.declared.Access.{Access}
use Rattle.transactions.specs.declared.Output.{Output}
use Rattle.transactions.specs.declared.Outcome.TheVariants.{Translated, Abort}
use Rattle.transactions.specs.Steps.{Ready, Formed, uses_stage1, uses_stage2, overridden, stage1, joined, stage2, onward, output, finished, by_ste, translation}
use Rattle.transactions.specs.Outcomes.{Consistent, ruled}
use Rattle.transactions.proofs.Needs.{accepted, Proper, hit_proper, overridden_proper}
use Rattle.transactions.proofs.Stages.{FromStage1, FromStage2, past, through, from-stage1, from-stage2, stage1_proper, stage2_proper}

-- the way of an address that came out: its STE row, what stage 1 made of the overridden access, and stage 2 of that
pub record Came (m : List ℕ) (t : Transaction) (o : Output) : Type 0 where
  pub ste : Row
  pub ste_case : look m (Ste t.stream) ≡ Some ste
  pub first : Access
  pub stage1_case : FromStage1 m t ste (overridden ste t) first
  pub second : Access
  pub stage2_case : FromStage2 m ste first second
  pub out : output ste t second ≡ o

module _ (m : List ℕ) (t : Transaction) (o : Output) where
  by_second : (ste : Row) (a : Access) (s : Result Access Miss) → look m (Ste t.stream) ≡ Some ste → FromStage1 m t ste (overridden ste t) a
      → stage2 m ste a ≡ s → finished ste t s ≡ Translated o → Came m t o
  by_second ste a (Ok b) h f g e =
      record { ste = ste; ste_case = h; first = a; stage1_case = f; second = b; stage2_case = from-stage2 m ste a b g; out = cc }
  by_second ste a (Err miss) h f g e = let z : ◌≡◌ {A = ℕ} 0 1 = cc in absurd (omega arith)

  by_first : (ste : Row) (s : Result Access Miss) → look m (Ste t.stream) ≡ Some ste → stage1 m t ste (overridden ste t) ≡ s
      → finished ste t (onward s (stage2 m ste)) ≡ Translated o → Came m t o
  by_first ste (Ok a) h f e = by_second ste a (stage2 m ste a) h (from-stage1 m t ste (overridden ste t) a f) refl e
  by_first ste (Err miss) h f e = let z : ◌≡◌ {A = ℕ} 0 1 = cc in absurd (omega arith)

  pub came : translation m t ≡ Translated o → Came m t o
  unfolding translation
  came e = ste_case (look m (Ste t.stream)) refl e
    where
      by_config : (ste : Row) (b : Bool) → look m (Ste t.stream) ≡ Some ste
          → pick b Abort (finished ste t (onward (stage1 m t ste (overridden ste t)) (stage2 m ste))) ≡ Translated o → Came m t o
      by_config ste true h e = let z : ◌≡◌ {A = ℕ} 0 1 = cc in absurd (omega arith)
      by_config ste false h e = by_first ste (stage1 m t ste (overridden ste t)) h refl e

      ste_case : (l : Option Row) → look m (Ste t.stream) ≡ l → by_ste m t l ≡ Translated o → Came m t o
      ste_case (Some ste) h e = by_config ste (eqb (config ste) 0) h e
      ste_case None h e = let z : ◌≡◌ {A = ℕ} 0 1 = cc in absurd (omega arith)

module _ (m : List ℕ) (r : Ready m) (t : Transaction) where
  stage1-below : (ste : Row) (x a : Access) → FromStage1 m t ste x a → uses_stage1 (config ste) ≡ true → a.address < 2 ^ address_bits
  stage1-below ste x a (past n) u = clash u n
  stage1-below ste x a (through cd row y c h) u = (stage1-hit m (rows_in m) (accepted m r) row (vmid ste) (asid cd) x.address h).moves

  stage2-below : (ste : Row) (x a : Access) → FromStage2 m ste x a → (uses_stage1 (config ste) ≡ true → x.address < 2 ^ address_bits)
      → (uses_stage1 (config ste) || uses_stage2 (config ste)) ≡ true → a.address < 2 ^ address_bits
  stage2-below ste x a (past n) below u = below (first_of (uses_stage1 (config ste)) (uses_stage2 (config ste)) u n)
    where
      first_of : (p q : Bool) → (p || q) ≡ true → q ≡ false → p ≡ true
      first_of true q u n = refl
      first_of false q u n = clash u n
  stage2-below ste x a (through row y h) below u = (stage2-hit m (rows_in m) (accepted m r) row (vmid ste) x.address h).moves

  -- through a stage the address comes out below 2^52
  pub address_below : (o : Output) (w : Came m t o) → (uses_stage1 (config w.ste) || uses_stage2 (config w.ste)) ≡ true → o.address < 2 ^ address_bits
  unfolding output
  address_below o w u =
      rw (← w.out) (stage2-below w.ste w.first w.second w.stage2_case (stage1-below w.ste (overridden w.ste t) w.first w.stage1_case) u)

  first_proper : (ste : Row) (a : Access) → Formed t → look m (Ste t.stream) ≡ Some ste → FromStage1 m t ste (overridden ste t) a → Proper a.attributes
  first_proper ste a f h s =
      stage1_proper m r ste (overridden ste t) t a (overridden_proper ste t (ste-hit m (rows_in m) (accepted m r) ste t.stream h) f) s

  settled-consistent : (a : Attributes) → Proper a → Consistent (settled a)
  unfolding settled
  settled-consistent a p =
      record {
        number = number a.memattr a.sh;
        below = number_lt a.memattr a.sh p.typed;
        type_of = sym (mem_attr_of_number a.memattr a.sh p.typed p.shared);
        share_of = sym (sh_of_number a.memattr a.sh p.typed p.shared);
      }

  -- its type and shareability are one of the 29
  pub consistent : (o : Output) → Formed t → Came m t o → Consistent o.attributes
  unfolding output
  consistent o f w =
      let p = stage2_proper m r w.ste w.first w.second (first_proper w.ste w.first f w.ste_case w.stage1_case) w.stage2_case in
      rw (← w.out) (settled-consistent w.second.attributes p)

  -- the way through the numbers of stage 2 comes out as the rule on the attributes themselves
  pub by_rule : (ste row : Row) (a : Access) → Formed t → look m (Ste t.stream) ≡ Some ste → FromStage1 m t ste (overridden ste t) a
      → look m (Stage2 (vmid ste) a.address) ≡ Some row → output ste t (joined row a) ≡ output ste t (ruled row a)
  unfolding output ruled
  by_rule ste row a f h s g =
      let p = first_proper ste a f h s in
      let q = hit_proper (stage2-hit m (rows_in m) (accepted m r) row (vmid ste) a.address g) in
      rw (settled-combined a.attributes (attributes_of row).memattr (attributes_of row).sh p.typed q.typed)
