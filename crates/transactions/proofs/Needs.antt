-- What the steps ask of an accepted image, and of an access on its way.
-- Assumes nothing.
use mathlib.Core.Path.{◌≡◌, refl, sym, ap, ◌∙◌}
use mathlib.Core.Bool.{Bool, true, false, ◌&&◌}
use mathlib.Core.List.{List}
use Prim.Native.Nat.{ℕ, ◌+◌, ◌*◌, ◌≤◌}
use native.Mathlib.Omega.{arith}
use lib.Dec.{eqb}
use lib.ListN.{length}
use Rattle.words.specs.Choice.{pick}
use Rattle.words.proofs.Truth.{left, right}
use Rattle.attributes.specs.declared.Attributes.{Attributes}
use Rattle.attributes.specs.Formats.{nsh, osh, ish, mem_attr_formed, sh_formed, hints_formed, well_formed}
use Rattle.overrides.specs.Overrides as overrides
use Rattle.rows.specs.declared.Row.{Row}
use Rattle.rows.specs.declared.Parts.{Parts}
use Rattle.rows.specs.Rows.{vmid, asid, config, new_mem_attr, parts_of, overrides_of, attributes_of}
use Rattle.std.specs.Prelude.{Ok}
use Rattle.image.specs.Image.{rows_in, check}
use Rattle.image.proofs.Checks.{Accepts, rows_are, says}
use Rattle.lookups.proofs.Accepted.{StageHit}
use Rattle.transactions.specs.declared.Transaction.{Transaction}
use Rattle.transactions.specs.Steps.{Ready, Formed, Movable, overridden}

-- the parts of a row, one by one
module _ {p : Parts} (row : Row) (e : p ≡ parts_of row) where
  pub config-of : p.config ≡ config row
  unfolding parts_of
  config-of = ap (λ (q : Parts). q.config) e

  pub vmid-of : p.vmid ≡ vmid row
  unfolding parts_of
  vmid-of = ap (λ (q : Parts). q.vmid) e

  pub asid-of : p.asid ≡ asid row
  unfolding parts_of
  asid-of = ap (λ (q : Parts). q.asid) e

-- an accepted image has as many rows as its length says
pub ready : (m : List ℕ) {n : ℕ} → check m ≡ Ok n → Ready m
ready m {n} e = e ∙ ap Ok (sym (rows_are m n ((says m).accepted n e).size))

module _ (m : List ℕ) (r : Ready m) where
  pub accepted : Accepts m (rows_in m)
  accepted = (says m).accepted (rows_in m) r

  pub room : 4 * rows_in m + 1 ≤ length m
  room = omega (arith, accepted.size.words)

-- a stage row that is hit can move the address
pub movable : {row : Row} {a : ℕ} → StageHit row a → Movable row a
movable h = record { from = h.from; room = omega (arith, h.moves) }

-- attributes of a well-formed type and shareability, whatever their hints
pub record Proper (a : Attributes) : Type 0 where
  pub typed : mem_attr_formed a.memattr ≡ true
  pub shared : sh_formed a.sh ≡ true

pub formed_proper : (a : Attributes) → well_formed a ≡ true → Proper a
unfolding well_formed
formed_proper a f =
    let m = mem_attr_formed a.memattr in
    let s = sh_formed a.sh in
    let both = left (m && s) (hints_formed a.memattr a.hints) f in
    record { typed = left m s both; shared = right m s both }

pub hit_proper : {row : Row} {a : ℕ} → StageHit row a → Proper (attributes_of row)
hit_proper {row} h = formed_proper (attributes_of row) h.formed

-- the overrides leave such attributes
picked : (P : ℕ → Type 0) (b : Bool) (m n : ℕ) → P m → P n → P (pick b m n)
picked P true m n f g = f
picked P false m n f g = g

override_shared : (shcfg s : ℕ) → sh_formed s ≡ true → sh_formed (overrides.override_sh shcfg s) ≡ true
unfolding overrides.override_sh sh_formed
override_shared shcfg s f = by (eqb shcfg 0) (eqb shcfg 1) (eqb shcfg 2)
  where
    by : (a b c : Bool) → sh_formed (pick a nsh (pick b s (pick c osh ish))) ≡ true
    by true b c = refl
    by false true c = f
    by false false true = refl
    by false false false = refl

pub overridden_proper : (ste : Row) (t : Transaction) → mem_attr_formed (new_mem_attr ste) ≡ true → Formed t → Proper (overridden ste t).attributes
unfolding overridden overrides.overridden overrides_of
overridden_proper ste t f g =
    let incoming = formed_proper t.attributes g in
    record {
      typed = picked (λ m. mem_attr_formed m ≡ true) (eqb (overrides_of ste).mtcfg 1) (new_mem_attr ste) t.attributes.memattr f incoming.typed;
      shared = override_shared (overrides_of ste).shcfg t.attributes.sh incoming.shared;
    }
