-- What an open control word says.
-- Assumes nothing.
use mathlib.Core.Path.{◌≡◌, refl}
use mathlib.Core.Bool.{Bool, true, false}
use Rattle.std.specs.Prelude.{None, Some}
use Prim.Native.Nat.{ℕ}
use native.Mathlib.Omega.{arith}
use lib.Dec.{eqb}
use borrow.Author.Tests.{eqb-false}
use Rattle.words.specs.Choice.{pick}
use Rattle.control.specs.declared.Rest.TheVariants.{Off, Held, Empty}
use Rattle.control.specs.Control.{rd, wr, cmdqen, active, standing}

pub record Opened (off held empty : Bool) : Type 0 where
  pub enabled : off ≡ false
  pub quiet : held ≡ false
  pub some : empty ≡ false

cases : (off held empty : Bool) → pick off (Some Off) (pick held (Some Held) (pick empty (Some Empty) None)) ≡ None → Opened off held empty
cases false false false e = record { enabled = refl; quiet = refl; some = refl }
cases false false true e = let z : ◌≡◌ {A = ℕ} 0 1 = cc in absurd (omega arith)
cases false true empty e = let z : ◌≡◌ {A = ℕ} 0 1 = cc in absurd (omega arith)
cases true held empty e = let z : ◌≡◌ {A = ℕ} 0 1 = cc in absurd (omega arith)

module _ (w : ℕ) (open' : standing w ≡ None) where
  opened : Opened (eqb (cmdqen w) 0) (active w) (eqb (rd w) (wr w))
  unfolding standing
  opened = cases (eqb (cmdqen w) 0) (active w) (eqb (rd w) (wr w)) open'

  pub open-enabled : cmdqen w ≡ 0 → ⊥
  open-enabled = eqb-false (cmdqen w) 0 opened.enabled

  pub open-quiet : active w ≡ false
  open-quiet = opened.quiet

  -- a command waits
  pub open-waits : rd w ≡ wr w → ⊥
  open-waits = eqb-false (rd w) (wr w) opened.some
