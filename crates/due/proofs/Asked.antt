-- What is due for a command, by what a scan from `from` finds where no row below it is in scope; and the other way round.
-- Assumes nothing.
use mathlib.Core.Path.{◌≡◌, refl, sym, ap, ◌∙◌}
use Prim.Native.Nat.{ℕ, ◌+◌, ◌*◌, ◌≤◌, ◌<◌}
use native.Mathlib.Omega.{arith}
use Rattle.std.specs.Prelude.{None, Option, Some}
use Rattle.words.proofs.Search.{found}
use Rattle.control.specs.Control as control
use Rattle.control_stores.specs.Stores as control-stores
use Rattle.commands.specs.declared.Features.{Features}
use Rattle.commands.specs.declared.Command.{Command}
use Rattle.commands.specs.declared.Reason.{Reason}
use Rattle.commands.specs.declared.Decoded.{Decoded}
use Rattle.commands.specs.declared.Decoded.TheVariants.{Legal, Illegal}
use Rattle.memory.specs.Memory.{Memory, Word0, control_of, kept_rows, rows_in, behind, in_kept, in_second, scoped_at, stored, cleared, Whole}
use Rattle.memory.proofs.Laws.{is-kept, is-behind}
use Rattle.due.specs.declared.Stepped.TheVariants.{Removed, Consumed, DidRaise}
use Rattle.due.specs.Due.{Remove, Stores, scan, scanned, by_scan, after_command, due_for, store_of, Ready, Made}

module _ (f : Features) (c : Command) (from : ℕ) (m : Memory) (r : Ready f (Legal c) from m) where
  scan_case : (x : Option ℕ) → x ≡ scanned f c m from → due_for f (Legal c) m ≡ by_scan c (control_of m) x
  unfolding due_for
  scan_case x e = ap (by_scan c (control_of m)) (sym (e ∙ r.none_below))

-- what a step ensures, from what its calls said: x what the scan found, v the word stored
module _ {f : Features} {d : Decoded} {from : ℕ} {m : Memory} (r : Ready f d from m) where
  pub made-removed : {c : Command} {x : (Option ℕ)} {i : ℕ} {m' : Memory} → d ≡ Legal c → x ≡ scanned f c m from → x ≡ Some i → m' ≡ cleared m i → Made f d m m' (Removed i)
  made-removed {c} {x} {i} s e g h =
      rw s
      (record {
        is_due = scan_case f c from m (rw s at r) x e ∙ ap (by_scan c (control_of m)) g;
        stored = h;
      })

  -- in the first table, or in the second
  pub made-first : {c : Command} {x : (Option ℕ)} {i : ℕ} → d ≡ Legal c → x ≡ scanned f c m from → x ≡ Some i → i < kept_rows m → Made f d m (in_kept m (4 * i + 1) 0) (Removed i)
  made-first {i = i} s e g h = made-removed s e g (rw (is-kept m i h))

  pub made-second : {c : Command} {x : (Option ℕ)} {i : ℕ} → d ≡ Legal c → x ≡ scanned f c m from → x ≡ Some i → kept_rows m ≤ i → Made f d m (in_second m (2 * behind m i) 0) (Removed i)
  made-second {i = i} s e g h = made-removed s e g (rw (is-behind m i h))

  -- the row found is there to be emptied
  pub row-there : {c : Command} {x : (Option ℕ)} {i : ℕ} → d ≡ Legal c → x ≡ scanned f c m from → x ≡ Some i → Whole m × (i < rows_in m)
  row-there {c} {i = i} s e g = (r.room, (found (scoped_at f c m) (rows_in m) from i r.high (sym e ∙ g)).below)

  pub made-consumed : {c : Command} {x : (Option ℕ)} {v : ℕ} → d ≡ Legal c → x ≡ scanned f c m from → x ≡ None → v ≡ after_command (Legal c) (control_of m) → Made f d m (stored m v) Consumed
  made-consumed {c} {x} s e g h =
      rw s
      (record {
        is_due = scan_case f c from m (rw s at r) x e ∙ ap (by_scan c (control_of m)) g;
        stored = ap (stored m) h;
      })

  pub made-raised : {why : Reason} {v n : ℕ} → d ≡ Illegal why → v ≡ control-stores.raised (control_of m) → n ≡ control.slot (control_of m)
      → Made f d m (stored m v) (DidRaise (record { why = why; slot = n }))
  unfolding due_for
  made-raised {why} s h e = rw (s, e) (record { is_due = refl; stored = ap (stored m) h })

-- a removal that is due: the command is legal, and the row is the lowest in scope
pub record Removes (f : Features) (d : Decoded) (m : Memory) (i : ℕ) : Type 0 where
  pub command : Command
  pub legal : d ≡ Legal command
  pub lowest_row : scan f command m (rows_in m) 0 ≡ Some i

found_row : (c : Command) (w i : ℕ) (x : Option ℕ) → by_scan c w x ≡ Stores (Word0 i) 0 Remove → x ≡ Some i
found_row c w i (Some j) e = let s : j ≡ i = cc in rw s
found_row c w i None e = let z : ◌≡◌ {A = ℕ} 0 1 = cc in absurd (omega arith)

pub due-removes : (f : Features) (d : Decoded) (m : Memory) (i : ℕ) → due_for f d m ≡ store_of d m (Removed i) → Removes f d m i
unfolding due_for
due-removes f (Legal c) m i e = record { command = c; legal = refl; lowest_row = found_row c (control_of m) i (scan f c m (rows_in m) 0) e }
due-removes f (Illegal why) m i e = let z : ◌≡◌ {A = ℕ} 0 1 = cc in absurd (omega arith)
