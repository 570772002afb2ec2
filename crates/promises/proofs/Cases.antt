-- What single store is due in a run, case by case.
-- Assumes nothing.
use mathlib.Core.Path.{◌≡◌, refl, ◌∙◌}
use mathlib.Core.List.{List}
use Prim.Native.Nat.{ℕ}
use native.Mathlib.Omega.{arith}
use Rattle.std.specs.Prelude.{None, Option, Some}
use Rattle.words.proofs.Search.{Lowest}
use Rattle.control.specs.Control as control
use Rattle.control.specs.declared.Rest.{Rest}
use Rattle.control_stores.specs.Stores as control-stores
use Rattle.commands.specs.declared.Features.{Features}
use Rattle.commands.specs.declared.Command.{Command}
use Rattle.commands.specs.declared.Decoded.{Decoded}
use Rattle.commands.specs.declared.Decoded.TheVariants.{Legal, Illegal}
use Rattle.commands.specs.Decoding.{syncs_of}
use Rattle.commands.specs.declared.Reason.{Reason}
use Rattle.memory.specs.Memory.{Memory, control_of, rows_in, scoped_at, stored as storedIn, cleared}
use Rattle.due.specs.Due.{What, Remove, Consume, Raise, scan, by_scan, after_command, due_for, at_rd, gate, due, raising_at}
use Rattle.due.proofs.Scans.{lowest-scoped}
use Rattle.runs.specs.Running.{rests, stores, next_of, due_in}

-- the store is one of three: the lowest row in scope of a legal command, the command itself once there is none, or the error
pub data Case (f : Features) (queue : List ℕ) (m : Memory) (w : What) (m' : Memory) : Type 0 where
  removes : (c : Command) (i : ℕ) → at_rd f queue m ≡ Legal c → Lowest (scoped_at f c m) (rows_in m) 0 i → w ≡ Remove → m' ≡ cleared m i → Case f queue m w m'
  consumes : (c : Command) → at_rd f queue m ≡ Legal c → scan f c m (rows_in m) 0 ≡ None → w ≡ Consume (syncs_of (Legal c)) → m' ≡ storedIn m (after_command (Legal c) (control_of m)) → Case f queue m w m'
  raises : (why : Reason) → at_rd f queue m ≡ Illegal why → w ≡ Raise (raising_at why (control_of m)) → m' ≡ storedIn m (control-stores.raised (control_of m)) → Case f queue m w m'

pub record IsDue (f : Features) (queue : List ℕ) (m : Memory) (w : What) (m' : Memory) : Type 0 where
  pub open_for_it : control.standing (control_of m) ≡ None
  pub kind : Case f queue m w m'

module _ (f : Features) (queue : List ℕ) (m : Memory) (w : What) (m' : Memory) where
  scan_case : (c : Command) → at_rd f queue m ≡ Legal c → (x : Option ℕ) → scan f c m (rows_in m) 0 ≡ x → next_of (by_scan c (control_of m) x) m ≡ stores w m' → Case f queue m w m'
  scan_case c legal (Some i) e s = removes c i legal (lowest-scoped f c m (rows_in m) i e) (cc) (cc)
  scan_case c legal None e s = consumes c legal e (cc) (cc)

  by_command : (d : Decoded) → at_rd f queue m ≡ d → next_of (due_for f d m) m ≡ stores w m' → Case f queue m w m'
  unfolding due_for
  by_command (Legal c) e s = scan_case c e (scan f c m (rows_in m) 0) refl s
  by_command (Illegal why) e s = raises why e (cc) (cc)

  by_standing : (st : Option Rest) → control.standing (control_of m) ≡ st → next_of (gate st (due_for f (at_rd f queue m) m)) m ≡ stores w m' → IsDue f queue m w m'
  by_standing (Some r) e s = let z : ◌≡◌ {A = ℕ} 0 1 = cc in absurd (omega arith)
  by_standing None e s = record { open_for_it = e; kind = by_command (at_rd f queue m) refl s }

  pub is_due : due_in f queue m ≡ stores w m' → IsDue f queue m w m'
  unfolding due
  is_due s = by_standing (control.standing (control_of m)) refl s

-- where the control word is open, a store is due
module _ (f : Features) (queue : List ℕ) (m : Memory) (r : Rest) where
  never-rests : (d : Decoded) → next_of (due_for f d m) m ≡ rests r → ⊥
  unfolding due_for
  never-rests (Legal c) e = by_found (scan f c m (rows_in m) 0) e
    where
      by_found : (x : Option ℕ) → next_of (by_scan c (control_of m) x) m ≡ rests r → ⊥
      by_found (Some i) e = let z : ◌≡◌ {A = ℕ} 0 1 = cc in omega arith
      by_found None e = let z : ◌≡◌ {A = ℕ} 0 1 = cc in omega arith
  never-rests (Illegal why) e = let z : ◌≡◌ {A = ℕ} 0 1 = cc in omega arith

  -- so at rest means that the control word is
  pub rests-at : due_in f queue m ≡ rests r → control.standing (control_of m) ≡ Some r
  unfolding due
  rests-at e = by_standing' (control.standing (control_of m)) refl e
    where
      by_standing' : (st : Option Rest) → control.standing (control_of m) ≡ st → next_of (gate st (due_for f (at_rd f queue m) m)) m ≡ rests r → control.standing (control_of m) ≡ Some r
      by_standing' (Some r') same s = same ∙ (cc)
      by_standing' None same s = absurd (never-rests (at_rd f queue m) s)

  pub open_stores : control.standing (control_of m) ≡ None → due_in f queue m ≡ rests r → ⊥
  open_stores on e = let z : ◌≡◌ {A = ℕ} 0 1 = cc (rests-at e) in omega arith
