-- Demand 1: from memory that refusals 1, 2 and 3 accept, a run at every allowance leaves memory that they accept.
-- Assumes nothing.
use mathlib.Core.Path.{◌≡◌}
use mathlib.Core.List.{List}
use Prim.Native.Nat.{ℕ}
use Rattle.control.proofs.Formed as control_formed
use Rattle.control.proofs.Openness.{open-waits}
use Rattle.control_stores.proofs.AfterStores.{raised-formed}
use Rattle.commands.specs.declared.Features.{Features}
use Rattle.commands.specs.declared.Decoded.TheVariants.{Legal}
use Rattle.memory.specs.Memory.{Memory, control_of}
use Rattle.memory.proofs.Laws.{Accepts, rows_are, control_formed as word-formed, stored-accepted, cleared-accepted}
use Rattle.due.specs.Due.{What}
use Rattle.due.proofs.Consuming.{after-formed}
use Rattle.runs.specs.Running.{stores, due_in, run}
use Rattle.promises.proofs.Cases.{Case, removes, consumes, raises, IsDue, is_due}
use Rattle.promises.proofs.Sums.{run-keeps}

module _ (f : Features) (queue : List ℕ) (n : ℕ) where
  by_case : (m m' : Memory) (w : What) → Accepts m n → IsDue f queue m w m' → Case f queue m w m' → Accepts m' n
  by_case m m' w a d (removes c i legal low what stored) =
      rw stored (cleared-accepted m n a i (rw (rows_are m n a) at low.below))
  by_case m m' w a d (consumes c legal nothing what stored) =
      let formed = control_formed.formed (control_of m) (word-formed m n a) in
      rw stored
      (stored-accepted m n a _ (control_formed.is_formed _ (after-formed (Legal c) (control_of m) formed (open-waits (control_of m) d.open_for_it))))
  by_case m m' w a d (raises why illegal what stored) =
      let formed = control_formed.formed (control_of m) (word-formed m n a) in
      rw stored (stored-accepted m n a _ (control_formed.is_formed _ (raised-formed (control_of m) formed)))

  pub store-accepted : (m m' : Memory) (w : What) → Accepts m n → due_in f queue m ≡ stores w m' → Accepts m' n
  store-accepted m m' w a e = let d = is_due f queue m w m' e in by_case m m' w a d d.kind

  pub run-accepted : (k : ℕ) (m : Memory) → Accepts m n → Accepts (run f queue k m).memory n
  run-accepted k m a = run-keeps (due_in f queue) (λ x. Accepts x n) store-accepted k m a
