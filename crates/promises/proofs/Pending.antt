-- Document 02, T-08: a completion interrupt is pending after a run exactly if it was before, or a CMD_SYNC with CS 1 was consumed. So
-- no cut takes it away.
-- Assumes nothing.
use mathlib.Core.Path.{◌≡◌, refl, ap, ◌∙◌}
use mathlib.Core.Bool.{Bool, true, false}
use mathlib.Core.List.{List}
use mathlib.Core.Logic.{◌⊎◌, inl, inr}
use Prim.Native.Nat.{ℕ, zero, suc, ◌+◌}
use native.Mathlib.Omega.{arith}
use lib.Dec.{eqb}
use borrow.Author.Tests.{eq-eqb, ne_eqb, eqb-true, eqb-false}
use Rattle.words.specs.Choice.{pick}
use Rattle.control.specs.Control as control
use Rattle.control_stores.specs.Stores as control-stores
use Rattle.control_stores.proofs.AfterStores.{raised_keeps}
use Rattle.commands.specs.declared.Features.{Features}
use Rattle.commands.specs.declared.Decoded.TheVariants.{Legal}
use Rattle.commands.specs.Decoding.{is_counted}
use Rattle.memory.specs.Memory.{Memory, control_of}
use Rattle.memory.proofs.Laws.{Accepts, accepted-whole, control-stored, control-cleared}
use Rattle.due.specs.Due.{What, Remove, Consume, Raise, after_command}
use Rattle.due.proofs.Consuming.{after-pending}
use Rattle.runs.specs.Running.{Next, rests, stores, last, next, run_by, due_in, run}
use Rattle.promises.specs.Pending.{set_by}
use Rattle.promises.proofs.Cases.{Case, removes, consumes, raises, is_due}
use Rattle.promises.proofs.Accepted.{store-accepted}

-- how many CMD_SYNCs with CS 1 a store consumes
abbrev syncs_by : What → ℕ
syncs_by Remove = 0
syncs_by (Consume y) = y
syncs_by (Raise told) = 0

joined : (y s a : ℕ) → set_by s (set_by y a) ≡ set_by (y + s) a
joined y s a = by_tests (eqb s 0) (eqb y 0) refl refl
  where
    by_tests : (b c : Bool) → eqb s 0 ≡ b → eqb y 0 ≡ c → pick b (pick c a 1) 1 ≡ set_by (y + s) a
    by_tests true true p q = rw (eq-eqb (y + s) 0 (omega (arith, eqb-true s 0 p, eqb-true y 0 q)))
    by_tests true false p q = rw (ne_eqb (y + s) 0 (λ e. eqb-false y 0 q (omega (arith, e))))
    by_tests false c p q = rw (ne_eqb (y + s) 0 (λ e. eqb-false s 0 p (omega (arith, e))))

-- a bit of any memory that each store sets by what it consumes
module _ {M : Type 0} (f : M → Next M) (P : M → Type 0) (keep : (m m' : M) (w : What) → P m → f m ≡ stores w m' → P m') (bit : M → ℕ)
    (moves : (m m' : M) (w : What) → P m → f m ≡ stores w m' → bit m' ≡ set_by (syncs_by w) (bit m)) where
  Sets : ℕ → M → Type 0
  Sets k m = bit (run_by f k m).memory ≡ set_by (run_by f k m).ran.syncs (bit m)

  sets_last : (m : M) (d : Next M) → bit (last d m).memory ≡ set_by (last d m).ran.syncs (bit m)
  sets_last m (rests r) = refl
  sets_last m (stores w m') = refl

  on : (k : ℕ) (m m' : M) (w : What) → P m → f m ≡ stores w m' → Sets k m' → bit (run_by f k m').memory ≡ set_by (syncs_by w + (run_by f k m').ran.syncs) (bit m)
  unfolding Sets
  on k m m' w p same ih = ih ∙ ap (set_by (run_by f k m').ran.syncs) (moves m m' w p same) ∙ joined (syncs_by w) (run_by f k m').ran.syncs (bit m)

  sets-next : (k : ℕ) (m : M) (d : Next M) → f m ≡ d → P m → ((m' : M) → P m' → Sets k m')
      → bit (next (run_by f k) d m).memory ≡ set_by (next (run_by f k) d m).ran.syncs (bit m)
  sets-next k m (rests r) same p ih = refl
  sets-next k m (stores Remove m') same p ih = on k m m' Remove p same (ih m' (keep m m' Remove p same))
  sets-next k m (stores (Consume y) m') same p ih = on k m m' (Consume y) p same (ih m' (keep m m' (Consume y) p same))
  sets-next k m (stores (Raise told) m') same p ih = moves m m' (Raise told) p same

  pub sets-bit : (k : ℕ) (m : M) → P m → bit (run_by f k m).memory ≡ set_by (run_by f k m).ran.syncs (bit m)
  unfolding run_by Sets
  sets-bit zero m p = sets_last m (f m)
  sets-bit (suc k) m p = sets-next k m (f m) refl p (λ m' q. sets-bit k m' q)

counted : (b : Bool) (a : ℕ) → pick (eqb (pick b 1 0) 1) 1 a ≡ set_by (pick b 1 0) a
counted true a = refl
counted false a = refl

module _ (f : Features) (queue : List ℕ) (n : ℕ) where
  abbrev pendingIn : Memory → ℕ
  pendingIn m = control.pending (control_of m)

  by_case : (m m' : Memory) (w : What) → Accepts m n → Case f queue m w m' → pendingIn m' ≡ set_by (syncs_by w) (pendingIn m)
  by_case m m' w a (removes c i legal low what stored) = rw (what, stored, control-cleared m i) refl
  by_case m m' w a (consumes c legal nothing what stored) =
      let v = after_command (Legal c) (control_of m) in
      rw (what, stored, control-stored m (accepted-whole m n a) v) (after-pending (Legal c) (control_of m) ∙ counted (is_counted c) (pendingIn m))
  by_case m m' w a (raises why illegal what stored) =
      let v = control-stores.raised (control_of m) in
      rw (what, stored, control-stored m (accepted-whole m n a) v) (raised_keeps (control_of m) control.pending_bits tt)

  -- at every allowance
  pub pending-after : (k : ℕ) (m : Memory) → Accepts m n → control.pending (control_of (run f queue k m).memory) ≡ set_by (run f queue k m).ran.syncs (control.pending (control_of m))
  pending-after k m a =
      sets-bit (due_in f queue) (λ x. Accepts x n) (store-accepted f queue n) pendingIn
      (λ x x' w p e. by_case x x' w p (is_due f queue x w x' e).kind) k m a

  -- the report is not lost: whatever was consumed and wherever it was cut
  pub never-lost : (k : ℕ) (m : Memory) → Accepts m n → ((run f queue k m).ran.syncs ≡ 0) ⊎ (control.is_pending (control_of (run f queue k m).memory) ≡ true)
  never-lost k m a = by_test (eqb (run f queue k m).ran.syncs 0) refl
    where
      by_test : (b : Bool) → eqb (run f queue k m).ran.syncs 0 ≡ b → ((run f queue k m).ran.syncs ≡ 0) ⊎ (control.is_pending (control_of (run f queue k m).memory) ≡ true)
      by_test true e = inl (eqb-true (run f queue k m).ran.syncs 0 e)
      by_test false e = inr (eq-eqb (control.pending (control_of (run f queue k m).memory)) 1 (rw e at (pending-after k m a)))

  -- nor made up: a bit that came to be set tells of a CMD_SYNC that was consumed
  pub was-consumed : (k : ℕ) (m : Memory) → Accepts m n → control.pending (control_of m) ≡ 0 → control.pending (control_of (run f queue k m).memory) ≡ 1
      → (run f queue k m).ran.syncs ≡ 0 → ⊥
  was-consumed k m a clear set-now none =
      let same = rw (eq-eqb (run f queue k m).ran.syncs 0 none) at (pending-after k m a) in
      omega (arith, same, clear, set-now)
