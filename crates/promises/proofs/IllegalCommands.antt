-- Demand 2: CERROR_ILL comes exactly on an illegal command, removes nothing, and holds the queue there until acknowledged.
-- Assumes nothing.
use mathlib.Core.Path.{◌≡◌, sym, ap, ◌∙◌}
use mathlib.Core.Bool.{Bool, true, false}
use mathlib.Core.List.{List}
use Prim.Native.Nat.{ℕ, suc}
use lib.Dec.{T}
use Rattle.std.specs.Prelude.{None, Some}
use Rattle.words.specs.Ranges.{Range, get}
use Rattle.words.proofs.Parts.{apart, all_apart}
use borrow.Author.Tests.{eq-eqb, ne_eqb}
use Rattle.control.specs.Control as control
use Rattle.control.specs.declared.Rest.TheVariants.{Off as Rest-as-Off, Held as Rest-as-Held}
use Rattle.control.proofs.Openness.{open-enabled, open-waits}
use Rattle.control_stores.specs.Stores as control-stores
use Rattle.control_stores.proofs.AfterStores.{raises, raised_keeps, acknowledged-keeps, acknowledged-quiet, rung-keeps, switched-keeps, same-active}
use Rattle.commands.specs.declared.Features.{Features}
use Rattle.commands.specs.declared.Decoded.TheVariants.{Illegal}
use Rattle.commands.specs.Decoding.{decode_at}
use Rattle.commands.specs.declared.Reason.{Reason}
use Rattle.memory.specs.Memory.{Memory, control_of, stored as storedIn}
use Rattle.due.specs.Due.{Raise, due_for, at_rd, due, raising_at}
use Rattle.runs.specs.declared.End.TheVariants.{Off, Held, Raised, Cut}
use Rattle.runs.specs.Running.{stores, rested, plus, run_by, due_in, run}
use Rattle.runs.proofs.Turns.{run-rests, due-rests}

-- the standing of a word, by its parts
off : (w : ℕ) → control.cmdqen w ≡ 0 → control.standing w ≡ Some Rest-as-Off
unfolding control.standing
off w e = rw (eq-eqb (control.cmdqen w) 0 e)

held : (w : ℕ) → (control.cmdqen w ≡ 0 → ⊥) → control.active w ≡ true → control.standing w ≡ Some Rest-as-Held
unfolding control.standing
held w on e = rw (ne_eqb (control.cmdqen w) 0 on, e)

opens : (w : ℕ) → (control.cmdqen w ≡ 0 → ⊥) → control.active w ≡ false → (control.rd w ≡ control.wr w → ⊥) → control.standing w ≡ None
unfolding control.standing
opens w on quiet waits = rw (ne_eqb (control.cmdqen w) 0 on, quiet, ne_eqb (control.rd w) (control.wr w) waits)

module _ (f : Features) (queue : List ℕ) (m : Memory) where
  abbrev raisedMemory : Memory
  raisedMemory = storedIn m (control-stores.raised (control_of m))

  is-raise : {why : Reason} → control.standing (control_of m) ≡ None → at_rd f queue m ≡ Illegal why
      → due_in f queue m ≡ stores (Raise (raising_at why (control_of m))) raisedMemory
  unfolding due due_for
  is-raise on illegal = rw (on, illegal)

  -- an illegal command at RD: one store, ERR and GERROR, and the run ends with its reason and slot; with no allowance it is cut
  pub illegal-raises : {why : Reason} (k : ℕ) → control.standing (control_of m) ≡ None → at_rd f queue m ≡ Illegal why
      → run f queue (suc k) m ≡ plus 0 1 0 0 (rested (Raised (raising_at why (control_of m))) raisedMemory)
  unfolding run_by
  illegal-raises k on illegal = rw (is-raise on illegal)

  pub illegal-cut : {why : Reason} → control.standing (control_of m) ≡ None → at_rd f queue m ≡ Illegal why → run f queue 0 m ≡ rested Cut m
  unfolding run_by
  illegal-cut on illegal = rw (is-raise on illegal)

  -- while the error is active, a run ends Held, or Off where the queue is disabled: no count, no word changes
  pub error-holds : (k : ℕ) → control.active (control_of m) ≡ true → (control.cmdqen (control_of m) ≡ 0 → ⊥) → run f queue k m ≡ rested Held m
  error-holds k e on = run-rests (due_in f queue) m k Rest-as-Held (due-rests f queue m Rest-as-Held (held (control_of m) on e))

  pub disabled-off : (k : ℕ) → control.cmdqen (control_of m) ≡ 0 → run f queue k m ≡ rested Off m
  disabled-off k e = run-rests (due_in f queue) m k Rest-as-Off (due-rests f queue m Rest-as-Off (off (control_of m) e))

-- neither doorbells nor enabling and disabling end it
pub doorbell_keeps_error : (w v : ℕ) → control.active (control-stores.rung w v) ≡ control.active w
doorbell_keeps_error w v = same-active w (control-stores.rung w v) (rung-keeps w v control.gerror_bits tt) (rung-keeps w v control.gerrorn_bits tt)

pub switch_keeps_error : (w : ℕ) (on : Bool) → control.active (control-stores.switched w on) ≡ control.active w
switch_keeps_error w on = same-active w (control-stores.switched w on) (switched-keeps w on control.gerror_bits tt) (switched-keeps w on control.gerrorn_bits tt)

-- raised, and acknowledged: the same slot
module _ (w : ℕ) where
  pub raised-slot : control.slot (control-stores.raised w) ≡ control.slot w
  unfolding control.slot
  raised-slot = rw (raised_keeps w control.log2size_bits tt, raised_keeps w control.rd_bits tt)

  pub same-slot : control.slot (control-stores.acknowledged (control-stores.raised w)) ≡ control.slot w
  unfolding control.slot
  same-slot =
      let r = control-stores.raised w in
      rw (acknowledged-keeps r control.log2size_bits tt, acknowledged-keeps r control.rd_bits tt) raised-slot

  reopens : control.standing w ≡ None → control.standing (control-stores.acknowledged (control-stores.raised w)) ≡ None
  reopens on =
      let r = control-stores.raised w in
      let kept : (b : Range) → T (apart control.gerrorn_bits b) → T (all_apart raises b) → get b (control-stores.acknowledged r) ≡ get b w =
      λ b x y. acknowledged-keeps r b x ∙ raised_keeps w b y in
      opens (control-stores.acknowledged r)
      (λ e. open-enabled w on (sym (kept control.cmdqen_bits tt tt) ∙ e))
      (acknowledged-quiet r)
      (λ e. open-waits w on (sym (kept control.rd_bits tt tt) ∙ e ∙ kept control.wr_bits tt tt))

-- after acknowledging, the same illegal command raises again, and tells the same
pub raises-again : {why : Reason} (f : Features) (queue : List ℕ) (m : Memory) (k : ℕ) → control.standing (control_of m) ≡ None → at_rd f queue m ≡ Illegal why
    → (m₂ : Memory) → control_of m₂ ≡ control-stores.acknowledged (control-stores.raised (control_of m))
    → run f queue (suc k) m₂ ≡ plus 0 1 0 0 (rested (Raised (raising_at why (control_of m))) (storedIn m₂ (control-stores.raised (control_of m₂))))
raises-again {why} f queue m k on illegal m₂ word =
    let same : control.slot (control_of m₂) ≡ control.slot (control_of m) = ap control.slot word ∙ same-slot (control_of m) in
    illegal-raises f queue m₂ k (rw word (reopens (control_of m) on)) (ap (λ (s : ℕ). decode_at f queue s) same ∙ illegal)
    ∙ ap (λ (s : ℕ). plus 0 1 0 0 (rested (Raised (record { why = why; slot = s })) (storedIn m₂ (control-stores.raised (control_of m₂))))) same
