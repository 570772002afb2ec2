-- The call of a run: its outcome is pinned, it keeps memory accepted, and what repeating it does.
-- Assumes nothing.
use mathlib.Core.Path.{◌≡◌, refl, sym, ap, ◌∙◌}
use mathlib.Core.Bool.{Bool, true, false, not}
use mathlib.Core.List.{List}
use Prim.Native.Nat.{ℕ, zero, suc}
use native.Mathlib.Omega.{arith}
use Rattle.words.specs.Choice.{pick}
use Rattle.words.specs.Outcomes.{Outcome}
use Rattle.control.specs.Control as control
use Rattle.control.proofs.Openness.{open-enabled, open-quiet}
use Rattle.control_stores.specs.Stores as control-stores
use Rattle.control_stores.proofs.AfterStores.{raised_keeps, raised-active, raised-err}
use Rattle.commands.specs.declared.Features.{Features}
use Rattle.commands.specs.declared.Decoded.TheVariants.{Illegal}
use Rattle.commands.specs.Decoding.{decode_at, is_illegal}
use Rattle.memory.specs.Memory.{Memory, control_of}
use Rattle.memory.proofs.Laws.{Accepts, accepted-whole, control-stored}
use Rattle.due.specs.declared.Raising.{Raising}
use Rattle.due.specs.Due.{What, Remove, Consume, Raise, raising_at}
use Rattle.runs.specs.declared.End.TheVariants.{Held, Raised}
use Rattle.runs.specs.declared.RunRefusal.TheVariants.{BadQueue}
use Rattle.std.specs.Prelude.{Result}
use Rattle.runs.specs.declared.Ran.{Ran}
use Rattle.runs.specs.declared.RunRefusal.{RunRefusal}
use Rattle.runs.specs.Running.{Next, rests, stores, rested, last, next, run_by, due_in, run}
use Rattle.runs.specs.Call.{queue_good, refused, done, call}
use Rattle.runs.proofs.Calling.{goes_through, Answered, no, yes, answered}
use Rattle.promises.specs.Tells.{Tells}
use Rattle.promises.specs.Ends.{IsRaised}
use Rattle.promises.proofs.Accepted.{run-accepted, store-accepted}
use Rattle.promises.proofs.Cases.{Case, removes, consumes, raises, is_due}
use Rattle.promises.proofs.Resume.{rest_unraised}
use Rattle.promises.proofs.IllegalCommands.{raised-slot, error-holds}

-- memory that is not accepted is left as it is
pub refused-leaves : (f : Features) (queue : List ℕ) (k : ℕ) (m : Memory) → ((n : ℕ) → Accepts m n → ⊥) → (call f queue k m).memory ≡ m
refused-leaves f queue k m never = by_answer (answered f queue m)
  where
    by_answer : Answered f queue m → (call f queue k m).memory ≡ m
    by_answer (no why e) = ap (λ (o : Outcome Memory (Result Ran RunRefusal)). o.memory) (e k)
    by_answer (yes n a) = absurd (never n a)

module _ (f : Features) (queue : List ℕ) (n : ℕ) where
  by_queue : (k : ℕ) (m : Memory) (b : Bool) → queue_good queue m ≡ b → Accepts m n → Accepts (pick (not b) (refused BadQueue m) (done (run f queue k m))).memory n
  by_queue k m true e a = run-accepted f queue n k m a
  by_queue k m false e a = a

  -- from accepted memory the call leaves accepted memory, at every allowance, refused or not
  pub call-accepted : (k : ℕ) (m : Memory) → Accepts m n → Accepts (call f queue k m).memory n
  call-accepted k m a = rw (goes_through f queue k m n a) (by_queue k m (queue_good queue m) refl a)

  pub bad-queue-leaves : (k : ℕ) (m : Memory) → Accepts m n → queue_good queue m ≡ false → (call f queue k m).memory ≡ m
  bad-queue-leaves k m a e = rw (goes_through f queue k m n a, e)

-- a run that ended Raised: its last store was the error's
module _ {M : Type 0} (f : M → Next M) (P : M → Type 0) (keep : (m m' : M) (w : What) → P m → f m ≡ stores w m' → P m') where
  pub record RaisedBy (told : Raising) (m' : M) : Type 0 where
    pub before : M
    pub held-before : P before
    pub was_due : f before ≡ stores (Raise told) m'

  by_last : (told : Raising) (m : M) (d : Next M) → (last d m).ran.end ≡ Raised told → RaisedBy told (last d m).memory
  by_last told m (rests r) e = absurd (rest_unraised r told e)
  by_last told m (stores w m') e = let z : ◌≡◌ {A = ℕ} 0 1 = cc in absurd (omega arith)

  by_next : (told : Raising) (k : ℕ) (m : M) (d : Next M) → f m ≡ d → P m
      → ((m' : M) → P m' → (run_by f k m').ran.end ≡ Raised told → RaisedBy told (run_by f k m').memory)
      → (next (run_by f k) d m).ran.end ≡ Raised told → RaisedBy told (next (run_by f k) d m).memory
  by_next told k m (rests r) same p ih e = absurd (rest_unraised r told e)
  by_next told k m (stores Remove m') same p ih e = ih m' (keep m m' Remove p same) e
  by_next told k m (stores (Consume y) m') same p ih e = ih m' (keep m m' (Consume y) p same) e
  by_next told k m (stores (Raise t) m') same p ih e =
      let s : t ≡ told = cc in
      record { before = m; held-before = p; was_due = same ∙ ap (λ (x : Raising). stores (Raise x) m') s }

  pub raised_by : (told : Raising) (k : ℕ) (m : M) → P m → (run_by f k m).ran.end ≡ Raised told → RaisedBy told (run_by f k m).memory
  unfolding run_by
  raised_by told zero m p e = by_last told m (f m) e
  raised_by told (suc k) m p e = by_next told k m (f m) refl p (λ m' q c. raised_by told k m' q c) e

module _ (f : Features) (queue : List ℕ) (n : ℕ) where
  -- what raising the error leaves, and what it tells
  pub record Left (told : Raising) (m' : Memory) : Type 0 where
    pub is-raised : IsRaised f queue m'
    pub tells : Tells f queue (control_of m') told

  pub raised-left : (told : Raising) (m m' : Memory) → Accepts m n → due_in f queue m ≡ stores (Raise told) m' → Left told m'
  raised-left told m m' a e = by_case (is_due f queue m (Raise told) m' e).kind
    where
      w : ℕ
      w = control_of m

      by_case : Case f queue m (Raise told) m' → Left told m'
      by_case (removes c i legal low what stored) = let z : ◌≡◌ {A = ℕ} 0 1 = cc in absurd (omega arith)
      by_case (consumes c legal nothing what stored) = let z : ◌≡◌ {A = ℕ} 0 1 = cc in absurd (omega arith)
      by_case (raises why illegal what stored) =
          let on = (is_due f queue m (Raise told) m' e).open_for_it in
          let same : told ≡ raising_at why w = cc in
          let word : control_of m' ≡ control-stores.raised w = ap control_of stored ∙ control-stored m (accepted-whole m n a) (control-stores.raised w) in
          let slot : control.slot (control_of m') ≡ control.slot w = ap control.slot word ∙ raised-slot w in
          let at-rd : decode_at f queue (control.slot (control_of m')) ≡ Illegal why = ap (λ (s : ℕ). decode_at f queue s) slot ∙ illegal in
          let left : IsRaised f queue m' = record {
            enabled = λ z. open-enabled w on (sym (raised_keeps w control.cmdqen_bits tt) ∙ ap control.cmdqen (sym word) ∙ z);
            in_error = ap control.active word ∙ raised-active w (open-quiet w on);
            code = ap control.err word ∙ raised-err w;
            illegal = ap is_illegal at-rd;
          } in
          let says : Tells f queue (control_of m') told = record {
            reason = at-rd ∙ ap (λ (t : Raising). Illegal t.why) (sym same);
            slot = ap (λ (t : Raising). t.slot) same ∙ sym slot;
          } in
          record { is-raised = left; tells = says }

  -- where a run ends Raised, at every allowance
  pub raised-run : (told : Raising) (k : ℕ) (m : Memory) → Accepts m n → (run f queue k m).ran.end ≡ Raised told → Left told (run f queue k m).memory
  raised-run told k m a e =
      let r = raised_by (due_in f queue) (λ x. Accepts x n) (store-accepted f queue n) told k m a e in
      raised-left told r.before (run f queue k m).memory r.held-before r.was_due

  -- Document 02, T-09: the error tells why the command that RD still names is illegal, and its slot
  pub error-tells : (told : Raising) (k : ℕ) (m : Memory) → Accepts m n → (run f queue k m).ran.end ≡ Raised told → Tells f queue (control_of (run f queue k m).memory) told
  error-tells told k m a e = (raised-run told k m a e).tells

  -- repeating a run that ended Raised: Held, and no word changes
  pub raised-then-held : (told : Raising) (k j : ℕ) (m : Memory) → Accepts m n → (run f queue k m).ran.end ≡ Raised told → run f queue j (run f queue k m).memory ≡ rested Held (run f queue k m).memory
  raised-then-held told k j m a e =
      let left = (raised-run told k m a e).is-raised in
      error-holds f queue (run f queue k m).memory j left.in_error left.enabled
