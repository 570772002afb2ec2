-- Demand 3, of the call: cut and made again with the same queue and features, it is never refused on the way, and in the end
-- memory, end and sums are those of a call that was never cut.
-- Assumes nothing.
use mathlib.Core.Path.{◌≡◌, refl, sym, ap, ◌∙◌}
use mathlib.Core.Bool.{Bool, true, false}
use mathlib.Core.List.{List, [], ◌∷◌}
use Prim.Native.Nat.{ℕ, ◌*◌, ◌^◌}
use native.Mathlib.Omega.{arith}
use lib.Dec.{eqb}
use lib.ListN.{length}
use Rattle.words.specs.Outcomes.{Outcome}
use Rattle.control.specs.Control as control
use Rattle.control_stores.specs.Stores as control-stores
use Rattle.control_stores.proofs.AfterStores.{raised_keeps}
use Rattle.commands.specs.declared.Features.{Features}
use Rattle.commands.specs.declared.Decoded.TheVariants.{Legal}
use Rattle.memory.specs.Memory.{Memory, control_of}
use Rattle.memory.proofs.Laws.{Accepts, accepted-whole, control-stored, control-cleared}
use Rattle.due.specs.Due.{What, after_command}
use Rattle.due.proofs.Consuming.{after-keeps}
use Rattle.runs.specs.declared.RunRefusal.{RunRefusal}
use Rattle.runs.specs.declared.RunRefusal.TheVariants.{BadQueue}
use Rattle.std.specs.Prelude.{Result}
use Rattle.runs.specs.declared.Ran.{Ran}
use Rattle.runs.specs.Running.{stores, due_in, run}
use Rattle.runs.specs.Call.{queue_good, refused, done, call}
use Rattle.runs.proofs.Calling.{goes_through, Answered, no, yes, answered}
use Rattle.promises.specs.Cuts.{again, AllCut, none as All-none, one as all_one}
use Rattle.promises.specs.Calls.{calls, EndsCut, CallsCut, none, one, CarriedOut}
use Rattle.promises.proofs.Cases.{Case, removes, consumes, raises, is_due}
use Rattle.promises.proofs.Sums.{run-keeps}
use Rattle.promises.proofs.Accepted.{store-accepted, run-accepted}
use Rattle.promises.proofs.Resume.{as-uncut}

module _ (f : Features) (queue : List ℕ) where
  -- a run keeps LOG2SIZE
  record Sized (n size : ℕ) (m : Memory) : Type 0 where
    image : Accepts m n
    same : control.log2size (control_of m) ≡ size

  module _ (n size : ℕ) where
    size-kept : (m m' : Memory) (w : What) → Sized n size m → Case f queue m w m' → control.log2size (control_of m') ≡ size
    size-kept m m' w s (removes c i legal low what stored) = rw (stored, control-cleared m i) s.same
    size-kept m m' w s (consumes c legal nothing what stored) =
        let v = after_command (Legal c) (control_of m) in
        rw (stored, control-stored m (accepted-whole m n s.image) v) (after-keeps (Legal c) (control_of m) control.log2size_bits tt ∙ s.same)
    size-kept m m' w s (raises why illegal what stored) =
        let v = control-stores.raised (control_of m) in
        rw (stored, control-stored m (accepted-whole m n s.image) v) (raised_keeps (control_of m) control.log2size_bits tt ∙ s.same)

    each_keeps : (m m' : Memory) (w : What) → Sized n size m → due_in f queue m ≡ stores w m' → Sized n size m'
    each_keeps m m' w s e =
        record { image = store-accepted f queue n m m' w s.image e; same = size-kept m m' w s (is_due f queue m w m' e).kind }

  pub keeps-size : (n k : ℕ) (m : Memory) → Accepts m n → control.log2size (control_of (run f queue k m).memory) ≡ control.log2size (control_of m)
  keeps-size n k m a =
      (run-keeps (due_in f queue) (Sized n (control.log2size (control_of m))) (each_keeps n (control.log2size (control_of m))) k m (record { image = a; same = refl })).same

  -- so the queue's length stays right, and refusal 4 cannot come
  still-good : (n k : ℕ) (m : Memory) → Accepts m n → queue_good queue m ≡ true → queue_good queue (run f queue k m).memory ≡ true
  still-good n k m a q = ap (λ (s : ℕ). eqb (length queue) (16 * 2 ^ s)) (keeps-size n k m a) ∙ q

  -- a call is refused whatever its allowance is, or is a run
  data Goes (m : Memory) : Type 0 where
    stops : (why : RunRefusal) → ((k : ℕ) → call f queue k m ≡ refused why m) → Goes m
    carried : (n : ℕ) → Accepts m n → queue_good queue m ≡ true → Goes m

  carries : (n k : ℕ) (m : Memory) → Accepts m n → queue_good queue m ≡ true → call f queue k m ≡ done (run f queue k m)
  carries n k m a q = goes_through f queue k m n a ∙ rw q

  which-way : (m : Memory) → Goes m
  which-way m = by_answer (answered f queue m)
    where
      by_queue : (n : ℕ) → Accepts m n → (b : Bool) → queue_good queue m ≡ b → Goes m
      by_queue n a true q = carried n a q
      by_queue n a false q = stops BadQueue (λ k. goes_through f queue k m n a ∙ rw q)

      by_answer : Answered f queue m → Goes m
      by_answer (no why e) = stops why e
      by_answer (yes n a) = by_queue n a (queue_good queue m) refl

  module _ (n : ℕ) where
    -- calls one after the other are runs one after the other
    calls_are : (ks : List ℕ) (k : ℕ) (m : Memory) → Accepts m n → queue_good queue m ≡ true → calls f queue ks k m ≡ done (again (due_in f queue) ks k m)
    unfolding calls again
    calls_are [] k m a q = carries n k m a q
    calls_are (b ∷ ks) k m a q =
        rw (carries n b m a q, calls_are ks k (run f queue b m).memory (run-accepted f queue n b m a) (still-good n b m a q))

    cut-runs : (ks : List ℕ) (m : Memory) → Accepts m n → queue_good queue m ≡ true → CallsCut f queue ks m → AllCut (due_in f queue) ks m
    cut-runs [] m a q none = All-none
    cut-runs (b ∷ ks) m a q (one cut c) =
        let is = carries n b m a q in
        all_one (rw is at cut) (cut-runs ks (run f queue b m).memory (run-accepted f queue n b m a) (still-good n b m a q) (rw is at c))

  -- once a call was carried out, none after it is refused: of calls one after the other, a refusal would be the answer of all
  pub never-refused : (a k : ℕ) (ks : List ℕ) (m : Memory) → CarriedOut (call f queue a m).answer → CarriedOut (calls f queue ks k (call f queue a m).memory).answer
  never-refused a k ks m c = by_way (which-way m)
    where
      by_way : Goes m → CarriedOut (calls f queue ks k (call f queue a m).memory).answer
      by_way (stops why e) = let z : ◌≡◌ {A = ℕ} 0 1 = cc (ap (λ (o : Outcome Memory (Result Ran RunRefusal)). o.answer) (e a), c.is_done) in absurd (omega arith)
      by_way (carried n accepted q) =
          let m' = (run f queue a m).memory in
          rw (carries n a m accepted q)
          (record {
            ran = (again (due_in f queue) ks k m').ran;
            is_done = ap (λ (o : Outcome Memory (Result Ran RunRefusal)). o.answer) (calls_are n ks k m' (run-accepted f queue n a m accepted) (still-good n a m accepted q));
          })

  -- any number of cuts at any allowances, then a call that is not cut: answer and memory are those of a call that never was
  pub call_as_uncut : (ks : List ℕ) (k j : ℕ) (m : Memory) → CallsCut f queue ks m
      → (EndsCut (calls f queue ks k m).answer → ⊥) → (EndsCut (call f queue j m).answer → ⊥) → calls f queue ks k m ≡ call f queue j m
  unfolding calls
  call_as_uncut ks k j m cuts last uncut = by_way (which-way m)
    where
      by_way : Goes m → calls f queue ks k m ≡ call f queue j m
      by_way (stops why e) = by-cuts ks cuts
        where
          by-cuts : (l : List ℕ) → CallsCut f queue l m → calls f queue l k m ≡ call f queue j m
          by-cuts [] none = e k ∙ sym (e j)
          by-cuts (a ∷ l) (one cut c) = absurd (rw (e a) at cut)
      by_way (carried n a q) =
          let all = calls_are n ks k m a q in
          let one-call = carries n j m a q in
          all
          ∙ ap done (as-uncut (due_in f queue) ks k j m (cut-runs n ks m a q cuts) (λ c. last (rw all c)) (λ c. uncut (rw one-call c)))
          ∙ sym one-call
