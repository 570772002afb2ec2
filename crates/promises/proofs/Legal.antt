-- Document 01, One run: where every command that waits is legal, a run with allowance enough consumes them all and ends Empty.
-- Assumes nothing.
use mathlib.Core.Path.{◌≡◌, refl, sym, ap, ◌∙◌}
use mathlib.Core.Bool.{true}
use mathlib.Core.List.{List}
use Prim.Native.Nat.{ℕ, zero, suc, ◌+◌, ◌%◌, ◌≤◌, ◌<◌}
use native.Mathlib.Nat.{mod-eq_of_lt, add-mod-mod}
use native.Mathlib.Omega.{arith}
use Rattle.words.proofs.Truth.{clash}
use Rattle.indexes.specs.Indexes as indexes
use Rattle.indexes.proofs.Laws as indexed
use Rattle.control.specs.Control as control
use Rattle.control.proofs.Formed as control_formed
use Rattle.control.proofs.Openness.{open-waits}
use Rattle.control_stores.specs.Stores as control-stores
use Rattle.control_stores.proofs.AfterStores.{raised_keeps, same-active}
use Rattle.commands.specs.declared.Features.{Features}
use Rattle.commands.specs.declared.Decoded.{Decoded}
use Rattle.commands.specs.declared.Decoded.TheVariants.{Legal}
use Rattle.commands.specs.Decoding.{decode_at, is_illegal}
use Rattle.memory.specs.Memory.{Memory, control_of, used_rows}
use Rattle.memory.proofs.Laws.{Accepts, accepted-whole, control_formed as word-formed, control-stored, control-cleared}
use Rattle.due.specs.declared.Raising.{Raising}
use Rattle.due.specs.Due.{What, Remove, Consume, Raise, after_command, at_rd}
use Rattle.due.proofs.Consuming.{after-keeps, after-rd, after-formed, after-distance}
use Rattle.runs.specs.declared.End.{End}
use Rattle.runs.specs.declared.End.TheVariants.{Off, Held, Empty, Raised, Cut}
use Rattle.runs.specs.Running.{Next, rests, stores, last, next, run_by, due_in, run}
use Rattle.promises.specs.Found.{advanced, command_at}
pub use Rattle.promises.specs.Legal.{AllLegal}
use Rattle.promises.specs.Ends.{IsOff, IsHeld, IsEmpty, Means}
use Rattle.promises.proofs.Cases.{Case, removes, consumes, raises, IsDue, is_due}
use Rattle.promises.proofs.Accepted.{store-accepted}
use Rattle.promises.proofs.Sums.{run-keeps}
use Rattle.promises.proofs.Potential.{enough-allowance}
use Rattle.promises.proofs.RunCalls.{raised_by}
use Rattle.promises.proofs.Ends.{ends}

-- how many commands a store consumes
abbrev consumed_by : What → ℕ
consumed_by Remove = 0
consumed_by (Consume y) = 1
consumed_by (Raise told) = 0

-- a number that each command consumed takes one off and every other store keeps
module _ {M : Type 0} (f : M → Next M) (P : M → Type 0) (keep : (m m' : M) (w : What) → P m → f m ≡ stores w m' → P m')
    (u : M → ℕ) (off : (m m' : M) (w : What) → P m → f m ≡ stores w m' → u m ≡ u m' + consumed_by w) where
  sum-next : (k : ℕ) (m : M) (d : Next M) → f m ≡ d → P m → ((m' : M) → P m' → u m' ≡ u (run_by f k m').memory + (run_by f k m').ran.consumed)
      → u m ≡ u (next (run_by f k) d m).memory + (next (run_by f k) d m).ran.consumed
  sum-next k m (rests r) same p ih = omega arith
  sum-next k m (stores Remove m') same p ih = omega (arith, ih m' (keep m m' Remove p same), off m m' Remove p same)
  sum-next k m (stores (Consume y) m') same p ih = omega (arith, ih m' (keep m m' (Consume y) p same), off m m' (Consume y) p same)
  sum-next k m (stores (Raise told) m') same p ih = omega (arith, off m m' (Raise told) p same)

  sum-last : (m : M) (d : Next M) → u m ≡ u (last d m).memory + (last d m).ran.consumed
  sum-last m (rests r) = omega arith
  sum-last m (stores w m') = omega arith

  consumed-sum : (k : ℕ) (m : M) → P m → u m ≡ u (run_by f k m).memory + (run_by f k m).ran.consumed
  unfolding run_by
  consumed-sum zero m p = sum-last m (f m)
  consumed-sum (suc k) m p = sum-next k m (f m) refl p (λ m' q. consumed-sum k m' q)

module _ (f : Features) (queue : List ℕ) (n : ℕ) where
  raised-distance : (w : ℕ) → control.distance (control-stores.raised w) ≡ control.distance w
  unfolding control.distance
  raised-distance w = rw (raised_keeps w control.log2size_bits tt, raised_keeps w control.rd_bits tt, raised_keeps w control.wr_bits tt)

  one-off : (m m' : Memory) (w : What) → Accepts m n → IsDue f queue m w m' → Case f queue m w m'
      → control.distance (control_of m) ≡ control.distance (control_of m') + consumed_by w
  one-off m m' w a d (removes c i legal low what stored) = rw (what, stored, control-cleared m i) (omega arith)
  one-off m m' w a d (consumes c legal nothing what stored) =
      let formed = control_formed.formed (control_of m) (word-formed m n a) in
      let less = after-distance (Legal c) (control_of m) formed (open-waits (control_of m) d.open_for_it) in
      rw (what, stored, control-stored m (accepted-whole m n a) (after_command (Legal c) (control_of m))) (omega (arith, less))
  one-off m m' w a d (raises why illegal what stored) =
      rw (what, stored, control-stored m (accepted-whole m n a) (control-stores.raised (control_of m))) (omega (arith, raised-distance (control_of m)))

  -- as many wait no more as were consumed, at every allowance
  pub waiting-sum : (k : ℕ) (m : Memory) → Accepts m n
      → control.distance (control_of m) ≡ control.distance (control_of (run f queue k m).memory) + (run f queue k m).ran.consumed
  waiting-sum k m a =
      consumed-sum (due_in f queue) (λ x. Accepts x n) (store-accepted f queue n) (λ x. control.distance (control_of x))
      (λ x x' w p e. let d = is_due f queue x w x' e in one-off x x' w p d d.kind) k m a

-- where RD is the index of WR, none waits
none-waits : (w : ℕ) → control.rd w ≡ control.wr w → control.distance w ≡ 0
unfolding control.distance
none-waits w e = rw e (indexed.distance_self (control.log2size w) (control.wr w))

-- the t-th command that waits is t slots on from RD
module _ (f : Features) (queue : List ℕ) where
  waiting-rd : (t w : ℕ) → control_formed.Formed w → t ≤ control.distance w
      → (control.log2size (advanced f queue t w) ≡ control.log2size w)
      × (control.rd (advanced f queue t w) ≡ (t + control.rd w) % indexes.turn (control.log2size w))
  unfolding advanced indexes.next
  waiting-rd zero w formed h =
      (refl, sym (ap (λ (i : ℕ). i % indexes.turn (control.log2size w)) (let e : 0 + control.rd w ≡ control.rd w = omega arith in e) ∙ mod-eq_of_lt formed.waiting.rd_in))
  waiting-rd (suc t) w formed h =
      let d = decode_at f queue (control.slot w) in
      let some : control.rd w ≡ control.wr w → ⊥ = λ e. omega (arith, none-waits w e) in
      let size = after-keeps d w control.log2size_bits tt in
      let T = indexes.turn (control.log2size w) in
      let rest = waiting-rd t (after_command d w) (after-formed d w formed some) (omega (arith, after-distance d w formed some)) in (
        rest.0 ∙ size,
        rest.1 ∙ ap (λ (k : ℕ). (t + control.rd (after_command d w)) % indexes.turn k) size
            ∙ ap (λ (i : ℕ). (t + i) % T) (after-rd d w formed) ∙ add-mod-mod t (control.rd w + 1) T
            ∙ ap (λ (i : ℕ). i % T) (let e : t + (control.rd w + 1) ≡ suc t + control.rd w = omega arith in e),
      )

  pub waiting-at : (t w : ℕ) → control.well_formed w ≡ true → t < control.distance w
      → command_at f queue w t ≡ decode_at f queue (indexes.slot (control.log2size w) ((t + control.rd w) % indexes.turn (control.log2size w)))
  unfolding control.slot
  waiting-at t w formed h = let a = waiting-rd t w (control_formed.formed w formed) (omega arith) in rw (a.0, a.1)

module _ (f : Features) (queue : List ℕ) (n : ℕ) where
  record Ready (m : Memory) : Type 0 where
    image : Accepts m n
    all : AllLegal f queue (control_of m)

  one-waits : (m : Memory) {w : What} {m' : Memory} → Accepts m n → IsDue f queue m w m' → 0 < control.distance (control_of m)
  one-waits m a d =
      omega (arith, after-distance (at_rd f queue m) (control_of m) (control_formed.formed (control_of m) (word-formed m n a)) (open-waits (control_of m) d.open_for_it))

  stays : (m m' : Memory) (w : What) → Ready m → IsDue f queue m w m' → Case f queue m w m' → AllLegal f queue (control_of m')
  unfolding advanced
  stays m m' w p d (removes c i legal low what stored) = rw (stored, control-cleared m i) p.all
  stays m m' w p d (consumes c legal nothing what stored) =
      let x = control_of m in
      let v = after_command (Legal c) x in
      let less = after-distance (Legal c) x (control_formed.formed x (word-formed m n p.image)) (open-waits x d.open_for_it) in
      let same = same-active x v (after-keeps (Legal c) x control.gerror_bits tt) (after-keeps (Legal c) x control.gerrorn_bits tt) in
      rw (stored, control-stored m (accepted-whole m n p.image) v)
      (record {
        enabled = λ z. p.all.enabled (sym (after-keeps (Legal c) x control.cmdqen_bits tt) ∙ z);
        quiet = same ∙ p.all.quiet;
        legal = λ t h. ap (λ (e : Decoded). is_illegal (command_at f queue (after_command e x) t)) (sym legal) ∙ p.all.legal (suc t) (omega (arith, less));
      })
  stays m m' w p d (raises why illegal what stored) =
      clash (ap is_illegal illegal) (p.all.legal 0 (one-waits m p.image d))

  each_keeps : (m m' : Memory) (w : What) → Ready m → due_in f queue m ≡ stores w m' → Ready m'
  each_keeps m m' w p e =
      let d = is_due f queue m w m' e in
      record { image = store-accepted f queue n m m' w p.image e; all = stays m m' w p d d.kind }

  never-raises : (m m' : Memory) (told : Raising) → Ready m → due_in f queue m ≡ stores (Raise told) m' → ⊥
  unfolding advanced
  never-raises m m' told p e = by_case (is_due f queue m (Raise told) m' e) (is_due f queue m (Raise told) m' e).kind
    where
      by_case : IsDue f queue m (Raise told) m' → Case f queue m (Raise told) m' → ⊥
      by_case d (removes c i legal low what stored) = let z : ◌≡◌ {A = ℕ} 0 1 = cc in omega arith
      by_case d (consumes c legal nothing what stored) = let z : ◌≡◌ {A = ℕ} 0 1 = cc in omega arith
      by_case d (raises why illegal what stored) = clash (ap is_illegal illegal) (p.all.legal 0 (one-waits m p.image d))

  pub runs-empty : (k : ℕ) (m : Memory) → Accepts m n → AllLegal f queue (control_of m) → used_rows m n + control.distance (control_of m) ≤ k
      → ((run f queue k m).ran.end ≡ Empty) × ((run f queue k m).ran.consumed ≡ control.distance (control_of m))
  runs-empty k m a all h = by_end (run f queue k m).ran.end refl (ends f queue n k m a)
    where
      ready : Ready m
      ready = record { image = a; all = all }

      left : Ready (run f queue k m).memory
      left = run-keeps (due_in f queue) Ready each_keeps k m ready

      by_end : (e : End) → (run f queue k m).ran.end ≡ e → Means f queue k (run f queue k m).ran.end (run f queue k m)
          → ((run f queue k m).ran.end ≡ Empty) × ((run f queue k m).ran.consumed ≡ control.distance (control_of m))
      by_end Off e means = let o : IsOff (control_of (run f queue k m).memory) = rw e at means in absurd (left.all.enabled o.disabled)
      by_end Held e means = let o : IsHeld (control_of (run f queue k m).memory) = rw e at means in clash o.in_error left.all.quiet
      by_end Empty e means =
          let o : IsEmpty (control_of (run f queue k m).memory) = rw e at means in
          (e, omega (arith, waiting-sum f queue n k m a, none-waits (control_of (run f queue k m).memory) o.none-waits))
      by_end (Raised told) e means =
          let r = raised_by (due_in f queue) Ready each_keeps told k m ready e in
          absurd (never-raises r.before (run f queue k m).memory told r.held-before r.was_due)
      by_end Cut e means = absurd (enough-allowance f queue n k m a h e)
