-- Used rows and waiting commands: each store of a run takes one off, so a run whose allowance is their sum is never cut.
-- Assumes nothing.
use mathlib.Core.Path.{◌≡◌, refl}
use mathlib.Core.Bool.{Bool, true, false}
use mathlib.Core.List.{List}
use Prim.Native.Nat.{ℕ, zero, suc, ◌+◌, ◌≤◌, ◌<◌}
use native.Mathlib.Omega.{arith}
use Rattle.words.proofs.Truth.{clash}
use Rattle.control.specs.Control as control
use Rattle.control.proofs.Formed as control_formed
use Rattle.control.proofs.Openness.{open-waits}
use Rattle.control_stores.specs.Stores as control-stores
use Rattle.commands.specs.declared.Features.{Features}
use Rattle.commands.specs.declared.Decoded.TheVariants.{Legal, Illegal}
use Rattle.memory.specs.Memory.{Memory, control_of, used_rows}
use Rattle.memory.proofs.Laws.{Accepts, rows_are, accepted-whole, control_formed as word-formed, control-stored, control-cleared, used-stored, used-cleared}
use Rattle.due.specs.Due.{What, Remove, Consume, Raise, after_command}
use Rattle.due.proofs.Consuming.{after-distance}
use Rattle.runs.specs.declared.End.TheVariants.{Cut}
use Rattle.runs.specs.Running.{Next, rests, stores, last, next, run_by, due_in, run}
use Rattle.promises.specs.Sums.{removed_by}
use Rattle.promises.proofs.Cases.{Case, removes, consumes, raises, IsDue, is_due}
use Rattle.promises.proofs.Resume.{rest_uncut}
use Rattle.promises.proofs.Accepted.{store-accepted}

-- a number that each removal takes one off and every other store keeps
module _ {M : Type 0} (f : M → Next M) (P : M → Type 0) (keep : (m m' : M) (w : What) → P m → f m ≡ stores w m' → P m')
    (u : M → ℕ) (off : (m m' : M) (w : What) → P m → f m ≡ stores w m' → u m ≡ u m' + removed_by w) where
  sum-next : (k : ℕ) (m : M) (d : Next M) → f m ≡ d → P m → ((m' : M) → P m' → u m' ≡ u (run_by f k m').memory + (run_by f k m').ran.removed)
      → u m ≡ u (next (run_by f k) d m).memory + (next (run_by f k) d m).ran.removed
  sum-next k m (rests r) same p ih = omega arith
  sum-next k m (stores Remove m') same p ih = omega (arith, ih m' (keep m m' Remove p same), off m m' Remove p same)
  sum-next k m (stores (Consume y) m') same p ih = omega (arith, ih m' (keep m m' (Consume y) p same), off m m' (Consume y) p same)
  sum-next k m (stores (Raise told) m') same p ih = omega (arith, off m m' (Raise told) p same)

  sum-last : (m : M) (d : Next M) → u m ≡ u (last d m).memory + (last d m).ran.removed
  sum-last m (rests r) = omega arith
  sum-last m (stores w m') = omega arith

  pub removed-sum : (k : ℕ) (m : M) → P m → u m ≡ u (run_by f k m).memory + (run_by f k m).ran.removed
  unfolding run_by
  removed-sum zero m p = sum-last m (f m)
  removed-sum (suc k) m p = sum-next k m (f m) refl p (λ m' q. removed-sum k m' q)

-- whether a run goes on behind a store
abbrev pub goes_on : What → Bool
goes_on Remove = true
goes_on (Consume y) = true
goes_on (Raise told) = false

-- a number that each store takes at least one off, but the last
module _ {M : Type 0} (f : M → Next M) (P : M → Type 0) (keep : (m m' : M) (w : What) → P m → f m ≡ stores w m' → P m')
    (u : M → ℕ) (less : (m m' : M) (w : What) → P m → f m ≡ stores w m' → (0 < u m) × (goes_on w ≡ true → u m' < u m)) where
  uncut-next : (k : ℕ) (m : M) (d : Next M) → f m ≡ d → P m → u m ≤ suc k → ((m' : M) → P m' → u m' ≤ k → (run_by f k m').ran.end ≡ Cut → ⊥)
      → (next (run_by f k) d m).ran.end ≡ Cut → ⊥
  uncut-next k m (rests r) same p h ih cut = rest_uncut r cut
  uncut-next k m (stores Remove m') same p h ih cut = ih m' (keep m m' Remove p same) (omega (arith, (less m m' Remove p same).1 refl)) cut
  uncut-next k m (stores (Consume y) m') same p h ih cut = ih m' (keep m m' (Consume y) p same) (omega (arith, (less m m' (Consume y) p same).1 refl)) cut
  uncut-next k m (stores (Raise told) m') same p h ih cut = let z : ◌≡◌ {A = ℕ} 0 1 = cc in omega arith

  uncut-last : (m : M) (d : Next M) → f m ≡ d → P m → u m ≤ 0 → (last d m).ran.end ≡ Cut → ⊥
  uncut-last m (rests r) same p h cut = rest_uncut r cut
  uncut-last m (stores w m') same p h cut = omega (arith, (less m m' w p same).0)

  pub never-cut : (k : ℕ) (m : M) → P m → u m ≤ k → (run_by f k m).ran.end ≡ Cut → ⊥
  unfolding run_by
  never-cut zero m p h cut = uncut-last m (f m) refl p h cut
  never-cut (suc k) m p h cut = uncut-next k m (f m) refl p h (λ m' q l. never-cut k m' q l) cut

module _ (f : Features) (queue : List ℕ) (n : ℕ) where
  pub record Moves (m m' : Memory) (w : What) : Type 0 where
    pub used : used_rows m n ≡ used_rows m' n + removed_by w
    pub some : 0 < used_rows m n + control.distance (control_of m)
    pub fewer : goes_on w ≡ true → used_rows m' n + control.distance (control_of m') < used_rows m n + control.distance (control_of m)

  by_case : (m m' : Memory) (w : What) → Accepts m n → IsDue f queue m w m' → Case f queue m w m' → Moves m m' w
  by_case m m' w a d (removes c i legal low what stored) =
      let one = used-cleared m n f c i a (rw (rows_are m n a) at low.below) low.passes in
      rw (stored, what) (record { used = omega (arith, one); some = omega (arith, one); fewer = λ on. rw (control-cleared m i) (omega (arith, one)) })
  by_case m m' w a d (consumes c legal nothing what stored) =
      let formed = control_formed.formed (control_of m) (word-formed m n a) in
      let v = after_command (Legal c) (control_of m) in
      let same = used-stored m n v in
      let word = control-stored m (accepted-whole m n a) v in
      let less = after-distance (Legal c) (control_of m) formed (open-waits (control_of m) d.open_for_it) in
      rw (stored, what) (record { used = omega (arith, same); some = omega (arith, less); fewer = λ on. rw word (omega (arith, same, less)) })
  by_case m m' w a d (raises why illegal what stored) =
      let formed = control_formed.formed (control_of m) (word-formed m n a) in
      let same = used-stored m n (control-stores.raised (control_of m)) in
      let less = after-distance (Illegal why) (control_of m) formed (open-waits (control_of m) d.open_for_it) in
      rw (stored, what) (record { used = omega (arith, same); some = omega (arith, less); fewer = λ on. clash on refl })

  moves : (m m' : Memory) (w : What) → Accepts m n → due_in f queue m ≡ stores w m' → Moves m m' w
  moves m m' w a e = let d = is_due f queue m w m' e in by_case m m' w a d d.kind

  -- as many used rows fewer as were removed
  pub used-sum : (k : ℕ) (m : Memory) → Accepts m n → used_rows m n ≡ used_rows (run f queue k m).memory n + (run f queue k m).ran.removed
  used-sum k m a =
      removed-sum (due_in f queue) (λ x. Accepts x n) (store-accepted f queue n) (λ x. used_rows x n) (λ x x' w p e. (moves x x' w p e).used) k m a

  -- an allowance of used rows and waiting commands is never cut
  pub enough-allowance : (k : ℕ) (m : Memory) → Accepts m n → used_rows m n + control.distance (control_of m) ≤ k → (run f queue k m).ran.end ≡ Cut → ⊥
  enough-allowance k m a h =
      never-cut (due_in f queue) (λ x. Accepts x n) (store-accepted f queue n) (λ x. used_rows x n + control.distance (control_of x))
      (λ x x' w p e. ((moves x x' w p e).some, (moves x x' w p e).fewer)) k m a h
