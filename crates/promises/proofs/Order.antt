-- Demand 3: the stores of a run come in the same order whatever its allowance is, so that a power cut after k of them is a
-- call with allowance k.
-- Assumes nothing.
use mathlib.Core.Path.{◌≡◌, refl, sym, ap, ◌∙◌}
use mathlib.Core.List.{List, [], ◌∷◌}
use Prim.Native.Nat.{ℕ, zero, suc, ◌+◌, ◌≤◌}
use native.Mathlib.Nat.{suc-add}
use native.Mathlib.Omega.{arith}
use native.Mathlib.Numerals.{one-add}
use lib.ListN.{length, take, get_or, length-take}
use lib.Seq.{take-nil, get_or-take}
use Rattle.due.specs.Due.{Remove, Consume, Raise}
use Rattle.runs.specs.Running.{Next, rests, stores, last, next, run_by}
use Rattle.promises.specs.Order.{passed_next, passed}

module _ {M : Type 0} (f : M → Next M) where
  -- one for each store that is counted
  count_next : (k : ℕ) (m : M) (d : Next M) → ((m' : M) → length (passed f k m') ≡ (run_by f k m').ran.stores)
      → length (passed_next (passed f k) d) ≡ (next (run_by f k) d m).ran.stores
  count_next k m (rests r) ih = refl
  count_next k m (stores Remove m') ih = rw one-add (ap suc (ih m'))
  count_next k m (stores (Consume y) m') ih = rw one-add (ap suc (ih m'))
  count_next k m (stores (Raise told) m') ih = refl

  count-last : (m : M) (d : Next M) → 0 ≡ (last d m).ran.stores
  count-last m (rests r) = refl
  count-last m (stores w m') = refl

  pub as-many-as-stores : (k : ℕ) (m : M) → length (passed f k m) ≡ (run_by f k m).ran.stores
  unfolding run_by passed
  as-many-as-stores zero m = count-last m (f m)
  as-many-as-stores (suc k) m = count_next k m (f m) (λ m'. as-many-as-stores k m')

  -- with a larger allowance the first stores are the same, and more may follow
  order-next : (k j : ℕ) (d : Next M) → ((m' : M) → passed f k m' ≡ take k (passed f (k + j) m'))
      → passed_next (passed f k) d ≡ take (suc k) (passed_next (passed f (k + j)) d)
  order-next k j (rests r) ih = refl
  order-next k j (stores Remove m') ih = ap (λ (l : List M). m' ∷ l) (ih m')
  order-next k j (stores (Consume y) m') ih = ap (λ (l : List M). m' ∷ l) (ih m')
  order-next k j (stores (Raise told) m') ih = ap (λ (l : List M). m' ∷ l) (sym (take-nil k))

  pub same-order : (k j : ℕ) (m : M) → passed f k m ≡ take k (passed f (k + j) m)
  unfolding passed
  same-order zero j m = refl
  same-order (suc k) j m = rw (suc-add k j) (order-next k j (f m) (λ m'. same-order k j m'))

  -- the memory that a run leaves is the one after its last store
  left-next : (k : ℕ) (m m₀ : M) (d : Next M) → ((m' : M) → (run_by f k m').memory ≡ get_or (m' ∷ passed f k m') (run_by f k m').ran.stores m₀)
      → (next (run_by f k) d m).memory ≡ get_or (m ∷ passed_next (passed f k) d) (next (run_by f k) d m).ran.stores m₀
  left-next k m m₀ (rests r) ih = refl
  left-next k m m₀ (stores Remove m') ih = rw one-add (ih m')
  left-next k m m₀ (stores (Consume y) m') ih = rw one-add (ih m')
  left-next k m m₀ (stores (Raise told) m') ih = refl

  left-last : (m m₀ : M) (d : Next M) → (last d m).memory ≡ get_or (m ∷ []) (last d m).ran.stores m₀
  left-last m m₀ (rests r) = refl
  left-last m m₀ (stores w m') = refl

  pub left-after-last : (k : ℕ) (m m₀ : M) → (run_by f k m).memory ≡ get_or (m ∷ passed f k m) (run_by f k m).ran.stores m₀
  unfolding run_by passed
  left-after-last zero m m₀ = left-last m m₀ (f m)
  left-after-last (suc k) m m₀ = left-next k m m₀ (f m) (λ m'. left-after-last k m' m₀)

  -- power gone after the k-th store of a run of any larger allowance: memory is what a call with allowance k leaves
  pub power-cut : (k j : ℕ) (m m₀ : M) → k ≤ (run_by f (k + j) m).ran.stores → get_or (m ∷ passed f (k + j) m) k m₀ ≡ (run_by f k m).memory
  power-cut k j m m₀ h =
      let all = passed f (k + j) m in
      let room : k ≤ length all = rw (as-many-as-stores (k + j) m) h in
      let spent : (run_by f k m).ran.stores ≡ k = sym (as-many-as-stores k m) ∙ ap length (same-order k j m) ∙ rw length-take (omega arith) in
      sym
      (left-after-last k m m₀ ∙ ap (λ (l : List M). get_or (m ∷ l) (run_by f k m).ran.stores m₀) (same-order k j m)
      ∙ ap (λ (i : ℕ). get_or (take (suc k) (m ∷ all)) i m₀) spent ∙ get_or-take (suc k) (m ∷ all) k m₀ (omega arith))
