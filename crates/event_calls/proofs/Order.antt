-- The stores of a write, and what is reported of them.
-- Assumes nothing.
use mathlib.Core.Path.{◌≡◌, refl, sym}
use mathlib.Core.List.{List}
use Prim.Native.Nat.{ℕ, ◌+◌, ◌*◌, ◌≤◌, ◌<◌}
use native.Mathlib.Omega.{arith}
use lib.ListN.{length}
use borrow.Author.Tests.{lt-ltb, le-ltb}
use Rattle.stores.specs.declared.Store.{Store}
use Rattle.std.specs.Prelude.{min}
use Rattle.stores.specs.Stores.{after_stores}
use Rattle.stores.proofs.Laws.{each-place}
use Rattle.events.specs.declared.Record.{Record}
use Rattle.event_calls.specs.declared.WriteEnd.{WriteEnd}
use Rattle.event_calls.specs.declared.WriteEnd.TheVariants.{Cut}
use Rattle.event_calls.specs.Calls.{store_at, report, Stores}

-- where the store at a place goes, and what it stores whatever the slot is: a word of the record, and last the index word
module _ (slot : ℕ) (r : Record) (index : ℕ) where
  pub goes : (place : ℕ) → place < 4 → (store_at slot r index place).at ≡ 4 * slot + 1 + place
  unfolding store_at
  goes = each-place (λ k. (store_at slot r index k).at ≡ 4 * slot + 1 + k) (omega arith) (omega arith) (omega arith) (omega arith)

  pub holds : (place : ℕ) → place < 4 → (store_at slot r index place).value ≡ (store_at 0 r 0 place).value
  unfolding store_at
  holds = each-place (λ k. (store_at slot r index k).value ≡ (store_at 0 r 0 k).value) refl refl refl refl

-- what is reported, by the allowance
module _ (ss : List Store) (end : WriteEnd) (k : ℕ) where
  pub report-cut : k < length ss → report ss end k ≡ record { end = Cut; stores = k }
  unfolding report
  report-cut h = rw (lt-ltb k (length ss) h)

  pub report-all : length ss ≤ k → report ss end k ≡ record { end = end; stores = length ss }
  unfolding report
  report-all h = rw (le-ltb k (length ss) h)

  -- by how many were made
  module _ {m₀ m : List ℕ} {made : ℕ} (counted : made ≡ min k (length ss)) (left : m ≡ after_stores k ss m₀) where
    pub ends-cut : made < length ss → Stores ss end k m₀ m (record { end = Cut; stores = made })
    ends-cut h = let e : made ≡ k = omega (arith, counted) in record { reports = rw e (sym (report-cut (omega (arith, counted, h)))); leaves = left }

    pub ends-all : length ss ≤ made → Stores ss end k m₀ m (record { end = end; stores = made })
    ends-all h = let e : made ≡ length ss = omega (arith, counted) in record { reports = rw e (sym (report-all (omega (arith, counted, h)))); leaves = left }
