-- A record that is stored, at every allowance: the slot fills word by word unseen, and the index word shows it whole.
-- Assumes nothing.
use mathlib.Core.Path.{◌≡◌, refl, ap, ◌∙◌}
use mathlib.Core.Bool.{false}
use mathlib.Core.List.{List, [], ◌∷◌, ◌++◌}
use mathlib.Core.Logic.{◌⊎◌, inl, inr}
use Prim.Native.Nat.{ℕ, zero, suc, ◌+◌, ◌*◌, ◌≤◌, ◌<◌}
use native.Mathlib.Omega.{arith}
use lib.ListN.{length, get_or, set}
use lib.Seq.{get_or-set_same, get_or-set_other}
use Rattle.stores.specs.declared.Store.{Store}
use Rattle.stores.specs.Stores.{store_in, after_stores}
use Rattle.stores.proofs.Laws.{after-all, after_length, stores_keep, untouched}
use Rattle.words.proofs.Truth.{less_or_not}
use Rattle.events.specs.declared.Record.{Record}
use Rattle.events.specs.Word.{is_full, free}
use Rattle.events.specs.Stores.{written}
use Rattle.events.specs.Events.{index_of, record_at, waiting}
use Rattle.events.proofs.Formed.{Formed, free_lt}
use Rattle.events.proofs.Checks.{Accepts, has-slot}
use Rattle.events.proofs.Index.{written-formed}
use Rattle.events.proofs.Waiting.{InSlot, record_kept, cut-waiting, write-waiting}
use Rattle.event_calls.specs.Calls.{write_stores}

-- the memory after k of the stores into a slot, with the index word that comes last
module _ (slot : ℕ) (r : Record) (index : ℕ) where
  abbrev stores : List Store
  stores = write_stores slot r index

  abbrev after : ℕ → List ℕ → List ℕ
  after k m = after_stores k stores m

  -- none goes into another slot, and all but the last go to no index word
  elsewhere : (j : ℕ) → (j ≡ slot → ⊥) → (i : ℕ) → i < 5 → InSlot j (store_in stores i).at → ⊥
  elsewhere j d zero h q = d (omega (arith, q.from, q.to))
  elsewhere j d (suc zero) h q = d (omega (arith, q.from, q.to))
  elsewhere j d (suc (suc zero)) h q = d (omega (arith, q.from, q.to))
  elsewhere j d (suc (suc (suc zero))) h q = d (omega (arith, q.from, q.to))
  elsewhere j d (suc (suc (suc (suc zero)))) h q = omega (arith, q.from)
  elsewhere j d (suc (suc (suc (suc (suc i))))) h q = omega arith

  others-kept : (m : List ℕ) (k j : ℕ) → (j ≡ slot → ⊥) → record_at (after k m) j ≡ record_at m j
  others-kept m k j d = stores_keep (λ l. record_at l j ≡ record_at m j) stores (λ i h l e. record_kept l _ _ j (elsewhere j d i h) ∙ e) k m refl

  index-waits : (m : List ℕ) (k : ℕ) → k < 5 → index_of (after k m) ≡ index_of m
  index-waits m k h = untouched 0 stores k m (λ i l b. later i (omega arith))
    where
      later : (i : ℕ) → i < 4 → 0 ≡ (store_in stores i).at → ⊥
      later zero l e = omega arith
      later (suc zero) l e = omega arith
      later (suc (suc zero)) l e = omega arith
      later (suc (suc (suc zero))) l e = omega arith
      later (suc (suc (suc (suc i)))) l e = omega arith

  -- then the index word stands, and the slot holds the record
  index-last : (m : List ℕ) → 0 < length m → index_of (after 5 m) ≡ index
  unfolding after_stores
  index-last m h = get_or-set_same (after 4 m) 0 index 0 (omega (arith, after_length 4 stores m))

  holds-record : (m : List ℕ) → 4 * slot + 5 ≤ length m → record_at (after 5 m) slot ≡ r
  unfolding after_stores record_at
  holds-record m h =
      let other : (l : List ℕ) (d e v : ℕ) → (e ≡ d → ⊥) → get_or (set l (4 * slot + d) v) (4 * slot + e) 0 ≡ get_or l (4 * slot + e) 0 =
      λ l d e v ne. get_or-set_other l (4 * slot + d) (4 * slot + e) v 0 (omega (arith, ne)) in
      let past : (e : ℕ) → 1 ≤ e → get_or (set (after 4 m) 0 index) (4 * slot + e) 0 ≡ get_or (after 4 m) (4 * slot + e) 0 =
      λ e some. get_or-set_other (after 4 m) 0 (4 * slot + e) index 0 (omega arith) in
      let here : (k d v : ℕ) → d ≤ 4 → get_or (set (after k m) (4 * slot + d) v) (4 * slot + d) 0 ≡ v =
      λ k d v le. get_or-set_same (after k m) (4 * slot + d) v 0 (omega (arith, after_length k stores m)) in
      rw (
        past 1 (omega arith),
        other (after 3 m) 4 1 r.w3 (omega arith),
        other (after 2 m) 3 1 r.w2 (omega arith),
        other (after 1 m) 2 1 r.w1 (omega arith),
        here 0 1 r.w0 (omega arith),
        past 2 (omega arith),
        other (after 3 m) 4 2 r.w3 (omega arith),
        other (after 2 m) 3 2 r.w2 (omega arith),
        here 1 2 r.w1 (omega arith),
        past 3 (omega arith),
        other (after 3 m) 4 3 r.w3 (omega arith),
        here 2 3 r.w2 (omega arith),
        past 4 (omega arith),
        here 3 4 r.w3 (omega arith),
      )

-- into the free slot of a recorder that is not full
module _ (m : List ℕ) (n : ℕ) (r : Record) (a : Accepts m n) (room : is_full (index_of m) ≡ false) where
  abbrev w : ℕ
  w = index_of m

  abbrev pub stored : ℕ → List ℕ
  stored k = after_stores k (write_stores (free w) r (written w)) m

  whole : (k : ℕ) → 5 ≤ k → stored k ≡ stored 5
  whole k h = after-all k (write_stores (free w) r (written w)) m h

  has-free : 4 * free w + 5 ≤ length m
  has-free = has-slot m n (free w) a.size (free_lt n w a.index)

  -- with fewer than five stores the records that wait are those before; with five or more the new one waits behind them, whole
  pub stored_cut : (k : ℕ) → k < 5 → waiting (stored k) ≡ waiting m
  stored_cut k h = cut-waiting m n a (stored k) room (others-kept (free w) r (written w) m k) (index-waits (free w) r (written w) m k h)

  pub stored-whole : (k : ℕ) → 5 ≤ k → waiting (stored k) ≡ waiting m ++ (r ∷ [])
  stored-whole k h =
      rw (whole k h)
      (write-waiting m n a (stored 5) room (others-kept (free w) r (written w) m 5) (index-last (free w) r (written w) m (omega (arith, has-free)))
      ∙ ap (λ (x : Record). waiting m ++ (x ∷ [])) (holds-record (free w) r (written w) m has-free))

  -- the index word is the old one, or the one with WR moved on
  pub stored-index : (k : ℕ) → (index_of (stored k) ≡ w) ⊎ (index_of (stored k) ≡ written w)
  stored-index k = by_allowance (less_or_not k 5)
    where
      by_allowance : (k < 5) ⊎ (5 ≤ k) → (index_of (stored k) ≡ w) ⊎ (index_of (stored k) ≡ written w)
      by_allowance (inl h) = inl (index-waits (free w) r (written w) m k h)
      by_allowance (inr h) = inr (rw (whole k h) (index-last (free w) r (written w) m (omega (arith, has-free))))

  -- so it stays accepted
  pub stored-accepted : (k : ℕ) → Accepts (stored k) n
  stored-accepted k =
      record {
        size = record { words = after_length k (write_stores (free w) r (written w)) m ∙ a.size.words; few = a.size.few };
        index = index_case (stored-index k);
      }
    where
      index_case : (index_of (stored k) ≡ w) ⊎ (index_of (stored k) ≡ written w) → Formed n (index_of (stored k))
      index_case (inl e) = rw e a.index
      index_case (inr e) = rw e (written-formed n w a.size.few a.index room)

  -- cut, the index word is untouched, so that the same stores are due again
  pub stored-index-cut : (k : ℕ) → k < 5 → index_of (stored k) ≡ w
  stored-index-cut k h = index-waits (free w) r (written w) m k h
