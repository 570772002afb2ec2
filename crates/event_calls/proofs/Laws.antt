-- What a write, a read and an acknowledge leave of the records and of the overflow, whatever is answered and wherever the power goes.
-- Assumes nothing.
use mathlib.Core.Path.{◌≡◌, refl, ap, ◌∙◌}
use mathlib.Core.Bool.{Bool, true, false}
use mathlib.Core.List.{List}
use mathlib.Core.Logic.{◌⊎◌, inl, inr, ⊎_elim}
use Prim.Native.Nat.{ℕ, ◌≤◌, ◌<◌}
use native.Mathlib.Omega.{arith}
use lib.ListN.{set, length-set}
use Rattle.words.specs.Outcomes.{Outcome, with}
use Rattle.stores.specs.declared.Store.{Store}
use Rattle.stores.specs.Stores.{after_stores}
use Rattle.words.proofs.Truth.{less_or_not}
use Rattle.events.specs.declared.Record.{Record}
use Rattle.events.specs.declared.Refusal.{Refusal}
use Rattle.std.specs.Prelude.{Err, Ok, Result}
use Rattle.events.specs.Word.{rd_bits, wr_bits, outstanding, is_full, free}
use Rattle.events.specs.Stores.{written, flipped}
use Rattle.events.specs.Events.{index_of, record_of, waiting, check}
use Rattle.events.proofs.Formed.{Formed}
use Rattle.events.proofs.Checks.{Accepts, accepts, says}
use Rattle.events.proofs.Index.{written-outstanding, flipped-keeps, flipped-outstanding, flipped-formed}
use Rattle.events.proofs.Waiting.{stored-word, flag-waiting}
use Rattle.event_calls.specs.declared.WriteEnd.{WriteEnd}
use Rattle.event_calls.specs.declared.WriteEnd.TheVariants.{Stored, Dropped, Cut}
use Rattle.event_calls.specs.declared.Writing.{Writing}
use Rattle.event_calls.specs.Calls.{write_stores, drop_stores, Stores, write}
use Rattle.event_calls.specs.Told.{queue_by_write, overflow_by_write}
use Rattle.event_calls.proofs.Order.{report-cut, report-all}
use Rattle.event_calls.proofs.Cases.{drops-quietly, drops-cut, drops-flipped, write-refused, write-drops, write-stores}
use Rattle.event_calls.proofs.Written.{stored_cut, stored-whole, stored-index, stored-accepted}

-- a recorder whose index word is stored anew
pub index-stored : (m : List ℕ) (n v : ℕ) → Accepts m n → Formed n v → Accepts (set m 0 v) n
index-stored m n v a f =
    record { size = record { words = length-set m 0 v ∙ a.size.words; few = a.size.few }; index = rw (stored-word m n a v) f }

-- a write that ended so after so many stores, and left the memory m'
abbrev ended : WriteEnd → ℕ → List ℕ → Outcome (List ℕ) (Result Writing Refusal)
ended end k m' = with (Ok (record { end = end; stores = k })) m'

-- All that a write under an allowance of k can be. Refused. On a full ring, by the overflow flag: dropped with it, or with the
-- store that flips it, or cut before that. Else the five stores, of which a cut makes the first k.
pub data Wrote (m bytes : List ℕ) (k : ℕ) : Type 0 where
  refuses : (why : Refusal) → write m bytes k ≡ with (Err why) m → Wrote m bytes k
  drops : (n : ℕ) → Accepts m n → is_full (index_of m) ≡ true → outstanding (index_of m) ≡ true → write m bytes k ≡ ended Dropped 0 m → Wrote m bytes k
  flips : (n : ℕ) → Accepts m n → is_full (index_of m) ≡ true → outstanding (index_of m) ≡ false → (k ≡ 0 → ⊥)
      → write m bytes k ≡ ended Dropped 1 (set m 0 (flipped (index_of m))) → Wrote m bytes k
  flips_not : (n : ℕ) → Accepts m n → is_full (index_of m) ≡ true → outstanding (index_of m) ≡ false → k ≡ 0 → write m bytes k ≡ ended Cut 0 m → Wrote m bytes k
  stores : (n : ℕ) → Accepts m n → is_full (index_of m) ≡ false → 5 ≤ k
      → write m bytes k ≡ ended Stored 5 (after_stores k (write_stores (free (index_of m)) (record_of bytes) (written (index_of m))) m) → Wrote m bytes k
  stores-part : (n : ℕ) → Accepts m n → is_full (index_of m) ≡ false → k < 5
      → write m bytes k ≡ ended Cut k (after_stores k (write_stores (free (index_of m)) (record_of bytes) (written (index_of m))) m) → Wrote m bytes k

module _ (m bytes : List ℕ) (k : ℕ) where
  abbrev w : ℕ
  w = index_of m

  abbrev r : Record
  r = record_of bytes

  -- the stores that are due when the ring is not full
  abbrev due : List Store
  due = write_stores (free w) r (written w)

  module _ (n : ℕ) (a : Accepts m n) where
    by_drop : is_full w ≡ true → {m' : List ℕ} {d : Writing} → Stores (drop_stores w) Dropped k m m' d → write m bytes k ≡ with (Ok d) m'
    by_drop full s = write-drops m bytes k n (accepts m n a) full ∙ rw (s.reports, s.leaves)

    -- full: dropped
    pub full_told : is_full w ≡ true → outstanding w ≡ true → write m bytes k ≡ ended Dropped 0 m
    full_told full t = by_drop full (drops-quietly m k t)

    pub full_tells : is_full w ≡ true → outstanding w ≡ false → (k ≡ 0 → ⊥) → write m bytes k ≡ ended Dropped 1 (set m 0 (flipped w))
    full_tells full t z = by_drop full (drops-flipped m k t z)

    pub full_cut : is_full w ≡ true → outstanding w ≡ false → k ≡ 0 → write m bytes k ≡ ended Cut 0 m
    full_cut full t z = by_drop full (drops-cut m k t z)

    -- not full: stored
    pub room_whole : is_full w ≡ false → 5 ≤ k → write m bytes k ≡ ended Stored 5 (after_stores k due m)
    room_whole room h = write-stores m bytes k n (accepts m n a) room ∙ rw (report-all due Stored k h)

    pub room-part : is_full w ≡ false → k < 5 → write m bytes k ≡ ended Cut k (after_stores k due m)
    room-part room h = write-stores m bytes k n (accepts m n a) room ∙ rw (report-cut due Stored k h)

  pub wrote : Wrote m bytes k
  wrote = by_check (check m) refl
    where
      by_flag : (n : ℕ) → Accepts m n → is_full w ≡ true → (t : Bool) → outstanding w ≡ t → Wrote m bytes k
      by_flag n a full true t = drops n a full t (full_told n a full t)
      by_flag n a full false t =
          ⊎_elim (λ h. let z : k ≡ 0 = omega arith in flips_not n a full t z (full_cut n a full t z))
          (λ h. let z : (k ≡ 0 → ⊥) = omega arith in flips n a full t z (full_tells n a full t z)) (less_or_not k 1)

      by_room : (n : ℕ) → Accepts m n → (t : Bool) → is_full w ≡ t → Wrote m bytes k
      by_room n a true t = by_flag n a t (outstanding w) refl
      by_room n a false t = ⊎_elim (λ h. stores-part n a t h (room-part n a t h)) (λ h. stores n a t h (room_whole n a t h)) (less_or_not k 5)

      by_check : (c : Result ℕ Refusal) → check m ≡ c → Wrote m bytes k
      by_check (Err why) e = refuses why (write-refused m bytes k why e)
      by_check (Ok n) e = by_room n ((says m).accepted n e) (is_full w) refl

  -- the records that wait after it are those that its answer tells: those before, and behind them the new one exactly if it ended Stored
  pub write-queue : waiting (write m bytes k).memory ≡ queue_by_write r (write m bytes k).answer (waiting m)
  write-queue = by_case wrote
    where
      by_case : Wrote m bytes k → waiting (write m bytes k).memory ≡ queue_by_write r (write m bytes k).answer (waiting m)
      by_case (refuses why e) = rw e
      by_case (drops n a full t e) = rw e
      by_case (flips n a full t z e) =
          rw e (flag-waiting m n a (flipped w) (flipped-formed n w a.size.few a.index) (flipped-keeps w rd_bits tt) (flipped-keeps w wr_bits tt))
      by_case (flips_not n a full t z e) = rw e
      by_case (stores n a room h e) = rw e (stored-whole m n r a room k h)
      by_case (stores-part n a room h e) = rw e (stored_cut m n r a room k h)

  -- so is the overflow: outstanding after a drop, and else as it was
  pub write-overflow : outstanding (index_of (write m bytes k).memory) ≡ overflow_by_write (write m bytes k).answer (outstanding w)
  write-overflow = by_case wrote
    where
      index_case : (v : ℕ) → (v ≡ w) ⊎ (v ≡ written w) → outstanding v ≡ outstanding w
      index_case v (inl e) = ap outstanding e
      index_case v (inr e) = ap outstanding e ∙ written-outstanding w

      by_case : Wrote m bytes k → outstanding (index_of (write m bytes k).memory) ≡ overflow_by_write (write m bytes k).answer (outstanding w)
      by_case (refuses why e) = rw e
      by_case (drops n a full t e) = rw e t
      by_case (flips n a full t z e) = rw (e, stored-word m n a (flipped w)) (flipped-outstanding w t)
      by_case (flips_not n a full t z e) = rw e
      by_case (stores n a room h e) = rw e (index_case _ (stored-index m n r a room k))
      by_case (stores-part n a room h e) = rw e (index_case _ (stored-index m n r a room k))

  -- an accepted recorder stays accepted
  pub write-accepted : (n : ℕ) → Accepts m n → Accepts (write m bytes k).memory n
  write-accepted n b = by_case wrote
    where
      same : (n' : ℕ) → Accepts m n' → Accepts (write m bytes k).memory n' → Accepts (write m bytes k).memory n
      same n' a' c = let s : n' ≡ n = cc (accepts m n b, accepts m n' a') in rw (← s) c

      by_case : Wrote m bytes k → Accepts (write m bytes k).memory n
      by_case (refuses why e) = rw e b
      by_case (drops n' a full t e) = rw e b
      by_case (flips n' a full t z e) = same n' a (rw e (index-stored m n' (flipped w) a (flipped-formed n' w a.size.few a.index)))
      by_case (flips_not n' a full t z e) = rw e b
      by_case (stores n' a room h e) = same n' a (rw e (stored-accepted m n' r a room k))
      by_case (stores-part n' a room h e) = same n' a (rw e (stored-accepted m n' r a room k))

  -- a refusal stores nothing
  pub write-refused_leaves : (why : Refusal) → (write m bytes k).answer ≡ Err why → (write m bytes k).memory ≡ m
  write-refused_leaves why q = by_case wrote
    where
      carried : {d : Writing} {m' : List ℕ} → write m bytes k ≡ with (Ok d) m' → (write m bytes k).memory ≡ m
      carried e = let z : ◌≡◌ {A = ℕ} 0 1 = cc (ap (λ (o : Outcome (List ℕ) (Result Writing Refusal)). o.answer) e) in absurd (omega arith)

      by_case : Wrote m bytes k → (write m bytes k).memory ≡ m
      by_case (refuses why' e) = rw e
      by_case (drops n a full t e) = carried e
      by_case (flips n a full t z e) = carried e
      by_case (flips_not n a full t z e) = carried e
      by_case (stores n a room h e) = carried e
      by_case (stores-part n a room h e) = carried e
