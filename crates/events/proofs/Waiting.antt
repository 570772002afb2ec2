-- The records that wait: what a store leaves of them, and how they grow at the end and shrink at the front.
-- Assumes nothing.
use mathlib.Core.Path.{◌≡◌, refl, sym, ap, ap₂, ◌∙◌}
use mathlib.Core.Bool.{false}
use mathlib.Core.List.{List, [], ◌∷◌, ◌++◌}
use Prim.Native.Nat.{ℕ, zero, suc, ◌+◌, ◌*◌, ◌≤◌, ◌<◌}
use native.Mathlib.Omega.{arith}
use lib.ListN.{get_or, set}
use lib.Seq.{get_or-set_same, get_or-set_other}
use Rattle.indexes.specs.Indexes.{slots, turn, distance, slot, next}
use Rattle.indexes.proofs.Laws.{slot_apart, distance_next, distance-more, none-waits, next-lt}
use Rattle.events.specs.declared.Record.{Record}
use Rattle.events.specs.Word as word
use Rattle.events.specs.Stores.{written, read_out}
use Rattle.events.specs.Events.{max_log2, index_of, record_at, records_from, waiting}
use Rattle.events.proofs.Formed.{Formed}
use Rattle.events.proofs.Checks.{Accepts, has-index}
use Rattle.events.proofs.Index.{distance-held, has_room, some-waits, written_keeps, written-sets, written-formed, read_keeps, read-sets, read-formed}

-- a word of slot j
pub record InSlot (j p : ℕ) : Type 0 where
  pub from : 4 * j + 1 ≤ p
  pub to : p ≤ 4 * j + 4

module _ (m : List ℕ) (p v : ℕ) where
  -- a store outside a slot leaves its record
  pub record_kept : (j : ℕ) → (InSlot j p → ⊥) → record_at (set m p v) j ≡ record_at m j
  unfolding record_at
  record_kept j out =
      let kept : (k : ℕ) → 1 ≤ k → k ≤ 4 → get_or (set m p v) (4 * j + k) 0 ≡ get_or m (4 * j + k) 0 =
      λ k a b. get_or-set_other m p (4 * j + k) v 0 (λ e. out (record { from = omega arith; to = omega arith })) in
      rw (kept 1 (omega arith) (omega arith), kept 2 (omega arith) (omega arith), kept 3 (omega arith) (omega arith), kept 4 (omega arith) (omega arith))

  -- and one into a slot the index word
  pub index_kept : (p ≡ 0 → ⊥) → index_of (set m p v) ≡ index_of m
  index_kept h = get_or-set_other m p 0 v 0 (λ e. h (sym e))

-- the records from an index on, of which WR is the end
module _ (n : ℕ) (m : List ℕ) where
  pub records_same : (m' : List ℕ) → ((j : ℕ) → record_at m' j ≡ record_at m j) → (k i : ℕ) → records_from n m' k i ≡ records_from n m k i
  unfolding records_from
  records_same m' same zero i = refl
  records_same m' same (suc k) i = ap₂ (λ (r : Record) (rs : List Record). r ∷ rs) (same (slot n i)) (records_same m' same k (next n i))

  -- the slot at WR is none of theirs
  pub records_kept : (m' : List ℕ) (wr : ℕ) → ((j : ℕ) → (j ≡ slot n wr → ⊥) → record_at m' j ≡ record_at m j)
      → (k i : ℕ) → distance n i wr ≡ k → k < slots n → records_from n m' k i ≡ records_from n m k i
  unfolding records_from
  records_kept m' wr same zero i e room = refl
  records_kept m' wr same (suc k) i e room =
      ap₂ (λ (r : Record) (rs : List Record). r ∷ rs) (same (slot n i) (slot_apart n i wr (omega arith) (omega arith)))
      (records_kept m' wr same k (next n i) (distance_next n i wr k e) (omega arith))

  -- one more is the one at WR, behind the others
  pub records_more : (wr k i : ℕ) → i < turn n → wr < turn n → distance n i wr ≡ k → records_from n m (suc k) i ≡ records_from n m k i ++ (record_at m (slot n wr) ∷ [])
  unfolding records_from
  records_more wr zero i in-i in-wr e = ap (λ (j : ℕ). record_at m (slot n j) ∷ []) (none-waits n i wr in-i in-wr e)
  records_more wr (suc k) i in-i in-wr e =
      ap (λ (rs : List Record). record_at m (slot n i) ∷ rs) (records_more wr k (next n i) (next-lt n i) in-wr (distance_next n i wr k e))

-- by the n of a well-formed index word
pub waiting_by : (n : ℕ) (m : List ℕ) → n ≤ max_log2 → Formed n (index_of m)
    → waiting m ≡ records_from n m (distance n (word.rd (index_of m)) (word.wr (index_of m))) (word.rd (index_of m))
unfolding waiting
waiting_by n m small f =
    ap₂ (λ (k d : ℕ). records_from k m d (word.rd (index_of m))) f.size (distance-held n (index_of m) small f)

-- an accepted recorder: its index word, its indexes, and how many records wait
module _ (m : List ℕ) (n : ℕ) (a : Accepts m n) where
  abbrev w : ℕ
  w = index_of m

  abbrev rd : ℕ
  rd = word.rd w

  abbrev wr : ℕ
  wr = word.wr w

  abbrev count : ℕ
  count = distance n rd wr

  small : n ≤ max_log2
  small = a.size.few

  before : waiting m ≡ records_from n m count rd
  before = waiting_by n m small a.index

  -- a store to the index word leaves every slot
  module _ (v : ℕ) where
    pub stored-word : index_of (set m 0 v) ≡ v
    stored-word = get_or-set_same m 0 v 0 (has-index m n a.size)

    stored-slots : (k i : ℕ) → records_from n (set m 0 v) k i ≡ records_from n m k i
    stored-slots k i = records_same n m (set m 0 v) (λ j. record_kept m 0 v j (λ q. omega (arith, q.from))) k i

    -- and all the records, if it moves no index
    pub flag-waiting : Formed n v → word.rd v ≡ rd → word.wr v ≡ wr → waiting (set m 0 v) ≡ waiting m
    flag-waiting f p q = waiting_by n (set m 0 v) small (rw stored-word f) ∙ rw (stored-word, p, q) (stored-slots count rd) ∙ sym before

  -- the oldest read: it was the first of them, and the rest stay
  pub read-waiting : word.is_empty w ≡ false → waiting m ≡ record_at m (word.oldest w) ∷ waiting (set m 0 (read_out w))
  unfolding word.oldest records_from
  read-waiting e = by_count count refl
    where
      rest : (k : ℕ) → count ≡ suc k → waiting (set m 0 (read_out w)) ≡ records_from n m k (next n rd)
      rest k q =
          waiting_by n (set m 0 (read_out w)) small (rw (stored-word (read_out w)) (read-formed n w small a.index e))
          ∙ rw (stored-word (read_out w), read-sets n w small a.index, read_keeps w word.wr_bits tt, distance_next n rd wr k q)
          (stored-slots (read_out w) k (next n rd))

      by_count : (k : ℕ) → count ≡ k → waiting m ≡ record_at m (slot (word.log2size w) rd) ∷ waiting (set m 0 (read_out w))
      by_count zero q = absurd (some-waits n w small a.index e (none-waits n rd wr a.index.waiting.rd_in a.index.waiting.wr_in q))
      by_count (suc k) q =
          before ∙ ap (λ (j : ℕ). records_from n m j rd) q
          ∙ ap₂ (λ (j : ℕ) (rs : List Record). record_at m (slot j rd) ∷ rs) (sym a.index.size) (sym (rest k q))

  -- a memory that differs in the slot at WR alone, where the ring is not full
  module _ (m' : List ℕ) (room : word.is_full w ≡ false) (same : (j : ℕ) → (j ≡ word.free w → ⊥) → record_at m' j ≡ record_at m j) where
    old-kept : records_from n m' count rd ≡ records_from n m count rd
    unfolding word.free
    old-kept =
        records_kept n m m' wr (λ j q. same j (λ z. q (rw a.index.size at z))) count rd refl (has_room n w small a.index room)

    -- and keeps the index word: the records are the old ones
    pub cut-waiting : index_of m' ≡ w → waiting m' ≡ waiting m
    cut-waiting s = waiting_by n m' small (rw s a.index) ∙ rw s old-kept ∙ sym before

    -- or moves WR on: those, and behind them the one in that slot
    pub write-waiting : index_of m' ≡ written w → waiting m' ≡ waiting m ++ (record_at m' (word.free w) ∷ [])
    unfolding word.free
    write-waiting s =
        let f = a.index in
        waiting_by n m' small (rw s (written-formed n w small f room))
        ∙ rw (s, written_keeps w word.rd_bits tt, written-sets n w small f, distance-more n rd wr count refl (has_room n w small f room))
        (records_more n m' wr count rd f.waiting.rd_in f.waiting.wr_in refl)
        ∙ ap₂ (λ (rs : List Record) (k : ℕ). rs ++ (record_at m' (slot k wr) ∷ [])) (old-kept ∙ sym before) (sym f.size)
