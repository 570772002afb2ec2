-- A batch carried out in full: a row goes exactly if some command of the batch has it in scope, since no removal changes another row.
-- Assumes nothing.
use mathlib.Core.Path.{◌≡◌, refl, sym, ap, ◌∙◌}
use mathlib.Core.Bool.{Bool, true, false, not, ◌&&◌, ◌||◌, beq}
use mathlib.Core.List.{List}
use mathlib.Core.Logic.{◌⊎◌, inl, inr, ⊎_elim}
use Prim.Native.Nat.{ℕ, zero, suc, ◌+◌, ◌*◌, ◌≤◌, ◌<◌}
use native.Mathlib.Decide.{ℕ_discrete}
use native.Mathlib.Omega.{arith}
use lib.Dec.{eqb, ltb}
use lib.ListN.{get_or}
use borrow.Author.Tests.{lt-ltb, le-ltb, eq-eqb, ne_eqb, eqb-false, not-true}
use Rattle.words.specs.Search.{lowest}
use Rattle.words.proofs.Search.{lowest-same}
use Rattle.words.proofs.Truth.{clash, decided, either, or_left, less_or_not, never}
use Rattle.commands.specs.declared.Features.{Features}
use Rattle.commands.specs.declared.Command.{Command}
use Rattle.commands.specs.declared.Decoded.{Decoded}
use Rattle.commands.specs.declared.Decoded.TheVariants.{Legal, Illegal}
use Rattle.commands.specs.Decoding.{decode_at}
use Rattle.image.specs.Image as image
use Rattle.regions.specs.Table as regions
use Rattle.memory.specs.Memory.{Memory, control_of, rows_in, is_kept, behind, word0, is_used, scoped_at, cleared, Whole, Untouched}
use Rattle.memory.proofs.Laws as memory
use Rattle.batches.specs.Batches.{size, removed_at, removed, carried, carried_out, left, differs}
use Rattle.batches.specs.Blocks.{takes, taken_by, taken, apart}

-- of n rows those that pass went: their word 0 is 0, and every other word is as it was
pub record Went (p : ℕ → Bool) (n : ℕ) (m m' : Memory) : Type 0 where
  pub control_word : control_of m' ≡ control_of m
  pub gone : (i : ℕ) → i < n → p i ≡ true → word0 m' i ≡ 0
  pub stays : (i : ℕ) → i < n → p i ≡ false → word0 m' i ≡ word0 m i
  pub others : Untouched n m m'

pub none_went : (p : ℕ → Bool) (n : ℕ) (m : Memory) → ((i : ℕ) → p i ≡ false) → Went p n m m
none_went p n m none =
    record { control_word = refl; gone = λ i h e. clash e (none i); stays = λ i h e. refl; others = memory.untouched n m }

-- a row that stayed is in the scopes that it was in; a row that went is in none
module _ (f : Features) {p : ℕ → Bool} {n : ℕ} {m m' : Memory} (s : Went p n m m') (d : Decoded) (i : ℕ) (h : i < n) where
  pub takes-still : p i ≡ false → takes f d m' i ≡ takes f d m i
  takes-still e = by_command d
    where
      by_command : (x : Decoded) → takes f x m' i ≡ takes f x m i
      by_command (Legal c) = memory.same_scopes f c n m m' s.others i (s.stays i h e)
      by_command (Illegal why) = refl

  pub takes-no-more : p i ≡ true → takes f d m' i ≡ false
  takes-no-more e = by_command d
    where
      by_command : (x : Decoded) → takes f x m' i ≡ false
      by_command (Legal c) = memory.empty-unscoped f c m' i (s.gone i h e)
      by_command (Illegal why) = refl

-- a command: its rows one after the other
module _ (f : Features) (c : Command) (m : Memory) (whole : Whole m) where
  abbrev below : ℕ → ℕ → Bool
  below k i = ltb i k && scoped_at f c m i

  not_yet : (k i : ℕ) → k ≤ i → below k i ≡ false
  not_yet k i h = rw (le-ltb i k h)

  -- row k goes or stays, and the rows below it are as they were
  one-row : (k : ℕ) (m' : Memory) → k < rows_in m → Went (below k) (rows_in m) m m' → Went (below (suc k)) (rows_in m) m (removed_at f c k m')
  one-row k m' h s = by-scope (scoped_at f c m k) refl
    where
      same : scoped_at f c m' k ≡ scoped_at f c m k
      same = takes-still f s (Legal c) k h (not_yet k k (omega arith))

      -- of another row, whether it is below the next says what was said before
      other : (i : ℕ) → (i ≡ k → ⊥) → below (suc k) i ≡ below k i
      other i d = ap (λ (b : Bool). b && scoped_at f c m i) (⊎_elim (λ l. lt-ltb i (suc k) (omega arith) ∙ sym (lt-ltb i k l)) (λ l. le-ltb i (suc k) (omega arith) ∙ sym (le-ltb i k l)) (less_or_not i k))

      at : below (suc k) k ≡ scoped_at f c m k
      at = rw (lt-ltb k (suc k) (omega arith))

      by-scope : (b : Bool) → scoped_at f c m k ≡ b → Went (below (suc k)) (rows_in m) m (removed_at f c k m')
      by-scope false e =
          rw (same ∙ e)
          (record {
            control_word = s.control_word;
            gone = λ i l q. by_place i l (ℕ_discrete i k) q;
            stays = λ i l q. other-stays i l (ℕ_discrete i k) q;
            others = s.others;
          })
        where
          by_place : (i : ℕ) → i < rows_in m → Dec (i ≡ k) → below (suc k) i ≡ true → word0 m' i ≡ 0
          by_place i l (yes r) q = clash q (rw r (at ∙ e))
          by_place i l (no d) q = s.gone i l (sym (other i d) ∙ q)

          other-stays : (i : ℕ) → i < rows_in m → Dec (i ≡ k) → below (suc k) i ≡ false → word0 m' i ≡ word0 m i
          other-stays i l (yes r) q = s.stays i l (rw r (not_yet k k (omega arith)))
          other-stays i l (no d) q = s.stays i l (sym (other i d) ∙ q)
      by-scope true e =
          let long = memory.same_rows s.others.long in
          let room : Whole m' = memory.same_whole s.others.long whole in
          rw (same ∙ e)
          (record {
            control_word = memory.control-cleared m' k ∙ s.control_word;
            gone = λ i l q. by_place room (omega (arith, long)) i l (ℕ_discrete i k) q;
            stays = λ i l q. other-stays i l (ℕ_discrete i k) q;
            others = memory.untouched-through s.others (memory.untouched-cleared (rows_in m) m' (cleared m' k) k h (memory.untouched (rows_in m) (cleared m' k)));
          })
        where
          by_place : Whole m' → k < rows_in m' → (i : ℕ) → i < rows_in m → Dec (i ≡ k) → below (suc k) i ≡ true → word0 (cleared m' k) i ≡ 0
          by_place room there i l (yes r) q = rw r (memory.word-cleared m' room k there)
          by_place room there i l (no d) q = memory.word_other m' k i d ∙ s.gone i l (sym (other i d) ∙ q)

          other-stays : (i : ℕ) → i < rows_in m → Dec (i ≡ k) → below (suc k) i ≡ false → word0 (cleared m' k) i ≡ word0 m i
          other-stays i l (yes r) q = clash (at ∙ e) (rw r at q)
          other-stays i l (no d) q = memory.word_other m' k i d ∙ s.stays i l (sym (other i d) ∙ q)

  rows-went : (k : ℕ) → k ≤ rows_in m → Went (below k) (rows_in m) m (removed f c k m)
  unfolding removed
  rows-went zero h = none_went (below 0) (rows_in m) m (λ i. not_yet 0 i (omega arith))
  rows-went (suc k) h = one-row k (removed f c k m) h (rows-went k (omega arith))

  pub command-went : Went (scoped_at f c m) (rows_in m) m (removed f c (rows_in m) m)
  command-went =
      let s = rows-went (rows_in m) (omega arith) in
      let all : (i : ℕ) → i < rows_in m → below (rows_in m) i ≡ scoped_at f c m i = λ i h. rw (lt-ltb i (rows_in m) h) in
      record {
        control_word = s.control_word;
        gone = λ i h e. s.gone i h (all i h ∙ e);
        stays = λ i h e. s.stays i h (all i h ∙ e);
        others = s.others;
      }

-- a batch, command by command
module _ (f : Features) (batch : List ℕ) (m : Memory) (whole : Whole m) where
  carried-went : (d : Decoded) (m' : Memory) → Whole m' → Went (takes f d m') (rows_in m') m' (carried f d m')
  carried-went (Legal c) m' w = command-went f c m' w
  carried-went (Illegal why) m' w = none_went (takes f (Illegal why) m') (rows_in m') m' (λ i. refl)

  one-command : (d : Decoded) (p : ℕ → Bool) (m₁ m₂ : Memory) → Went p (rows_in m) m m₁ → Went (takes f d m₁) (rows_in m) m₁ m₂ → Went (λ i. p i || takes f d m i) (rows_in m) m m₂
  one-command d p m₁ m₂ s t =
      record {
        control_word = t.control_word ∙ s.control_word;
        gone = λ i h e. went i h (decided (p i)) e;
        stays = λ i h e. still i h e;
        others = memory.untouched-through s.others t.others;
      }
    where
      went : (i : ℕ) → i < rows_in m → (p i ≡ true) ⊎ (p i ≡ false) → (p i || takes f d m i) ≡ true → word0 m₂ i ≡ 0
      went i h (inl y) e = t.stays i h (takes-no-more f s d i h y) ∙ s.gone i h y
      went i h (inr n) e = t.gone i h (takes-still f s d i h n ∙ rw n at e)

      still : (i : ℕ) → i < rows_in m → (p i || takes f d m i) ≡ false → word0 m₂ i ≡ word0 m i
      still i h e =
          let n : p i ≡ false = never (p i) (λ y. clash (or_left (p i) (takes f d m i) y) e) in
          t.stays i h (takes-still f s d i h n ∙ rw n at e) ∙ s.stays i h n

  commands-went : (k : ℕ) → Went (taken_by f batch k m) (rows_in m) m (carried_out f batch k m)
  unfolding carried_out taken_by
  commands-went zero = none_went (λ i. false) (rows_in m) m (λ i. refl)
  commands-went (suc k) =
      let s = commands-went k in
      let m' = carried_out f batch k m in
      let t = carried-went (decode_at f batch k) m' (memory.same_whole s.others.long whole) in
      one-command (decode_at f batch k) (taken_by f batch k m) m' (carried f (decode_at f batch k) m') s (rw (memory.same_rows s.others.long) at t)

  pub batch-went : Went (taken f batch m) (rows_in m) m (left f batch m)
  batch-went = commands-went (size batch)

-- rows compared: where no word but word 0 differs, by word 0
fourth : (a : Bool) {b c d : Bool} → b ≡ true → c ≡ true → d ≡ true → (a && b && c && d) ≡ a
fourth true p q r = simp (p, q, r)
fourth false p q r = refl

second : (a : Bool) {b : Bool} → b ≡ true → (a && b) ≡ a
second true p = p
second false p = refl

module _ {n : ℕ} {m a b : Memory} (u : Untouched n m a) (v : Untouched n m b) (i : ℕ) where
  in_first : is_kept m i ≡ true → differs a b i ≡ not (eqb (word0 a i) (word0 b i))
  unfolding differs image.row_at
  in_first e =
      let on-a : is_kept a i ≡ true = memory.same-side u.long i ∙ e in
      let on-b : is_kept b i ≡ true = memory.same-side v.long i ∙ e in
      let word : (q : ℕ) → 2 ≤ q → q ≤ 4 → eqb (get_or a.kept (4 * i + q) 0) (get_or b.kept (4 * i + q) 0) ≡ true =
      λ q x y. eq-eqb (get_or a.kept (4 * i + q) 0) (get_or b.kept (4 * i + q) 0)
      (u.kept (4 * i + q) (omega arith) (λ j h k p. omega arith) ∙ sym (v.kept (4 * i + q) (omega arith) (λ j h k p. omega arith))) in
      rw (on-a, memory.word_kept a i on-a, memory.word_kept b i on-b)
      (ap not (fourth (eqb (get_or a.kept (4 * i + 1) 0) (get_or b.kept (4 * i + 1) 0)) (word 2 (omega arith) (omega arith)) (word 3 (omega arith) (omega arith)) (word 4 (omega arith) (omega arith))))

  second_case : is_kept m i ≡ false → differs a b i ≡ not (eqb (word0 a i) (word0 b i))
  unfolding differs regions.row_at
  second_case e =
      let on-a : is_kept a i ≡ false = memory.same-side u.long i ∙ e in
      let on-b : is_kept b i ≡ false = memory.same-side v.long i ∙ e in
      let there : behind b i ≡ behind a i = memory.same-behind v.long i ∙ sym (memory.same-behind u.long i) in
      let place : behind a i ≡ behind m i = memory.same-behind u.long i in
      let word : eqb (get_or a.table (2 * behind a i + 1) 0) (get_or b.table (2 * behind a i + 1) 0) ≡ true =
      eq-eqb (get_or a.table (2 * behind a i + 1) 0) (get_or b.table (2 * behind a i + 1) 0)
      (u.table (2 * behind a i + 1) (λ j h k p. omega arith) ∙ sym (v.table (2 * behind a i + 1) (λ j h k p. omega arith))) in
      rw (on-a, memory.word-behind a i on-a, memory.word-behind b i on-b, there)
      (ap not (second (eqb (get_or a.table (2 * behind a i) 0) (get_or b.table (2 * behind a i) 0)) word))

  pub differs-by-word : differs a b i ≡ not (eqb (word0 a i) (word0 b i))
  differs-by-word = ⊎_elim in_first second_case (memory.kept_or_behind m i)

-- a row that went was used
module _ (f : Features) (batch : List ℕ) (m : Memory) (i : ℕ) where
  takes-used : (d : Decoded) → takes f d m i ≡ true → is_used m i ≡ true
  takes-used (Legal c) e = memory.scoped_used f c m i e
  takes-used (Illegal why) e = clash e refl

  taken-used-by : (k : ℕ) → taken_by f batch k m i ≡ true → is_used m i ≡ true
  unfolding taken_by
  taken-used-by zero e = clash e refl
  taken-used-by (suc k) e =
      ⊎_elim (taken-used-by k) (takes-used (decode_at f batch k)) (either (taken_by f batch k m i) (takes f (decode_at f batch k) m i) e)

  pub taken-used : taken f batch m i ≡ true → is_used m i ≡ true
  taken-used e = taken-used-by (size batch) e

-- so two batches leave another row exactly where one of them alone removes it
module _ (f : Features) (original proposed : List ℕ) (m : Memory) (whole : Whole m) where
  pub differs-apart : (i : ℕ) → i < rows_in m → differs (left f original m) (left f proposed m) i ≡ apart f original proposed m i
  unfolding apart
  differs-apart i h =
      differs-by-word (batch-went f original m whole).others (batch-went f proposed m whole).others i
      ∙ ap not (by_tests (taken f original m i) refl (taken f proposed m i) refl)
    where
      a : Memory
      a = left f original m

      b : Memory
      b = left f proposed m

      gone_a : taken f original m i ≡ true → word0 a i ≡ 0
      gone_a e = (batch-went f original m whole).gone i h e

      gone-b : taken f proposed m i ≡ true → word0 b i ≡ 0
      gone-b e = (batch-went f proposed m whole).gone i h e

      stays-a : taken f original m i ≡ false → word0 a i ≡ word0 m i
      stays-a e = (batch-went f original m whole).stays i h e

      stays-b : taken f proposed m i ≡ false → word0 b i ≡ word0 m i
      stays-b e = (batch-went f proposed m whole).stays i h e

      used : (batch : List ℕ) → taken f batch m i ≡ true → word0 m i ≡ 0 → ⊥
      used batch e = eqb-false (word0 m i) 0 (not-true (eqb (word0 m i) 0) (taken-used f batch m i e))

      by_tests : (x : Bool) → taken f original m i ≡ x → (y : Bool) → taken f proposed m i ≡ y
          → eqb (word0 a i) (word0 b i) ≡ beq (taken f original m i) (taken f proposed m i)
      by_tests true p true q = rw (p, q) (eq-eqb (word0 a i) (word0 b i) (gone_a p ∙ sym (gone-b q)))
      by_tests true p false q = rw (p, q) (ne_eqb (word0 a i) (word0 b i) (λ e. used original p (sym (stays-b q) ∙ sym e ∙ gone_a p)))
      by_tests false p true q = rw (p, q) (ne_eqb (word0 a i) (word0 b i) (λ e. used proposed q (sym (stays-a p) ∙ e ∙ gone-b q)))
      by_tests false p false q = rw (p, q) (eq-eqb (word0 a i) (word0 b i) (stays-a p ∙ sym (stays-b q)))

  pub lowest-differs : lowest (differs (left f original m) (left f proposed m)) (rows_in m) 0 ≡ lowest (apart f original proposed m) (rows_in m) 0
  lowest-differs =
      lowest-same (differs (left f original m) (left f proposed m)) (apart f original proposed m) (rows_in m) 0 (λ i x h. differs-apart i (omega arith))
