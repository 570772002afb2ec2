-- What a store of a run does to its memory, in place of how the memory lies in words.
-- Assumes nothing.
use mathlib.Core.Path.{◌≡◌, refl, sym, ap, ap₂, ◌∙◌}
use mathlib.Core.Bool.{Bool, true, false, not}
use mathlib.Core.Logic.{◌⊎◌, inl, inr, ⊎_elim}
use Prim.Native.Nat.{ℕ, suc, ◌+◌, ◌-◌, ◌*◌, ◌/◌, ◌%◌, ◌≤◌, ◌<◌}
use native.Mathlib.Decide.{ℕ_discrete}
use native.Mathlib.Omega.{arith}
use lib.Dec.{eqb, ltb}
use lib.ListN.{length, get_or, set, length-set}
use lib.Seq.{get_or-set_same, get_or-set_other, ext_get_or}
use borrow.Author.Tests.{eq-eqb, eqb-true, not-false, ltb-true, ltb-false, lt-ltb, le-ltb}
use Rattle.words.specs.Choice.{pick}
use Rattle.words.proofs.Search.{count_same, count_less}
use Rattle.words.proofs.Truth.{decided, clash, less_or_not}
use Rattle.control.specs.Control as control
use Rattle.rows.specs.declared.Row.{Row}
use Rattle.commands.specs.declared.Features.{Features}
use Rattle.commands.specs.declared.Command.{Command}
use Rattle.scopes.specs.Scopes.{in_scope, idle}
use Rattle.scopes.proofs.Laws.{empty-spared, idle-spares}
use Rattle.image.specs.Image as image
use Rattle.image.proofs.Checks as images
use Rattle.image.proofs.AfterStores as rows
use Rattle.regions.specs.declared.Region.{Region}
use Rattle.regions.specs.Table as table
use Rattle.regions.proofs.Checks as tables
use Rattle.regions.proofs.AfterStores as regions
use Rattle.region_scopes.specs.Scopes.{is_regional, in_table}
use Rattle.region_scopes.proofs.Laws as region-scopes
use Rattle.memory.specs.Memory.{Memory, control_of, kept_rows, table_rows, rows_in, is_kept, behind, word0, is_used, used_rows, scoped_at, in_kept, in_second, stored, cleared, Whole, SameSize, Untouched, SameRows, both}

-- memory of n rows that refusals 1 to 3, 13 and 14 accept
pub record Accepts (m : Memory) (n : ℕ) : Type 0 where
  pub first : ℕ
  pub second : ℕ
  pub together : first + second ≡ n
  pub image : images.Accepts m.kept first
  pub regions : tables.Accepts m.table second

pub accepts-both : (m : Memory) (n r : ℕ) → images.Accepts m.kept n → tables.Accepts m.table r → Accepts m (n + r)
accepts-both m n r a b = record { first = n; second = r; together = refl; image = a; regions = b }

-- a row is of the first table or of the second
pub kept_or_behind : (m : Memory) (i : ℕ) → (is_kept m i ≡ true) ⊎ (is_kept m i ≡ false)
kept_or_behind m i = decided (is_kept m i)

module _ (m : Memory) (i : ℕ) where
  pub kept-below : is_kept m i ≡ true → i < kept_rows m
  unfolding is_kept
  kept-below e = ltb-true i (kept_rows m) e

  pub behind-from : is_kept m i ≡ false → kept_rows m ≤ i
  unfolding is_kept
  behind-from e = ltb-false i (kept_rows m) e

  pub is-kept : i < kept_rows m → is_kept m i ≡ true
  unfolding is_kept
  is-kept h = lt-ltb i (kept_rows m) h

  pub is-behind : kept_rows m ≤ i → is_kept m i ≡ false
  unfolding is_kept
  is-behind h = le-ltb i (kept_rows m) h

module _ (m : Memory) (n : ℕ) (a : Accepts m n) where
  first_rows : kept_rows m ≡ a.first
  first_rows = images.rows_are m.kept a.first a.image.size

  second-rows : table_rows m ≡ a.second
  second-rows = tables.rows_are m.table a.second a.regions.size

  pub rows_are : rows_in m ≡ n
  rows_are = omega (arith, first_rows, second-rows, a.together)

  pub accepted-whole : Whole m
  accepted-whole = omega (arith, a.image.size.words, first_rows)

  pub control_formed : control.well_formed (control_of m) ≡ true
  control_formed = a.image.control_formed

  -- what keeps it accepted
  pub stored-accepted : (v : ℕ) → control.well_formed v ≡ true → Accepts (stored m v) n
  stored-accepted v e =
      record {
        first = a.first;
        second = a.second;
        together = a.together;
        image = rows.control-stored m.kept a.first a.image v e;
        regions = a.regions;
      }

  pub cleared-accepted : (i : ℕ) → i < n → Accepts (cleared m i) n
  cleared-accepted i h = by_table (is_kept m i) refl
    where
      by_table : (b : Bool) → is_kept m i ≡ b → Accepts (pick b (in_kept m (4 * i + 1) 0) (in_second m (2 * behind m i) 0)) n
      by_table true e =
          record {
            first = a.first;
            second = a.second;
            together = a.together;
            image = rows.row-cleared m.kept a.first a.image i (omega (arith, kept-below m i e, first_rows));
            regions = a.regions;
          }
      by_table false e =
          record {
            first = a.first;
            second = a.second;
            together = a.together;
            image = a.image;
            regions = regions.row-cleared m.table a.second a.regions (behind m i) (omega (arith, behind-from m i e, first_rows, a.together, h));
          }

-- sizes stay
pub size_refl : (m : Memory) → SameSize m m
size_refl m = record { kept = refl; table = refl }

pub size-through : {a b c : Memory} → SameSize a b → SameSize b c → SameSize a c
size-through p q = record { kept = p.kept ∙ q.kept; table = p.table ∙ q.table }

module _ (m : Memory) where
  pub size-stored : (v : ℕ) → SameSize (stored m v) m
  size-stored v = record { kept = length-set m.kept 0 v; table = refl }

  pub size-cleared : (i : ℕ) → SameSize (cleared m i) m
  size-cleared i = by_table (is_kept m i)
    where
      by_table : (b : Bool) → SameSize (pick b (in_kept m (4 * i + 1) 0) (in_second m (2 * behind m i) 0)) m
      by_table true = record { kept = length-set m.kept (4 * i + 1) 0; table = refl }
      by_table false = record { kept = refl; table = length-set m.table (2 * behind m i) 0 }

module _ {m m' : Memory} (s : SameSize m m') where
  pub same-kept-rows : kept_rows m ≡ kept_rows m'
  same-kept-rows = ap (λ (k : ℕ). k / 4) s.kept

  pub same-table-rows : table_rows m ≡ table_rows m'
  same-table-rows = ap (λ (k : ℕ). k / 2) s.table

  pub same_rows : rows_in m ≡ rows_in m'
  same_rows = omega (arith, same-kept-rows, same-table-rows)

  pub same_whole : Whole m' → Whole m
  same_whole w = omega (arith, w, s.kept, same-kept-rows)

  pub same-side : (i : ℕ) → is_kept m i ≡ is_kept m' i
  unfolding is_kept
  same-side i = ap (λ (k : ℕ). ltb i k) same-kept-rows

  pub same-behind : (i : ℕ) → behind m i ≡ behind m' i
  same-behind i = ap (λ (k : ℕ). i - k) same-kept-rows

module _ (m : Memory) where
  pub rows-stored : (v : ℕ) → rows_in (stored m v) ≡ rows_in m
  rows-stored v = same_rows (size-stored m v)

  pub rows-cleared : (i : ℕ) → rows_in (cleared m i) ≡ rows_in m
  rows-cleared i = same_rows (size-cleared m i)

  pub stored-whole : Whole m → (v : ℕ) → Whole (stored m v)
  stored-whole w v = same_whole (size-stored m v) w

  pub cleared-whole : Whole m → (i : ℕ) → Whole (cleared m i)
  cleared-whole w i = same_whole (size-cleared m i) w

  -- the control word
  pub control-stored : Whole m → (v : ℕ) → control_of (stored m v) ≡ v
  control-stored w v = get_or-set_same m.kept 0 v 0 (omega (arith, w))

  pub control-cleared : (i : ℕ) → control_of (cleared m i) ≡ control_of m
  control-cleared i = by_table (is_kept m i)
    where
      by_table : (b : Bool) → control_of (pick b (in_kept m (4 * i + 1) 0) (in_second m (2 * behind m i) 0)) ≡ control_of m
      by_table true = rows.cleared-control m.kept i
      by_table false = refl

-- word 0 of a row, and the row's scopes, by the table that it is in
module _ (m : Memory) (i : ℕ) where
  pub word_kept : is_kept m i ≡ true → word0 m i ≡ get_or m.kept (4 * i + 1) 0
  unfolding word0
  word_kept e = rw e

  pub word-behind : is_kept m i ≡ false → word0 m i ≡ get_or m.table (2 * behind m i) 0
  unfolding word0
  word-behind e = rw e

  module _ (f : Features) (c : Command) where
    pub scope_kept : is_kept m i ≡ true → scoped_at f c m i ≡ in_scope f c (image.row_at m.kept i)
    unfolding scoped_at
    scope_kept e = rw e

    pub scope-behind : is_kept m i ≡ false → scoped_at f c m i ≡ in_table c (table.row_at m.table (behind m i))
    unfolding scoped_at
    scope-behind e = rw e

  cleared-kept : is_kept m i ≡ true → cleared m i ≡ in_kept m (4 * i + 1) 0
  cleared-kept e = rw e

  cleared-behind : is_kept m i ≡ false → cleared m i ≡ in_second m (2 * behind m i) 0
  cleared-behind e = rw e

-- a row that was emptied
module _ (m : Memory) (w : Whole m) where
  pub word-cleared : (i : ℕ) → i < rows_in m → word0 (cleared m i) i ≡ 0
  word-cleared i h = ⊎_elim in_first second_case (kept_or_behind m i)
    where
      same : is_kept (cleared m i) i ≡ is_kept m i
      same = same-side (size-cleared m i) i

      in_first : is_kept m i ≡ true → word0 (cleared m i) i ≡ 0
      in_first e =
          word_kept (cleared m i) i (same ∙ e)
          ∙ ap (λ (x : Memory). get_or x.kept (4 * i + 1) 0) (cleared-kept m i e)
          ∙ get_or-set_same m.kept (4 * i + 1) 0 0 (omega (arith, w, kept-below m i e))

      second_case : is_kept m i ≡ false → word0 (cleared m i) i ≡ 0
      second_case e =
          word-behind (cleared m i) i (same ∙ e)
          ∙ ap (λ (k : ℕ). get_or (cleared m i).table (2 * k) 0) (same-behind (size-cleared m i) i)
          ∙ ap (λ (x : Memory). get_or x.table (2 * behind m i) 0) (cleared-behind m i e)
          ∙ get_or-set_same m.table (2 * behind m i) 0 0 (omega (arith, h, behind-from m i e))

-- every other row, and every row where the control word was stored: its words are as they were
pub record SameRow (m m' : Memory) (i : ℕ) : Type 0 where
  pub size : SameSize m' m
  pub kept : is_kept m i ≡ true → (q : ℕ) → 1 ≤ q → q ≤ 4 → get_or m'.kept (4 * i + q) 0 ≡ get_or m.kept (4 * i + q) 0
  pub table : is_kept m i ≡ false → (q : ℕ) → q ≤ 1 → get_or m'.table (2 * behind m i + q) 0 ≡ get_or m.table (2 * behind m i + q) 0

module _ (m m' : Memory) (i : ℕ) (s : SameRow m m' i) where
  side : is_kept m' i ≡ is_kept m i
  side = same-side s.size i

  place : behind m' i ≡ behind m i
  place = same-behind s.size i

  first_row : is_kept m i ≡ true → image.row_at m'.kept i ≡ image.row_at m.kept i
  unfolding image.row_at
  first_row e =
      let k = s.kept e in
      rw (k 1 (omega arith) (omega arith), k 2 (omega arith) (omega arith), k 3 (omega arith) (omega arith), k 4 (omega arith) (omega arith))

  second_row : is_kept m i ≡ false → table.row_at m'.table (behind m i) ≡ table.row_at m.table (behind m i)
  unfolding table.row_at
  second_row e =
      let k = s.table e in
      let z : 2 * behind m i + 0 ≡ 2 * behind m i = omega arith in
      rw (rw z at (k 0 (omega arith)), k 1 (omega arith))

  pub same_word : word0 m' i ≡ word0 m i
  same_word = ⊎_elim in_first second_case (kept_or_behind m i)
    where
      in_first : is_kept m i ≡ true → word0 m' i ≡ word0 m i
      in_first e = word_kept m' i (side ∙ e) ∙ s.kept e 1 (omega arith) (omega arith) ∙ sym (word_kept m i e)

      second_case : is_kept m i ≡ false → word0 m' i ≡ word0 m i
      second_case e =
          let z : 2 * behind m i + 0 ≡ 2 * behind m i = omega arith in
          word-behind m' i (side ∙ e) ∙ ap (λ (k : ℕ). get_or m'.table (2 * k) 0) place ∙ rw z at (s.table e 0 (omega arith)) ∙ sym (word-behind m i e)

  pub same_scope : (f : Features) (c : Command) → scoped_at f c m' i ≡ scoped_at f c m i
  same_scope f c = ⊎_elim in_first second_case (kept_or_behind m i)
    where
      in_first : is_kept m i ≡ true → scoped_at f c m' i ≡ scoped_at f c m i
      in_first e = scope_kept m' i f c (side ∙ e) ∙ ap (λ (row : Row). in_scope f c row) (first_row e) ∙ sym (scope_kept m i f c e)

      second_case : is_kept m i ≡ false → scoped_at f c m' i ≡ scoped_at f c m i
      second_case e =
          scope-behind m' i f c (side ∙ e) ∙ ap (λ (k : ℕ). in_table c (table.row_at m'.table k)) place
          ∙ ap (λ (row : Region). in_table c row) (second_row e) ∙ sym (scope-behind m i f c e)

module _ (m : Memory) where
  row_after_store : (v i : ℕ) → SameRow m (stored m v) i
  row_after_store v i =
      record {
        size = size-stored m v;
        kept = λ e q a b. get_or-set_other m.kept 0 (4 * i + q) v 0 (omega arith);
        table = λ e q a. refl;
      }

  row_after_clear : (i j : ℕ) → (j ≡ i → ⊥) → SameRow m (cleared m i) j
  row_after_clear i j d = ⊎_elim in_first second_case (kept_or_behind m i)
    where
      in_first : is_kept m i ≡ true → SameRow m (cleared m i) j
      in_first e =
          rw (cleared-kept m i e)
          (record {
            size = record { kept = length-set m.kept (4 * i + 1) 0; table = refl };
            kept = λ g q a b. get_or-set_other m.kept (4 * i + 1) (4 * j + q) 0 0 (λ p. d (omega arith));
            table = λ g q a. refl;
          })

      second_case : is_kept m i ≡ false → SameRow m (cleared m i) j
      second_case e =
          rw (cleared-behind m i e)
          (record {
            size = record { kept = refl; table = length-set m.table (2 * behind m i) 0 };
            kept = λ g q a b. refl;
            table = λ g q a. get_or-set_other m.table (2 * behind m i) (2 * behind m j + q) 0 0 (λ p. d (omega (arith, behind-from m i e, behind-from m j g)));
          })

  pub word-stored : (v i : ℕ) → word0 (stored m v) i ≡ word0 m i
  word-stored v i = same_word m (stored m v) i (row_after_store v i)

  pub word_other : (i j : ℕ) → (j ≡ i → ⊥) → word0 (cleared m i) j ≡ word0 m j
  word_other i j d = same_word m (cleared m i) j (row_after_clear i j d)

-- scopes
module _ (f : Features) (c : Command) (m : Memory) where
  pub scoped_stored : (v i : ℕ) → scoped_at f c (stored m v) i ≡ scoped_at f c m i
  scoped_stored v i = same_scope m (stored m v) i (row_after_store m v i) f c

  pub scoped_other : (i j : ℕ) → (j ≡ i → ⊥) → scoped_at f c (cleared m i) j ≡ scoped_at f c m j
  scoped_other i j d = same_scope m (cleared m i) j (row_after_clear m i j d) f c

  -- an empty row is in no scope, nor is any in that of an idle command
  pub empty-unscoped : (i : ℕ) → word0 m i ≡ 0 → scoped_at f c m i ≡ false
  unfolding image.row_at table.row_at
  empty-unscoped i z =
      ⊎_elim
      (λ e. scope_kept m i f c e ∙ empty-spared f c (image.row_at m.kept i) (eq-eqb (get_or m.kept (4 * i + 1) 0) 0 (sym (word_kept m i e) ∙ z)))
      (λ e. scope-behind m i f c e ∙ region-scopes.empty-unscoped c (table.row_at m.table (behind m i)) (eq-eqb (get_or m.table (2 * behind m i) 0) 0 (sym (word-behind m i e) ∙ z)))
      (kept_or_behind m i)

  pub idle-unscoped : (i : ℕ) → idle f c ≡ true → scoped_at f c m i ≡ false
  idle-unscoped i z =
      ⊎_elim
      (λ e. scope_kept m i f c e ∙ idle-spares f c (image.row_at m.kept i) z)
      (λ e. scope-behind m i f c e ∙ region-scopes.first_only c (table.row_at m.table (behind m i)) (region-scopes.idle-first f c z))
      (kept_or_behind m i)

  -- Document 02, T-11: no command has rows of both tables in its scope
  pub first_alone : is_regional c ≡ false → (i : ℕ) → kept_rows m ≤ i → scoped_at f c m i ≡ false
  first_alone e i h = scope-behind m i f c (is-behind m i h) ∙ region-scopes.first_only c (table.row_at m.table (behind m i)) e

  pub second-alone : is_regional c ≡ true → (i : ℕ) → i < kept_rows m → scoped_at f c m i ≡ false
  second-alone e i h = scope_kept m i f c (is-kept m i h) ∙ region-scopes.second_only f c (image.row_at m.kept i) e

  pub scoped_used : (i : ℕ) → scoped_at f c m i ≡ true → is_used m i ≡ true
  scoped_used i e = ⊎_elim (λ u. u) (λ z. clash e (empty-unscoped i (eqb-true (word0 m i) 0 (not-false (eqb (word0 m i) 0) z)))) (decided (is_used m i))

pub scoped_cleared : (f : Features) (c : Command) (m : Memory) → Whole m → (i : ℕ) → i < rows_in m → scoped_at f c (cleared m i) i ≡ false
scoped_cleared f c m w i h = empty-unscoped f c (cleared m i) i (word-cleared m w i h)

-- what is untouched
pub untouched : (n : ℕ) (m : Memory) → Untouched n m m
untouched n m = record { kept = λ p x y. refl; table = λ p y. refl; long = size_refl m }

pub untouched-stored : (n : ℕ) (m m' : Memory) (v : ℕ) → Untouched n (stored m v) m' → Untouched n m m'
untouched-stored n m m' v u =
    let s = size-stored m v in
    record {
      kept = λ p x y. u.kept p x (λ i h e. y i h (sym (same-side s i) ∙ e)) ∙ get_or-set_other m.kept 0 p v 0 x;
      table = λ p y. u.table p (λ i h e q. y i h (sym (same-side s i) ∙ e) (q ∙ ap (λ (k : ℕ). 2 * k) (same-behind s i)));
      long = size-through u.long s;
    }

pub untouched-cleared : (n : ℕ) (m m' : Memory) (i : ℕ) → i < n → Untouched n (cleared m i) m' → Untouched n m m'
untouched-cleared n m m' i h u =
    record {
      kept = λ p x y. u.kept p x (λ j l e. y j l (sym (same-side s j) ∙ e)) ∙ other p y (kept_or_behind m i);
      table = λ p y. u.table p (λ j l e q. y j l (sym (same-side s j) ∙ e) (q ∙ ap (λ (k : ℕ). 2 * k) (same-behind s j))) ∙ behind-other p y (kept_or_behind m i);
      long = size-through u.long s;
    }
  where
    s : SameSize (cleared m i) m
    s = size-cleared m i

    other : (p : ℕ) → ((j : ℕ) → j < n → is_kept m j ≡ true → p ≡ 4 * j + 1 → ⊥) → (is_kept m i ≡ true) ⊎ (is_kept m i ≡ false) → get_or (cleared m i).kept p 0 ≡ get_or m.kept p 0
    other p y (inl e) = ap (λ (x : Memory). get_or x.kept p 0) (cleared-kept m i e) ∙ get_or-set_other m.kept (4 * i + 1) p 0 0 (λ q. y i h e q)
    other p y (inr e) = ap (λ (x : Memory). get_or x.kept p 0) (cleared-behind m i e)

    behind-other : (p : ℕ) → ((j : ℕ) → j < n → is_kept m j ≡ false → p ≡ 2 * behind m j → ⊥) → (is_kept m i ≡ true) ⊎ (is_kept m i ≡ false) → get_or (cleared m i).table p 0 ≡ get_or m.table p 0
    behind-other p y (inl e) = ap (λ (x : Memory). get_or x.table p 0) (cleared-kept m i e)
    behind-other p y (inr e) = ap (λ (x : Memory). get_or x.table p 0) (cleared-behind m i e) ∙ get_or-set_other m.table (2 * behind m i) p 0 0 (λ q. y i h e q)

pub untouched-through : {n : ℕ} {a b c : Memory} → Untouched n a b → Untouched n b c → Untouched n a c
untouched-through {a = a} {b} u v =
    let side : (i : ℕ) → is_kept b i ≡ is_kept a i = λ i. same-side u.long i in
    record {
      kept = λ p x y. v.kept p x (λ i h e. y i h (sym (side i) ∙ e)) ∙ u.kept p x y;
      table = λ p y. v.table p (λ i h e q. y i h (sym (side i) ∙ e) (q ∙ ap (λ (k : ℕ). 2 * k) (same-behind u.long i))) ∙ u.table p y;
      long = size-through v.long u.long;
    }

-- a row whose word 0 is as it was is in the scopes that it was in
pub same_scopes : (f : Features) (c : Command) (n : ℕ) (m m' : Memory) → Untouched n m m' → (i : ℕ) → word0 m' i ≡ word0 m i → scoped_at f c m' i ≡ scoped_at f c m i
same_scopes f c n m m' u i w = same_scope m m' i (record { size = u.long; kept = in_first; table = second_case }) f c
  where
    in_first : is_kept m i ≡ true → (q : ℕ) → 1 ≤ q → q ≤ 4 → get_or m'.kept (4 * i + q) 0 ≡ get_or m.kept (4 * i + q) 0
    in_first e q a b = by_word (ℕ_discrete q 1)
      where
        by_word : Dec (q ≡ 1) → get_or m'.kept (4 * i + q) 0 ≡ get_or m.kept (4 * i + q) 0
        by_word (yes s) = rw s (sym (word_kept m' i (same-side u.long i ∙ e)) ∙ w ∙ word_kept m i e)
        by_word (no d) = u.kept (4 * i + q) (omega arith) (λ j l e p. d (omega arith))

    second_case : is_kept m i ≡ false → (q : ℕ) → q ≤ 1 → get_or m'.table (2 * behind m i + q) 0 ≡ get_or m.table (2 * behind m i + q) 0
    second_case e q a = by_word (ℕ_discrete q 0)
      where
        by_word : Dec (q ≡ 0) → get_or m'.table (2 * behind m i + q) 0 ≡ get_or m.table (2 * behind m i + q) 0
        by_word (yes s) =
            let z : 2 * behind m i + q ≡ 2 * behind m i = omega arith in
            rw z
            (ap (λ (k : ℕ). get_or m'.table (2 * k) 0) (sym (same-behind u.long i)) ∙ sym (word-behind m' i (same-side u.long i ∙ e)) ∙ w ∙ word-behind m i e)
        by_word (no d) = u.table (2 * behind m i + q) (λ j l e p. d (omega arith))

-- two memories that differ from one in no word but these have the same rows where those words are the same
module _ (n : ℕ) (m a b : Memory) (accepted : Accepts m n) (u : Untouched n m a) (v : Untouched n m b) (words : (i : ℕ) → i < n → word0 a i ≡ word0 b i) where
  kept_word : (i : ℕ) → i < kept_rows m → get_or a.kept (4 * i + 1) 0 ≡ get_or b.kept (4 * i + 1) 0
  kept_word i h =
      let e = is-kept m i h in
      sym (word_kept a i (same-side u.long i ∙ e)) ∙ words i (omega (arith, rows_are m n accepted)) ∙ word_kept b i (same-side v.long i ∙ e)

  table-word : (i : ℕ) → i < table_rows m → get_or a.table (2 * i) 0 ≡ get_or b.table (2 * i) 0
  table-word i h =
      let r = kept_rows m + i in
      let e = is-behind m r (omega arith) in
      let place : behind m r ≡ i = omega arith in
      ap (λ (k : ℕ). get_or a.table (2 * k) 0) (sym (same-behind u.long r ∙ place)) ∙ sym (word-behind a r (same-side u.long r ∙ e))
      ∙ words r (omega (arith, rows_are m n accepted))
      ∙ word-behind b r (same-side v.long r ∙ e) ∙ ap (λ (k : ℕ). get_or b.table (2 * k) 0) (same-behind v.long r ∙ place)

  pub same-words : SameRows a b
  same-words =
      record {
        long = u.long.kept ∙ sym v.long.kept;
        kept = λ p x. in_first p x (less_or_not (p / 4) (kept_rows m)) (ℕ_discrete (p % 4) 1);
        table = ext_get_or 0 a.table b.table (u.long.table ∙ sym v.long.table) (λ p h. second_case p (less_or_not (p / 2) (table_rows m)) (ℕ_discrete (p % 2) 0));
      }
    where
      in_first : (p : ℕ) → (p ≡ 0 → ⊥) → (p / 4 < kept_rows m) ⊎ (kept_rows m ≤ p / 4) → Dec (p % 4 ≡ 1) → get_or a.kept p 0 ≡ get_or b.kept p 0
      in_first p x (inl h) (yes e) = let q : 4 * (p / 4) + 1 ≡ p = omega arith in rw q at (kept_word (p / 4) h)
      in_first p x (inl h) (no d) = u.kept p x (λ i l k q. d (omega arith)) ∙ sym (v.kept p x (λ i l k q. d (omega arith)))
      in_first p x (inr h) e =
          let out : (i : ℕ) → i < n → is_kept m i ≡ true → p ≡ 4 * i + 1 → ⊥ = λ i l k q. omega (arith, kept-below m i k) in
          u.kept p x out ∙ sym (v.kept p x out)

      second_case : (p : ℕ) → (p / 2 < table_rows m) ⊎ (table_rows m ≤ p / 2) → Dec (p % 2 ≡ 0) → get_or a.table p 0 ≡ get_or b.table p 0
      second_case p (inl h) (yes e) = let q : 2 * (p / 2) ≡ p = omega arith in rw q at (table-word (p / 2) h)
      second_case p (inl h) (no d) = u.table p (λ i l k q. d (omega arith)) ∙ sym (v.table p (λ i l k q. d (omega arith)))
      second_case p (inr h) e =
          let out : (i : ℕ) → i < n → is_kept m i ≡ false → p ≡ 2 * behind m i → ⊥ =
          λ i l k q. omega (arith, behind-from m i k, rows_are m n accepted) in
          u.table p out ∙ sym (v.table p out)

-- one of them is the other with its own control word
pub only_control : (a b : Memory) → SameRows a b → 0 < length a.kept → b ≡ stored a (control_of b)
only_control a b s some =
    ap₂ both
    (ext_get_or 0 b.kept (set a.kept 0 (control_of b)) (sym s.long ∙ sym (length-set a.kept 0 (control_of b))) (λ p h. by_place p (ℕ_discrete p 0)))
    (sym s.table)
  where
    by_place : (p : ℕ) → Dec (p ≡ 0) → get_or b.kept p 0 ≡ get_or (set a.kept 0 (control_of b)) p 0
    by_place p (yes e) = rw e (sym (get_or-set_same a.kept 0 (control_of b) 0 some))
    by_place p (no d) = sym (s.kept p d) ∙ sym (get_or-set_other a.kept 0 p (control_of b) 0 d)

pub same_memory : (a b : Memory) → SameRows a b → control_of a ≡ control_of b → a ≡ b
same_memory a b s word = ap₂ both (ext_get_or 0 a.kept b.kept s.long (λ p h. by_place p (ℕ_discrete p 0))) s.table
  where
    by_place : (p : ℕ) → Dec (p ≡ 0) → get_or a.kept p 0 ≡ get_or b.kept p 0
    by_place p (yes e) = rw e word
    by_place p (no d) = s.kept p d

-- used rows
module _ (m : Memory) (n : ℕ) where
  pub used-stored : (v : ℕ) → used_rows (stored m v) n ≡ used_rows m n
  used-stored v = count_same (is_used (stored m v)) (is_used m) n (λ i h. ap (λ (w : ℕ). not (eqb w 0)) (word-stored m v i))

  pub used-cleared : (f : Features) (c : Command) (i : ℕ) → Accepts m n → i < n → scoped_at f c m i ≡ true → used_rows m n ≡ suc (used_rows (cleared m i) n)
  used-cleared f c i a h e =
      let empty = word-cleared m (accepted-whole m n a) i (rw (rows_are m n a) h) in
      count_less (is_used m) (is_used (cleared m i)) n i h (scoped_used f c m i e)
      (ap (λ (w : ℕ). not (eqb w 0)) empty)
      (λ j l d. ap (λ (w : ℕ). not (eqb w 0)) (word_other m i j d))
