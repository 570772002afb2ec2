-- Demand 2: a legal command removes exactly the rows in its scope.
-- Assumes nothing.
use mathlib.Core.Path.{◌≡◌, refl, sym, ap, ◌∙◌}
use mathlib.Core.Bool.{true, false}
use mathlib.Core.List.{List}
use Prim.Native.Nat.{ℕ, zero, suc, ◌<◌}
use native.Mathlib.Decide.{ℕ_discrete}
use native.Mathlib.Nat.{zero-add, suc-add}
use native.Mathlib.Omega.{arith}
use Rattle.std.specs.Prelude.{None, Option, Some}
use Rattle.words.specs.Search.{count}
use Rattle.words.proofs.Truth.{clash}
use Rattle.words.proofs.Search.{Lowest, from_zero, none, is_none, count_less, count_none_passes, none_pass_count}
use Rattle.control.specs.Control as control
use Rattle.commands.specs.declared.Features.{Features}
use Rattle.commands.specs.declared.Command.{Command}
use Rattle.commands.specs.declared.Decoded.TheVariants.{Legal}
use Rattle.commands.specs.Decoding.{decode_at, syncs_of}
use Rattle.memory.specs.Memory.{Memory, control_of, rows_in, word0, scoped_at, stored as storedIn, cleared}
use Rattle.memory.proofs.Laws as memory
use Rattle.memory.proofs.Laws.{Accepts}
use Rattle.due.specs.Due.{Remove, Consume, scan, after_command, due_for, at_rd, due}
use Rattle.due.proofs.Scans.{lowest-scoped}
use Rattle.runs.specs.Running.{stores, plus, run_by, due_in}
use Rattle.runs.proofs.Turns.{plus-plus}
use Rattle.promises.specs.Swept.{Swept, Exact}

module _ (f : Features) (queue : List ℕ) (c : Command) where
  is-remove : (m : Memory) (i : ℕ) → control.standing (control_of m) ≡ None → at_rd f queue m ≡ Legal c → scan f c m (rows_in m) 0 ≡ Some i
      → due_in f queue m ≡ stores Remove (cleared m i)
  unfolding due due_for
  is-remove m i on legal e = rw (on, legal, e)

  is-consume : (m : Memory) → control.standing (control_of m) ≡ None → at_rd f queue m ≡ Legal c → scan f c m (rows_in m) 0 ≡ None
      → due_in f queue m ≡ stores (Consume (syncs_of (Legal c))) (storedIn m (after_command (Legal c) (control_of m)))
  unfolding due due_for
  is-consume m on legal e = rw (on, legal, e)

  module _ (n : ℕ) where
    -- no row is in scope: the command is consumed at once
    none_left : (m : Memory) → Accepts m n → control.standing (control_of m) ≡ None → at_rd f queue m ≡ Legal c
        → ((i : ℕ) → i < n → scoped_at f c m i ≡ false) → Exact f queue c n 0 m
    unfolding run_by
    none_left m a on legal out =
        let v = after_command (Legal c) (control_of m) in
        let nothing : scan f c m (rows_in m) 0 ≡ None =
        from_zero (scoped_at f c m) (rows_in m) ∙ is_none (scoped_at f c m) (rows_in m) 0 (omega arith) (λ j x h. out j (rw (memory.rows_are m n a) at h)) in
        record {
          after = storedIn m v;
          swept = record {
            control_word = memory.control-stored m (memory.accepted-whole m n a) v;
            gone = λ i h e. clash e (out i h);
            spared = λ i h e. memory.word-stored m v i;
            others = memory.untouched-stored n m (storedIn m v) v (memory.untouched n (storedIn m v));
          };
          continues = λ k. rw (zero-add k, is-consume m on legal nothing);
        }

    -- the lowest row goes first, and the rest as from there
    one_more : (m : Memory) (s i : ℕ) → Accepts m n → control.standing (control_of m) ≡ None → at_rd f queue m ≡ Legal c → scan f c m (rows_in m) 0 ≡ Some i
        → Exact f queue c n s (cleared m i) → Exact f queue c n (suc s) m
    unfolding run_by
    one_more m s i a on legal e x =
        let low = lowest-scoped f c m (rows_in m) i e in
        let below : i < n = rw (memory.rows_are m n a) at low.below in
        let whole = memory.accepted-whole m n a in
        let empty = memory.word-cleared m whole i low.below in
        let out = memory.scoped_cleared f c m whole i low.below in
        let w = x.swept in
        record {
          after = x.after;
          swept = record {
            control_word = w.control_word ∙ ap (after_command (Legal c)) (memory.control-cleared m i);
            gone = λ j h q. went w empty out j h q (ℕ_discrete j i);
            spared = λ j h q. stays w low j h q (ℕ_discrete j i);
            others = memory.untouched-cleared n m x.after i below w.others;
          };
          continues = λ k. rw (suc-add s k, is-remove m i on legal e)
              (ap (plus 0 1 1 0) (x.continues k) ∙ plus-plus 0 1 1 0 1 (suc s) s (syncs_of (Legal c)) 1 (suc (suc s)) (suc s) (syncs_of (Legal c)) _ refl (omega arith) (omega arith) (omega arith));
        }
      where
        went : Swept f c n (cleared m i) x.after → word0 (cleared m i) i ≡ 0 → scoped_at f c (cleared m i) i ≡ false → (j : ℕ) → j < n → scoped_at f c m j ≡ true → Dec (j ≡ i) → word0 x.after j ≡ 0
        went w empty out j h q (yes r) = rw r (w.spared i (rw (← r) h) out ∙ empty)
        went w empty out j h q (no d) = w.gone j h (memory.scoped_other f c m i j d ∙ q)

        stays : Swept f c n (cleared m i) x.after → Lowest (scoped_at f c m) (rows_in m) 0 i → (j : ℕ) → j < n → scoped_at f c m j ≡ false → Dec (j ≡ i)
            → word0 x.after j ≡ word0 m j
        stays w low j h q (yes r) = clash low.passes (rw (← r) q)
        stays w low j h q (no d) =
            w.spared j h (memory.scoped_other f c m i j d ∙ q) ∙ memory.word_other m i j d

    scan_case : (s : ℕ) (m : Memory) → Accepts m n → control.standing (control_of m) ≡ None → at_rd f queue m ≡ Legal c → count (scoped_at f c m) n ≡ suc s
        → ((m'' : Memory) → Accepts m'' n → control.standing (control_of m'') ≡ None → at_rd f queue m'' ≡ Legal c → count (scoped_at f c m'') n ≡ s → Exact f queue c n s m'')
        → (x : Option ℕ) → scan f c m (rows_in m) 0 ≡ x → Exact f queue c n (suc s) m
    scan_case s m a on legal total ih (Some i) e =
        let low = lowest-scoped f c m (rows_in m) i e in
        let below : i < n = rw (memory.rows_are m n a) at low.below in
        let word = memory.control-cleared m i in
        let out = memory.scoped_cleared f c m (memory.accepted-whole m n a) i low.below in
        let less = count_less (scoped_at f c m) (scoped_at f c (cleared m i)) n i below low.passes out (λ j h d. memory.scoped_other f c m i j d) in
        one_more m s i a on legal e
        (ih (cleared m i) (memory.cleared-accepted m n a i below) (ap control.standing word ∙ on) (ap (λ (w : ℕ). decode_at f queue (control.slot w)) word ∙ legal) (omega (arith, less, total)))
    scan_case s m a on legal total ih None e =
        let zeroes = none_pass_count (scoped_at f c m) n
        (λ j h. none (scoped_at f c m) (rows_in m) 0 (omega arith) (sym (from_zero (scoped_at f c m) (rows_in m)) ∙ e) j (omega arith) (rw (memory.rows_are m n a) h)) in
        absurd (omega (arith, zeroes, total))

    -- exactly the rows in scope, for every legal command at RD
    pub exact : (s : ℕ) (m : Memory) → Accepts m n → control.standing (control_of m) ≡ None → at_rd f queue m ≡ Legal c
        → count (scoped_at f c m) n ≡ s → Exact f queue c n s m
    exact zero m a on legal total = none_left m a on legal (count_none_passes (scoped_at f c m) n total)
    exact (suc s) m a on legal total = scan_case s m a on legal total (λ m'' b o l t. exact s m'' b o l t) (scan f c m (rows_in m) 0) refl
