-- Demand 3: what is found after a run at every allowance.
-- Assumes nothing.
use mathlib.Core.Path.{◌≡◌, refl, sym, ap, ◌∙◌}
use mathlib.Core.Bool.{true, false}
use mathlib.Core.List.{List}
use mathlib.Core.Logic.{◌⊎◌, inl, inr, ⊎_elim}
use Prim.Native.Nat.{ℕ, zero, suc, ◌<◌}
use native.Mathlib.Decide.{ℕ_discrete}
use native.Mathlib.Nat.{zero-add}
use native.Mathlib.Numerals.{one-add}
use native.Mathlib.Omega.{arith}
use Rattle.std.specs.Prelude.{None}
use Rattle.words.proofs.Search.{Lowest, from_zero, none}
use Rattle.words.proofs.Truth.{clash}
use Rattle.control.specs.Control as control
use Rattle.control.specs.declared.Rest.{Rest}
use Rattle.control.specs.declared.Rest.TheVariants.{Off as Rest-as-Off, Held as Rest-as-Held, Empty as Rest-as-Empty}
use Rattle.control_stores.specs.Stores as control-stores
use Rattle.commands.specs.declared.Features.{Features}
use Rattle.commands.specs.declared.Command.{Command}
use Rattle.commands.specs.declared.Reason.{Reason}
use Rattle.commands.specs.declared.Decoded.{Decoded}
use Rattle.commands.specs.declared.Decoded.TheVariants.{Legal, Illegal}
use Rattle.commands.specs.Decoding.{decode_at, is_illegal}
use Rattle.memory.specs.Memory.{Memory, control_of, rows_in, word0, scoped_at, stored as storedIn, cleared}
use Rattle.memory.proofs.Laws as memory
use Rattle.memory.proofs.Laws.{Accepts}
use Rattle.due.specs.Due.{What, scan, after_command, raising_at, at_rd}
use Rattle.runs.specs.declared.End.{End}
use Rattle.runs.specs.declared.End.TheVariants.{Off, Held, Empty, Raised, Cut}
use Rattle.runs.specs.Running.{Out, Next, rests, stores, last, next, run_by, due_in, run, end_of}
use Rattle.promises.specs.Sums.{raise}
use Rattle.promises.specs.Found.{advanced, command_at, closing, Consumed, WasInScope, Found}
use Rattle.promises.proofs.Cases.{Case, removes, consumes, raises, IsDue, is_due, open_stores}
use Rattle.promises.proofs.Accepted.{store-accepted}

-- a legal command at RD: a run that does not consume it is cut
module _ (f : Features) (queue : List ℕ) where
  abbrev Reaches : Out Memory → Type 0
  Reaches o = (0 < o.ran.consumed) ⊎ ((0 ≡ o.ran.consumed) × (o.ran.end ≡ Cut))

  reaches-by : (k : ℕ) (m m' : Memory) (w : What) (c : Command) → at_rd f queue m ≡ Legal c
      → ((m'' : Memory) → control.standing (control_of m'') ≡ None → at_rd f queue m'' ≡ Legal c → Reaches (run f queue k m''))
      → IsDue f queue m w m' → Case f queue m w m' → Reaches (next (run f queue k) (stores w m') m)
  reaches-by k m m' w c legal ih d (removes c' i legal' low what stored) =
      let word = memory.control-cleared m i in
      rw (what, stored, zero-add) (ih (cleared m i) (ap control.standing word ∙ d.open_for_it) (ap (λ (x : ℕ). decode_at f queue (control.slot x)) word ∙ legal))
  reaches-by k m m' w c legal ih d (consumes c' legal' nothing what stored) = rw what (inl (omega arith))
  reaches-by k m m' w c legal ih d (raises why illegal what stored) = let z : ◌≡◌ {A = ℕ} 0 1 = cc in absurd (omega arith)

  reaches-next : (k : ℕ) (m : Memory) (c : Command) (d : Next Memory) → due_in f queue m ≡ d → control.standing (control_of m) ≡ None → at_rd f queue m ≡ Legal c
      → ((m'' : Memory) → control.standing (control_of m'') ≡ None → at_rd f queue m'' ≡ Legal c → Reaches (run f queue k m''))
      → Reaches (next (run f queue k) d m)
  reaches-next k m c (rests r) e on legal ih = absurd (open_stores f queue m r on e)
  reaches-next k m c (stores w m') e on legal ih = let d = is_due f queue m w m' e in reaches-by k m m' w c legal ih d d.kind

  reaches-last : (m : Memory) (d : Next Memory) → due_in f queue m ≡ d → control.standing (control_of m) ≡ None → Reaches (last d m)
  reaches-last m (rests r) e on = absurd (open_stores f queue m r on e)
  reaches-last m (stores w m') e on = inr (refl, refl)

  reaches : (k : ℕ) (m : Memory) (c : Command) → control.standing (control_of m) ≡ None → at_rd f queue m ≡ Legal c → Reaches (run f queue k m)
  unfolding run_by
  reaches zero m c on legal = reaches-last m (due_in f queue m) refl on
  reaches (suc k) m c on legal = reaches-next k m c (due_in f queue m) refl on legal (λ m'' o l. reaches k m'' c o l)

module _ (f : Features) (queue : List ℕ) (n : ℕ) where
  -- nothing happened
  still : (e : End) (m : Memory) → closing e (control_of m) ≡ control_of m → (raise e ≡ 1 → ⊥) → Found f queue n 0 e m m
  unfolding advanced
  still e m same quiet =
      record {
        control_word = sym same;
        gone = λ t h. absurd (omega arith);
        illegal = λ r. absurd (quiet r);
        early = λ i h. inl refl;
        others = memory.untouched n m;
      }

  rest-still : (r : Rest) (m : Memory) → Found f queue n 0 (end_of r) m m
  rest-still Rest-as-Off m = still Off m refl (λ r. omega (arith, r))
  rest-still Rest-as-Held m = still Held m refl (λ r. omega (arith, r))
  rest-still Rest-as-Empty m = still Empty m refl (λ r. omega (arith, r))

  -- the error was raised
  raised-found : (why : Reason) (m : Memory) → Accepts m n → at_rd f queue m ≡ Illegal why
      → Found f queue n 0 (Raised (raising_at why (control_of m))) m (storedIn m (control-stores.raised (control_of m)))
  unfolding advanced
  raised-found why m a illegal =
      let v = control-stores.raised (control_of m) in
      record {
        control_word = memory.control-stored m (memory.accepted-whole m n a) v;
        gone = λ t h. absurd (omega arith);
        illegal = λ r. ap is_illegal illegal;
        early = λ i h. inl (memory.word-stored m v i);
        others = memory.untouched-stored n m (storedIn m v) v (memory.untouched n (storedIn m v));
      }

  -- a row went, and the run went on
  after_remove : (m m₂ : Memory) (k : ℕ) (e : End) (c : Command) (i : ℕ) → Accepts m n → at_rd f queue m ≡ Legal c → Lowest (scoped_at f c m) (rows_in m) 0 i
      → (0 < k) ⊎ ((0 ≡ k) × (e ≡ Cut)) → Found f queue n k e (cleared m i) m₂ → Found f queue n k e m m₂
  unfolding advanced
  after_remove m m₂ k e c i a legal low reached later =
      let word = memory.control-cleared m i in
      let empty = memory.word-cleared m (memory.accepted-whole m n a) i low.below in
      let here : WasInScope f queue m k e i = record { which = 0; command = c; reached = reached; is_command = legal; within_scope = low.passes } in
      record {
        control_word = later.control_word ∙ ap (λ (w : ℕ). closing e (advanced f queue k w)) word;
        gone = λ t h. from-cleared word t (later.gone t h);
        illegal = λ r. ap (λ (w : ℕ). is_illegal (command_at f queue w k)) (sym word) ∙ later.illegal r;
        early = λ j h. each here word empty j h (ℕ_discrete j i) (later.early j h);
        others = memory.untouched-cleared n m m₂ i (rw (memory.rows_are m n a) at low.below) later.others;
      }
    where
      from-cleared : control_of (cleared m i) ≡ control_of m → (t : ℕ) → Consumed f queue n (cleared m i) m₂ t → Consumed f queue n m m₂ t
      from-cleared word t z =
          record { command = z.command; is_command = ap (λ (w : ℕ). command_at f queue w t) (sym word) ∙ z.is_command; gone = z.gone }

      each : WasInScope f queue m k e i → control_of (cleared m i) ≡ control_of m → word0 (cleared m i) i ≡ 0 → (j : ℕ) → j < n → Dec (j ≡ i)
          → (word0 m₂ j ≡ word0 (cleared m i) j) ⊎ ((word0 m₂ j ≡ 0) × WasInScope f queue (cleared m i) k e j)
          → (word0 m₂ j ≡ word0 m j) ⊎ ((word0 m₂ j ≡ 0) × WasInScope f queue m k e j)
      each here word empty j h (yes s) was =
          inr (⊎_elim (λ q. q ∙ rw s empty) (λ z. z.0) was, rw s here)
      each here word empty j h (no d) was =
          ⊎_elim
          (λ q. inl (q ∙ memory.word_other m i j d))
          (λ z. inr (
            z.0,
            record {
              which = z.1.which;
              command = z.1.command;
              reached = z.1.reached;
              is_command = ap (λ (w : ℕ). command_at f queue w z.1.which) (sym word) ∙ z.1.is_command;
              within_scope = sym (memory.scoped_other f z.1.command m i j d) ∙ z.1.within_scope;
            },
          ))
          was

  -- a row after the run is in the scopes that it was in, or in none
  never-again : (m m₂ : Memory) (k : ℕ) (e : End) → Found f queue n k e m m₂ → (c : Command) (i : ℕ) → i < n → scoped_at f c m i ≡ false → scoped_at f c m₂ i ≡ false
  never-again m m₂ k e found c i h out =
      ⊎_elim (λ s. memory.same_scopes f c n m m₂ found.others i s ∙ out) (λ z. memory.empty-unscoped f c m₂ i z.0) (found.early i h)

  -- a command was consumed, and the run went on
  after-consume : (m m₂ : Memory) (k : ℕ) (e : End) (c : Command) → Accepts m n → at_rd f queue m ≡ Legal c → scan f c m (rows_in m) 0 ≡ None
      → Found f queue n k e (storedIn m (after_command (Legal c) (control_of m))) m₂ → Found f queue n (suc k) e m m₂
  unfolding advanced
  after-consume m m₂ k e c a legal nothing later =
      record {
        control_word = later.control_word ∙ ap (λ (w : ℕ). closing e (advanced f queue k w)) word;
        gone = went;
        illegal = λ r. ap (λ (w : ℕ). is_illegal (command_at f queue w k)) (sym word) ∙ later.illegal r;
        early = λ i h. ⊎_elim (λ q. inl (q ∙ memory.word-stored m v i)) (λ z. inr (z.0, onward i z.1)) (later.early i h);
        others = memory.untouched-stored n m m₂ v later.others;
      }
    where
      v : ℕ
      v = after_command (Legal c) (control_of m)

      -- the control word that the memory goes on with
      word : control_of (storedIn m v) ≡ after_command (at_rd f queue m) (control_of m)
      word = memory.control-stored m (memory.accepted-whole m n a) v ∙ ap (λ (d : Decoded). after_command d (control_of m)) (sym legal)

      went : (t : ℕ) → t < suc k → Consumed f queue n m m₂ t
      went zero h =
          record {
            command = c;
            is_command = legal;
            gone = λ i l. never-again (storedIn m v) m₂ k e later c i l
                (memory.scoped_stored f c m v i ∙ none (scoped_at f c m) (rows_in m) 0 (omega arith) (sym (from_zero (scoped_at f c m) (rows_in m)) ∙ nothing) i (omega arith) (rw (memory.rows_are m n a) l));
          }
      went (suc t) h =
          let z = later.gone t (omega arith) in
          record { command = z.command; is_command = ap (λ (w : ℕ). command_at f queue w t) (sym word) ∙ z.is_command; gone = z.gone }

      onward : (i : ℕ) → WasInScope f queue (storedIn m v) k e i → WasInScope f queue m (suc k) e i
      onward i z =
          record {
            which = suc z.which;
            command = z.command;
            reached = ⊎_elim (λ h. inl (omega arith)) (λ h. inr (ap suc h.0, h.1)) z.reached;
            is_command = ap (λ (w : ℕ). command_at f queue w z.which) (sym word) ∙ z.is_command;
            within_scope = sym (memory.scoped_stored f z.command m v i) ∙ z.within_scope;
          }

  abbrev After : Memory → Out Memory → Type 0
  After m o = Found f queue n o.ran.consumed o.ran.end m o.memory

  by_case : (k : ℕ) (m m' : Memory) (w : What) → Accepts m n → due_in f queue m ≡ stores w m' → ((m'' : Memory) → Accepts m'' n → After m'' (run f queue k m''))
      → IsDue f queue m w m' → Case f queue m w m' → After m (next (run f queue k) (stores w m') m)
  by_case k m m' w a e ih d (removes c i legal low what stored) =
      let accepted : Accepts (cleared m i) n = rw stored at (store-accepted f queue n m m' w a e) in
      let word = memory.control-cleared m i in
      let on : control.standing (control_of (cleared m i)) ≡ None = ap control.standing word ∙ d.open_for_it in
      let same : at_rd f queue (cleared m i) ≡ Legal c = ap (λ (x : ℕ). decode_at f queue (control.slot x)) word ∙ legal in
      rw (what, stored, zero-add) (after_remove m _ _ _ c i a legal low (reaches f queue k (cleared m i) c on same) (ih (cleared m i) accepted))
  by_case k m m' w a e ih d (consumes c legal nothing what stored) =
      let accepted = rw stored at (store-accepted f queue n m m' w a e) in
      rw (what, stored, one-add) (after-consume m _ _ _ c a legal nothing (ih _ accepted))
  by_case k m m' w a e ih d (raises why illegal what stored) = rw (what, stored) (raised-found why m a illegal)

  by_next : (k : ℕ) (m : Memory) (d : Next Memory) → due_in f queue m ≡ d → Accepts m n → ((m'' : Memory) → Accepts m'' n → After m'' (run f queue k m'')) → After m (next (run f queue k) d m)
  by_next k m (rests r) e a ih = rest-still r m
  by_next k m (stores w m') e a ih = let d = is_due f queue m w m' e in by_case k m m' w a e ih d d.kind

  by_last : (m : Memory) (d : Next Memory) → After m (last d m)
  by_last m (rests r) = rest-still r m
  by_last m (stores w m') = still Cut m refl (λ r. omega (arith, r))

  -- for every allowance, and whatever the end
  pub found_after : (k : ℕ) (m : Memory) → Accepts m n → Found f queue n (run f queue k m).ran.consumed (run f queue k m).ran.end m (run f queue k m).memory
  unfolding run_by
  found_after zero m a = by_last m (due_in f queue m)
  found_after (suc k) m a = by_next k m (due_in f queue m) refl a (λ m'' b. found_after k m'' b)

  -- so a row that was in the scope of a consumed command has word 0 zero
  pub consumed-empties : (k : ℕ) (m : Memory) → Accepts m n → (t i : ℕ) (c : Command) → t < (run f queue k m).ran.consumed → i < n
      → command_at f queue (control_of m) t ≡ Legal c → scoped_at f c m i ≡ true → word0 (run f queue k m).memory i ≡ 0
  consumed-empties k m a t i c h l is scope =
      let m' = (run f queue k m).memory in
      let found = found_after k m a in
      let z = found.gone t h in
      let same : z.command ≡ c = cc z.is_command in
      ⊎_elim
      (λ s. clash (memory.same_scopes f c n m m' found.others i s ∙ scope) (rw same at (z.gone i l)))
      (λ e. e.0)
      (found.early i l)
