-- How a run goes on by what is due, and how its counts add up: the invariants of its two loops.
-- Assumes nothing.
use mathlib.Core.Path.{◌≡◌, refl, sym, ap, ◌∙◌}
use mathlib.Core.List.{List}
use Prim.Native.Nat.{ℕ, zero, suc, ◌+◌, ◌*◌, ◌-◌, ◌^◌, ◌≤◌, ◌<◌}
use native.Mathlib.Nat.{sub-zero}
use native.Mathlib.Omega.{arith}
use lib.ListN.{length}
use mir.Val.{Fits}
use mir.Syntax.{w64}
use Rattle.std.specs.Prelude.{None, Option, Some}
use Rattle.control.specs.Control as control
use Rattle.control.specs.declared.Rest.{Rest}
use Rattle.commands.specs.declared.Features.{Features}
use Rattle.commands.specs.declared.Command.{Command}
use Rattle.commands.specs.declared.Decoded.{Decoded}
use Rattle.commands.specs.declared.Decoded.TheVariants.{Legal, Illegal}
use Rattle.commands.specs.Decoding.{decode_at, syncs_of}
use Rattle.image.specs.Image as image
use Rattle.regions.specs.Table as regions
use Rattle.memory.specs.Memory.{Memory, control_of, rows_in, cleared, Whole, SameSize}
use Rattle.memory.proofs.Laws.{control-stored, stored-whole, cleared-whole, control-cleared, size_refl, size-through, size-stored, size-cleared, rows-stored, rows-cleared}
use Rattle.due.specs.declared.Stepped.{Stepped}
use Rattle.due.specs.declared.Raising.{Raising}
use Rattle.due.specs.declared.Stepped.TheVariants.{Removed, Consumed, DidRaise}
use Rattle.due.specs.Due.{Due, scan, by_scan, after_command, NoneBelow, due_for, due, Ready, Made}
use Rattle.due.proofs.Scans.{lowest-scoped, continues}
use Rattle.due.proofs.Asked.{Removes, due-removes}
use Rattle.due.proofs.Consuming.{after-keeps}
use Rattle.runs.specs.declared.End.{End}
use Rattle.runs.specs.declared.End.TheVariants.{Raised, Cut}
use Rattle.runs.specs.declared.Ran.{Ran}
use Rattle.runs.specs.Running.{Out, Next, rests, rested, plus, last, next, run_by, next_of, due_in, run, end_of, Does, Fit}

module _ {M : Type 0} where
  pub plus-plus : (c s r y c₁ s₁ r₁ y₁ c₂ s₂ r₂ y₂ : ℕ) (o : Out M) → c + c₁ ≡ c₂ → s + s₁ ≡ s₂ → r + r₁ ≡ r₂ → y + y₁ ≡ y₂
      → plus c s r y (plus c₁ s₁ r₁ y₁ o) ≡ plus c₂ s₂ r₂ y₂ o
  plus-plus c s r y c₁ s₁ r₁ y₁ c₂ s₂ r₂ y₂ o ec es er ey =
      let pc : c + (c₁ + o.ran.consumed) ≡ c₂ + o.ran.consumed = omega arith in
      let ps : s + (s₁ + o.ran.stores) ≡ s₂ + o.ran.stores = omega arith in
      let pr : r + (r₁ + o.ran.removed) ≡ r₂ + o.ran.removed = omega arith in
      let py : y + (y₁ + o.ran.syncs) ≡ y₂ + o.ran.syncs = omega arith in
      λ i. record { ran = record { end = o.ran.end; consumed = pc i; stores = ps i; removed = pr i; syncs = py i }; memory = o.memory }

  pub plus-zero : (o : Out M) → plus 0 0 0 0 o ≡ o
  plus-zero o =
      let pc : 0 + o.ran.consumed ≡ o.ran.consumed = omega arith in
      let ps : 0 + o.ran.stores ≡ o.ran.stores = omega arith in
      let pr : 0 + o.ran.removed ≡ o.ran.removed = omega arith in
      let py : 0 + o.ran.syncs ≡ o.ran.syncs = omega arith in
      λ i. record { ran = record { end = o.ran.end; consumed = pc i; stores = ps i; removed = pr i; syncs = py i }; memory = o.memory }

module _ {M : Type 0} (f : M → Next M) (m : M) where
  pub run-rests : (k : ℕ) (e : Rest) → f m ≡ rests e → run_by f k m ≡ rested (end_of e) m
  unfolding run_by
  run-rests zero e d = rw d
  run-rests (suc k) e d = rw d

  pub run-last : run_by f 0 m ≡ last (f m) m
  unfolding run_by
  run-last = refl

  pub run-next : (k : ℕ) → 0 < k → run_by f k m ≡ next (run_by f (k - 1)) (f m) m
  unfolding run_by
  run-next zero h = absurd (omega arith)
  run-next (suc k) h = let e : suc k - 1 ≡ k = omega arith in rw e

pub due-rests : (f : Features) (queue : List ℕ) (m : Memory) (e : Rest) → control.standing (control_of m) ≡ Some e → due_in f queue m ≡ rests e
unfolding due
due-rests f queue m e h = rw h

-- something is always due for a command
cut-scan : (c : Command) (w : ℕ) (x : Option ℕ) (m : Memory) → last (next_of (by_scan c w x) m) m ≡ rested Cut m
cut-scan c w (Some i) m = refl
cut-scan c w None m = refl

pub due_cuts : (f : Features) (d : Decoded) (m : Memory) → last (next_of (due_for f d m) m) m ≡ rested Cut m
unfolding due_for
due_cuts f (Legal c) m = cut-scan c (control_of m) (scan f c m (rows_in m) 0) m
due_cuts f (Illegal why) m = refl

-- what every turn keeps: sizes, and that the counts fit
pub record Kept (A : ℕ) (m₀ : Memory) (queue : List ℕ) (m : Memory) (left c s r y : ℕ) : Type 0 where
  pub long : SameSize m m₀
  pub room : Whole m
  pub few : rows_in m ≤ image.max_rows + regions.max_rows
  pub slots : length queue ≡ 16 * 2 ^ control.log2size (control_of m)
  pub spent : s + left ≡ A
  pub bound : A < 2 ^ 64
  pub cs : c ≤ s
  pub rs : r ≤ s
  pub ys : y ≤ c

-- as the rows are gone through for the command d at the control word w; what has the mark ₀ is as the rows were begun
pub record Rows (m₀ : Memory) (queue : List ℕ) (f : Features) (A left₀ c₀ s₀ r₀ y₀ w : ℕ) (d : Decoded) (sync : ℕ) (m : Memory) (left c s r y from : ℕ) : Type 0 where
  pub kept : Kept A m₀ queue m left c s r y
  pub so_far : plus c₀ s₀ r₀ y₀ (run f queue left₀ m₀) ≡ plus c s r y (run f queue left m)
  pub word : control_of m ≡ w
  pub asks : d ≡ decode_at f queue (control.slot w)
  pub counts : sync ≡ syncs_of d
  pub one : sync ≤ 1
  pub on : control.standing w ≡ None
  pub ready : Ready f d from m
  pub less : left ≤ left₀

module _ {m₀ : Memory} {queue : List ℕ} {f : Features} {A left₀ c₀ s₀ r₀ y₀ w : ℕ} {d : Decoded} {sync : ℕ} {m : Memory} {left c s r y from : ℕ} (now : Rows m₀ queue f A left₀ c₀ s₀ r₀ y₀ w d sync m left c s r y from) where
  is_due : due_in f queue m ≡ next_of (due_for f d m) m
  unfolding due
  is_due = rw (now.word, now.on, now.asks)

  pub go_cut : left ≡ 0 → plus c₀ s₀ r₀ y₀ (run f queue left₀ m₀) ≡ plus c s r y (rested Cut m)
  go_cut z =
      now.so_far
      ∙ ap (plus c s r y) (ap (λ (k : ℕ). run f queue k m) z ∙ run-last (due_in f queue) m ∙ ap (λ (x : Next Memory). last x m) is_due ∙ due_cuts f d m)

  module _ (some : left ≡ 0 → ⊥) where
    turned : (x : Due) → due_for f d m ≡ x → plus c₀ s₀ r₀ y₀ (run f queue left₀ m₀) ≡ plus c s r y (next (run f queue (left - 1)) (next_of x m) m)
    turned x e =
        now.so_far
        ∙ ap (plus c s r y)
        (run-next (due_in f queue) m left (omega arith) ∙ ap (λ (z : Next Memory). next (run f queue (left - 1)) z m) (is_due ∙ ap (λ (z : Due). next_of z m) e))

    pub go_raise : {m' : Memory} {did : Stepped} {told : Raising} → Made f d m m' did → did ≡ DidRaise told
        → plus c₀ s₀ r₀ y₀ (run f queue left₀ m₀) ≡ plus c (s + 1) r y (rested (Raised told) m')
    go_raise {told = told} made e =
        let t = rw e at made in
        turned _ t.is_due ∙ plus-plus c s r y 0 1 0 0 c (s + 1) r y _ (omega arith) refl (omega arith) (omega arith)
        ∙ ap (λ (x : Memory). plus c (s + 1) r y (rested (Raised told) x)) (sym t.stored)

    pub go_consume : {m' : Memory} {did : Stepped} → Made f d m m' did → did ≡ Consumed → plus c₀ s₀ r₀ y₀ (run f queue left₀ m₀) ≡ plus (c + 1) (s + 1) r (y + sync) (run f queue (left - 1) m')
    go_consume made e =
        let t = rw e at made in
        turned _ t.is_due ∙ plus-plus c s r y 1 1 0 (syncs_of d) (c + 1) (s + 1) r (y + sync) _ refl refl (omega arith) (omega (arith, now.counts))
        ∙ ap (λ (x : Memory). plus (c + 1) (s + 1) r (y + sync) (run f queue (left - 1) x)) (sym t.stored)

    -- the memory after a row went
    after_remove : {m' : Memory} {did : Stepped} (i : ℕ) → Made f d m m' did → did ≡ Removed i → m' ≡ cleared m i
    after_remove i made e = let t = rw e at made in t.stored

    still_none : (i : ℕ) → Removes f d m i → NoneBelow f d (cleared m i) (i + 1)
    still_none i h =
        let low = lowest-scoped f h.command m (rows_in m) i h.lowest_row in
        let same = rows-cleared m i in
        rw h.legal (rw same (continues f h.command m i now.ready.room low))

    pub go_remove : {m' : Memory} {did : Stepped} (i : ℕ) → Made f d m m' did → did ≡ Removed i
        → Rows m₀ queue f A left₀ c₀ s₀ r₀ y₀ w d sync m' (left - 1) c (s + 1) (r + 1) y (i + 1)
    go_remove {m'} i made e =
        let t = rw e at made in
        let h = due-removes f d m i t.is_due in
        let low = lowest-scoped f h.command m (rows_in m) i h.lowest_row in
        let rows : rows_in m' ≡ rows_in m = ap rows_in t.stored ∙ rows-cleared m i in
        let word : control_of m' ≡ control_of m = ap control_of t.stored ∙ control-cleared m i in
        let whole : Whole m' = rw t.stored (cleared-whole m now.kept.room i) in
        record {
          kept = record {
            long = rw t.stored (size-through (size-cleared m i) now.kept.long);
            room = whole;
            few = rw rows now.kept.few;
            slots = rw word now.kept.slots;
            spent = omega (arith, now.kept.spent);
            bound = now.kept.bound;
            cs = omega (arith, now.kept.cs);
            rs = omega (arith, now.kept.rs);
            ys = now.kept.ys;
          };
          so_far =
              turned _ t.is_due ∙ plus-plus c s r y 0 1 1 0 c (s + 1) (r + 1) y _ (omega arith) refl refl (omega arith)
              ∙ ap (λ (x : Memory). plus c (s + 1) (r + 1) y (run f queue (left - 1) x)) (sym t.stored);
          word = word ∙ now.word;
          asks = now.asks;
          counts = now.counts;
          one = now.one;
          on = now.on;
          ready = record {
            room = whole;
            high = omega (arith, low.below, rows);
            none_below = rw t.stored (still_none i h);
          };
          less = omega (arith, now.less);
        }

-- a run's end: what was counted is the answer
pub ended : (f : Features) (queue : List ℕ) (A : ℕ) (m₀ m : Memory) (e : End) (c s r y : ℕ) → run f queue A m₀ ≡ plus c s r y (rested e m)
    → Does f queue A m₀ m (record { end = e; consumed = c; stores = s; removed = r; syncs = y })
ended f queue A m₀ m e c s r y p =
    let pc : c ≡ c + 0 = omega arith in
    let ps : s ≡ s + 0 = omega arith in
    let pr : r ≡ r + 0 = omega arith in
    let py : y ≡ y + 0 = omega arith in
    let same : ◌≡◌ {A = Ran} (record { end = e; consumed = c; stores = s; removed = r; syncs = y }) (record { end = e; consumed = c + 0; stores = s + 0; removed = r + 0; syncs = y + 0 }) =
    λ i. record { end = e; consumed = pc i; stores = ps i; removed = pr i; syncs = py i } in
    record { answers = same ∙ ap (λ (o : Out Memory). o.ran) (sym p); leaves = ap (λ (o : Out Memory). o.memory) (sym p) }

-- at each turn of the whole run; M is the memory at entry
pub record Turns (M : Memory) (queue : List ℕ) (f : Features) (A : ℕ) (m : Memory) (left c s r y : ℕ) : Type 0 where
  pub kept : Kept A M queue m left c s r y
  pub so_far : run f queue A M ≡ plus c s r y (run f queue left m)

pub begun : (M : Memory) (queue : List ℕ) (f : Features) (A : ℕ) → Fit queue M → Fits w64 A → Turns M queue f A M A 0 0 0 0
begun M queue f A fit small =
    record {
      kept = record { long = size_refl M; room = fit.room; few = fit.few; slots = fit.slots; spent = omega arith; bound = small.fits; cs = omega arith; rs = omega arith; ys = omega arith };
      so_far = sym (plus-zero _);
    }

module _ {M : Memory} {queue : List ℕ} {f : Features} {A : ℕ} {m₀ : Memory} {left₀ c₀ s₀ r₀ y₀ : ℕ} (turns : Turns M queue f A m₀ left₀ c₀ s₀ r₀ y₀) where
  pub rest_end : {st : Option Rest} {rest : Rest} {e : End} → st ≡ control.standing (control_of m₀) → st ≡ Some rest → e ≡ end_of rest
      → Does f queue A M m₀ (record { end = e; consumed = c₀; stores = s₀; removed = r₀; syncs = y₀ })
  rest_end {rest = rest} {e = e} a b h =
      rw h
      (ended f queue A M m₀ (end_of rest) c₀ s₀ r₀ y₀
      (turns.so_far ∙ ap (plus c₀ s₀ r₀ y₀) (run-rests (due_in f queue) m₀ left₀ rest (due-rests f queue m₀ rest (sym a ∙ b)))))

  pub opened : {st : Option Rest} {d : Decoded} {sync : ℕ} → st ≡ control.standing (control_of m₀) → st ≡ None → d ≡ decode_at f queue (control.slot (control_of m₀)) → (sync ≡ syncs_of d) × (sync ≤ 1)
      → Rows m₀ queue f A left₀ c₀ s₀ r₀ y₀ (control_of m₀) d sync m₀ left₀ c₀ s₀ r₀ y₀ 0
  opened {d = d} a b asks count =
      let k = turns.kept in
      record {
        kept = record { long = size_refl m₀; room = k.room; few = k.few; slots = k.slots; spent = k.spent; bound = k.bound; cs = k.cs; rs = k.rs; ys = k.ys };
        so_far = refl;
        word = refl;
        asks = asks;
        counts = count.0;
        one = count.1;
        on = sym a ∙ b;
        ready = record { room = k.room; high = omega arith; none_below = first d };
        less = omega arith;
      }
    where
      first : (x : Decoded) → NoneBelow f x m₀ 0
      first (Legal c) = rw sub-zero
      first (Illegal why) = refl

  module _ {w : ℕ} {d : Decoded} {sync : ℕ} {m : Memory} {left c s r y from : ℕ} (now : Rows m₀ queue f A left₀ c₀ s₀ r₀ y₀ w d sync m left c s r y from) where
    pub cut-end : left ≡ 0 → Does f queue A M m (record { end = Cut; consumed = c; stores = s; removed = r; syncs = y })
    cut-end z = ended f queue A M m Cut c s r y (turns.so_far ∙ go_cut now z)

    pub raise-end : {m' : Memory} {did : Stepped} {told : Raising} → (left ≡ 0 → ⊥) → Made f d m m' did → did ≡ DidRaise told
        → Does f queue A M m' (record { end = Raised told; consumed = c; stores = s + 1; removed = r; syncs = y })
    raise-end {m'} {told = told} some made e = ended f queue A M m' (Raised told) c (s + 1) r y (turns.so_far ∙ go_raise now some made e)

    pub consumed-on : {m' : Memory} {did : Stepped} → (left ≡ 0 → ⊥) → Made f d m m' did → did ≡ Consumed
        → Turns M queue f A m' (left - 1) (c + 1) (s + 1) r (y + sync)
    consumed-on {m'} some made e =
        let t = rw e at made in
        let k = now.kept in
        let v = after_command d (control_of m) in
        let word : control_of m' ≡ v = ap control_of t.stored ∙ control-stored m k.room v in
        let size : control.log2size (control_of m') ≡ control.log2size (control_of m) = ap control.log2size word ∙ after-keeps d (control_of m) control.log2size_bits tt in
        record {
          kept = record {
            long = rw t.stored (size-through (size-stored m v) (size-through k.long turns.kept.long));
            room = rw t.stored (stored-whole m k.room v);
            few = rw (ap rows_in t.stored ∙ rows-stored m v) k.few;
            slots = rw size k.slots;
            spent = omega (arith, k.spent);
            bound = k.bound;
            cs = omega (arith, k.cs);
            rs = omega (arith, k.rs);
            ys = omega (arith, k.ys, now.one);
          };
          so_far = turns.so_far ∙ go_consume now some made e;
        }

pub from-fits : {m₀ : Memory} {queue : List ℕ} {f : Features} {A left₀ c₀ s₀ r₀ y₀ w : ℕ} {d : Decoded} {sync : ℕ} {m : Memory} {left c s r y from : ℕ} {m' : Memory} {did : Stepped} {i : ℕ}
    → Rows m₀ queue f A left₀ c₀ s₀ r₀ y₀ w d sync m left c s r y from → (left ≡ 0 → ⊥) → Made f d m m' did → did ≡ Removed i → Fits w64 (i + 1)
from-fits {i = i} now some made e =
    let n = go_remove now some i made e in
    record { fits = omega (arith, n.ready.high, n.kept.few) }
