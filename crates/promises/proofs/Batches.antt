-- Document 02, T-12: what the check of a shortened batch promises, and that its yes is about runs.
-- Assumes nothing.
use mathlib.Core.Path.{◌≡◌, refl, sym, ap, ◌∙◌}
use mathlib.Core.Bool.{true, false}
use mathlib.Core.List.{List, []}
use mathlib.Core.Logic.{⊎_elim}
use Prim.Native.Nat.{ℕ, ◌+◌, ◌*◌, ◌^◌, ◌≤◌, ◌<◌}
use native.Mathlib.Omega.{arith}
use lib.ListN.{length, get_or}
use borrow.Author.Tests.{eq-eqb}
use Rattle.words.proofs.Truth.{clash, same_test, decided}
use Rattle.control.specs.Control as control
use Rattle.commands.specs.declared.Features.{Features}
use Rattle.commands.specs.declared.Command.{Command}
use Rattle.commands.specs.declared.Decoded.{Decoded}
use Rattle.commands.specs.declared.Decoded.TheVariants.{Legal, Illegal}
use Rattle.commands.specs.Decoding.{decode_at, is_illegal}
use Rattle.memory.specs.Memory.{Memory, control_of, word0, used_rows, scoped_at, stored, SameRows}
use Rattle.memory.proofs.Laws as memory
use Rattle.std.specs.Prelude.{Ok}
use Rattle.memory.proofs.Laws.{Accepts}
use Rattle.runs.specs.declared.End.TheVariants.{Empty, Cut}
use Rattle.runs.specs.Running.{run}
use Rattle.runs.specs.Call.{done, call}
use Rattle.runs.proofs.Calling.{goes_through}
use Rattle.batches.specs.declared.Comparison.TheVariants.{Same}
use Rattle.batches.specs.Batches.{is_whole, size, qualifies, carried_out, left, check}
use Rattle.batches.specs.Blocks.{takes, taken}
use Rattle.batches.specs.Yes.{Invalidations, Agree, Within}
use Rattle.batches.proofs.CarriedOut.{batch-went}
use Rattle.batches.proofs.Laws as laws
use Rattle.batches.proofs.ControlWord as control_word
use Rattle.promises.specs.Found.{command_at, WasInScope}
use Rattle.promises.specs.Legal.{AllLegal}
use Rattle.promises.specs.Batches.{Waits, EndsEmpty}
use Rattle.promises.proofs.Finding.{found_after, consumed-empties}
use Rattle.promises.proofs.Legal.{runs-empty}

module _ (f : Features) (m : Memory) where
  -- what a yes says, and that it is said wherever that holds
  pub yes-only-if : (original proposed : List ℕ) → check f original proposed m ≡ Ok Same → Agree f original proposed m
  yes-only-if original proposed e = laws.yes-says f original proposed m e

  pub yes-if : (n : ℕ) → Accepts m n → (original proposed : List ℕ) → Agree f original proposed m → check f original proposed m ≡ Ok Same
  yes-if n a original proposed s = laws.says-yes f original proposed m n a s

  -- a batch beside itself
  pub unchanged : (n : ℕ) → Accepts m n → (batch : List ℕ) → Invalidations f batch → check f batch batch m ≡ Ok Same
  unchanged n a batch fits = yes-if n a batch batch (record { original_fits = fits; proposed_fits = fits; same = refl })

  -- whoever made the proposal, and whichever of the two is called so
  pub turned : (a b : List ℕ) → check f a b m ≡ Ok Same → check f b a m ≡ Ok Same
  turned a b e =
      let s = yes-only-if a b e in
      let r = laws.yes-accepted f a b m e in
      yes-if r.rows r.accepted b a (record { original_fits = s.proposed_fits; proposed_fits = s.original_fits; same = sym s.same })

  -- step by step is as good as at once
  pub chained : (a b c : List ℕ) → check f a b m ≡ Ok Same → check f b c m ≡ Ok Same → check f a c m ≡ Ok Same
  chained a b c e g =
      let s = yes-only-if a b e in
      let t = yes-only-if b c g in
      let r = laws.yes-accepted f a b m e in
      yes-if r.rows r.accepted a c (record { original_fits = s.original_fits; proposed_fits = t.proposed_fits; same = s.same ∙ t.same })

  -- the same commands in any order, each as often as one likes
  within-taken : (a b : List ℕ) → Within f a b → (i : ℕ) → taken f a m i ≡ true → taken f b m i ≡ true
  within-taken a b w i e =
      let t = laws.by_one f a (size a) m i e in
      let p = w t.which t.below in
      laws.is-taken f b (size b) m i p.place p.below (ap (λ (d : Decoded). takes f d m i) p.same ∙ t.within_scope)

  pub any_order : (n : ℕ) → Accepts m n → (a b : List ℕ) → Invalidations f a → is_whole b ≡ true → Within f a b → Within f b a → check f a b m ≡ Ok Same
  any_order n accepted a b fits whole there back =
      yes-if n accepted a b
      (record {
        original_fits = fits;
        proposed_fits = record {
          whole = whole;
          each = λ k h. let p = back k h in ap qualifies (sym p.same) ∙ fits.each p.place p.below;
        };
        same = laws.same_taken f a b m n accepted (λ i h. same_test (taken f a m i) (taken f b m i) (within-taken a b there i) (within-taken b a back i));
      })

  -- an empty batch is legal, and leaves everything
  pub empty-fits : Invalidations f []
  empty-fits = record { whole = refl; each = λ k h. absurd (omega arith) }

  pub empty-leaves : left f [] m ≡ m
  unfolding carried_out
  empty-leaves = refl

-- nor does the control word matter, once it is well formed
pub whatever_control : (f : Features) (original proposed : List ℕ) (a b : Memory) → SameRows a b → control.well_formed (control_of a) ≡ true
    → control.well_formed (control_of b) ≡ true → check f original proposed a ≡ check f original proposed b
whatever_control f original proposed a b s p q = control_word.control_alone f original proposed a b s p q

record IsCommand (f : Features) (m : Memory) (d : Decoded) (i : ℕ) : Type 0 where
  command : Command
  is_command : d ≡ Legal command
  within_scope : scoped_at f command m i ≡ true

-- a run whose waiting commands are exactly a batch leaves the rows that the batch leaves
module _ (f : Features) (batch queue : List ℕ) (n k w : ℕ) (m : Memory) (accepted : Accepts m n) (fits : Invalidations f batch) (waits : Waits f batch queue w)
    (enough : used_rows m n + size batch ≤ k) where
  abbrev after : Memory
  after = (run f queue k (stored m w)).memory

  word : control_of (stored m w) ≡ w
  word = memory.control-stored m (memory.accepted-whole m n accepted) w

  begins : Accepts (stored m w) n
  begins = memory.stored-accepted m n accepted w waits.formed

  legal : (d : Decoded) → qualifies d ≡ true → is_illegal d ≡ false
  legal (Legal c) e = refl
  legal (Illegal why) e = clash e refl

  all-legal : AllLegal f queue (control_of (stored m w))
  all-legal =
      rw word
      (record {
        enabled = waits.enabled;
        quiet = waits.quiet;
        legal = λ t h. ap is_illegal (waits.are t (rw waits.as_many at h)) ∙ legal (decode_at f batch t) (fits.each t (rw waits.as_many at h));
      })

  ended : ((run f queue k (stored m w)).ran.end ≡ Empty) × ((run f queue k (stored m w)).ran.consumed ≡ size batch)
  ended =
      let r = runs-empty f queue n k (stored m w) begins all-legal (rw word (omega (arith, memory.used-stored m n w, waits.as_many, enough))) in
      (r.0, r.1 ∙ ap control.distance word ∙ waits.as_many)

  command : (t : ℕ) → t < size batch → command_at f queue (control_of (stored m w)) t ≡ decode_at f batch t
  command t h = rw word (waits.are t h)

  took : (d : Decoded) (i : ℕ) → takes f d m i ≡ true → IsCommand f m d i
  took (Legal c) i e = record { command = c; is_command = refl; within_scope = e }
  took (Illegal why) i e = clash e refl

  gone : (i : ℕ) → i < n → taken f batch m i ≡ true → word0 after i ≡ 0
  gone i h e =
      let t = laws.by_one f batch (size batch) m i e in
      let c = took (decode_at f batch t.which) i t.within_scope in
      consumed-empties f queue n k (stored m w) begins t.which i c.command (rw ended.1 t.below) h (command t.which t.below ∙ c.is_command)
      (memory.scoped_stored f c.command m w i ∙ c.within_scope)

  stays : (i : ℕ) → i < n → taken f batch m i ≡ false → word0 after i ≡ word0 m i
  stays i h e =
      ⊎_elim (λ q. q ∙ memory.word-stored m w i) (λ z. clash (was_taken z.1) e) ((found_after f queue n k (stored m w) begins).early i h)
    where
      was_taken : WasInScope f queue (stored m w) (run f queue k (stored m w)).ran.consumed (run f queue k (stored m w)).ran.end i → taken f batch m i ≡ true
      was_taken z = ⊎_elim consumed cut z.reached
        where
          cut : (z.which ≡ (run f queue k (stored m w)).ran.consumed) × ((run f queue k (stored m w)).ran.end ≡ Cut) → taken f batch m i ≡ true
          cut c = let q : ◌≡◌ {A = ℕ} 0 1 = cc (ended.0, c.1) in absurd (omega arith)

          consumed : z.which < (run f queue k (stored m w)).ran.consumed → taken f batch m i ≡ true
          consumed l =
              let below : z.which < size batch = rw ended.1 at l in
              laws.is-taken f batch (size batch) m i z.which below
              (ap (λ (d : Decoded). takes f d m i) (sym (command z.which below) ∙ z.is_command) ∙ sym (memory.scoped_stored f z.command m w i) ∙ z.within_scope)

  pub run-leaves : ((run f queue k (stored m w)).ran.end ≡ Empty) × SameRows after (left f batch m)
  run-leaves =
      let b = batch-went f batch m (memory.accepted-whole m n accepted) in
      let rows = memory.rows_are m n accepted in
      let u = memory.untouched-stored n m after w (found_after f queue n k (stored m w) begins).others in (
        ended.0,
        memory.same-words n m after (left f batch m) accepted u (rw rows at b.others)
            (λ i h. ⊎_elim
            (λ e. gone i h e ∙ sym (b.gone i (rw rows h) e))
            (λ e. stays i h e ∙ sym (b.stays i (rw rows h) e))
            (decided (taken f batch m i))),
      )

  -- of the call, which nothing refuses
  carried : call f queue k (stored m w) ≡ done (run f queue k (stored m w))
  carried =
      goes_through f queue k (stored m w) n begins
      ∙ rw (eq-eqb (length queue) (16 * 2 ^ control.log2size (control_of (stored m w))) (waits.long ∙ ap (λ (x : ℕ). 16 * 2 ^ control.log2size x) (sym word)))

  pub call-leaves : EndsEmpty (call f queue k (stored m w)).answer × SameRows (call f queue k (stored m w)).memory (left f batch m)
  call-leaves =
      rw carried
      (record { ran = (run f queue k (stored m w)).ran; is_done = refl; ends_empty = run-leaves.0 }, run-leaves.1)

-- after a yes, a run over either batch comes to its end, and the two leave one set of rows
module _ (f : Features) (m : Memory) (original proposed : List ℕ) (said : check f original proposed m ≡ Ok Same) where
  pub runs_agree : (n : ℕ) → Accepts m n → (queue₁ queue₂ : List ℕ) (w₁ w₂ k₁ k₂ : ℕ) → Waits f original queue₁ w₁ → Waits f proposed queue₂ w₂
      → used_rows m n + size original ≤ k₁ → used_rows m n + size proposed ≤ k₂
      → EndsEmpty (call f queue₁ k₁ (stored m w₁)).answer × EndsEmpty (call f queue₂ k₂ (stored m w₂)).answer
      × SameRows (call f queue₁ k₁ (stored m w₁)).memory (call f queue₂ k₂ (stored m w₂)).memory
  runs_agree n a queue₁ queue₂ w₁ w₂ k₁ k₂ p q h l =
      let s = yes-only-if f m original proposed said in
      let x = call-leaves f original queue₁ n k₁ w₁ m a s.original_fits p h in
      let y = call-leaves f proposed queue₂ n k₂ w₂ m a s.proposed_fits q l in (
        x.0,
        y.0,
        record {
          long = x.1.long ∙ ap (λ (z : Memory). length z.kept) s.same ∙ sym y.1.long;
          kept = λ i d. x.1.kept i d ∙ ap (λ (z : Memory). get_or z.kept i 0) s.same ∙ sym (y.1.kept i d);
          table = x.1.table ∙ ap (λ (z : Memory). z.table) s.same ∙ sym y.1.table;
        },
      )
