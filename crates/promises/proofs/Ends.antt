-- Document 01, One run: a run ends Off, Held, Empty, Raised or Cut, and each says what it should.
-- Assumes nothing.
use mathlib.Core.Path.{◌≡◌, refl, sym, ap, ap₂, ◌∙◌}
use mathlib.Core.Bool.{Bool, true, false}
use mathlib.Core.List.{List}
use mathlib.Core.Logic.{◌⊎◌, inl, inr}
use Prim.Native.Nat.{ℕ, zero, suc}
use native.Mathlib.Omega.{arith}
use lib.Dec.{eqb}
use borrow.Author.Tests.{eqb-true, eqb-false}
use Rattle.std.specs.Prelude.{None, Some}
use Rattle.words.specs.Choice.{pick}
use Rattle.control.specs.Control as control
use Rattle.control.specs.declared.Rest.{Rest}
use Rattle.control.specs.declared.Rest.TheVariants.{Off as Rest-as-Off, Held as Rest-as-Held, Empty as Rest-as-Empty}
use Rattle.control_stores.specs.Stores as control-stores
use Rattle.commands.specs.declared.Features.{Features}
use Rattle.commands.specs.declared.Decoded.TheVariants.{Illegal}
use Rattle.commands.specs.Decoding.{decode_at}
use Rattle.commands.specs.declared.Reason.{Reason}
use Rattle.memory.specs.Memory.{Memory, control_of}
use Rattle.memory.proofs.Laws.{Accepts}
use Rattle.due.specs.Due.{Remove, Consume, Raise, raising_at}
use Rattle.runs.specs.declared.End.{End}
use Rattle.runs.specs.declared.End.TheVariants.{Off, Held, Empty, Raised, Cut}
use Rattle.runs.specs.Running.{Next, rests, stores, last, next, run_by, end_of, due_in, run}
use Rattle.promises.specs.Found.{advanced, command_at, closing}
use Rattle.promises.specs.Ends.{IsOff, IsHeld, IsEmpty, Means}
use Rattle.promises.proofs.Resume.{rest_unraised}
use Rattle.promises.proofs.Sums.{cut-means}
use Rattle.promises.proofs.Cases.{rests-at, open_stores}
use Rattle.promises.proofs.Finding.{found_after}
use Rattle.promises.proofs.IllegalCommands.{raised-slot}
use Rattle.promises.proofs.RunCalls.{raised-run, error-tells}

-- a rest is known by its end
abbrev rest_of : End → Rest
rest_of Off = Rest-as-Off
rest_of Held = Rest-as-Held
rest_of Empty = Rest-as-Empty
rest_of (Raised told) = Rest-as-Empty
rest_of Cut = Rest-as-Empty

rest_of_end : (r : Rest) → rest_of (end_of r) ≡ r
rest_of_end Rest-as-Off = refl
rest_of_end Rest-as-Held = refl
rest_of_end Rest-as-Empty = refl

same_rest : (r r' : Rest) → end_of r ≡ end_of r' → r ≡ r'
same_rest r r' e = sym (rest_of_end r) ∙ ap rest_of e ∙ rest_of_end r'

-- an end that is no rest
cut_rests_not : (r : Rest) → Cut ≡ end_of r → ⊥
cut_rests_not Rest-as-Off e = let z : ◌≡◌ {A = ℕ} 0 1 = cc in omega arith
cut_rests_not Rest-as-Held e = let z : ◌≡◌ {A = ℕ} 0 1 = cc in omega arith
cut_rests_not Rest-as-Empty e = let z : ◌≡◌ {A = ℕ} 0 1 = cc in omega arith

-- where a run ends at rest, nothing is due in the memory that it leaves, whatever says what is due
module _ {M : Type 0} (f : M → Next M) (r : Rest) where
  left-last : (m : M) (d : Next M) → f m ≡ d → (last d m).ran.end ≡ end_of r → f (last d m).memory ≡ rests r
  left-last m (rests r') same e = same ∙ ap rests (same_rest r' r e)
  left-last m (stores w m') same e = absurd (cut_rests_not r e)

  left-next : (k : ℕ) (m : M) (d : Next M) → f m ≡ d → ((m' : M) → (run_by f k m').ran.end ≡ end_of r → f (run_by f k m').memory ≡ rests r)
      → (next (run_by f k) d m).ran.end ≡ end_of r → f (next (run_by f k) d m).memory ≡ rests r
  left-next k m (rests r') same ih e = same ∙ ap rests (same_rest r' r e)
  left-next k m (stores Remove m') same ih e = ih m' e
  left-next k m (stores (Consume y) m') same ih e = ih m' e
  left-next k m (stores (Raise told) m') same ih e = absurd (rest_unraised r told (sym e))

  pub rest-left : (k : ℕ) (m : M) → (run_by f k m).ran.end ≡ end_of r → f (run_by f k m).memory ≡ rests r
  unfolding run_by
  rest-left zero m e = left-last m (f m) refl e
  rest-left (suc k) m e = left-next k m (f m) refl (λ m' q. rest-left k m' q) e

-- what a resting control word says, part by part
data Reading (off held empty : Bool) : Rest → Type 0 where
  is_off : off ≡ true → Reading off held empty Rest-as-Off
  is_held : off ≡ false → held ≡ true → Reading off held empty Rest-as-Held
  ends_empty : off ≡ false → held ≡ false → empty ≡ true → Reading off held empty Rest-as-Empty

reading : (off held empty : Bool) (r : Rest) → pick off (Some Rest-as-Off) (pick held (Some Rest-as-Held) (pick empty (Some Rest-as-Empty) None)) ≡ Some r → Reading off held empty r
reading true held empty r e = let s : Rest-as-Off ≡ r = cc in rw (← s) (is_off refl)
reading false true empty r e = let s : Rest-as-Held ≡ r = cc in rw (← s) (is_held refl refl)
reading false false true r e = let s : Rest-as-Empty ≡ r = cc in rw (← s) (ends_empty refl refl refl)
reading false false false r e = let z : ◌≡◌ {A = ℕ} 0 1 = cc in absurd (omega arith)

read_word : (w : ℕ) (r : Rest) → control.standing w ≡ Some r → Reading (eqb (control.cmdqen w) 0) (control.active w) (eqb (control.rd w) (control.wr w)) r
unfolding control.standing
read_word w r e = reading (eqb (control.cmdqen w) 0) (control.active w) (eqb (control.rd w) (control.wr w)) r e

off-word : (w : ℕ) → Reading (eqb (control.cmdqen w) 0) (control.active w) (eqb (control.rd w) (control.wr w)) Rest-as-Off → IsOff w
off-word w (is_off a) = record { disabled = eqb-true (control.cmdqen w) 0 a }

held_word : (w : ℕ) → Reading (eqb (control.cmdqen w) 0) (control.active w) (eqb (control.rd w) (control.wr w)) Rest-as-Held → IsHeld w
held_word w (is_held a b) = record { enabled = eqb-false (control.cmdqen w) 0 a; in_error = b }

empty-word : (w : ℕ) → Reading (eqb (control.cmdqen w) 0) (control.active w) (eqb (control.rd w) (control.wr w)) Rest-as-Empty → IsEmpty w
empty-word w (ends_empty a b c) =
    record { enabled = eqb-false (control.cmdqen w) 0 a; quiet = b; none-waits = eqb-true (control.rd w) (control.wr w) c }

same-reason : {a b : Reason} → Illegal a ≡ Illegal b → a ≡ b
same-reason e = cc

module _ (f : Features) (queue : List ℕ) (n : ℕ) where
  at_rest : (r : Rest) (k : ℕ) (m : Memory) → (run f queue k m).ran.end ≡ end_of r
      → Reading (eqb (control.cmdqen (control_of (run f queue k m).memory)) 0) (control.active (control_of (run f queue k m).memory)) (eqb (control.rd (control_of (run f queue k m).memory)) (control.wr (control_of (run f queue k m).memory))) r
  at_rest r k m e =
      read_word (control_of (run f queue k m).memory) r (rests-at f queue (run f queue k m).memory r (rest-left (due_in f queue) r k m e))

  -- every end, at every allowance
  pub ends : (k : ℕ) (m : Memory) → Accepts m n → Means f queue k (run f queue k m).ran.end (run f queue k m)
  ends k m a = by_end (run f queue k m).ran.end refl
    where
      by_end : (e : End) → (run f queue k m).ran.end ≡ e → Means f queue k e (run f queue k m)
      by_end Off e = off-word (control_of (run f queue k m).memory) (at_rest Rest-as-Off k m e)
      by_end Held e = held_word (control_of (run f queue k m).memory) (at_rest Rest-as-Held k m e)
      by_end Empty e = empty-word (control_of (run f queue k m).memory) (at_rest Rest-as-Empty k m e)
      by_end (Raised told) e = (raised-run f queue n told k m a e).is-raised
      by_end Cut e = cut-means (due_in f queue) k m e

  -- CERROR_ILL the other way round: a run that comes to an illegal command raises the error there, if it may still store
  pub comes-to-illegal : (why : Reason) (k : ℕ) (m : Memory) → Accepts m n
      → control.standing (advanced f queue (run f queue k m).ran.consumed (control_of m)) ≡ None
      → command_at f queue (control_of m) (run f queue k m).ran.consumed ≡ Illegal why
      → ((run f queue k m).ran.end ≡ Raised (raising_at why (advanced f queue (run f queue k m).ran.consumed (control_of m)))) ⊎ (((run f queue k m).ran.end ≡ Cut) × ((run f queue k m).ran.stores ≡ k))
  comes-to-illegal why k m a on illegal = by_end (run f queue k m).ran.end refl
    where
      never : (r : Rest) → (run f queue k m).ran.end ≡ end_of r → closing (end_of r) (advanced f queue (run f queue k m).ran.consumed (control_of m)) ≡ advanced f queue (run f queue k m).ran.consumed (control_of m) → ⊥
      never r e same =
          let word : control_of (run f queue k m).memory ≡ advanced f queue (run f queue k m).ran.consumed (control_of m) = rw e at (found_after f queue n k m a).control_word ∙ same in
          open_stores f queue (run f queue k m).memory r (ap control.standing word ∙ on) (rest-left (due_in f queue) r k m e)

      by_end : (e : End) → (run f queue k m).ran.end ≡ e
          → ((run f queue k m).ran.end ≡ Raised (raising_at why (advanced f queue (run f queue k m).ran.consumed (control_of m)))) ⊎ (((run f queue k m).ran.end ≡ Cut) × ((run f queue k m).ran.stores ≡ k))
      by_end Off e = absurd (never Rest-as-Off e refl)
      by_end Held e = absurd (never Rest-as-Held e refl)
      by_end Empty e = absurd (never Rest-as-Empty e refl)
      by_end (Raised told) e =
          let w = advanced f queue (run f queue k m).ran.consumed (control_of m) in
          let t = error-tells f queue n told k m a e in
          let word : control_of (run f queue k m).memory ≡ control-stores.raised w = rw e at (found_after f queue n k m a).control_word in
          let slot : control.slot (control_of (run f queue k m).memory) ≡ control.slot w = ap control.slot word ∙ raised-slot w in
          let same : told.why ≡ why = same-reason (sym t.reason ∙ ap (λ (s : ℕ). decode_at f queue s) slot ∙ illegal) in
          inl (e ∙ ap Raised (ap₂ (λ (a : Reason) (b : ℕ). record { why = a; slot = b }) same (t.slot ∙ slot)))
      by_end Cut e = inr (e, (cut-means (due_in f queue) k m e).all)
