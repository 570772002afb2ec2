-- The control word after a command is consumed: what of it moves, what stays, and that it stays well formed.
-- Assumes nothing.
use mathlib.Core.Path.{◌≡◌, refl, sym, ap, ◌∙◌}
use mathlib.Core.Bool.{Bool, true, false}
use mathlib.Core.List.{[], ◌∷◌}
use Prim.Native.Nat.{ℕ, zero, suc, ◌≤◌}
use lib.Dec.{T, eqb}
use borrow.Author.Tests.{eq-eqb, ne_eqb}
use Rattle.words.specs.Choice.{pick}
use Rattle.words.specs.Ranges.{Range, get}
use Rattle.words.proofs.Parts.{apart, all_apart}
use Rattle.words.proofs.Truth.{T-left, T-right}
use Rattle.indexes.specs.Indexes as indexes
use Rattle.indexes.proofs.Laws as indexed
use Rattle.control.specs.Control as control
use Rattle.control.proofs.Formed.{Formed}
use Rattle.control_stores.specs.Stores as control-stores
use Rattle.control_stores.proofs.AfterStores.{consumed-keeps, consumed-sets, consumed-formed, pended-keeps, pended-sets, pended-formed}
use Rattle.commands.specs.declared.Command.{Command}
use Rattle.commands.specs.declared.Decoded.{Decoded}
use Rattle.commands.specs.declared.Decoded.TheVariants.{Legal}
use Rattle.commands.specs.Decoding.{syncs_of}
use Rattle.due.specs.Due.{after_command, consumes}

module _ (w : ℕ) where
  abbrev next : ℕ
  next = control-stores.consumed w

  -- whether the interrupt comes to be pending or not
  keeps : (b : Bool) (r : Range) → T (apart control.rd_bits r) → T (apart control.pending_bits r) → get r (pick b (control-stores.pended next true) next) ≡ get r w
  keeps true r t u = pended-keeps next true r u ∙ consumed-keeps w r t
  keeps false r t u = consumed-keeps w r t

  sets-rd : (b : Bool) → Formed w → control.rd (pick b (control-stores.pended next true) next) ≡ indexes.next (control.log2size w) (control.rd w)
  sets-rd true f = pended-keeps next true control.rd_bits tt ∙ consumed-sets w f
  sets-rd false f = consumed-sets w f

  stays-formed : (b : Bool) → Formed w → (control.rd w ≡ control.wr w → ⊥) → Formed (pick b (control-stores.pended next true) next)
  stays-formed true f waits = pended-formed next true (consumed-formed w f waits)
  stays-formed false f waits = consumed-formed w f waits

  pends : (b : Bool) → control.pending (pick b (control-stores.pended next true) next) ≡ pick b 1 (control.pending w)
  pends true = pended-sets next true
  pends false = consumed-keeps w control.pending_bits tt

module _ (d : Decoded) (w : ℕ) where
  pub after-keeps : (r : Range) → T (all_apart consumes r) → get r (after_command d w) ≡ get r w
  unfolding after_command
  after-keeps r t =
      let rest = all_apart (control.pending_bits ∷ []) r in
      let u = T-right (apart control.rd_bits r) rest t in
      keeps w (eqb (syncs_of d) 1) r (T-left (apart control.rd_bits r) rest t) (T-left (apart control.pending_bits r) (all_apart [] r) u)

  pub after-rd : Formed w → control.rd (after_command d w) ≡ indexes.next (control.log2size w) (control.rd w)
  unfolding after_command
  after-rd f = sets-rd w (eqb (syncs_of d) 1) f

  pub after-formed : Formed w → (control.rd w ≡ control.wr w → ⊥) → Formed (after_command d w)
  unfolding after_command
  after-formed f waits = stays-formed w (eqb (syncs_of d) 1) f waits

  -- pending by this store, or as before
  pub after-pending : control.pending (after_command d w) ≡ pick (eqb (syncs_of d) 1) 1 (control.pending w)
  unfolding after_command
  after-pending = pends w (eqb (syncs_of d) 1)

  -- one command fewer waits
  pub after-distance : Formed w → (control.rd w ≡ control.wr w → ⊥) → control.distance w ≡ suc (control.distance (after_command d w))
  unfolding control.distance
  after-distance f waits = by-distance (indexes.distance (control.log2size w) (control.rd w) (control.wr w)) refl
    where
      by-distance : (n : ℕ) → indexes.distance (control.log2size w) (control.rd w) (control.wr w) ≡ n
          → indexes.distance (control.log2size w) (control.rd w) (control.wr w)
          ≡ suc (indexes.distance (control.log2size (after_command d w)) (control.rd (after_command d w)) (control.wr (after_command d w)))
      by-distance zero e = absurd (waits (indexed.none-waits (control.log2size w) (control.rd w) (control.wr w) f.waiting.rd_in f.waiting.wr_in e))
      by-distance (suc n) e =
          rw (after-keeps control.log2size_bits tt, after-rd f, after-keeps control.wr_bits tt)
          (e ∙ ap suc (sym (indexed.distance_next (control.log2size w) (control.rd w) (control.wr w) n e)))

-- as the code makes it
module _ (c : Command) (w next s : ℕ) (moved : next ≡ control-stores.consumed w) (count : (s ≡ syncs_of (Legal c)) × (s ≤ 1)) where
  pub made-pending : (r : ℕ) → s ≡ 1 → r ≡ control-stores.pended next true → r ≡ after_command (Legal c) w
  unfolding after_command
  made-pending r one e = rw (eq-eqb (syncs_of (Legal c)) 1 (sym count.0 ∙ one)) (e ∙ ap (λ (x : ℕ). control-stores.pended x true) moved)

  pub made_plain : (s ≡ 1 → ⊥) → next ≡ after_command (Legal c) w
  unfolding after_command
  made_plain other = rw (ne_eqb (syncs_of (Legal c)) 1 (λ e. other (count.0 ∙ e))) moved
