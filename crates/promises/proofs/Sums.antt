-- Document 01, One run: how the counts add up, and what Cut means, whatever says what is due.
-- Assumes nothing.
use mathlib.Core.Path.{◌≡◌, refl}
use Prim.Native.Nat.{ℕ, zero, suc, ◌+◌, ◌≤◌}
use native.Mathlib.Omega.{arith}
use Rattle.control.specs.declared.Rest.{Rest}
use Rattle.control.specs.declared.Rest.TheVariants.{Off as Rest-as-Off, Held as Rest-as-Held, Empty as Rest-as-Empty}
use Rattle.due.specs.Due.{What, Remove, Consume, Raise}
use Rattle.runs.specs.declared.End.TheVariants.{Cut}
use Rattle.runs.specs.Running.{Out, Next, rests, stores, plus, last, next, run_by, end_of}
use Rattle.promises.specs.Sums.{raise}
use Rattle.promises.specs.Ends.{Spent}
use Rattle.promises.proofs.Resume.{rest_uncut}

rest-raise : (r : Rest) → raise (end_of r) ≡ 0
rest-raise Rest-as-Off = refl
rest-raise Rest-as-Held = refl
rest-raise Rest-as-Empty = refl

module _ {M : Type 0} (f : M → Next M) where
  abbrev Adds : Out M → Type 0
  Adds o = o.ran.stores ≡ o.ran.removed + o.ran.consumed + raise o.ran.end

  adds-last : (m : M) (d : Next M) → Adds (last d m)
  adds-last m (rests r) = omega (arith, rest-raise r)
  adds-last m (stores w m') = refl

  adds-next : (k : ℕ) (m : M) (d : Next M) → ((m' : M) → Adds (run_by f k m')) → Adds (next (run_by f k) d m)
  adds-next k m (rests r) ih = omega (arith, rest-raise r)
  adds-next k m (stores Remove m') ih = omega (arith, ih m')
  adds-next k m (stores (Consume y) m') ih = omega (arith, ih m')
  adds-next k m (stores (Raise told) m') ih = refl

  -- one store a row, one a command, and one more where it raises
  pub stores-add-up : (k : ℕ) (m : M) → (run_by f k m).ran.stores ≡ (run_by f k m).ran.removed + (run_by f k m).ran.consumed + raise (run_by f k m).ran.end
  unfolding run_by
  stores-add-up zero m = adds-last m (f m)
  stores-add-up (suc k) m = adds-next k m (f m) (λ m'. stores-add-up k m')

  -- never more stores than allowed
  within-last : (m : M) (d : Next M) → (last d m).ran.stores ≤ 0
  within-last m (rests r) = omega arith
  within-last m (stores w m') = omega arith

  within-next : (k : ℕ) (m : M) (d : Next M) → ((m' : M) → (run_by f k m').ran.stores ≤ k) → (next (run_by f k) d m).ran.stores ≤ suc k
  within-next k m (rests r) ih = omega arith
  within-next k m (stores Remove m') ih = omega (arith, ih m')
  within-next k m (stores (Consume y) m') ih = omega (arith, ih m')
  within-next k m (stores (Raise told) m') ih = omega arith

  pub within-allowance : (k : ℕ) (m : M) → (run_by f k m).ran.stores ≤ k
  unfolding run_by
  within-allowance zero m = within-last m (f m)
  within-allowance (suc k) m = within-next k m (f m) (λ m'. within-allowance k m')

  spent-last : (m : M) (d : Next M) → f m ≡ d → (last d m).ran.end ≡ Cut → Spent f 0 (last d m)
  spent-last m (rests r) same cut = absurd (rest_uncut r cut)
  spent-last m (stores w m') same cut = record { all = refl; what = w; next-memory = m'; was_due = same }

  one_more : (k c r y : ℕ) (o : Out M) → Spent f k o → Spent f (suc k) (plus c 1 r y o)
  one_more k c r y o s = record { all = omega (arith, s.all); what = s.what; next-memory = s.next-memory; was_due = s.was_due }

  spent-next : (k : ℕ) (m : M) (d : Next M) → ((m' : M) → (run_by f k m').ran.end ≡ Cut → Spent f k (run_by f k m')) → (next (run_by f k) d m).ran.end ≡ Cut → Spent f (suc k) (next (run_by f k) d m)
  spent-next k m (rests r) ih cut = absurd (rest_uncut r cut)
  spent-next k m (stores Remove m') ih cut = one_more k 0 1 0 (run_by f k m') (ih m' cut)
  spent-next k m (stores (Consume y) m') ih cut = one_more k 1 0 y (run_by f k m') (ih m' cut)
  spent-next k m (stores (Raise told) m') ih cut = let z : ◌≡◌ {A = ℕ} 0 1 = cc in absurd (omega arith)

  -- Cut: the allowance is spent, and a store was due
  pub cut-means : (k : ℕ) (m : M) → (run_by f k m).ran.end ≡ Cut → Spent f k (run_by f k m)
  unfolding run_by
  cut-means zero m cut = spent-last m (f m) refl cut
  cut-means (suc k) m cut = spent-next k m (f m) (λ m' c. cut-means k m' c) cut

-- what each store keeps, the run keeps
module _ {M : Type 0} (f : M → Next M) (P : M → Type 0) (keep : (m m' : M) (w : What) → P m → f m ≡ stores w m' → P m') where
  keep-last : (m : M) (d : Next M) → P m → P (last d m).memory
  keep-last m (rests r) p = p
  keep-last m (stores w m') p = p

  keep-next : (k : ℕ) (m : M) (d : Next M) → f m ≡ d → ((m' : M) → P m' → P (run_by f k m').memory) → P m → P (next (run_by f k) d m).memory
  keep-next k m (rests r) same ih p = p
  keep-next k m (stores Remove m') same ih p = ih m' (keep m m' Remove p same)
  keep-next k m (stores (Consume y) m') same ih p = ih m' (keep m m' (Consume y) p same)
  keep-next k m (stores (Raise told) m') same ih p = keep m m' (Raise told) p same

  pub run-keeps : (k : ℕ) (m : M) → P m → P (run_by f k m).memory
  unfolding run_by
  run-keeps zero m p = keep-last m (f m) p
  run-keeps (suc k) m p = keep-next k m (f m) refl (λ m' q. run-keeps k m' q) p
