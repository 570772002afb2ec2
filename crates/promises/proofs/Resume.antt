-- Demand 3: a run that was cut is taken up where it stopped, whatever says what is due.
-- Assumes nothing.
use mathlib.Core.Path.{◌≡◌, refl, sym, ap, ◌∙◌}
use mathlib.Core.List.{List, [], ◌∷◌}
use Prim.Native.Nat.{ℕ, zero, suc, ◌+◌}
use native.Mathlib.Nat.{zero-add, suc-add}
use native.Mathlib.Omega.{arith}
use Rattle.control.specs.declared.Rest.{Rest}
use Rattle.control.specs.declared.Rest.TheVariants.{Off as Rest-as-Off, Held as Rest-as-Held, Empty as Rest-as-Empty}
use Rattle.due.specs.Due.{Remove, Consume, Raise}
use Rattle.due.specs.declared.Raising.{Raising}
use Rattle.runs.specs.declared.End.TheVariants.{Raised, Cut}
use Rattle.runs.specs.Running.{Out, Next, rests, stores, plus, last, next, run_by, end_of}
use Rattle.promises.specs.Cuts.{◌then◌, again, AllCut, one, total}
use Rattle.runs.proofs.Turns.{plus-plus, plus-zero, run-rests}

-- no rest is a cut
pub rest_uncut : (r : Rest) → end_of r ≡ Cut → ⊥
rest_uncut Rest-as-Off e = let z : ◌≡◌ {A = ℕ} 0 1 = cc in omega arith
rest_uncut Rest-as-Held e = let z : ◌≡◌ {A = ℕ} 0 1 = cc in omega arith
rest_uncut Rest-as-Empty e = let z : ◌≡◌ {A = ℕ} 0 1 = cc in omega arith

-- nor the error raised
pub rest_unraised : (r : Rest) (told : Raising) → end_of r ≡ Raised told → ⊥
rest_unraised Rest-as-Off told e = let z : ◌≡◌ {A = ℕ} 0 1 = cc in omega arith
rest_unraised Rest-as-Held told e = let z : ◌≡◌ {A = ℕ} 0 1 = cc in omega arith
rest_unraised Rest-as-Empty told e = let z : ◌≡◌ {A = ℕ} 0 1 = cc in omega arith

module _ {M : Type 0} (f : M → Next M) (j : ℕ) where
  Resumes : ℕ → M → Type 0
  Resumes k m = (run_by f k m).ran.end ≡ Cut → run_by f (k + j) m ≡ ◌then◌ (run_by f k m) (run_by f j (run_by f k m).memory)

  resume-zero : (m : M) (d : Next M) → (last d m).ran.end ≡ Cut → run_by f (0 + j) m ≡ ◌then◌ (last d m) (run_by f j (last d m).memory)
  resume-zero m (rests r) cut = absurd (rest_uncut r cut)
  resume-zero m (stores w m') cut = rw (zero-add j) (sym (plus-zero (run_by f j m)))

  resume-next : (k : ℕ) (m : M) (d : Next M) → ((m' : M) → Resumes k m') → (next (run_by f k) d m).ran.end ≡ Cut
      → next (run_by f (k + j)) d m ≡ ◌then◌ (next (run_by f k) d m) (run_by f j (next (run_by f k) d m).memory)
  unfolding Resumes
  resume-next k m (rests r) ih cut = absurd (rest_uncut r cut)
  resume-next k m (stores Remove m') ih cut = ap (plus 0 1 1 0) (ih m' cut) ∙ plus-plus 0 1 1 0 _ _ _ _ _ _ _ _ _ refl refl refl refl
  resume-next k m (stores (Consume y) m') ih cut = ap (plus 1 1 0 y) (ih m' cut) ∙ plus-plus 1 1 0 y _ _ _ _ _ _ _ _ _ refl refl refl refl
  resume-next k m (stores (Raise told) m') ih cut = let z : ◌≡◌ {A = ℕ} 0 1 = cc in absurd (omega arith)

  -- one cut
  pub resume : (k : ℕ) (m : M) → (run_by f k m).ran.end ≡ Cut → run_by f (k + j) m ≡ ◌then◌ (run_by f k m) (run_by f j (run_by f k m).memory)
  unfolding run_by Resumes
  resume zero m cut = resume-zero m (f m) cut
  resume (suc k) m cut = rw (suc-add k j) (resume-next k m (f m) (λ m' c. resume k m' c) cut)

-- a run that was not cut is the same with any more allowance
module _ {M : Type 0} (f : M → Next M) (j : ℕ) where
  Enough : ℕ → M → Type 0
  Enough k m = ((run_by f k m).ran.end ≡ Cut → ⊥) → run_by f (k + j) m ≡ run_by f k m

  enough-zero : (m : M) (d : Next M) → f m ≡ d → ((last d m).ran.end ≡ Cut → ⊥) → run_by f (0 + j) m ≡ last d m
  enough-zero m (rests r) same uncut = run-rests f m (0 + j) r same
  enough-zero m (stores w m') same uncut = absurd (uncut refl)

  enough-next : (k : ℕ) (m : M) (d : Next M) → ((m' : M) → Enough k m') → ((next (run_by f k) d m).ran.end ≡ Cut → ⊥)
      → next (run_by f (k + j)) d m ≡ next (run_by f k) d m
  unfolding Enough
  enough-next k m (rests r) ih uncut = refl
  enough-next k m (stores Remove m') ih uncut = ap (plus 0 1 1 0) (ih m' uncut)
  enough-next k m (stores (Consume y) m') ih uncut = ap (plus 1 1 0 y) (ih m' uncut)
  enough-next k m (stores (Raise told) m') ih uncut = refl

  pub enough : (k : ℕ) (m : M) → ((run_by f k m).ran.end ≡ Cut → ⊥) → run_by f (k + j) m ≡ run_by f k m
  unfolding run_by Enough
  enough zero m uncut = enough-zero m (f m) refl uncut
  enough (suc k) m uncut = rw (suc-add k j) (enough-next k m (f m) (λ m' c. enough k m' c) uncut)

module _ {M : Type 0} (f : M → Next M) where
  -- two allowances that both suffice give the same
  pub uncut-same : (k j : ℕ) (m : M) → ((run_by f k m).ran.end ≡ Cut → ⊥) → ((run_by f j m).ran.end ≡ Cut → ⊥) → run_by f k m ≡ run_by f j m
  uncut-same k j m a b =
      sym (enough f j k m a) ∙ ap (λ (n : ℕ). run_by f n m) (let e : k + j ≡ j + k = omega arith in e) ∙ enough f k j m b

  -- any number of cuts, at any allowances: the calls together are one call with all their allowances
  pub resumes : (ks : List ℕ) (k : ℕ) (m : M) → AllCut f ks m → again f ks k m ≡ run_by f (total ks k) m
  unfolding again total
  resumes [] k m c = refl
  resumes (a ∷ ks) k m (one cut c) = ap (◌then◌ (run_by f a m)) (resumes ks k (run_by f a m).memory c) ∙ sym (resume f (total ks k) a m cut)

  end_same : (ks : List ℕ) (k : ℕ) (m : M) → AllCut f ks m → ((again f ks k m).ran.end ≡ Cut → ⊥) → (run_by f (total ks k) m).ran.end ≡ Cut → ⊥
  end_same ks k m c last e = last (ap (λ (o : Out M). o.ran.end) (resumes ks k m c) ∙ e)

  -- so the same as an uncut call: memory, end and the four counts
  pub as-uncut : (ks : List ℕ) (k j : ℕ) (m : M) → AllCut f ks m → ((again f ks k m).ran.end ≡ Cut → ⊥) → ((run_by f j m).ran.end ≡ Cut → ⊥) → again f ks k m ≡ run_by f j m
  as-uncut ks k j m c last uncut = resumes ks k m c ∙ uncut-same (total ks k) j m (end_same ks k m c last) uncut
