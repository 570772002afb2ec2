-- Demand 3: calls that are cut and made again.
-- Assumes nothing.
use Rattle.std.specs.Prelude.{◌≡◌, List, [], ◌∷◌, ℕ, ◌+◌}
use Rattle.runs.specs.declared.End.TheVariants.{Cut}
use Rattle.runs.specs.Running.{Out, Next, plus, run_by}

-- a call and the one after it: the four counts add up, end and memory are the second's
abbrev pub ◌then◌ : {M : Type 0} → Out M → Out M → Out M
◌then◌ o o' = plus o.ran.consumed o.ran.stores o.ran.removed o.ran.syncs o'

-- calls with these allowances, each on the memory that the one before left, and then a last one
unfoldable pub again : {M : Type 0} → (M → Next M) → List ℕ → ℕ → M → Out M
again f [] k m = run_by f k m
again f (a ∷ ks) k m = ◌then◌ (run_by f a m) (again f ks k (run_by f a m).memory)

-- each of the calls before the last was cut
pub data AllCut {M : Type 0} (f : M → Next M) : List ℕ → M → Type 0 where
  none : {m : M} → AllCut f [] m
  one : {a : ℕ} {ks : List ℕ} {m : M} → (run_by f a m).ran.end ≡ Cut → AllCut f ks (run_by f a m).memory → AllCut f (a ∷ ks) m

-- all the allowances together
unfoldable pub total : List ℕ → ℕ → ℕ
total [] k = k
total (a ∷ ks) k = a + total ks k
