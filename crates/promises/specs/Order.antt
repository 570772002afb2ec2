-- Document 01, One run: the stores of a run, one after the other.
-- Assumes nothing.
use Rattle.std.specs.Prelude.{List, [], ◌∷◌, ℕ, zero, suc}
use Rattle.due.specs.Due.{Remove, Consume, Raise}
use Rattle.runs.specs.Running.{Next, rests, stores}

abbrev pub passed_next : {M : Type 0} → (M → List M) → Next M → List M
passed_next go (rests r) = []
passed_next go (stores Remove m') = m' ∷ go m'
passed_next go (stores (Consume y) m') = m' ∷ go m'
passed_next go (stores (Raise told) m') = m' ∷ []

-- the memories that a run passes through, one after each of its stores
unfoldable pub passed : {M : Type 0} → (M → Next M) → ℕ → M → List M
passed f zero m = []
passed f (suc k) m = passed_next (λ m'. passed f k m') (f m)
