-- Stores to memory, one word at a time.
-- Assumes nothing.
use Rattle.std.specs.Prelude.{ℕ, zero, suc, ◌<◌, List, [], ◌∷◌, get_or, set, ⊤}
use Rattle.stores.specs.declared.Store.{Store}

-- the one at a place of a list, counted from 0
abbrev pub store_in : List Store → ℕ → Store
store_in ss place = get_or ss place (record { at = 0; value = 0 })

-- the memory after the first k of some stores
unfoldable pub after_stores : ℕ → List Store → List ℕ → List ℕ
after_stores zero ss m = m
after_stores (suc k) [] m = m
after_stores (suc k) (s ∷ ss) m = after_stores k ss (set m s.at s.value)

-- each store goes to one of n words
abbrev pub Within : ℕ → List Store → Type 0
Within n [] = ⊤
Within n (s ∷ ss) = (s.at < n) × Within n ss
