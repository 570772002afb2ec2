-- The lowest number that passes a test, and how many do.
-- Assumes nothing.
use Rattle.std.specs.Prelude.{ℕ, zero, suc, ◌+◌, Bool, List, [], ◌∷◌, eqb, None, Option, Some}
use Rattle.words.specs.Choice.{pick}

-- the lowest of the n numbers from i on that passes
unfoldable pub lowest : (ℕ → Bool) → ℕ → ℕ → Option ℕ
lowest p zero i = None
lowest p (suc n) i = pick (p i) (Some i) (lowest p n (suc i))

-- how many of the numbers below n pass
unfoldable pub count : (ℕ → Bool) → ℕ → ℕ
count p zero = 0
count p (suc n) = pick (p n) 1 0 + count p n

-- the place of the first x in a list, or the list's length
abbrev pub place_of : List ℕ → ℕ → ℕ
place_of [] x = 0
place_of (y ∷ ys) x = pick (eqb x y) 0 (suc (place_of ys x))
