-- Demand 3, of filling: cut, and made again with the same row and words.
-- Assumes nothing.
use Rattle.std.specs.Prelude.{◌≡◌, List, [], ◌∷◌, ℕ, Err, Ok, Result}
use Rattle.rows.specs.declared.Row.{Row}
use Rattle.fills.specs.declared.FillEnd.TheVariants.{Cut}
use Rattle.fills.specs.declared.Filling.{Filling}
use Rattle.fills.specs.declared.FillRefusal.{FillRefusal}
use Rattle.fills.specs.Fills.{fill}

-- it was carried out, and ended Cut
abbrev pub EndsCut : Result Filling FillRefusal → Type 0
EndsCut (Err why) = ⊥
EndsCut (Ok filling) = filling.end ≡ Cut

-- the memory after fills with these allowances, each on the memory that the one before left
unfoldable pub refilled : ℕ → Row → List ℕ → List ℕ → List ℕ
refilled row words [] m = m
refilled row words (k ∷ ks) m = refilled row words ks (fill m row words k).memory

-- each of them ended Cut
pub data FillsCut (row : ℕ) (words : Row) : List ℕ → List ℕ → Type 0 where
  none : {m : List ℕ} → FillsCut row words [] m
  one : {k : ℕ} {ks m : List ℕ} → EndsCut (fill m row words k).answer → FillsCut row words ks (fill m row words k).memory → FillsCut row words (k ∷ ks) m
