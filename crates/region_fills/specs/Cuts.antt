-- Document 02, T-11, for demand 3: a fill that is cut, and made again with the same row and words.
-- Assumes nothing.
use Rattle.std.specs.Prelude.{◌≡◌, List, [], ◌∷◌, ℕ, Err, Ok, Result}
use Rattle.regions.specs.declared.Region.{Region}
use Rattle.fills.specs.declared.FillEnd.TheVariants.{Cut}
use Rattle.fills.specs.declared.Filling.{Filling}
use Rattle.region_fills.specs.declared.FillRefusal.{FillRefusal}
use Rattle.region_fills.specs.Fills.{fill}

-- it was carried out, and ended Cut
abbrev pub EndsCut : Result Filling FillRefusal → Type 0
EndsCut (Err why) = ⊥
EndsCut (Ok filling) = filling.end ≡ Cut

-- the table after fills with these allowances, each on the table that the one before left; and that each of them ended Cut
unfoldable pub refilled : List ℕ → ℕ → Region → List ℕ → List ℕ → List ℕ
refilled m row words [] t = t
refilled m row words (k ∷ ks) t = refilled m row words ks (fill m t row words k).memory

pub data FillsCut (m : List ℕ) (row : ℕ) (words : Region) : List ℕ → List ℕ → Type 0 where
  none : {t : List ℕ} → FillsCut m row words [] t
  one : {k : ℕ} {ks t : List ℕ} → EndsCut (fill m t row words k).answer → FillsCut m row words ks (fill m t row words k).memory
      → FillsCut m row words (k ∷ ks) t
