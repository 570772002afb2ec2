-- Document 02, T-02: what it means that two rows could answer the same lookup, and an image in which none could.
-- Assumes nothing.
use Rattle.std.specs.Prelude.{◌≡◌, true, false, List, ℕ, ◌<◌}
use Rattle.rows.specs.declared.Row.{Row}
use Rattle.image.specs.Image.{row_at}
use Rattle.doubles.specs.Doubles.{collides}
use Rattle.lookups.specs.declared.Wanted.{Wanted}
use Rattle.lookups.specs.Lookups.{answers}

-- a lookup, of the four kinds that a transaction makes, that both rows answer
pub record Answered (a b : Row) : Type 0 where
  pub wanted : Wanted
  pub first : answers wanted a ≡ true
  pub second : answers wanted b ≡ true

-- no two of the first n rows collide
abbrev pub Single : List ℕ → ℕ → Type 0
Single m n = (i j : ℕ) → i < n → j < n → (i ≡ j → ⊥) → collides (row_at m i) (row_at m j) ≡ false
