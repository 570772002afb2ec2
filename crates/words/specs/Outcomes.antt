-- The shape of a call: what it answers, and the memory that it leaves.
-- Assumes nothing.
use Rattle.std.specs.Prelude.{◌≡◌}

pub record Outcome (M A : Type 0) : Type 0 where
  pub answer : A
  pub memory : M

-- this answer, and this memory
abbrev pub with : {M A : Type 0} → A → M → Outcome M A
with a m = record { answer = a; memory = m }

-- what a call with the outcome o ensures, of its answer r and the memory m' that it leaves
pub record Gives {M A : Type 0} (o : Outcome M A) (m' : M) (r : A) : Type 0 where
  pub answers : r ≡ o.answer
  pub leaves : m' ≡ o.memory
