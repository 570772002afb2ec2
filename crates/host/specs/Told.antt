-- The C interface: what a caller finds when a call returns.
-- Assumes nothing.
use Rattle.std.specs.Prelude.{◌≡◌, List, ℕ}
use Rattle.words.specs.Outcomes.{Outcome, with}
use Rattle.interface.specs.declared.Reply.{Reply}

-- the number returned and the answer's words are the reply's
pub record Told (reply : Reply) (answer' : List ℕ) (r : ℕ) : Type 0 where
  pub number : r ≡ reply.code
  pub words : answer' ≡ reply.words

-- an outcome, told by a reply
abbrev pub telling : {M A : Type 0} → (A → Reply) → Outcome M A → Outcome M Reply
telling reply o = with (reply o.answer) o.memory

-- what a call tells, and the memory that it leaves
pub record Leaves {M : Type 0} (o : Outcome M Reply) (m' : M) (answer' : List ℕ) (r : ℕ) : Type 0 where
  pub told : Told o.answer answer' r
  pub kept : m' ≡ o.memory
