-- What a call ensures leaves nothing open.
-- Assumes nothing.
use mathlib.Core.Path.{◌≡◌, sym, ◌∙◌}
use Rattle.words.specs.Outcomes.{Outcome, with, Gives}

-- an outcome known is the contract met
pub gives : {M A : Type 0} {o : Outcome M A} {m' : M} {r : A} → o ≡ with r m' → Gives o m' r
gives e = record { answers = rw e; leaves = rw e }

-- two outcomes that a contract allows for one input are equal
pub pinned : {M A : Type 0} {o : Outcome M A} {m₁ m₂ : M} {r₁ r₂ : A} → Gives o m₁ r₁ → Gives o m₂ r₂ → (r₁ ≡ r₂) × (m₁ ≡ m₂)
pinned a b = (a.answers ∙ sym b.answers, a.leaves ∙ sym b.leaves)

-- of a call that only reads, two answers
pub one_answer : {A : Type 0} {d r₁ r₂ : A} → r₁ ≡ d → r₂ ≡ d → r₁ ≡ r₂
one_answer a b = a ∙ sym b
