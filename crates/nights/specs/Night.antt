-- Document 02, T-14: calls of any kind, and a list of them without cuts.
-- Assumes nothing.
use Rattle.std.specs.Prelude.{List, [], ◌∷◌, ℕ}
use Rattle.words.specs.Outcomes.{Outcome}

-- calls C, each with its inputs but the allowance, on a world W; a call c answers A c
pub record Unit (C W : Type 0) (A : C → Type 0) : Type 1 where
  -- one try, under an allowance
  pub tried : (c : C) → ℕ → W → Outcome W (A c)
  -- it ended Cut
  pub EndsCut : (c : C) → A c → Type 0
  -- the answer of a cut try, and that of all tries after it, as one
  pub joined : (c : C) → A c → A c → A c
  -- an allowance with which it does not end Cut
  pub enough : C → W → ℕ

-- a call, and what it was answered
pub record Told (C : Type 0) (A : C → Type 0) : Type 0 where
  pub call : C
  pub answer : A call

-- the answers to a list of calls, in its order, and the world that they leave
pub record Night (C W : Type 0) (A : C → Type 0) : Type 0 where
  pub answers : List (Told C A)
  pub world : W

module _ {C W : Type 0} {A : C → Type 0} where
  -- a call's outcome, and then the rest of the night
  abbrev pub before : (c : C) → Outcome W (A c) → Night C W A → Night C W A
  before c o rest = record { answers = record { call = c; answer = o.answer } ∷ rest.answers; world = rest.world }

  -- a call without cuts
  abbrev pub uncut : Unit C W A → (c : C) → W → Outcome W (A c)
  uncut u c w = u.tried c (u.enough c w) w

  -- a list of them, each on the world that the one before left
  unfoldable pub performed : Unit C W A → List C → W → Night C W A
  performed u [] w = record { answers = []; world = w }
  performed u (c ∷ cs) w = before c (uncut u c w) (performed u cs (uncut u c w).memory)
