-- Document 02, T-14: a list of calls with cuts anywhere. A call that was cut comes again at once, its inputs as before and its allowance
-- whatever one likes.
-- Assumes nothing.
use Rattle.std.specs.Prelude.{List, [], ◌∷◌, ℕ, ◌+◌, ◌≤◌, ◌<◌}
use Rattle.words.specs.Outcomes.{Outcome, with}
use Rattle.nights.specs.Night.{Unit, Night, before}

module _ {C W : Type 0} {A : C → Type 0} (u : Unit C W A) where
  -- the outcomes that a call can have by tries, of which each but the last ends Cut
  pub data Finishes (c : C) : W → Outcome W (A c) → Type 0 where
    done : {w : W} (k : ℕ) → (u.EndsCut c (u.tried c k w).answer → ⊥) → Finishes c w (u.tried c k w)
    again : {w : W} {o : Outcome W (A c)} (k : ℕ) → u.EndsCut c (u.tried c k w).answer → Finishes c (u.tried c k w).memory o
        → Finishes c w (with (u.joined c (u.tried c k w).answer o.answer) o.memory)

  -- the nights that a list of calls can be, each finished before the next is made
  pub data Goes : List C → W → Night C W A → Type 0 where
    none : {w : W} → Goes [] w (record { answers = []; world = w })
    next : {c : C} {cs : List C} {w : W} {o : Outcome W (A c)} {rest : Night C W A} → Finishes c w o → Goes cs o.memory rest
        → Goes (c ∷ cs) w (before c o rest)

  -- the worlds that a call can leave after any of its tries, whether it is ever finished or not
  pub data Leaves (c : C) : W → W → Type 0 where
    once : {w : W} (k : ℕ) → Leaves c w (u.tried c k w).memory
    more : {w v : W} (k : ℕ) → u.EndsCut c (u.tried c k w).answer → Leaves c (u.tried c k w).memory v → Leaves c w v

  -- and those of a night, after each of its tries
  pub data OnTheWay : List C → W → W → Type 0 where
    here : {c : C} {cs : List C} {w v : W} → Leaves c w v → OnTheWay (c ∷ cs) w v
    later : {c : C} {cs : List C} {w v : W} {o : Outcome W (A c)} → Finishes c w o → OnTheWay cs o.memory v → OnTheWay (c ∷ cs) w v

  -- a try of the call finishes it exactly if its allowance is so much or more
  pub record Needs (least : ℕ) (c : C) (w : W) : Type 0 where
    pub cut_below : (k : ℕ) → k < least → u.EndsCut c (u.tried c k w).answer
    pub done-from : (k : ℕ) → least ≤ k → u.EndsCut c (u.tried c k w).answer → ⊥

  -- tries with these allowances, each of which ended Cut
  pub data CutAt (c : C) : List ℕ → W → Type 0 where
    no-try : {w : W} → CutAt c [] w
    one-try : {k : ℕ} {ks : List ℕ} {w : W} → u.EndsCut c (u.tried c k w).answer → CutAt c ks (u.tried c k w).memory → CutAt c (k ∷ ks) w

-- each of them allows a store; and how many they allow together
pub data Positive : List ℕ → Type 0 where
  no_allowance : Positive []
  one_allowance : {k : ℕ} {ks : List ℕ} → 1 ≤ k → Positive ks → Positive (k ∷ ks)

unfoldable pub total : List ℕ → ℕ
total [] = 0
total (k ∷ ks) = k + total ks
