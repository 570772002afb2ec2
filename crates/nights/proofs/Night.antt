-- Document 02, T-14, over calls of any kind: if the retries of each end as the call without cuts does, those of a whole list do.
-- Assumes nothing.
use mathlib.Core.Path.{◌≡◌, refl, ap, ◌∙◌}
use mathlib.Core.List.{List, [], ◌∷◌}
use Prim.Native.Nat.{ℕ}
use Rattle.words.specs.Outcomes.{Outcome, with}
use Rattle.nights.specs.Night.{Unit, Night, before, uncut, performed}
use Rattle.nights.specs.Cuts.{Finishes, done, again, Goes, none, next, Leaves, once, more, OnTheWay, here, later, CutAt, no-try, one-try}

-- what is asked of a call, from worlds in P: every try leaves one of them; a try that is not cut ends as the call without cuts; so does
-- a cut try with the call made again behind it; and enough is enough
pub record Retries {C W : Type 0} {A : C → Type 0} (u : Unit C W A) (P : W → Type 0) (c : C) : Type 0 where
  pub keeps : (k : ℕ) (w : W) → P w → P (u.tried c k w).memory
  pub whole : (k : ℕ) (w : W) → P w → (u.EndsCut c (u.tried c k w).answer → ⊥) → u.tried c k w ≡ uncut u c w
  pub resumes : (k : ℕ) (w : W) → P w → u.EndsCut c (u.tried c k w).answer
      → with (u.joined c (u.tried c k w).answer (uncut u c (u.tried c k w).memory).answer) (uncut u c (u.tried c k w).memory).memory ≡ uncut u c w
  pub suffices : (w : W) → P w → u.EndsCut c (uncut u c w).answer → ⊥

module _ {C W : Type 0} {A : C → Type 0} (u : Unit C W A) (P : W → Type 0) (each : (c : C) → Retries u P c) where
  -- one call: any number of tries that are cut, at any allowances, and one that is not
  pub call_as_uncut : (c : C) {w : W} {o : Outcome W (A c)} → P w → Finishes u c w o → o ≡ uncut u c w
  call_as_uncut c p (done {w} k last) = (each c).whole k w p last
  call_as_uncut c p (again {w} {o} k cut rest) =
      ap (λ (x : Outcome W (A c)). with (u.joined c (u.tried c k w).answer x.answer) x.memory)
      (call_as_uncut c ((each c).keeps k w p) rest)
      ∙ (each c).resumes k w p cut

  -- the list
  pub list_as_uncut : {cs : List C} {w : W} {n : Night C W A} → P w → Goes u cs w n → n ≡ performed u cs w
  unfolding performed
  list_as_uncut p none = refl
  list_as_uncut p (next {c} {cs} {w} {o} {rest} tries others) =
      let same = call_as_uncut c p tries in
      let left : P o.memory = rw same ((each c).keeps (u.enough c w) w p) in
      ap (before c o) (list_as_uncut left others)
      ∙ ap (λ (x : Outcome W (A c)). before c x (performed u cs x.memory)) same

  -- every list has a way to go, and every list of cuts can be finished
  pub goes_somehow : (cs : List C) (w : W) → P w → Goes u cs w (performed u cs w)
  unfolding performed
  goes_somehow [] w p = none
  goes_somehow (c ∷ cs) w p =
      next (done (u.enough c w) ((each c).suffices w p)) (goes_somehow cs (uncut u c w).memory ((each c).keeps (u.enough c w) w p))

  pub cuts_finish : (c : C) {ks : List ℕ} {w : W} → P w → CutAt u c ks w → Finishes u c w (uncut u c w)
  cuts_finish c {w = w} p no-try = done (u.enough c w) ((each c).suffices w p)
  cuts_finish c p (one-try {k} {ks} {w} cut rest) =
      rw (← (each c).resumes k w p cut) (again k cut (cuts_finish c ((each c).keeps k w p) rest))

  -- every world on the way is one of P
  pub leaves-one : (c : C) {w v : W} → P w → Leaves u c w v → P v
  leaves-one c p (once {w} k) = (each c).keeps k w p
  leaves-one c p (more {w} k cut rest) = leaves-one c ((each c).keeps k w p) rest

  pub finished-one : (c : C) {w : W} {o : Outcome W (A c)} → P w → Finishes u c w o → P o.memory
  finished-one c p (done {w} k last) = (each c).keeps k w p
  finished-one c p (again {w} k cut rest) = finished-one c ((each c).keeps k w p) rest

  pub on-the_way : {cs : List C} {w v : W} → P w → OnTheWay u cs w v → P v
  on-the_way p (here {c} l) = leaves-one c p l
  on-the_way p (later {c} tries l) = on-the_way (finished-one c p tries) l
