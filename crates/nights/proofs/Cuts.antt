-- Document 02, T-14: cuts anywhere in a whole night.
-- Assumes nothing.
use mathlib.Core.Path.{◌≡◌, sym, ap, ◌∙◌}
use mathlib.Core.List.{List}
use Prim.Native.Nat.{ℕ, ◌+◌}
use Rattle.words.specs.Outcomes.{Outcome}
use Rattle.commands.specs.declared.Features.{Features}
use Rattle.runs.specs.declared.Ran.{Ran}
use Rattle.std.specs.Prelude.{Ok, Result}
use Rattle.runs.specs.declared.RunRefusal.{RunRefusal}
use Rattle.nights.specs.Night.{Night, uncut, performed}
use Rattle.nights.specs.Cuts.{Finishes, again, Goes, OnTheWay, CutAt}
use Rattle.nights.specs.Calls.{World, Call, Run, Answer, EndsCut, tried, unit, Accepted}
use Rattle.nights.proofs.Night.{call_as_uncut, list_as_uncut, goes_somehow, cuts_finish, finished-one, on-the_way}
use Rattle.nights.proofs.Retries.{retries}

module _ (cs : List Call) (w : World) (a : Accepted w) where
  -- for every night and every way of cutting it whose calls all finish: every answer, and the world, word for word
  pub same-night : (n : Night Call World Answer) → Goes unit cs w n → n ≡ performed unit cs w
  same-night n g = list_as_uncut unit Accepted retries a g

  pub same-answers : (n : Night Call World Answer) → Goes unit cs w n → n.answers ≡ (performed unit cs w).answers
  same-answers n g = ap (λ (x : Night Call World Answer). x.answers) (same-night n g)

  pub same-world : (n : Night Call World Answer) → Goes unit cs w n → n.world ≡ (performed unit cs w).world
  same-world n g = ap (λ (x : Night Call World Answer). x.world) (same-night n g)

  -- there is such a way
  pub some-way : Goes unit cs w (performed unit cs w)
  some-way = goes_somehow unit Accepted retries cs w a

  -- every world on the way is accepted: after every try, so at every allowance, which is after every single store
  pub accepted-on-the-way : (v : World) → OnTheWay unit cs w v → Accepted v
  accepted-on-the-way v o = on-the_way unit Accepted retries a o

module _ (c : Call) (w : World) (a : Accepted w) where
  -- a try that is not cut is the call without cuts, whatever its allowance
  pub whatever-allowance : (k : ℕ) → (EndsCut c (tried c k w).answer → ⊥) → tried c k w ≡ uncut unit c w
  whatever-allowance k last = (retries c).whole k w a last

  -- and enough is enough: that one is not cut
  pub uncut-is-uncut : EndsCut c (uncut unit c w).answer → ⊥
  uncut-is-uncut cut = (retries c).suffices w a cut

  -- so is a call that was cut any number of times, once it is finished: answer, with a run's counts summed, and world
  pub finished-as-uncut : (o : Outcome World (Answer c)) → Finishes unit c w o → o ≡ uncut unit c w
  finished-as-uncut o tries = call_as_uncut unit Accepted retries c a tries

  -- cut so often and at whatever allowances, it may still be finished, and then ends as the call without cuts
  pub cuts-may-end : (ks : List ℕ) → CutAt unit c ks w → Finishes unit c w (uncut unit c w)
  cuts-may-end ks cuts = cuts_finish unit Accepted retries c a cuts

  pub finished-accepted : (o : Outcome World (Answer c)) → Finishes unit c w o → Accepted o.memory
  finished-accepted o tries = finished-one unit Accepted retries c a tries

-- a run's four counts: those of a cut try and of all after it add up to those of the run without cuts, whose end is the last's
pub counts_add_up : (f : Features) (queue : List ℕ) (w : World) → Accepted w → (k : ℕ) (o : Outcome World (Result Ran RunRefusal)) (ran ran' : Ran)
    → EndsCut (Run f queue) (tried (Run f queue) k w).answer → Finishes unit (Run f queue) (tried (Run f queue) k w).memory o
    → (tried (Run f queue) k w).answer ≡ Ok ran → o.answer ≡ Ok ran'
    → (uncut unit (Run f queue) w).answer
    ≡ Ok (record {
      end = ran'.end;
      consumed = ran.consumed + ran'.consumed;
      stores = ran.stores + ran'.stores;
      removed = ran.removed + ran'.removed;
      syncs = ran.syncs + ran'.syncs;
    })
counts_add_up f queue w a k o ran ran' cut tries is is' =
    sym (ap (λ (x : Outcome World (Result Ran RunRefusal)). x.answer) (call_as_uncut unit Accepted retries (Run f queue) a (again k cut tries)))
    ∙ rw (is, is')
