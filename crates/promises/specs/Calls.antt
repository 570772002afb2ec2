-- Demand 3, of the call: cut, and made again with the same queue and features.
-- Assumes nothing.
use Rattle.std.specs.Prelude.{◌≡◌, List, [], ◌∷◌, ℕ, ◌+◌, Err, Ok, Result}
use Rattle.words.specs.Outcomes.{Outcome}
use Rattle.commands.specs.declared.Features.{Features}
use Rattle.memory.specs.Memory.{Memory}
use Rattle.runs.specs.declared.End.TheVariants.{Cut}
use Rattle.runs.specs.declared.Ran.{Ran}
use Rattle.runs.specs.declared.RunRefusal.{RunRefusal}
use Rattle.runs.specs.Call.{call}

-- two answers as one: a refusal is the answer of both; else the four counts add up, and the end is the second's
abbrev pub ◌and◌ : Result Ran RunRefusal → Result Ran RunRefusal → Result Ran RunRefusal
◌and◌ (Err why) r = Err why
◌and◌ (Ok ran) (Err why) = Err why
◌and◌ (Ok ran) (Ok ran') =
    Ok
    (record {
      end = ran'.end;
      consumed = ran.consumed + ran'.consumed;
      stores = ran.stores + ran'.stores;
      removed = ran.removed + ran'.removed;
      syncs = ran.syncs + ran'.syncs;
    })

-- calls with these allowances and then a last one, each on the memory that the one before left, as one call
unfoldable pub calls : Features → List ℕ → List ℕ → ℕ → Memory → Outcome Memory (Result Ran RunRefusal)
calls f queue [] k m = call f queue k m
calls f queue (a ∷ ks) k m =
    record {
      answer = ◌and◌ (call f queue a m).answer (calls f queue ks k (call f queue a m).memory).answer;
      memory = (calls f queue ks k (call f queue a m).memory).memory;
    }

-- it was carried out, and ended Cut
abbrev pub EndsCut : Result Ran RunRefusal → Type 0
EndsCut (Err why) = ⊥
EndsCut (Ok ran) = ran.end ≡ Cut

-- each of the calls before the last did
pub data CallsCut (f : Features) (queue : List ℕ) : List ℕ → Memory → Type 0 where
  none : {m : Memory} → CallsCut f queue [] m
  one : {a : ℕ} {ks : List ℕ} {m : Memory} → EndsCut (call f queue a m).answer → CallsCut f queue ks (call f queue a m).memory → CallsCut f queue (a ∷ ks) m

-- it was carried out
pub record CarriedOut (answer : Result Ran RunRefusal) : Type 0 where
  pub ran : Ran
  pub is_done : answer ≡ Ok ran
