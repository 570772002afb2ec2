-- Document 01, One run: stores that are due, one after the other, until nothing is due or the allowance is spent.
-- Assumes nothing.
use Rattle.std.specs.Prelude.{◌≡◌, List, ℕ, zero, suc, ◌+◌, ◌*◌, ◌^◌, ◌≤◌, length}
use Rattle.control.specs.Control as control
use Rattle.control.specs.declared.Rest.{Rest}
use Rattle.control.specs.declared.Rest.TheVariants.{Off as Rest-as-Off, Held as Rest-as-Held, Empty as Rest-as-Empty}
use Rattle.commands.specs.declared.Features.{Features}
use Rattle.image.specs.Image as image
use Rattle.regions.specs.Table as regions
use Rattle.memory.specs.Memory.{Memory, control_of, rows_in, put, Whole}
use Rattle.due.specs.Due.{What, Remove, Consume, Raise, Due, Rests, Stores, due}
use Rattle.runs.specs.declared.End.{End}
use Rattle.runs.specs.declared.End.TheVariants.{Off, Held, Empty, Raised, Cut}
use Rattle.runs.specs.declared.Ran.{Ran}

abbrev pub end_of : Rest → End
end_of Rest-as-Off = Off
end_of Rest-as-Held = Held
end_of Rest-as-Empty = Empty

-- the paper's ends, numbered
abbrev pub end_number : End → ℕ
end_number Off = 0
end_number Held = 1
end_number Empty = 2
end_number (Raised told) = 3
end_number Cut = 4

-- what is due in a memory of any kind: nothing, or a store, with the memory after it
pub data Next (M : Type 0) : Type 0 where
  rests : Rest → Next M
  stores : What → M → Next M

pub record Out (M : Type 0) : Type 0 where
  pub ran : Ran
  pub memory : M

abbrev pub rested : {M : Type 0} → End → M → Out M
rested e m = record { ran = record { end = e; consumed = 0; stores = 0; removed = 0; syncs = 0 }; memory = m }

-- commands, stores, rows and CMD_SYNCs more
abbrev pub plus : {M : Type 0} → ℕ → ℕ → ℕ → ℕ → Out M → Out M
plus c s r y o =
    record {
      ran = record {
        end = o.ran.end;
        consumed = c + o.ran.consumed;
        stores = s + o.ran.stores;
        removed = r + o.ran.removed;
        syncs = y + o.ran.syncs;
      };
      memory = o.memory;
    }

-- with no allowance left
abbrev pub last : {M : Type 0} → Next M → M → Out M
last (rests rest) m = rested (end_of rest) m
last (stores what m') m = rested Cut m

-- with some, and how it goes on
abbrev pub next : {M : Type 0} → (M → Out M) → Next M → M → Out M
next go (rests rest) m = rested (end_of rest) m
next go (stores Remove m') m = plus 0 1 1 0 (go m')
next go (stores (Consume y) m') m = plus 1 1 0 y (go m')
next go (stores (Raise told) m') m = plus 0 1 0 0 (rested (Raised told) m')

-- a run by whatever says what is due: the allowance is how often it may store
unfoldable pub run_by : {M : Type 0} → (M → Next M) → ℕ → M → Out M
run_by f zero m = last (f m) m
run_by f (suc k) m = next (λ m'. run_by f k m') (f m) m

abbrev pub next_of : Due → Memory → Next Memory
next_of (Rests rest) m = rests rest
next_of (Stores place v what) m = stores what (put m place v)

abbrev pub due_in : Features → List ℕ → Memory → Next Memory
due_in f queue m = next_of (due f queue m) m

abbrev pub run : Features → List ℕ → ℕ → Memory → Out Memory
run f queue k m = run_by (due_in f queue) k m

pub record Does (f : Features) (queue : List ℕ) (k : ℕ) (m m' : Memory) (r : Ran) : Type 0 where
  pub answers : r ≡ (run f queue k m).ran
  pub leaves : m' ≡ (run f queue k m).memory

-- what a run needs of an accepted image and its queue
pub record Fit (queue : List ℕ) (m : Memory) : Type 0 where
  pub room : Whole m
  pub few : rows_in m ≤ image.max_rows + regions.max_rows
  pub slots : length queue ≡ 16 * 2 ^ control.log2size (control_of m)
