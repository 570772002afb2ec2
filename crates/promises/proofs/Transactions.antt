-- Demands 2 and 3, of transactions: a half-filled row is not seen, and a row that a consumed command removed answers no more.
-- Assumes nothing.
use mathlib.Core.Path.{◌≡◌, ap}
use mathlib.Core.Bool.{false}
use mathlib.Core.List.{List}
use mathlib.Core.Logic.{inl, inr}
use Prim.Native.Nat.{ℕ, ◌<◌}
use native.Mathlib.Decide.{ℕ_discrete}
use native.Mathlib.Omega.{arith}
use Rattle.std.specs.Prelude.{Result, Some}
use Rattle.fills.specs.declared.Filling.{Filling}
use Rattle.fills.specs.declared.FillRefusal.{FillRefusal}
use Rattle.words.specs.Outcomes.{Outcome}
use Rattle.rows.specs.declared.Row.{Row}
use Rattle.rows.proofs.LastLevel.{empty-silent}
use Rattle.commands.specs.declared.Features.{Features}
use Rattle.commands.specs.declared.Command.{Command}
use Rattle.commands.specs.declared.Decoded.TheVariants.{Legal}
use Rattle.image.specs.Image.{row_at}
use Rattle.image.proofs.Checks.{accepts}
use Rattle.fills.specs.Fills.{fill}
use Rattle.fills.proofs.Laws.{Carried, other_rows_kept, half_filled, stays-accepted, Goes, stops, stores, which-way}
use Rattle.memory.specs.Memory.{Memory, control_of, scoped_at}
use Rattle.memory.proofs.Laws as memory
use Rattle.runs.specs.Running.{run}
use Rattle.lookups.specs.declared.Wanted.{Wanted}
use Rattle.lookups.specs.Lookups.{find}
use Rattle.lookups.proofs.Laws.{Alike, found_below}
use Rattle.transactions.specs.declared.Transaction.{Transaction}
use Rattle.transactions.specs.Call.{translate}
use Rattle.transactions.proofs.Laws.{answers-same}
use Rattle.promises.specs.Found.{command_at}
use Rattle.promises.proofs.Accepted.{run-accepted}
use Rattle.promises.proofs.Finding.{found_after}

-- after any number of stores below 4 every transaction is answered as before the fill, whatever was to be filled
module _ (m : List ℕ) (row : ℕ) (words : Row) (k : ℕ) (h : k < 4) (t : Transaction) where
  carried-unseen : (n : ℕ) → Carried m n row words → translate (fill m row words k).memory t ≡ translate m t
  carried-unseen n c =
      answers-same (fill m row words k).memory m n t (accepts (fill m row words k).memory n (stays-accepted m n row words c k)) (accepts m n c.image)
      (λ i b. alike i (ℕ_discrete i row))
    where
      alike : (i : ℕ) → Dec (i ≡ row) → Alike (row_at (fill m row words k).memory i) (row_at m i)
      alike i (yes s) =
          inr (rw s (empty-silent (row_at (fill m row words k).memory row) (half_filled m n row words c k h), empty-silent (row_at m row) c.empty))
      alike i (no d) = inl (other_rows_kept m n row words c k i d)

  pub half-filled-unseen : translate (fill m row words k).memory t ≡ translate m t
  half-filled-unseen = by_way (which-way m row words)
    where
      by_way : Goes m row words → translate (fill m row words k).memory t ≡ translate m t
      by_way (stops why e) = ap (λ (o : Outcome (List ℕ) (Result Filling FillRefusal)). translate o.memory t) (e k)
      by_way (stores n c) = carried-unseen n c

-- what any search finds in the memory that a run leaves, at every allowance, lies in the scope of no command that it consumed
pub none_through_consumed : (f : Features) (queue : List ℕ) (n k : ℕ) (m : Memory) → memory.Accepts m n
    → (w : Wanted) (i : ℕ) → find (run f queue k m).memory.kept w ≡ Some i
    → (t : ℕ) (c : Command) → t < (run f queue k m).ran.consumed → command_at f queue (control_of m) t ≡ Legal c
    → scoped_at f c (run f queue k m).memory i ≡ false
none_through_consumed f queue n k m a w i e t c h l =
    let m' = (run f queue k m).memory in
    let rows = memory.rows_are m' n (run-accepted f queue n k m a) in
    let here : i < n = omega (arith, found_below m'.kept w i e, rows) in
    let z = (found_after f queue n k m a).gone t h in
    let same : z.command ≡ c = cc z.is_command in
    rw same at (z.gone i here)
