-- Document 02, T-05: a marked row answers no transaction, so that putting one into an empty place changes none.
-- Assumes nothing.
use mathlib.Core.Path.{◌≡◌, ap}
use mathlib.Core.Bool.{true, false}
use mathlib.Core.List.{List}
use mathlib.Core.Logic.{◌⊎◌, inl, inr}
use Prim.Native.Nat.{ℕ, ◌/◌, ◌≤◌, ◌<◌}
use lib.ListN.{length}
use native.Mathlib.Decide.{ℕ_discrete}
use Rattle.words.specs.Outcomes.{Outcome}
use Rattle.words.proofs.Truth.{less_or_not}
use Rattle.rows.specs.declared.Row.{Row}
use Rattle.rows.specs.Rows.{is_empty, is_unmarked}
use Rattle.rows.proofs.LastLevel.{empty-silent, marked-silent}
use Rattle.commands.specs.declared.Features.{Features}
use Rattle.commands.specs.declared.Command.{Command}
use Rattle.scopes.specs.Scopes.{in_scope}
use Rattle.scopes.proofs.Sorts.{is_own, others-spared}
use Rattle.row_forms.proofs.Marks.{old_unmarked}
use Rattle.image.specs.Image.{row_at}
use Rattle.image.specs.Rules as image
use Rattle.image.proofs.Checks.{accepts}
use Rattle.std.specs.Prelude.{Result}
use Rattle.fills.specs.declared.Filling.{Filling}
use Rattle.fills.specs.declared.FillRefusal.{FillRefusal}
use Rattle.fills.specs.Fills.{fill}
use Rattle.fills.proofs.Laws.{Carried, filled, other_rows_kept, stays-accepted, Goes, stops, stores, which-way}
use Rattle.lookups.specs.declared.Wanted.{Wanted}
use Rattle.lookups.specs.Lookups.{look}
use Rattle.lookups.proofs.Laws.{Alike, look-same}
use Rattle.transactions.specs.declared.Transaction.{Transaction}
use Rattle.transactions.specs.Steps.{translation}
use Rattle.transactions.specs.Call.{translate}
use Rattle.transactions.proofs.Laws.{translation-same, answers-same}
use Rattle.promises.proofs.Transactions.{half-filled-unseen}

-- the second memory has a marked row where the first has an empty one, and is the first elsewhere
pub record Marked (m m' : List ℕ) (i : ℕ) : Type 0 where
  pub as_long : length m ≡ length m'
  pub others : (j : ℕ) → (j ≡ i → ⊥) → row_at m j ≡ row_at m' j
  pub was_empty : is_empty (row_at m i) ≡ true
  pub is_marked : is_unmarked (row_at m' i) ≡ false

module _ (m m' : List ℕ) (i : ℕ) (put : Marked m m' i) where
  alike : (j : ℕ) → Alike (row_at m j) (row_at m' j)
  alike j = by_place (ℕ_discrete j i)
    where
      by_place : Dec (j ≡ i) → Alike (row_at m j) (row_at m' j)
      by_place (yes e) = inr (rw e (empty-silent (row_at m i) put.was_empty, marked-silent (row_at m' i) put.is_marked))
      by_place (no d) = inl (put.others j d)

  -- whatever a step looks for
  pub marked_unfound : (w : Wanted) → look m w ≡ look m' w
  marked_unfound w = look-same m m' w (ap (λ (n : ℕ). n / 4) put.as_long) (λ j h. alike j)

  pub marked_unseen : (t : Transaction) → translation m t ≡ translation m' t
  marked_unseen t = translation-same m m' t marked_unfound

-- so a fill with a marked row changes no transaction, at any allowance
module _ (m : List ℕ) (row : ℕ) (words : Row) (marked : is_unmarked words ≡ false) (k : ℕ) (t : Transaction) where
  whole_unseen : (n : ℕ) → Carried m n row words → 4 ≤ k → translate (fill m row words k).memory t ≡ translate m t
  whole_unseen n c h =
      answers-same (fill m row words k).memory m n t (accepts (fill m row words k).memory n (stays-accepted m n row words c k)) (accepts m n c.image)
      (λ i b. by_place i (ℕ_discrete i row))
    where
      by_place : (i : ℕ) → Dec (i ≡ row) → Alike (row_at (fill m row words k).memory i) (row_at m i)
      by_place i (yes s) =
          inr (rw s (rw (filled m n row words c k h) (marked-silent words marked), empty-silent (row_at m row) c.empty))
      by_place i (no d) = inl (other_rows_kept m n row words c k i d)

  pub marked_fill_unseen : translate (fill m row words k).memory t ≡ translate m t
  marked_fill_unseen = by_way (which-way m row words)
    where
      by_way : Goes m row words → translate (fill m row words k).memory t ≡ translate m t
      by_way (stops why e) = ap (λ (o : Outcome (List ℕ) (Result Filling FillRefusal)). translate o.memory t) (e k)
      by_way (stores n c) = by_allowance (less_or_not k 4)
        where
          by_allowance : (k < 4) ⊎ (4 ≤ k) → translate (fill m row words k).memory t ≡ translate m t
          by_allowance (inl h) = half-filled-unseen m row words k h t
          by_allowance (inr h) = whole_unseen n c h

-- no row of an image that document 01 accepts is marked
pub old_rows_unmarked : (m : List ℕ) (n : ℕ) → image.AcceptedBy image.document01 m n → (i : ℕ) → i < n → is_unmarked (row_at m i) ≡ true
old_rows_unmarked m n a i h = old_unmarked (row_at m i) (a.rows-formed i h)

-- so 20 to 23 remove none of them
pub old_rows_spared : (m : List ℕ) (n : ℕ) → image.AcceptedBy image.document01 m n → (f : Features) (c : Command) → is_own c ≡ true → (i : ℕ) → i < n
    → in_scope f c (row_at m i) ≡ false
old_rows_spared m n a f c o i h = others-spared (row_at m i) f c o (old_rows_unmarked m n a i h)
