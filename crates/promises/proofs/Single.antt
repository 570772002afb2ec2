-- Document 02, T-02: from an image in which no two rows collide, every fill and every run leaves such an image at every allowance.
-- Assumes nothing.
use mathlib.Core.Path.{◌≡◌, refl, sym, ap, ◌∙◌}
use mathlib.Core.Bool.{Bool, true, false, not}
use mathlib.Core.List.{List}
use mathlib.Core.Logic.{◌⊎◌, inl, inr, ⊎_elim}
use Prim.Native.Nat.{ℕ, ◌+◌, ◌*◌, ◌/◌, ◌≤◌, ◌<◌}
use native.Mathlib.Decide.{ℕ_discrete}
use native.Mathlib.Omega.{arith}
use lib.ListN.{set, length-set}
use Rattle.words.specs.Choice.{pick}
use Rattle.words.specs.Outcomes.{Outcome}
use Rattle.words.proofs.Truth.{never, clash, less_or_not}
use Rattle.rows.specs.declared.Row.{Row}
use Rattle.rows.specs.Rows.{is_last}
use Rattle.rows.proofs.LastLevel.{empty-not-last}
use Rattle.commands.specs.declared.Features.{Features}
use Rattle.image.specs.Image.{row_at}
use Rattle.image.proofs.Checks.{Accepts, accepts}
use Rattle.image.proofs.AfterStores.{row_kept, emptied, cleared-row, cleared-other, emptied-empty}
use Rattle.memory.specs.Memory.{Memory, kept_rows, is_kept, behind, in_kept, in_second}
use Rattle.memory.proofs.Laws as memory
use Rattle.doubles.specs.Doubles.{collides}
use Rattle.doubles.proofs.Laws.{first_not-last, second_not-last, turned, alone}
use Rattle.due.specs.Due.{What}
use Rattle.runs.specs.declared.RunRefusal.TheVariants.{BadQueue}
use Rattle.runs.specs.Running.{due_in, run}
use Rattle.runs.specs.Call.{queue_good, refused, done, call}
use Rattle.runs.proofs.Calling.{goes_through}
use Rattle.std.specs.Prelude.{Result}
use Rattle.fills.specs.declared.Filling.{Filling}
use Rattle.fills.specs.declared.FillRefusal.{FillRefusal}
use Rattle.fills.specs.Fills.{fill}
use Rattle.fills.proofs.Laws as fills
use Rattle.promises.specs.Doubles.{Single}
use Rattle.promises.proofs.Cases.{Case, removes, consumes, raises, IsDue, is_due}
use Rattle.promises.proofs.Accepted.{store-accepted}
use Rattle.promises.proofs.Sums.{run-keeps}

-- rows that stay, or are no longer last-level, do not come to collide
pub fewer_single : (m m' : List ℕ) (n : ℕ) → ((i : ℕ) → i < n → (row_at m' i ≡ row_at m i) ⊎ (is_last (row_at m' i) ≡ false)) → Single m n → Single m' n
fewer_single m m' n kept s i j h l d = rows_case (kept i h) (kept j l)
  where
    rows_case : (row_at m' i ≡ row_at m i) ⊎ (is_last (row_at m' i) ≡ false) → (row_at m' j ≡ row_at m j) ⊎ (is_last (row_at m' j) ≡ false) → collides (row_at m' i) (row_at m' j) ≡ false
    rows_case (inr e) r = first_not-last (row_at m' i) (row_at m' j) e
    rows_case (inl e) (inr f) = second_not-last (row_at m' i) (row_at m' j) f
    rows_case (inl e) (inl f) = rw (e, f) (s i j h l d)

-- a run only takes rows away
module _ (f : Features) (queue : List ℕ) (n r : ℕ) where
  abbrev Kept : Memory → Type 0
  Kept m = memory.Accepts m n × (kept_rows m ≡ r) × Single m.kept r

  store-single : (m m' : Memory) (w : What) → Kept m → IsDue f queue m w m' → Case f queue m w m' → (kept_rows m' ≡ r) × Single m'.kept r
  store-single m m' w p d (removes c i legal low what stored) = rw stored (by_table (is_kept m i) refl)
    where
      s : Single m.kept r
      s = p.2

      by_table : (b : Bool) → is_kept m i ≡ b
          → (kept_rows (pick b (in_kept m (4 * i + 1) 0) (in_second m (2 * behind m i) 0)) ≡ r) × Single (pick b (in_kept m (4 * i + 1) 0) (in_second m (2 * behind m i) 0)).kept r
      by_table true e =
          (ap (λ (k : ℕ). k / 4) (length-set m.kept (4 * i + 1) 0) ∙ p.1, fewer_single m.kept _ r (λ j h. by_place j h (ℕ_discrete j i)) s)
        where
          by_place : (j : ℕ) → j < r → Dec (j ≡ i) → (row_at (set m.kept (4 * i + 1) 0) j ≡ row_at m.kept j) ⊎ (is_last (row_at (set m.kept (4 * i + 1) 0) j) ≡ false)
          by_place j h (yes q) =
              inr (rw q (ap is_last (cleared-row m.kept i (omega (arith, memory.kept-below m i e, memory.accepted-whole m n p.0))) ∙ empty-not-last (emptied (row_at m.kept i)) (emptied-empty (row_at m.kept i))))
          by_place j h (no q) = inl (cleared-other m.kept i j q)
      by_table false e = (p.1, s)
  store-single m m' w p d (consumes c legal nothing what stored) =
      rw stored (memory.same-kept-rows (memory.size-stored m _) ∙ p.1, fewer_single m.kept _ r (λ j h. inl (row_kept m.kept 0 _ j (λ q. omega (arith, q.from)))) p.2)
  store-single m m' w p d (raises why illegal what stored) =
      rw stored (memory.same-kept-rows (memory.size-stored m _) ∙ p.1, fewer_single m.kept _ r (λ j h. inl (row_kept m.kept 0 _ j (λ q. omega (arith, q.from)))) p.2)

  -- at every allowance
  pub run-single : (k : ℕ) (m : Memory) → memory.Accepts m n → kept_rows m ≡ r → Single m.kept r → Single (run f queue k m).memory.kept r
  run-single k m a rows s =
      (run-keeps (due_in f queue) Kept
      (λ x y w p e. let d = is_due f queue x w y e in
      let q = store-single x y w p d d.kind in
      (store-accepted f queue n x y w p.0 e, q.0, q.1)) k m (a, rows, s)).2

  by_queue : (k : ℕ) (m : Memory) (b : Bool) → memory.Accepts m n → kept_rows m ≡ r → Single m.kept r → Single (pick (not b) (refused BadQueue m) (done (run f queue k m))).memory.kept r
  by_queue k m true a rows s = run-single k m a rows s
  by_queue k m false a rows s = s

  pub call-single : (k : ℕ) (m : Memory) → memory.Accepts m n → kept_rows m ≡ r → Single m.kept r → Single (call f queue k m).memory.kept r
  call-single k m a rows s = rw (goes_through f queue k m n a) (by_queue k m (queue_good queue m) a rows s)

-- a fill puts in only what collides with none, at every allowance
pub fill-single : (m : List ℕ) (n row : ℕ) (words : Row) (k : ℕ) → Accepts m n → Single m n → Single (fill m row words k).memory n
fill-single m n row words k a s = by_way (fills.which-way m row words)
  where
    by_way : fills.Goes m row words → Single (fill m row words k).memory n
    by_way (fills.stops why g) = rw (ap (λ (o : Outcome (List ℕ) (Result Filling FillRefusal)). o.memory) (g k)) s
    by_way (fills.stores n' c) = ⊎_elim half whole (less_or_not k 4)
      where
        after : List ℕ
        after = (fill m row words k).memory

        as_many : n' ≡ n
        as_many = cc (accepts m n a, accepts m n' c.image)

        stays : (j : ℕ) → (j ≡ row → ⊥) → row_at after j ≡ row_at m j
        stays j d = fills.other_rows_kept m n' row words c k j d

        new : (j : ℕ) → j < n → collides words (row_at m j) ≡ false
        new j h = alone m n' words c.alone j (rw as_many h)

        turn : (x y : Row) → collides x y ≡ false → collides y x ≡ false
        turn x y e = never (collides y x) (λ t. clash (turned y x t) e)

        half : k < 4 → Single after n
        half h = fewer_single m after n (λ j l. by_place j (ℕ_discrete j row)) s
          where
            by_place : (j : ℕ) → Dec (j ≡ row) → (row_at after j ≡ row_at m j) ⊎ (is_last (row_at after j) ≡ false)
            by_place j (yes e) = inr (rw e (empty-not-last (row_at after row) (fills.half_filled m n' row words c k h)))
            by_place j (no d) = inl (stays j d)

        whole : 4 ≤ k → Single after n
        whole h i j p q d = by-places (ℕ_discrete i row) (ℕ_discrete j row)
          where
            filled : row_at after row ≡ words
            filled = fills.filled m n' row words c k h

            by-places : Dec (i ≡ row) → Dec (j ≡ row) → collides (row_at after i) (row_at after j) ≡ false
            by-places (yes e) (yes g) = absurd (d (e ∙ sym g))
            by-places (yes e) (no g) = rw (e, filled, stays j g) (new j q)
            by-places (no e) (yes g) = rw (g, filled, stays i e) (turn words (row_at m i) (new i p))
            by-places (no e) (no g) = rw (stays i e, stays j g) (s i j p q d)
