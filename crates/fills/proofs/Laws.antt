-- What a fill leaves at every allowance, and what repeating it does.
-- Document 01, One run, of filling; and the slip of storing word 0 first, which half-filled rules out.
-- Assumes nothing.
use mathlib.Core.Path.{◌≡◌, refl, sym, ap, ◌∙◌}
use mathlib.Core.Bool.{Bool, true, false, not}
use mathlib.Core.List.{List}
use mathlib.Core.Logic.{◌⊎◌, inl, inr, ⊎_elim}
use Prim.Native.Nat.{ℕ, zero, suc, ◌+◌, ◌*◌, ◌≤◌, ◌<◌}
use native.Mathlib.Decide.{ℕ_discrete}
use native.Mathlib.Omega.{arith}
use lib.Dec.{eqb}
use lib.ListN.{length, get_or, set}
use lib.Seq.{get_or-set_same, get_or-set_other}
use borrow.Author.Tests.{not-true, not-false}
use Rattle.stores.specs.Stores.{store_in, after_stores}
use Rattle.words.specs.Outcomes.{Outcome}
use Rattle.stores.proofs.Laws.{each-place, after-all, after_length, stores_keep, untouched, over_cut}
use Rattle.words.proofs.Truth.{left, right, and_true, less_or_not}
use Rattle.rows.specs.declared.Row.{Row}
use Rattle.rows.specs.Rows.{is_empty}
use Rattle.rows.proofs.LastLevel.{empty-not-last}
use Rattle.row_forms.specs.WellFormed as rows
use Rattle.row_forms.proofs.Halves.{still_formed}
use Rattle.std.specs.Prelude.{Err, Ok, Result}
use Rattle.image.specs.declared.Refusal.{Refusal}
use Rattle.fills.specs.declared.Filling.{Filling}
use Rattle.image.specs.Image.{control_of, row_at, is_used, check}
use Rattle.image.proofs.Checks.{Accepts, accepts, says}
use Rattle.image.proofs.AfterStores.{InRow, row_kept, control_kept, empty-formed}
use Rattle.doubles.specs.Doubles.{collides, doubled}
use Rattle.doubles.proofs.Laws.{second_not-last, alone, is-alone}
use Rattle.fills.specs.declared.FillEnd.TheVariants.{Filled, Cut}
use Rattle.fills.specs.declared.FillRefusal.{FillRefusal}
use Rattle.fills.specs.declared.FillRefusal.TheVariants.{Image, NoSuchRow, RowInUse, Unfit, Doubled}
use Rattle.fills.specs.Fills.{fill_stores, fit, report, refused, fill}
use Rattle.fills.proofs.Order.{report-cut, report-filled}
use Rattle.fills.proofs.Cases.{done, fill-image, fill-no-row, fill-in-use, fill-unfit, fill-doubled, fill_done}

-- a fill that no refusal stops
pub record Carried (m : List ℕ) (n row : ℕ) (words : Row) : Type 0 where
  pub image : Accepts m n
  pub below : row < n
  pub empty : is_empty (row_at m row) ≡ true
  pub formed : rows.well_formed words ≡ true
  pub some : is_empty words ≡ false
  pub alone : doubled m n words ≡ false

module _ (row : ℕ) (words : Row) where
  -- the memory after k of the stores
  abbrev after : ℕ → List ℕ → List ℕ
  after k m = after_stores k (fill_stores row words) m

  after-enough : (k : ℕ) (m : List ℕ) → 4 ≤ k → after k m ≡ after 4 m
  after-enough k m h = after-all k (fill_stores row words) m h

  -- every store goes into the row
  in_row : (i : ℕ) → i < 4 → InRow row (store_in (fill_stores row words) i).at
  in_row =
      let place : (d : ℕ) → 1 ≤ d → d ≤ 4 → InRow row (4 * row + d) = λ d a b. record { from = omega arith; to = omega arith } in
      each-place (λ i. InRow row (store_in (fill_stores row words) i).at)
      (place 2 (omega arith) (omega arith)) (place 3 (omega arith) (omega arith)) (place 4 (omega arith) (omega arith)) (place 1 (omega arith) (omega arith))

  -- so what a store into the row keeps, every allowance keeps
  keeps : (P : List ℕ → Type 0) → ((m : List ℕ) (p v : ℕ) → InRow row p → P m → P (set m p v)) → (k : ℕ) (m : List ℕ) → P m → P (after k m)
  keeps P s k m p = stores_keep P (fill_stores row words) (λ i h l q. s l _ _ (in_row i h) q) k m p

  -- word 0 waits for the last store
  waits : (m : List ℕ) (k : ℕ) → k < 4 → get_or (after k m) (4 * row + 1) 0 ≡ get_or m (4 * row + 1) 0
  waits m k h = untouched (4 * row + 1) (fill_stores row words) k m (λ i l b. later i (omega arith))
    where
      later : (i : ℕ) → i < 3 → 4 * row + 1 ≡ (store_in (fill_stores row words) i).at → ⊥
      later zero l e = omega arith
      later (suc zero) l e = omega arith
      later (suc (suc zero)) l e = omega arith
      later (suc (suc (suc i))) l e = omega arith

  -- then the row holds the four words
  holds-words : (m : List ℕ) → 4 * row + 5 ≤ length m → row_at (after 4 m) row ≡ words
  unfolding after_stores row_at
  holds-words m h =
      let other : (l : List ℕ) (d e v : ℕ) → (e ≡ d → ⊥) → get_or (set l (4 * row + d) v) (4 * row + e) 0 ≡ get_or l (4 * row + e) 0 =
      λ l d e v ne. get_or-set_other l (4 * row + d) (4 * row + e) v 0 (omega (arith, ne)) in
      let here : (k d v : ℕ) → d ≤ 4 → get_or (set (after k m) (4 * row + d) v) (4 * row + d) 0 ≡ v =
      λ k d v le. get_or-set_same (after k m) (4 * row + d) v 0 (omega (arith, after_length k (fill_stores row words) m)) in
      rw (
        here 3 1 words.w0 (omega arith),
        other (after 3 m) 1 2 words.w0 (omega arith),
        other (after 2 m) 4 2 words.w3 (omega arith),
        other (after 1 m) 3 2 words.w2 (omega arith),
        here 0 2 words.w1 (omega arith),
        other (after 3 m) 1 3 words.w0 (omega arith),
        other (after 2 m) 4 3 words.w3 (omega arith),
        here 1 3 words.w2 (omega arith),
        other (after 3 m) 1 4 words.w0 (omega arith),
        here 2 4 words.w3 (omega arith),
      )

module _ (m : List ℕ) (n row : ℕ) (words : Row) (c : Carried m n row words) where
  pub carried : (k : ℕ) → fill m row words k ≡ done m row words k
  unfolding is_used fit
  carried k =
      fill_done m row words k n (accepts m n c.image) c.below (ap not c.empty) (and_true c.formed (ap not c.some)) c.alone

  -- the memory that it leaves, store by store
  abbrev leaves : ℕ → List ℕ
  leaves k = (fill m row words k).memory

  pub left_by : (k : ℕ) → leaves k ≡ after_stores k (fill_stores row words) m
  left_by k = ap (λ (o : Outcome (List ℕ) (Result Filling FillRefusal)). o.memory) (carried k)

  room : 4 * row + 5 ≤ length m
  room = omega (arith, c.image.size.words, c.below)

  -- enough: with four stores or more it ends Filled, with less it ends Cut, each with the stores it made
  pub enough : (k : ℕ) → 4 ≤ k → (fill m row words k).answer ≡ Ok (record { end = Filled; stores = 4 })
  enough k h = ap (λ (o : Outcome (List ℕ) (Result Filling FillRefusal)). o.answer) (carried k) ∙ ap Ok (report-filled k h)

  pub not_enough : (k : ℕ) → k < 4 → (fill m row words k).answer ≡ Ok (record { end = Cut; stores = k })
  not_enough k h = ap (λ (o : Outcome (List ℕ) (Result Filling FillRefusal)). o.answer) (carried k) ∙ ap Ok (report-cut k h)

  -- at every allowance the other rows and the control word stay
  pub other_rows_kept : (k j : ℕ) → (j ≡ row → ⊥) → row_at (leaves k) j ≡ row_at m j
  other_rows_kept k j d =
      rw (left_by k)
      (keeps row words (λ l. row_at l j ≡ row_at m j)
      (λ l p v r e. row_kept l p v j (λ q. d (omega (arith, q.from, q.to, r.from, r.to))) ∙ e) k m refl)

  pub control_word-kept : (k : ℕ) → control_of (leaves k) ≡ control_of m
  control_word-kept k =
      rw (left_by k)
      (keeps row words (λ l. control_of l ≡ control_of m) (λ l p v r e. control_kept l p v (omega (arith, r.from)) ∙ e) k m refl)

  -- a cut fill leaves the row empty, so that nothing sees a part of it
  pub half_filled : (k : ℕ) → k < 4 → is_empty (row_at (leaves k) row) ≡ true
  unfolding row_at
  half_filled k h = rw (left_by k) (ap (λ (w : ℕ). eqb w 0) (waits row words m k h) ∙ c.empty)

  -- a finished one leaves it with the four words
  pub filled : (k : ℕ) → 4 ≤ k → row_at (leaves k) row ≡ words
  filled k h = rw (left_by k, after-enough row words k m h) (holds-words row words m room)

  -- the image stays accepted
  pub stays-accepted : (k : ℕ) → Accepts (leaves k) n
  stays-accepted k =
      record {
        size = record {
          words = rw (left_by k) (after_length k (fill_stores row words) m ∙ c.image.size.words);
          some = c.image.size.some;
          few = c.image.size.few;
        };
        control_formed = rw (control_word-kept k) c.image.control_formed;
        rows-formed = λ j h. each j h (ℕ_discrete j row);
      }
    where
      this : (k < 4) ⊎ (4 ≤ k) → rows.well_formed (row_at (leaves k) row) ≡ true
      this (inl h) = empty-formed (row_at (leaves k) row) (half_filled k h)
      this (inr h) = rw (filled k h) c.formed

      each : (j : ℕ) → j < n → Dec (j ≡ row) → rows.well_formed (row_at (leaves k) j) ≡ true
      each j h (yes s) = rw s (this (less_or_not k 4))
      each j h (no d) = rw (other_rows_kept k j d) (c.image.rows-formed j h)

  -- its own half-written row is empty, so it doubles nothing
  still_alone : (k : ℕ) → k < 4 → doubled (leaves k) n words ≡ false
  still_alone k h = is-alone (leaves k) n words (λ j l. each j l (ℕ_discrete j row))
    where
      each : (j : ℕ) → j < n → Dec (j ≡ row) → collides words (row_at (leaves k) j) ≡ false
      each j l (yes s) = rw s (second_not-last words (row_at (leaves k) row) (empty-not-last (row_at (leaves k) row) (half_filled k h)))
      each j l (no d) = rw (other_rows_kept k j d) (alone m n words c.alone j l)

  -- a cut fill may be made again: nothing refuses it
  pub still_carried : (k : ℕ) → k < 4 → Carried (leaves k) n row words
  still_carried k h =
      record { image = stays-accepted k; below = c.below; empty = half_filled k h; formed = c.formed; some = c.some; alone = still_alone k h }

  -- a finished one repeated, with whatever words, is refused and stores nothing
  pub finished-refuses : (k k' : ℕ) (words' : Row) → 4 ≤ k → fill (leaves k) row words' k' ≡ refused RowInUse (leaves k)
  unfolding is_used
  finished-refuses k k' words' h =
      fill-in-use (leaves k) row words' k' n (accepts (leaves k) n (stays-accepted k)) c.below
      (ap (λ (r : Row). not (is_empty r)) (filled k h) ∙ ap not c.some)

-- filling again with an allowance of four or more leaves, and answers, what an uncut fill does
pub fill-again : (m : List ℕ) (n row : ℕ) (words : Row) → Carried m n row words → (k k' : ℕ) → k < 4 → 4 ≤ k'
    → fill (fill m row words k).memory row words k' ≡ fill m row words k'
fill-again m n row words c k k' h h' =
    carried (fill m row words k).memory n row words (still_carried m n row words c k h) k'
    ∙ ap (λ (l : List ℕ). record { answer = Ok (report k'); memory = l }) same
    ∙ sym (carried m n row words c k')
  where
    same : after_stores k' (fill_stores row words) (fill m row words k).memory ≡ after_stores k' (fill_stores row words) m
    same =
        rw (left_by m n row words c k)
        (after-enough row words k' (after_stores k (fill_stores row words) m) h' ∙ over_cut k (fill_stores row words) m (omega arith)
        ∙ sym (after-enough row words k' m h'))

-- which way a fill goes, whatever its allowance is: refused and nothing stored, or carried out
pub data Goes (m : List ℕ) (row : ℕ) (words : Row) : Type 0 where
  stops : (why : FillRefusal) → ((k : ℕ) → fill m row words k ≡ refused why m) → Goes m row words
  stores : (n : ℕ) → Carried m n row words → Goes m row words

module _ (m : List ℕ) (row : ℕ) (words : Row) where
  pub which-way : Goes m row words
  unfolding is_used fit
  which-way = by_check (check m) refl
    where
      by_double : (n : ℕ) → check m ≡ Ok n → row < n → is_used m row ≡ false → fit words ≡ true → (t : Bool) → doubled m n words ≡ t → Goes m row words
      by_double n e h u f true t = stops Doubled (λ k. fill-doubled m row words k n e h u f t)
      by_double n e h u f false t =
          let formed : rows.well_formed words ≡ true = left (rows.well_formed words) (not (is_empty words)) f in
          let some : is_empty words ≡ false = not-true (is_empty words) (right (rows.well_formed words) (not (is_empty words)) f) in
          let empty : is_empty (row_at m row) ≡ true = not-false (is_empty (row_at m row)) u in
          stores n (record { image = (says m).accepted n e; below = h; empty = empty; formed = formed; some = some; alone = t })

      by_fit : (n : ℕ) → check m ≡ Ok n → row < n → is_used m row ≡ false → (t : Bool) → fit words ≡ t → Goes m row words
      by_fit n e h u false t = stops Unfit (λ k. fill-unfit m row words k n e h u t)
      by_fit n e h u true t = by_double n e h u t (doubled m n words) refl

      by_use : (n : ℕ) → check m ≡ Ok n → row < n → (t : Bool) → is_used m row ≡ t → Goes m row words
      by_use n e h true u = stops RowInUse (λ k. fill-in-use m row words k n e h u)
      by_use n e h false u = by_fit n e h u (fit words) refl

      by_check : (t : Result ℕ Refusal) → check m ≡ t → Goes m row words
      by_check (Err why) e = stops (Image why) (λ k. fill-image m row words k why e)
      by_check (Ok n) e =
          ⊎_elim (λ h. by_use n e h (is_used m row) refl) (λ h. stops NoSuchRow (λ k. fill-no-row m row words k n e h)) (less_or_not row n)

  -- a refusal stores nothing
  pub refused-leaves : (k : ℕ) (why : FillRefusal) → (fill m row words k).answer ≡ Err why → (fill m row words k).memory ≡ m
  refused-leaves k why e = by_way which-way
    where
      by_way : Goes m row words → (fill m row words k).memory ≡ m
      by_way (stops why' g) = ap (λ (o : Outcome (List ℕ) (Result Filling FillRefusal)). o.memory) (g k)
      by_way (stores n c) =
          let z : ◌≡◌ {A = ℕ} 0 1 = cc (ap (λ (o : Outcome (List ℕ) (Result Filling FillRefusal)). o.answer) (carried m n row words c k)) in
          absurd (omega arith)

  -- an accepted image stays accepted, whatever is answered and wherever the power goes
  pub accepted_at_every_allowance : (k n : ℕ) → Accepts m n → Accepts (fill m row words k).memory n
  accepted_at_every_allowance k n a = by_way which-way
    where
      by_way : Goes m row words → Accepts (fill m row words k).memory n
      by_way (stops why g) = rw (ap (λ (o : Outcome (List ℕ) (Result Filling FillRefusal)). o.memory) (g k)) a
      by_way (stores n' c) =
          let same : n' ≡ n = cc (accepts m n a, accepts m n' c.image) in
          rw (← same) (stays-accepted m n' row words c k)

-- Document 02, T-04: words fit for a row by document 01 still are
pub still_fit : (words : Row) → rows.well_formed_by rows.document01 words ≡ true → is_empty words ≡ false → fit words ≡ true
unfolding fit
still_fit words f s = and_true (still_formed words f) (ap not s)
