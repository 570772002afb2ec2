-- What a fill leaves at every allowance, and what repeating it does.
-- Document 01, One run, of filling, for the table of document 02, T-11; half-filled rules out that word 0 is stored first.
-- Assumes nothing.
use mathlib.Core.Path.{◌≡◌, refl, sym, ap, ◌∙◌}
use mathlib.Core.Bool.{Bool, true, false, not}
use mathlib.Core.List.{List}
use mathlib.Core.Logic.{◌⊎◌, inl, inr, ⊎_elim}
use Prim.Native.Nat.{ℕ, zero, suc, ◌+◌, ◌*◌, ◌≤◌, ◌<◌}
use native.Mathlib.Decide.{ℕ_discrete}
use native.Mathlib.Omega.{arith}
use lib.Dec.{eqb}
use lib.ListN.{length, get_or, set, length-set}
use lib.Seq.{get_or-set_same, get_or-set_other}
use borrow.Author.Tests.{not-true, not-false}
use Rattle.stores.specs.Stores.{store_in, after_stores}
use Rattle.words.specs.Outcomes.{Outcome, with}
use Rattle.stores.proofs.Laws.{after-all, after_length, stores_keep, untouched, over_cut}
use Rattle.words.proofs.Truth.{left, right, and_true, less_or_not}
use Rattle.std.specs.Prelude.{Err, Ok, Result}
use Rattle.image.specs.declared.Refusal.{Refusal}
use Rattle.regions.specs.declared.Refusal.{Refusal as TableRefusal}
use Rattle.fills.specs.declared.Filling.{Filling}
use Rattle.image.specs.Image as image
use Rattle.regions.specs.declared.Region.{Region}
use Rattle.regions.specs.Regions.{is_empty, well_formed}
use Rattle.regions.specs.Table.{row_at, is_used, check}
use Rattle.regions.proofs.Checks.{Accepts, has_row, accepts, says}
use Rattle.regions.proofs.AfterStores.{InRow, row_kept, empty-formed}
use Rattle.fills.specs.declared.FillEnd.TheVariants.{Filled, Cut}
use Rattle.region_fills.specs.declared.FillRefusal.{FillRefusal}
use Rattle.region_fills.specs.declared.FillRefusal.TheVariants.{Image, Table, NoSuchRow, RowInUse, Unfit}
use Rattle.region_fills.specs.Fills.{fill_stores, fit, report, refused, fill_row, fill}
use Rattle.region_fills.proofs.Order.{both-places, report-cut, report-filled}
use Rattle.region_fills.proofs.Cases.{done, row-none, row-in-use, row-unfit, row_done, fill-image, fill-table, fill-goes-on}

-- a fill that no refusal stops
pub record Carried (m t : List ℕ) (n row : ℕ) (words : Region) : Type 0 where
  pub rows : ℕ
  pub kept : image.check m ≡ Ok rows
  pub table : Accepts t n
  pub below : row < n
  pub empty : is_empty (row_at t row) ≡ true
  pub formed : well_formed words ≡ true
  pub some : is_empty words ≡ false

module _ (row : ℕ) (words : Region) where
  -- the table after k of the stores
  abbrev after : ℕ → List ℕ → List ℕ
  after k t = after_stores k (fill_stores row words) t

  after-enough : (k : ℕ) (t : List ℕ) → 2 ≤ k → after k t ≡ after 2 t
  after-enough k t h = after-all k (fill_stores row words) t h

  -- every store goes into the row, so what such a store keeps, every allowance keeps
  in_row : (i : ℕ) → i < 2 → InRow row (store_in (fill_stores row words) i).at
  in_row =
      both-places (λ i. InRow row (store_in (fill_stores row words) i).at)
      (record { from = omega arith; to = omega arith }) (record { from = omega arith; to = omega arith })

  keeps : (P : List ℕ → Type 0) → ((t : List ℕ) (p v : ℕ) → InRow row p → P t → P (set t p v)) → (k : ℕ) (t : List ℕ) → P t → P (after k t)
  keeps P s k t p = stores_keep P (fill_stores row words) (λ i h l q. s l _ _ (in_row i h) q) k t p

  -- word 0 waits for the last store
  waits : (t : List ℕ) (k : ℕ) → k < 2 → get_or (after k t) (2 * row) 0 ≡ get_or t (2 * row) 0
  waits t k h = untouched (2 * row) (fill_stores row words) k t (λ i l b. later i (omega arith))
    where
      later : (i : ℕ) → i < 1 → 2 * row ≡ (store_in (fill_stores row words) i).at → ⊥
      later zero l e = omega arith
      later (suc i) l e = omega arith

  -- then the row holds the two words
  holds-words : (t : List ℕ) → 2 * row + 2 ≤ length t → row_at (after 2 t) row ≡ words
  unfolding after_stores row_at
  holds-words t h =
      let based = set t (2 * row + 1) words.w1 in
      rw (
        get_or-set_same based (2 * row) words.w0 0 (omega (arith, length-set t (2 * row + 1) words.w1)),
        get_or-set_other based (2 * row) (2 * row + 1) words.w0 0 (omega arith),
        get_or-set_same t (2 * row + 1) words.w1 0 (omega arith),
      )

module _ (m t : List ℕ) (n row : ℕ) (words : Region) (c : Carried m t n row words) where
  pub carried : (k : ℕ) → fill m t row words k ≡ done t row words k
  unfolding is_used fit
  carried k =
      fill-goes-on m t row words k c.rows c.kept n (accepts t n c.table)
      ∙ row_done t n row words k c.below (ap not c.empty) (and_true c.formed (ap not c.some))

  -- the table that it leaves, store by store
  abbrev leaves : ℕ → List ℕ
  leaves k = (fill m t row words k).memory

  pub left_by : (k : ℕ) → leaves k ≡ after_stores k (fill_stores row words) t
  left_by k = ap (λ (o : Outcome (List ℕ) (Result Filling FillRefusal)). o.memory) (carried k)

  -- enough: with two stores or more it ends Filled, with less it ends Cut, each with the stores it made
  pub enough : (k : ℕ) → 2 ≤ k → (fill m t row words k).answer ≡ Ok (record { end = Filled; stores = 2 })
  enough k h = ap (λ (o : Outcome (List ℕ) (Result Filling FillRefusal)). o.answer) (carried k) ∙ ap Ok (report-filled k h)

  pub not_enough : (k : ℕ) → k < 2 → (fill m t row words k).answer ≡ Ok (record { end = Cut; stores = k })
  not_enough k h = ap (λ (o : Outcome (List ℕ) (Result Filling FillRefusal)). o.answer) (carried k) ∙ ap Ok (report-cut k h)

  -- at every allowance the other rows stay
  pub other_rows_kept : (k j : ℕ) → (j ≡ row → ⊥) → row_at (leaves k) j ≡ row_at t j
  other_rows_kept k j d =
      rw (left_by k)
      (keeps row words (λ l. row_at l j ≡ row_at t j)
      (λ l p v r e. row_kept l p v j (λ q. d (omega (arith, q.from, q.to, r.from, r.to))) ∙ e) k t refl)

  -- a cut fill leaves the row empty, so that nothing sees a part of it
  pub half_filled : (k : ℕ) → k < 2 → is_empty (row_at (leaves k) row) ≡ true
  unfolding row_at
  half_filled k h = rw (left_by k) (ap (λ (w : ℕ). eqb w 0) (waits row words t k h) ∙ c.empty)

  -- a finished one leaves it with the two words
  pub filled : (k : ℕ) → 2 ≤ k → row_at (leaves k) row ≡ words
  filled k h = rw (left_by k, after-enough row words k t h) (holds-words row words t (has_row t n row c.table.size c.below))

  -- the table stays accepted
  pub stays-accepted : (k : ℕ) → Accepts (leaves k) n
  stays-accepted k =
      record {
        size = record {
          words = rw (left_by k) (after_length k (fill_stores row words) t ∙ c.table.size.words);
          some = c.table.size.some;
          few = c.table.size.few;
        };
        rows-formed = λ j h. each j h (ℕ_discrete j row);
      }
    where
      this : (k < 2) ⊎ (2 ≤ k) → well_formed (row_at (leaves k) row) ≡ true
      this (inl h) = empty-formed (row_at (leaves k) row) (half_filled k h)
      this (inr h) = rw (filled k h) c.formed

      each : (j : ℕ) → j < n → Dec (j ≡ row) → well_formed (row_at (leaves k) j) ≡ true
      each j h (yes s) = rw s (this (less_or_not k 2))
      each j h (no d) = rw (other_rows_kept k j d) (c.table.rows-formed j h)

  -- a cut fill may be made again: nothing refuses it
  pub still_carried : (k : ℕ) → k < 2 → Carried m (leaves k) n row words
  still_carried k h =
      record {
        rows = c.rows;
        kept = c.kept;
        table = stays-accepted k;
        below = c.below;
        empty = half_filled k h;
        formed = c.formed;
        some = c.some;
      }

  -- a finished one repeated, with whatever words, is refused and stores nothing
  pub finished-refuses : (k k' : ℕ) (words' : Region) → 2 ≤ k → fill m (leaves k) row words' k' ≡ refused RowInUse (leaves k)
  unfolding is_used
  finished-refuses k k' words' h =
      fill-goes-on m (leaves k) row words' k' c.rows c.kept n (accepts (leaves k) n (stays-accepted k))
      ∙ row-in-use (leaves k) n row words' k' c.below (ap (λ (r : Region). not (is_empty r)) (filled k h) ∙ ap not c.some)

-- filling again with an allowance of two or more leaves, and answers, what an uncut fill does
pub fill-again : (m t : List ℕ) (n row : ℕ) (words : Region) → Carried m t n row words → (k k' : ℕ) → k < 2 → 2 ≤ k'
    → fill m (fill m t row words k).memory row words k' ≡ fill m t row words k'
fill-again m t n row words c k k' h h' =
    carried m (fill m t row words k).memory n row words (still_carried m t n row words c k h) k'
    ∙ ap (with (Ok (report k'))) same
    ∙ sym (carried m t n row words c k')
  where
    same : after_stores k' (fill_stores row words) (fill m t row words k).memory ≡ after_stores k' (fill_stores row words) t
    same =
        rw (left_by m t n row words c k)
        (after-enough row words k' (after_stores k (fill_stores row words) t) h' ∙ over_cut k (fill_stores row words) t (omega arith)
        ∙ sym (after-enough row words k' t h'))

-- which way a fill goes, whatever its allowance is: refused and nothing stored, or carried out
pub data Goes (m t : List ℕ) (row : ℕ) (words : Region) : Type 0 where
  stops : (why : FillRefusal) → ((k : ℕ) → fill m t row words k ≡ refused why t) → Goes m t row words
  stores : (n : ℕ) → Carried m t n row words → Goes m t row words

module _ (m t : List ℕ) (row : ℕ) (words : Region) where
  pub which-way : Goes m t row words
  unfolding is_used fit
  which-way = by_image (image.check m) refl
    where
      on : (rows n : ℕ) → image.check m ≡ Ok rows → check t ≡ Ok n → (why : FillRefusal)
          → ((k : ℕ) → fill_row t n row words k ≡ refused why t) → Goes m t row words
      on rows n i e why f = stops why (λ k. fill-goes-on m t row words k rows i n e ∙ f k)

      by_fit : (rows n : ℕ) → image.check m ≡ Ok rows → check t ≡ Ok n → row < n → is_used t row ≡ false
          → (b : Bool) → fit words ≡ b → Goes m t row words
      by_fit rows n i e h u false f = on rows n i e Unfit (λ k. row-unfit t n row words k h u f)
      by_fit rows n i e h u true f =
          stores n
          (record {
            rows = rows;
            kept = i;
            table = (says t).accepted n e;
            below = h;
            empty = not-false (is_empty (row_at t row)) u;
            formed = left (well_formed words) (not (is_empty words)) f;
            some = not-true (is_empty words) (right (well_formed words) (not (is_empty words)) f);
          })

      by_use : (rows n : ℕ) → image.check m ≡ Ok rows → check t ≡ Ok n → row < n → (b : Bool) → is_used t row ≡ b → Goes m t row words
      by_use rows n i e h true u = on rows n i e RowInUse (λ k. row-in-use t n row words k h u)
      by_use rows n i e h false u = by_fit rows n i e h u (fit words) refl

      by_table : (rows : ℕ) → image.check m ≡ Ok rows → (a : Result ℕ TableRefusal) → check t ≡ a → Goes m t row words
      by_table rows i (Err why) e = stops (Table why) (λ k. fill-table m t row words k rows i why e)
      by_table rows i (Ok n) e =
          ⊎_elim (λ h. by_use rows n i e h (is_used t row) refl) (λ h. on rows n i e NoSuchRow (λ k. row-none t n row words k h)) (less_or_not row n)

      by_image : (a : Result ℕ Refusal) → image.check m ≡ a → Goes m t row words
      by_image (Err why) e = stops (Image why) (λ k. fill-image m t row words k why e)
      by_image (Ok rows) e = by_table rows e (check t) refl

  -- a refusal stores nothing
  pub refused-leaves : (k : ℕ) (why : FillRefusal) → (fill m t row words k).answer ≡ Err why → (fill m t row words k).memory ≡ t
  refused-leaves k why e = by_way which-way
    where
      by_way : Goes m t row words → (fill m t row words k).memory ≡ t
      by_way (stops why' g) = ap (λ (o : Outcome (List ℕ) (Result Filling FillRefusal)). o.memory) (g k)
      by_way (stores n c) =
          let z : ◌≡◌ {A = ℕ} 0 1 = cc (ap (λ (o : Outcome (List ℕ) (Result Filling FillRefusal)). o.answer) (carried m t n row words c k)) in
          absurd (omega arith)

  -- an accepted table stays accepted, whatever is answered and wherever the power goes
  pub accepted_at_every_allowance : (k n : ℕ) → Accepts t n → Accepts (fill m t row words k).memory n
  accepted_at_every_allowance k n a = by_way which-way
    where
      by_way : Goes m t row words → Accepts (fill m t row words k).memory n
      by_way (stops why g) = rw (ap (λ (o : Outcome (List ℕ) (Result Filling FillRefusal)). o.memory) (g k)) a
      by_way (stores n' c) =
          let same : n' ≡ n = cc (accepts t n a, accepts t n' c.table) in
          rw (← same) (stays-accepted m t n' row words c k)
