-- What doorbell, acknowledge, clearing and enable leave, and what repeating them does.
-- Document 01, One run: each is one control store and is not cut.
-- Assumes nothing.
use mathlib.Core.Path.{◌≡◌, refl, sym, ap, ◌∙◌}
use mathlib.Core.Bool.{Bool, true, false}
use mathlib.Core.List.{List}
use Prim.Native.Nat.{ℕ, ◌<◌}
use native.Mathlib.Omega.{arith}
use lib.Dec.{T, eqb}
use lib.ListN.{length}
use lib.Seq.{get_or-set_same, set-set}
use Rattle.words.specs.Choice.{pick}
use Rattle.words.specs.Outcomes.{Outcome, with}
use Rattle.words.specs.Ranges.{Range, get}
use Rattle.words.proofs.Parts.{apart}
use Rattle.control.specs.Control as control
use Rattle.control.proofs.Formed.{Formed, formed, is_formed}
use Rattle.control_stores.specs.Stores.{may_ring, rung, acknowledged, pended, switched}
use Rattle.control_stores.proofs.AfterStores.{rung-keeps, rung-sets, rung-formed, acknowledged-keeps, acknowledged-sets, acknowledged-quiet, acknowledged-formed, pended-keeps, pended-sets, pended-formed, switched-keeps, switched-sets, switched-formed}
use Rattle.image.specs.declared.Refusal.{Refusal}
use Rattle.std.specs.Prelude.{Err, Ok, Result, ⊤}
use Rattle.image.specs.Image.{control_of, row_at, check}
use Rattle.image.proofs.Checks.{Accepts, accepts, says}
use Rattle.image.proofs.AfterStores.{row_kept, control-stored}
use Rattle.control_calls.specs.declared.DoorbellRefusal.{DoorbellRefusal}
use Rattle.control_calls.specs.declared.DoorbellRefusal.TheVariants.{Image as ByImage, BadIndex}
use Rattle.control_calls.specs.declared.AcknowledgeRefusal.{AcknowledgeRefusal}
use Rattle.control_calls.specs.declared.AcknowledgeRefusal.TheVariants.{Image as OfImage, NoError}
use Rattle.control_calls.specs.declared.ClearRefusal.{ClearRefusal}
use Rattle.control_calls.specs.declared.ClearRefusal.TheVariants.{Image as InImage, NotPending}
use Rattle.control_calls.specs.Calls.{stored, doorbell, acknowledge, clear_pending, enable}
use Rattle.control_calls.proofs.Cases.{doorbell-image, doorbell-index, doorbell-rings, acknowledge-image, acknowledge-none, acknowledge-stores, clear-image, clear_none, clear-stores, enable-image, enable-stores}
use Rattle.control_calls.proofs.Twice.{rung-again, may-ring-again, switched-again}

-- Which way a call with outcome o goes from the memory m. Refused: nothing is stored. Or, from an accepted image on
-- which the call's own test may passes, carried out: the control word becomes w.
pub data Way {R A : Type 0} (m : List ℕ) (o : Outcome (List ℕ) A) (no : R → A) (yes : A) (may : Bool) (w : ℕ) : Type 0 where
  stops : (why : R) → o ≡ with (no why) m → Way m o no yes may w
  stores : (n : ℕ) → Accepts m n → may ≡ true → o ≡ with yes (stored m w) → Way m o no yes may w

has_word : (m : List ℕ) (n : ℕ) → Accepts m n → 0 < length m
has_word m n a = omega (arith, a.size.words)

stored-word : (m : List ℕ) (n w : ℕ) → Accepts m n → control_of (stored m w) ≡ w
stored-word m n w a = get_or-set_same m 0 w 0 (has_word m n a)

-- what every such call keeps
module _ {R A : Type 0} {m : List ℕ} {o : Outcome (List ℕ) A} {no : R → A} {yes : A} {may : Bool} {w : ℕ} where
  rows_stay : Way m o no yes may w → (j : ℕ) → row_at o.memory j ≡ row_at m j
  rows_stay (stops why e) j = rw e
  rows_stay (stores n a t e) j = rw e (row_kept m 0 w j (λ r. omega (arith, r.from)))

  part_stays : Way m o no yes may w → (r : Range) → get r w ≡ get r (control_of m) → get r (control_of o.memory) ≡ get r (control_of m)
  part_stays (stops why e) r k = rw e
  part_stays (stores n a t e) r k = rw (e, stored-word m n w a) k

  refusal-stores-nothing : Way m o no yes may w → ((why : R) → yes ≡ no why → ⊥) → (why : R) → o.answer ≡ no why → o.memory ≡ m
  refusal-stores-nothing (stops why' e) other why r = rw e
  refusal-stores-nothing (stores n a t e) other why r = absurd (other why (sym (ap (λ (q : Outcome (List ℕ) A). q.answer) e) ∙ r))

  stays-accepted : Way m o no yes may w → (may ≡ true → Formed (control_of m) → Formed w) → (n : ℕ) → Accepts m n → Accepts o.memory n
  stays-accepted (stops why e) f n a = rw e a
  stays-accepted (stores n' a' t e) f n a =
      rw e (control-stored m n a w (is_formed w (f t (formed (control_of m) a.control_formed))))

never {ℓ} : {B : Type ℓ} → ◌≡◌ {A = ℕ} 0 1 → B
never z = absurd (omega arith)

module _ (m : List ℕ) (v : ℕ) where
  -- the word that it stores
  abbrev rings : ℕ
  rings = rung (control_of m) v

  abbrev pub DoorbellWay : Type 0
  DoorbellWay = Way m (doorbell m v) Err (Ok tt) (may_ring (control_of m) v) rings

  pub doorbell-way : DoorbellWay
  doorbell-way = by_check (check m) refl
    where
      by_test : (n : ℕ) → check m ≡ Ok n → (t : Bool) → may_ring (control_of m) v ≡ t → DoorbellWay
      by_test n e false t = stops BadIndex (doorbell-index m n v e t)
      by_test n e true t = stores n ((says m).accepted n e) t (doorbell-rings m n v e t)

      by_check : (k : Result ℕ Refusal) → check m ≡ k → DoorbellWay
      by_check (Err why) e = stops (ByImage why) (doorbell-image m v why e)
      by_check (Ok n) e = by_test n e (may_ring (control_of m) v) refl

  pub doorbell-keeps-rows : (j : ℕ) → row_at (doorbell m v).memory j ≡ row_at m j
  doorbell-keeps-rows j = rows_stay doorbell-way j

  -- every part of the control word but WR
  pub doorbell-keeps : (r : Range) → T (apart control.wr_bits r) → get r (control_of (doorbell m v).memory) ≡ get r (control_of m)
  doorbell-keeps r t = part_stays doorbell-way r (rung-keeps (control_of m) v r t)

  pub doorbell-refused : (why : DoorbellRefusal) → (doorbell m v).answer ≡ Err why → (doorbell m v).memory ≡ m
  doorbell-refused why r = refusal-stores-nothing doorbell-way (λ y e. never (cc)) why r

  pub doorbell-accepted : (n : ℕ) → Accepts m n → Accepts (doorbell m v).memory n
  doorbell-accepted n a = stays-accepted doorbell-way (λ t f. rung-formed (control_of m) v f t) n a

  pub doorbell-sets : (doorbell m v).answer ≡ Ok tt → control.wr (control_of (doorbell m v).memory) ≡ v
  doorbell-sets r = by_way doorbell-way
    where
      by_way : DoorbellWay → control.wr (control_of (doorbell m v).memory) ≡ v
      by_way (stops why e) = never (cc (ap (λ (o : Outcome (List ℕ) (Result ⊤ DoorbellRefusal)). o.answer) e))
      by_way (stores n a t e) =
          rw (ap (λ (o : Outcome (List ℕ) (Result ⊤ DoorbellRefusal)). o.memory) e, stored-word m n rings a)
          (rung-sets (control_of m) v (formed (control_of m) a.control_formed) t)

  -- the same WR again: the same answer, and the same word stored
  pub doorbell-again : doorbell (doorbell m v).memory v ≡ doorbell m v
  doorbell-again = by_way doorbell-way
    where
      by_way : DoorbellWay → doorbell (doorbell m v).memory v ≡ doorbell m v
      by_way (stops why e) = ap (λ (o : Outcome (List ℕ) (Result ⊤ DoorbellRefusal)). doorbell o.memory v) e
      by_way (stores n a t e) =
          let f = formed (control_of m) a.control_formed in
          let m' = stored m rings in
          let a' = control-stored m n a rings (is_formed rings (rung-formed (control_of m) v f t)) in
          let s : control_of m' ≡ rings = stored-word m n rings a in
          let t' : may_ring (control_of m') v ≡ true = rw s (may-ring-again (control_of m) v f t) in
          let same : stored m' (rung (control_of m') v) ≡ m' =
          ap (λ (x : ℕ). stored m' (rung x v)) s ∙ ap (stored m') (rung-again (control_of m) v) ∙ set-set m 0 rings rings in
          ap (λ (o : Outcome (List ℕ) (Result ⊤ DoorbellRefusal)). doorbell o.memory v) e
          ∙ doorbell-rings m' n v (accepts m' n a') t' ∙ ap (with (Ok tt)) same ∙ sym e

module _ (m : List ℕ) where
  abbrev quiets : ℕ
  quiets = acknowledged (control_of m)

  abbrev pub AcknowledgeWay : Type 0
  AcknowledgeWay = Way m (acknowledge m) Err (Ok tt) (control.active (control_of m)) quiets

  pub acknowledge-way : AcknowledgeWay
  acknowledge-way = by_check (check m) refl
    where
      by_test : (n : ℕ) → check m ≡ Ok n → (t : Bool) → control.active (control_of m) ≡ t → AcknowledgeWay
      by_test n e false t = stops NoError (acknowledge-none m n e t)
      by_test n e true t = stores n ((says m).accepted n e) t (acknowledge-stores m n e t)

      by_check : (k : Result ℕ Refusal) → check m ≡ k → AcknowledgeWay
      by_check (Err why) e = stops (OfImage why) (acknowledge-image m why e)
      by_check (Ok n) e = by_test n e (control.active (control_of m)) refl

  pub acknowledge-keeps-rows : (j : ℕ) → row_at (acknowledge m).memory j ≡ row_at m j
  acknowledge-keeps-rows j = rows_stay acknowledge-way j

  -- every part of the control word but GERRORN, so ERR too
  pub acknowledge-keeps : (r : Range) → T (apart control.gerrorn_bits r) → get r (control_of (acknowledge m).memory) ≡ get r (control_of m)
  acknowledge-keeps r t = part_stays acknowledge-way r (acknowledged-keeps (control_of m) r t)

  pub acknowledge-refused : (why : AcknowledgeRefusal) → (acknowledge m).answer ≡ Err why → (acknowledge m).memory ≡ m
  acknowledge-refused why r = refusal-stores-nothing acknowledge-way (λ y e. never (cc)) why r

  pub acknowledge-accepted : (n : ℕ) → Accepts m n → Accepts (acknowledge m).memory n
  acknowledge-accepted n a = stays-accepted acknowledge-way (λ t f. acknowledged-formed (control_of m) f) n a

  pub acknowledge-sets : (acknowledge m).answer ≡ Ok tt → control.gerrorn (control_of (acknowledge m).memory) ≡ control.gerror (control_of m)
  acknowledge-sets r = by_way acknowledge-way
    where
      by_way : AcknowledgeWay → control.gerrorn (control_of (acknowledge m).memory) ≡ control.gerror (control_of m)
      by_way (stops why e) = never (cc (ap (λ (o : Outcome (List ℕ) (Result ⊤ AcknowledgeRefusal)). o.answer) e))
      by_way (stores n a t e) =
          rw (ap (λ (o : Outcome (List ℕ) (Result ⊤ AcknowledgeRefusal)). o.memory) e, stored-word m n quiets a) (acknowledged-sets (control_of m))

  -- no error is active after it
  pub acknowledge-quiet : (n : ℕ) → Accepts m n → control.active (control_of (acknowledge m).memory) ≡ false
  acknowledge-quiet n a = by_test (control.active (control_of m)) refl
    where
      by_test : (t : Bool) → control.active (control_of m) ≡ t → control.active (control_of (acknowledge m).memory) ≡ false
      by_test false t = rw (ap (λ (o : Outcome (List ℕ) (Result ⊤ AcknowledgeRefusal)). o.memory) (acknowledge-none m n (accepts m n a) t)) t
      by_test true t =
          rw (ap (λ (o : Outcome (List ℕ) (Result ⊤ AcknowledgeRefusal)). o.memory) (acknowledge-stores m n (accepts m n a) t), stored-word m n quiets a)
          (acknowledged-quiet (control_of m))

  -- so that acknowledging again is refused, and stores nothing
  pub acknowledge-again : (n : ℕ) → Accepts m n → acknowledge (acknowledge m).memory ≡ with (Err NoError) (acknowledge m).memory
  acknowledge-again n a =
      acknowledge-none (acknowledge m).memory n (accepts (acknowledge m).memory n (acknowledge-accepted n a)) (acknowledge-quiet n a)

-- Document 02, T-08
module _ (m : List ℕ) where
  abbrev clears : ℕ
  clears = pended (control_of m) false

  abbrev pub ClearWay : Type 0
  ClearWay = Way m (clear_pending m) Err (Ok tt) (control.is_pending (control_of m)) clears

  pub clear-way : ClearWay
  clear-way = by_check (check m) refl
    where
      by_test : (n : ℕ) → check m ≡ Ok n → (t : Bool) → control.is_pending (control_of m) ≡ t → ClearWay
      by_test n e false t = stops NotPending (clear_none m n e t)
      by_test n e true t = stores n ((says m).accepted n e) t (clear-stores m n e t)

      by_check : (k : Result ℕ Refusal) → check m ≡ k → ClearWay
      by_check (Err why) e = stops (InImage why) (clear-image m why e)
      by_check (Ok n) e = by_test n e (control.is_pending (control_of m)) refl

  pub clear-keeps-rows : (j : ℕ) → row_at (clear_pending m).memory j ≡ row_at m j
  clear-keeps-rows j = rows_stay clear-way j

  -- every part of the control word but the pending bit
  pub clear-keeps : (r : Range) → T (apart control.pending_bits r) → get r (control_of (clear_pending m).memory) ≡ get r (control_of m)
  clear-keeps r t = part_stays clear-way r (pended-keeps (control_of m) false r t)

  pub clear-refused : (why : ClearRefusal) → (clear_pending m).answer ≡ Err why → (clear_pending m).memory ≡ m
  clear-refused why r = refusal-stores-nothing clear-way (λ y e. never (cc)) why r

  pub clear-accepted : (n : ℕ) → Accepts m n → Accepts (clear_pending m).memory n
  clear-accepted n a = stays-accepted clear-way (λ t f. pended-formed (control_of m) false f) n a

  -- nothing is pending after it
  pub clear-quiet : (n : ℕ) → Accepts m n → control.is_pending (control_of (clear_pending m).memory) ≡ false
  clear-quiet n a = by_test (control.is_pending (control_of m)) refl
    where
      by_test : (t : Bool) → control.is_pending (control_of m) ≡ t → control.is_pending (control_of (clear_pending m).memory) ≡ false
      by_test false t = rw (ap (λ (o : Outcome (List ℕ) (Result ⊤ ClearRefusal)). o.memory) (clear_none m n (accepts m n a) t)) t
      by_test true t =
          rw (ap (λ (o : Outcome (List ℕ) (Result ⊤ ClearRefusal)). o.memory) (clear-stores m n (accepts m n a) t), stored-word m n clears a)
          (ap (λ (x : ℕ). eqb x 1) (pended-sets (control_of m) false))

  -- so that clearing again is refused, and stores nothing
  pub clear-again : (n : ℕ) → Accepts m n → clear_pending (clear_pending m).memory ≡ with (Err NotPending) (clear_pending m).memory
  clear-again n a = clear_none (clear_pending m).memory n (accepts (clear_pending m).memory n (clear-accepted n a)) (clear-quiet n a)

module _ (m : List ℕ) (on : Bool) where
  abbrev switches : ℕ
  switches = switched (control_of m) on

  -- its only refusals are the image's
  abbrev pub EnableWay : Type 0
  EnableWay = Way m (enable m on) Err (Ok tt) true switches

  pub enable-way : EnableWay
  enable-way = by_check (check m) refl
    where
      by_check : (k : Result ℕ Refusal) → check m ≡ k → EnableWay
      by_check (Err why) e = stops why (enable-image m on why e)
      by_check (Ok n) e = stores n ((says m).accepted n e) refl (enable-stores m n on e)

  pub enable-keeps-rows : (j : ℕ) → row_at (enable m on).memory j ≡ row_at m j
  enable-keeps-rows j = rows_stay enable-way j

  -- every part of the control word but CMDQEN
  pub enable-keeps : (r : Range) → T (apart control.cmdqen_bits r) → get r (control_of (enable m on).memory) ≡ get r (control_of m)
  enable-keeps r t = part_stays enable-way r (switched-keeps (control_of m) on r t)

  pub enable-refused : (why : Refusal) → (enable m on).answer ≡ Err why → (enable m on).memory ≡ m
  enable-refused why r = refusal-stores-nothing enable-way (λ y e. never (cc)) why r

  pub enable-accepted : (n : ℕ) → Accepts m n → Accepts (enable m on).memory n
  enable-accepted n a = stays-accepted enable-way (λ t f. switched-formed (control_of m) on f) n a

  pub enable-sets : (enable m on).answer ≡ Ok tt → control.cmdqen (control_of (enable m on).memory) ≡ pick on 1 0
  enable-sets r = by_way enable-way
    where
      by_way : EnableWay → control.cmdqen (control_of (enable m on).memory) ≡ pick on 1 0
      by_way (stops why e) = never (cc (ap (λ (o : Outcome (List ℕ) (Result ⊤ Refusal)). o.answer) e))
      by_way (stores n a t e) =
          rw (ap (λ (o : Outcome (List ℕ) (Result ⊤ Refusal)). o.memory) e, stored-word m n switches a) (switched-sets (control_of m) on)

  -- the same again: the same answer, and the same word stored
  pub enable-again : enable (enable m on).memory on ≡ enable m on
  enable-again = by_way enable-way
    where
      by_way : EnableWay → enable (enable m on).memory on ≡ enable m on
      by_way (stops why e) = ap (λ (o : Outcome (List ℕ) (Result ⊤ Refusal)). enable o.memory on) e
      by_way (stores n a t e) =
          let m' = stored m switches in
          let a' = control-stored m n a switches (is_formed switches (switched-formed (control_of m) on (formed (control_of m) a.control_formed))) in
          let same : stored m' (switched (control_of m') on) ≡ m' =
          ap (λ (x : ℕ). stored m' (switched x on)) (stored-word m n switches a)
          ∙ ap (stored m') (switched-again (control_of m) on) ∙ set-set m 0 switches switches in
          ap (λ (o : Outcome (List ℕ) (Result ⊤ Refusal)). enable o.memory on) e
          ∙ enable-stores m' n on (accepts m' n a') ∙ ap (with (Ok tt)) same ∙ sym e
