-- Reading and acknowledging: one store to the index word each, or none.
-- Assumes nothing.
use mathlib.Core.Path.{◌≡◌, refl, sym, ap, ◌∙◌}
use mathlib.Core.Bool.{Bool, true, false}
use mathlib.Core.List.{List, ◌∷◌}
use Prim.Native.Nat.{ℕ}
use native.Mathlib.Omega.{arith}
use lib.ListN.{set, drop}
use Rattle.words.specs.Outcomes.{Outcome, with}
use Rattle.events.specs.declared.Record.{Record}
use Rattle.std.specs.Prelude.{Err, Ok, Result, ⊤}
use Rattle.events.specs.declared.Refusal.{Refusal}
use Rattle.events.specs.Word.{rd_bits, wr_bits, outstanding, is_empty, oldest}
use Rattle.events.specs.Stores.{read_out, acknowledged}
use Rattle.events.specs.Events.{index_of, record_at, waiting, check}
use Rattle.events.proofs.Formed.{Formed}
use Rattle.events.proofs.Checks.{Accepts, accepts, says}
use Rattle.events.proofs.Index.{read-outstanding, read-formed, acknowledged-keeps, acknowledged-quiet, acknowledged-formed}
use Rattle.events.proofs.Waiting.{stored-word, flag-waiting, read-waiting}
use Rattle.event_calls.specs.declared.ReadRefusal.{ReadRefusal}
use Rattle.event_calls.specs.declared.ReadRefusal.TheVariants.{Recorder as OfRecorder, Empty}
use Rattle.event_calls.specs.declared.AcknowledgeRefusal.{AcknowledgeRefusal}
use Rattle.event_calls.specs.declared.AcknowledgeRefusal.TheVariants.{Recorder as ByRecorder, NoOverflow}
use Rattle.event_calls.specs.Calls.{read, acknowledge}
use Rattle.event_calls.specs.Told.{queue_by_read, overflow_by_acknowledge}
use Rattle.event_calls.proofs.Cases.{read-refused, read-empty, read-stores, acknowledge-refused, acknowledge-none, acknowledge-stores}
use Rattle.event_calls.proofs.Laws.{index-stored}

-- Which way a call with outcome o goes from the memory m. Refused: nothing is stored. Or, from an accepted recorder on which the
-- call's own test is t, carried out: the index word becomes v.
pub data Way {R A : Type 0} (m : List ℕ) (o : Outcome (List ℕ) A) (no : R → A) (yes : A) (test t : Bool) (v : ℕ) : Type 0 where
  stops : (why : R) → o ≡ with (no why) m → Way m o no yes test t v
  stores : (n : ℕ) → Accepts m n → test ≡ t → o ≡ with yes (set m 0 v) → Way m o no yes test t v

never {ℓ} : {B : Type ℓ} → ◌≡◌ {A = ℕ} 0 1 → B
never z = absurd (omega arith)

-- what both calls do
module _ {R A : Type 0} {m : List ℕ} {o : Outcome (List ℕ) A} {no : R → A} {yes : A} {test t : Bool} {v : ℕ} where
  refusal-stores-nothing : Way m o no yes test t v → ((why : R) → yes ≡ no why → ⊥) → (why : R) → o.answer ≡ no why → o.memory ≡ m
  refusal-stores-nothing (stops why' e) other why q = rw e
  refusal-stores-nothing (stores n a p e) other why q = absurd (other why (sym (ap (λ (x : Outcome (List ℕ) A). x.answer) e) ∙ q))

  stays-accepted : Way m o no yes test t v → ((n : ℕ) → Accepts m n → test ≡ t → Formed n v) → (n : ℕ) → Accepts m n → Accepts o.memory n
  stays-accepted (stops why e) f n a = rw e a
  stays-accepted (stores n' a' p e) f n a = rw e (index-stored m n v a (f n a p))

module _ (m : List ℕ) where
  abbrev w : ℕ
  w = index_of m

  abbrev pub ReadWay : Type 0
  ReadWay = Way m (read m) Err (Ok (record_at m (oldest w))) (is_empty w) false (read_out w)

  pub read-way : ReadWay
  read-way = by_check (check m) refl
    where
      by_test : (n : ℕ) → check m ≡ Ok n → (t : Bool) → is_empty w ≡ t → ReadWay
      by_test n e true t = stops Empty (read-empty m n e t)
      by_test n e false t = stores n ((says m).accepted n e) t (read-stores m n e t)

      by_check : (c : Result ℕ Refusal) → check m ≡ c → ReadWay
      by_check (Err why) e = stops (OfRecorder why) (read-refused m why e)
      by_check (Ok n) e = by_test n e (is_empty w) refl

  pub read-refused-leaves : (why : ReadRefusal) → (read m).answer ≡ Err why → (read m).memory ≡ m
  read-refused-leaves why q = refusal-stores-nothing read-way (λ y e. never (cc)) why q

  pub read-accepted : (n : ℕ) → Accepts m n → Accepts (read m).memory n
  read-accepted n a = stays-accepted read-way (λ k b t. read-formed k w b.size.few b.index t) n a

  -- what is read was the first of the records, and the rest stay in their order
  pub read-oldest : (r : Record) → (read m).answer ≡ Ok r → waiting m ≡ r ∷ waiting (read m).memory
  read-oldest r q = by_way read-way
    where
      by_way : ReadWay → waiting m ≡ r ∷ waiting (read m).memory
      by_way (stops why e) = never (cc (ap (λ (o : Outcome (List ℕ) (Result Record ReadRefusal)). o.answer) e))
      by_way (stores n a t e) =
          let same : record_at m (oldest w) ≡ r = cc (ap (λ (o : Outcome (List ℕ) (Result Record ReadRefusal)). o.answer) e) in
          read-waiting m n a t ∙ ap (λ (x : Record). x ∷ waiting (set m 0 (read_out w))) same
          ∙ ap (λ (o : Outcome (List ℕ) (Result Record ReadRefusal)). r ∷ waiting o.memory) (sym e)

  pub read-queue : waiting (read m).memory ≡ queue_by_read (read m).answer (waiting m)
  read-queue = by_way read-way
    where
      by_way : ReadWay → waiting (read m).memory ≡ queue_by_read (read m).answer (waiting m)
      by_way (stops why e) = rw e
      by_way (stores n a t e) = rw e (ap (drop 1) (sym (read-waiting m n a t)))

  pub read-overflow : outstanding (index_of (read m).memory) ≡ outstanding w
  read-overflow = by_way read-way
    where
      by_way : ReadWay → outstanding (index_of (read m).memory) ≡ outstanding w
      by_way (stops why e) = rw e
      by_way (stores n a t e) = rw (e, stored-word m n a (read_out w)) (read-outstanding w)

  abbrev pub AcknowledgeWay : Type 0
  AcknowledgeWay = Way m (acknowledge m) Err (Ok tt) (outstanding w) true (acknowledged w)

  pub acknowledge-way : AcknowledgeWay
  acknowledge-way = by_check (check m) refl
    where
      by_test : (n : ℕ) → check m ≡ Ok n → (t : Bool) → outstanding w ≡ t → AcknowledgeWay
      by_test n e false t = stops NoOverflow (acknowledge-none m n e t)
      by_test n e true t = stores n ((says m).accepted n e) t (acknowledge-stores m n e t)

      by_check : (c : Result ℕ Refusal) → check m ≡ c → AcknowledgeWay
      by_check (Err why) e = stops (ByRecorder why) (acknowledge-refused m why e)
      by_check (Ok n) e = by_test n e (outstanding w) refl

  pub acknowledge-refused-leaves : (why : AcknowledgeRefusal) → (acknowledge m).answer ≡ Err why → (acknowledge m).memory ≡ m
  acknowledge-refused-leaves why q = refusal-stores-nothing acknowledge-way (λ y e. never (cc)) why q

  pub acknowledge-accepted : (n : ℕ) → Accepts m n → Accepts (acknowledge m).memory n
  acknowledge-accepted n a = stays-accepted acknowledge-way (λ k b t. acknowledged-formed k w b.size.few b.index) n a

  -- no record changes
  pub acknowledge-queue : waiting (acknowledge m).memory ≡ waiting m
  acknowledge-queue = by_way acknowledge-way
    where
      by_way : AcknowledgeWay → waiting (acknowledge m).memory ≡ waiting m
      by_way (stops why e) = rw e
      by_way (stores n a t e) =
          rw e (flag-waiting m n a (acknowledged w) (acknowledged-formed n w a.size.few a.index) (acknowledged-keeps w rd_bits tt) (acknowledged-keeps w wr_bits tt))

  pub acknowledge-overflow : outstanding (index_of (acknowledge m).memory) ≡ overflow_by_acknowledge (acknowledge m).answer (outstanding w)
  acknowledge-overflow = by_way acknowledge-way
    where
      by_way : AcknowledgeWay → outstanding (index_of (acknowledge m).memory) ≡ overflow_by_acknowledge (acknowledge m).answer (outstanding w)
      by_way (stops why e) = rw e
      by_way (stores n a t e) = rw (e, stored-word m n a (acknowledged w)) (acknowledged-quiet w)

  -- acknowledged, there is none to acknowledge
  pub acknowledge-again : (acknowledge m).answer ≡ Ok tt → acknowledge (acknowledge m).memory ≡ with (Err NoOverflow) (acknowledge m).memory
  acknowledge-again q = by_way acknowledge-way
    where
      by_way : AcknowledgeWay → acknowledge (acknowledge m).memory ≡ with (Err NoOverflow) (acknowledge m).memory
      by_way (stops why e) = never (cc (ap (λ (o : Outcome (List ℕ) (Result ⊤ AcknowledgeRefusal)). o.answer) e))
      by_way (stores n a t e) =
          acknowledge-none (acknowledge m).memory n (accepts (acknowledge m).memory n (acknowledge-accepted n a))
          (acknowledge-overflow ∙ ap (λ (x : Result ⊤ AcknowledgeRefusal). overflow_by_acknowledge x (outstanding w)) q)
