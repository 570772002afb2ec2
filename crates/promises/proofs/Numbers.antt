-- Document 01, When the unit says no: each call gives the first number of its row that applies, and 0 where none does.
-- Assumes nothing.
use mathlib.Core.Path.{◌≡◌, refl, ap, ◌∙◌}
use mathlib.Core.Bool.{Bool, true, false, not, ◌&&◌}
use mathlib.Core.List.{List, [], ◌++◌}
use Prim.Native.Nat.{ℕ, zero, suc, ◌*◌, ◌^◌}
use lib.Dec.{eqb, leb, ltb}
use lib.ListN.{length, get_or, set}
use Rattle.words.specs.Choice.{pick}
use Rattle.words.specs.Outcomes.{Outcome, with}
use Rattle.words.specs.Search.{lowest}
use Rattle.std.specs.Prelude.{Err, None, Ok, Option, Result, Some, ⊤}
use Rattle.fills.specs.declared.Filling.{Filling}
use Rattle.fills.specs.declared.FillRefusal.{FillRefusal}
use Rattle.region_fills.specs.declared.FillRefusal.{FillRefusal as TableFillRefusal}
use Rattle.writer.specs.declared.WriteRefusal.{WriteRefusal}
use Rattle.batch_writes.specs.declared.BatchRefusal.{BatchRefusal}
use Rattle.words.proofs.Truth.{through}
use Rattle.attributes.specs.Formats as attributes
use Rattle.rows.specs.declared.Row.{Row}
use Rattle.control.specs.Control as control
use Rattle.control_stores.specs.Stores.{may_ring}
use Rattle.commands.specs.declared.Features.{Features}
use Rattle.image.specs.declared.Refusal.{Refusal}
use Rattle.image.specs.declared.Refusal.TheVariants.{BadLength, BadControl, BadRow}
use Rattle.image.specs.Image as image
use Rattle.image.proofs.Checks.{bad_length, bad_control, rows_case, says, rows_are}
use Rattle.runs.specs.declared.End.{End}
use Rattle.runs.specs.declared.End.TheVariants.{Off, Held, Empty, Raised, Cut}
use Rattle.runs.specs.Running as running
use Rattle.runs.specs.Call as runs
use Rattle.doubles.specs.Doubles.{doubled}
use Rattle.fills.specs.declared.FillEnd.{FillEnd}
use Rattle.fills.specs.declared.FillEnd.TheVariants.{Filled, Cut as Fill-as-Cut}
use Rattle.fills.specs.Fills as fills
use Rattle.control_calls.specs.Calls as control-calls
use Rattle.transactions.specs.declared.Transaction.{Transaction}
use Rattle.transactions.specs.Call as transactions
use Rattle.due.specs.declared.Raising.{Raising}
use Rattle.memory.specs.Memory.{Memory}
use Rattle.regions.specs.declared.Region.{Region}
use Rattle.regions.specs.declared.Refusal.{Refusal as regions·Refusal}
use Rattle.regions.specs.declared.Refusal.TheVariants.{BadLength as regions·BadLength, BadRow as regions·BadRow}
use Rattle.regions.specs.Table as regions
use Rattle.regions.proofs.Checks.{rows_case as regions·by-rows, says as regions·says, rows_are as regions·rows-are}
use Rattle.region_fills.specs.Fills as region-fills
use Rattle.writer.specs.declared.Fault.{Fault}
use Rattle.writer.specs.declared.Fault.TheVariants.{Missing, Unfit}
use Rattle.commands.specs.declared.Coded.{Coded}
use Rattle.writer.specs.Writing as writer
use Rattle.batch_writes.specs.declared.BatchRefusal.TheVariants.{NoRoom}
use Rattle.batch_writes.specs.Batch as batch
use Rattle.batch_writes.specs.Batch.{Lent}
use Rattle.batches.specs.Batches as batches
use Rattle.promises.specs.Numbers.{run_number, check_number, fill_number, table_fill_number, doorbell_number, acknowledge_number, clear_number, enable_number, translate_number, Rule, first, of_image, of_table, of_run, of_check, of_doorbell, of_acknowledge, of_clear, of_fill, of_table_fill, of_transaction, run_ends, fill_ends, write_number, of_write, batch_number, first_lacks, first_unfit, of_batch}

-- 1, 2 and 3, and then the numbers of the call's own
module _ {A : Type 0} (m : List ℕ) (number : A → ℕ) (refuses : Refusal → A) (continues : ℕ → A) (rules : List Rule)
    (says-why : (why : Refusal) → number (refuses why) ≡ image.number why)
    (says-rest : (n : ℕ) → image.check m ≡ Ok n → number (continues n) ≡ first rules) where
  abbrev told : Result ℕ Refusal → ℕ
  told c = number (image.checked c refuses continues)

  by_found : (x : Option ℕ) → lowest (image.is_bad m) (image.rows_in m) 0 ≡ x → image.length_good m ≡ true → control.well_formed (image.control_of m) ≡ true
      → told (image.check m) ≡ first (of_image m ++ rules)
  by_found (Some i) e good formed = rw (rows_case m good formed, e, good, formed) (says-why (BadRow i))
  by_found None e good formed =
      let accepted : image.check m ≡ Ok (image.rows_in m) = rows_case m good formed ∙ rw e in
      rw (accepted, e, good, formed) (says-rest (image.rows_in m) accepted)

  by-control : (b : Bool) → control.well_formed (image.control_of m) ≡ b → image.length_good m ≡ true → told (image.check m) ≡ first (of_image m ++ rules)
  by-control true formed good = by_found (lowest (image.is_bad m) (image.rows_in m) 0) refl good formed
  by-control false formed good = rw (bad_control m good formed, good, formed) (says-why BadControl)

  by_length : (b : Bool) → image.length_good m ≡ b → told (image.check m) ≡ first (of_image m ++ rules)
  by_length true good = by-control (control.well_formed (image.control_of m)) refl good
  by_length false good = rw (bad_length m good, good) (says-why BadLength)

  image-first : told (image.check m) ≡ first (of_image m ++ rules)
  image-first = by_length (image.length_good m) refl

-- 13 and 14, and then the numbers of the call's own
module _ {A : Type 0} (t : List ℕ) (number : A → ℕ) (refuses : regions·Refusal → A) (continues : ℕ → A) (rules : List Rule)
    (says-why : (why : regions·Refusal) → number (refuses why) ≡ regions.number why)
    (says-rest : (n : ℕ) → regions.check t ≡ Ok n → number (continues n) ≡ first rules) where
  abbrev second : Result ℕ regions·Refusal → ℕ
  second c = number (regions.checked c refuses continues)

  found-bad : (x : Option ℕ) → lowest (regions.is_bad t) (regions.rows_in t) 0 ≡ x → regions.length_good t ≡ true → second (regions.check t) ≡ first (of_table t ++ rules)
  found-bad (Some i) e good = rw (regions·by-rows t good, e, good) (says-why (regions·BadRow i))
  found-bad None e good =
      let accepted : regions.check t ≡ Ok (regions.rows_in t) = regions·by-rows t good ∙ rw e in
      rw (accepted, e, good) (says-rest (regions.rows_in t) accepted)

  long-or-not : (b : Bool) → regions.length_good t ≡ b → second (regions.check t) ≡ first (of_table t ++ rules)
  unfolding regions.check
  long-or-not true good = found-bad (lowest (regions.is_bad t) (regions.rows_in t) 0) refl good
  long-or-not false good = rw good (says-why regions·BadLength)

  table-first : second (regions.check t) ≡ first (of_table t ++ rules)
  table-first = long-or-not (regions.length_good t) refl

-- a number of an outcome's answer
abbrev pub of_answer : {M A : Type 0} → (A → ℕ) → Outcome M A → ℕ
of_answer number o = number o.answer

pub run-number : (f : Features) (queue : List ℕ) (k : ℕ) (m : Memory)
    → run_number (runs.call f queue k m).answer ≡ first (of_image m.kept ++ of_table m.table ++ of_run queue m)
unfolding runs.call
run-number f queue k m =
    image-first m.kept (of_answer run_number) _ _ (of_table m.table ++ of_run queue m) (λ why. refl)
    (λ n e. table-first m.table (of_answer run_number) _ _ (of_run queue m) (λ why. refl)
    (λ r g. through (of_answer run_number) (not (runs.queue_good queue m)) _ _))

-- document 02, T-12; what is judged is no refusal
module _ (f : Features) (original proposed : List ℕ) (m : Memory) where
  pub check-number : check_number (batches.check f original proposed m) ≡ first (of_image m.kept ++ of_table m.table ++ of_check original proposed)
  unfolding batches.check
  check-number =
      image-first m.kept check_number _ _ (of_table m.table ++ of_check original proposed) (λ why. refl)
      (λ n e. table-first m.table check_number _ _ (of_check original proposed) (λ why. refl)
      (λ r g. through check_number (not (batches.is_whole original && batches.is_whole proposed)) _ _))

pub number_of_table_fill : (m t : List ℕ) (row : ℕ) (words : Region) (k : ℕ)
    → table_fill_number (region-fills.fill m t row words k).answer ≡ first (of_image m ++ of_table t ++ of_table_fill t row words)
unfolding region-fills.fill region-fills.fill_row
number_of_table_fill m t row words k =
    let number : Outcome (List ℕ) (Result Filling TableFillRefusal) → ℕ = of_answer table_fill_number in
    image-first m number _ _ (of_table t ++ of_table_fill t row words) (λ why. refl)
    (λ n e. table-first t number _ _ (of_table_fill t row words) (λ why. refl)
    (λ r g. rw (regions·rows-are t r ((regions·says t).accepted r g).size)
    (through number (leb r row) _ _
    ∙ ap (pick (leb r row) 7)
    (through number (regions.is_used t row) _ _
    ∙ ap (pick (regions.is_used t row) 8) (through number (not (region-fills.fit words)) _ _)))))

module _ (m : List ℕ) where
  pub doorbell-number : (wr : ℕ) → doorbell_number (control-calls.doorbell m wr).answer ≡ first (of_image m ++ of_doorbell m wr)
  unfolding control-calls.doorbell
  doorbell-number wr =
      image-first m (of_answer doorbell_number) _ _ (of_doorbell m wr) (λ why. refl)
      (λ n e. through (of_answer doorbell_number) (not (may_ring (image.control_of m) wr)) _ _)

  pub acknowledge-number : acknowledge_number (control-calls.acknowledge m).answer ≡ first (of_image m ++ of_acknowledge m)
  unfolding control-calls.acknowledge
  acknowledge-number =
      image-first m (of_answer acknowledge_number) _ _ (of_acknowledge m) (λ why. refl)
      (λ n e. through (of_answer acknowledge_number) (not (control.active (image.control_of m))) _ _)

  pub clear-number : clear_number (control-calls.clear_pending m).answer ≡ first (of_image m ++ of_clear m)
  unfolding control-calls.clear_pending
  clear-number =
      image-first m (of_answer clear_number) _ _ (of_clear m) (λ why. refl)
      (λ n e. through (of_answer clear_number) (not (control.is_pending (image.control_of m))) _ _)

  pub enable-number : (on : Bool) → enable_number (control-calls.enable m on).answer ≡ first (of_image m ++ [])
  unfolding control-calls.enable
  enable-number on = image-first m (of_answer enable_number) _ _ [] (λ why. refl) (λ n e. refl)

  pub fill-number : (row : ℕ) (words : Row) (k : ℕ) → fill_number (fills.fill m row words k).answer ≡ first (of_image m ++ of_fill m row words)
  unfolding fills.fill
  fill-number row words k =
      let number : Outcome (List ℕ) (Result Filling FillRefusal) → ℕ = of_answer fill_number in
      image-first m number _ _ (of_fill m row words) (λ why. refl)
      (λ n e. rw (rows_are m n ((says m).accepted n e).size)
      (through number (leb n row) _ _
      ∙ ap (pick (leb n row) 7)
      (through number (image.is_used m row) _ _
      ∙ ap (pick (image.is_used m row) 8)
      (through number (not (fills.fit words)) _ _ ∙ ap (pick (not (fills.fit words)) 9) (through number (doubled m n words) _ _)))))

  pub translate-number : (t : Transaction) → translate_number (transactions.translate m t) ≡ first (of_image m ++ of_transaction t)
  unfolding transactions.translate
  translate-number t =
      image-first m translate_number _ _ (of_transaction t) (λ why. refl)
      (λ n e. through translate_number (not (attributes.well_formed t.attributes)) _ _)

-- an end's number is its place among the ends, so that the number tells which it was
pub run_end_told : (told : Raising) (e : End) → ((t : Raising) → e ≡ Raised t → told ≡ t) → get_or (run_ends told) (running.end_number e) Cut ≡ e
run_end_told told Off g = refl
run_end_told told Held g = refl
run_end_told told Empty g = refl
run_end_told told (Raised t) g = ap Raised (g t refl)
run_end_told told Cut g = refl

pub fill_end_told : (e : FillEnd) → get_or fill_ends (fills.end_number e) Fill-as-Cut ≡ e
fill_end_told Filled = refl
fill_end_told Fill-as-Cut = refl

-- document 02, T-10
pub write-number : (f : Features) (d slot : List ℕ) → write_number (writer.write f d slot).answer ≡ first (of_write f d slot)
unfolding writer.write writer.judged
write-number f d slot =
    through number (not (eqb (length slot) writer.slot_size)) _ _
    ∙ ap (pick (not (eqb (length slot) writer.slot_size)) 19) (by_tests (writer.lacks f d) (writer.unfit f d))
  where
    number : Outcome (List ℕ) (Result ⊤ WriteRefusal) → ℕ
    number = of_answer write_number

    by_tests : (a b : Bool) → number (writer.by_verdict slot (pick a (Err Missing) (pick b (Err Unfit) (Ok (writer.split (writer.encoded d)))))) ≡ pick a 20 (pick b 21 0)
    by_tests true b = refl
    by_tests false true = refl
    by_tests false false = refl

pub number_of_batch : (f : Features) (ws : List ℕ) (m : Lent) → batch_number (batch.write_batch f ws m).answer ≡ first (of_image m.kept ++ of_batch f ws m)
unfolding batch.write_batch batch.judged_from
number_of_batch f ws m =
    image-first m.kept number _ _ (of_batch f ws m) (λ why. refl)
    (λ rows e. through number (not (eqb (length m.queue) (writer.slot_size * 2 ^ control.log2size w))) _ _
    ∙ ap (pick (not (eqb (length m.queue) (writer.slot_size * 2 ^ control.log2size w))) 4) (judged n 0))
  where
    number : Outcome Lent (Result ⊤ BatchRefusal) → ℕ
    number = of_answer batch_number

    w : ℕ
    w = image.control_of m.kept

    n : ℕ
    n = batch.commands_in ws

    by_room : (b : Bool) → number (pick b (batch.refused NoRoom m) (with (Ok tt) (batch.lent (set m.kept 0 (batch.moved_on w n)) (batch.placed ws w m.queue n)))) ≡ pick b 22 0
    by_room true = refl
    by_room false = refl

    Numbered : Result ⊤ BatchRefusal → Type 0
    Numbered j =
        number (batch.by_judged j m (pick (ltb (batch.free_in w) n) (batch.refused NoRoom m) (with (Ok tt) (batch.lent (set m.kept 0 (batch.moved_on w n)) (batch.placed ws w m.queue n)))))
        ≡ pick (first_lacks j) 20 (pick (first_unfit j) 21 (pick (ltb (batch.free_in w) n) 22 0))

    -- what is judged is a command's fault, or none
    or_later : (i : ℕ) (v : Result Coded Fault) (later : Result ⊤ BatchRefusal) → Numbered later → Numbered (batch.or_later i v later)
    or_later i (Err Missing) later h = refl
    or_later i (Err Unfit) later h = refl
    or_later i (Ok c) later h = h

    judged : (k i : ℕ) → Numbered (batch.judged_from f ws k i)
    judged zero i = by_room (ltb (batch.free_in w) n)
    judged (suc k) i = or_later i (batch.judged_at f ws i) (batch.judged_from f ws k (suc i)) (judged k (suc i))
