-- Document 01, One run, and When the unit says no: doorbell, acknowledge, enable or disable; refusals 5 and 6. Document 02, T-08:
-- clearing the pending interrupt; refusal 12.
-- Assumes nothing.
use Rattle.std.specs.Prelude.{Bool, false, not, List, ℕ, set, Err, Ok, Result, ⊤}
use Rattle.words.specs.Choice.{pick}
use Rattle.words.specs.Outcomes.{Outcome, with}
use Rattle.control.specs.Control.{active, is_pending}
use Rattle.control_stores.specs.Stores.{may_ring, rung, acknowledged, pended, switched}
use Rattle.image.specs.Image as image
use Rattle.control_calls.specs.declared.DoorbellRefusal.{DoorbellRefusal}
use Rattle.control_calls.specs.declared.DoorbellRefusal.TheVariants.{Image as ByImage, BadIndex}
use Rattle.image.specs.declared.Refusal.{Refusal}
use Rattle.control_calls.specs.declared.AcknowledgeRefusal.{AcknowledgeRefusal}
use Rattle.control_calls.specs.declared.AcknowledgeRefusal.TheVariants.{Image as OfImage, NoError}
use Rattle.control_calls.specs.declared.ClearRefusal.{ClearRefusal}
use Rattle.control_calls.specs.declared.ClearRefusal.TheVariants.{Image as InImage, NotPending}

-- the paper's numbers of the refusals
abbrev pub doorbell_number : DoorbellRefusal → ℕ
doorbell_number (ByImage why) = image.number why
doorbell_number BadIndex = 5

abbrev pub acknowledge_number : AcknowledgeRefusal → ℕ
acknowledge_number (OfImage why) = image.number why
acknowledge_number NoError = 6

abbrev pub clear_number : ClearRefusal → ℕ
clear_number (InImage why) = image.number why
clear_number NotPending = 12

-- the memory with another control word
abbrev pub stored : List ℕ → ℕ → List ℕ
stored m w = set m 0 w

unfoldable pub doorbell : List ℕ → ℕ → Outcome (List ℕ) (Result ⊤ DoorbellRefusal)
doorbell m v =
    let w = image.control_of m in
    image.checked (image.check m) (λ why. with (Err (ByImage why)) m)
    (λ n. pick (not (may_ring w v)) (with (Err BadIndex) m)
    (with (Ok tt) (stored m (rung w v))))

unfoldable pub acknowledge : List ℕ → Outcome (List ℕ) (Result ⊤ AcknowledgeRefusal)
acknowledge m =
    let w = image.control_of m in
    image.checked (image.check m) (λ why. with (Err (OfImage why)) m)
    (λ n. pick (not (active w)) (with (Err NoError) m)
    (with (Ok tt) (stored m (acknowledged w))))

unfoldable pub clear_pending : List ℕ → Outcome (List ℕ) (Result ⊤ ClearRefusal)
clear_pending m =
    let w = image.control_of m in
    image.checked (image.check m) (λ why. with (Err (InImage why)) m)
    (λ n. pick (not (is_pending w)) (with (Err NotPending) m)
    (with (Ok tt) (stored m (pended w false))))

unfoldable pub enable : List ℕ → Bool → Outcome (List ℕ) (Result ⊤ Refusal)
enable m on =
    image.checked (image.check m) (λ why. with (Err why) m)
    (λ n. with (Ok tt) (stored m (switched (image.control_of m) on)))
