-- Document 01, A transaction; and When the unit says no: refusal 10.
-- Assumes nothing.
use Rattle.std.specs.Prelude.{not, List, ℕ, Err, Ok, Result}
use Rattle.words.specs.Choice.{pick}
use Rattle.attributes.specs.Formats.{well_formed}
use Rattle.image.specs.Image as image
use Rattle.transactions.specs.declared.Transaction.{Transaction}
use Rattle.transactions.specs.declared.Miss.TheVariants.{Ste, Cd, Stage1, Stage2}
use Rattle.transactions.specs.declared.Outcome.{Outcome}
use Rattle.transactions.specs.declared.Outcome.TheVariants.{Translated, Abort, Missed}
use Rattle.transactions.specs.declared.TransactionRefusal.{TransactionRefusal}
use Rattle.transactions.specs.declared.TransactionRefusal.TheVariants.{Image, IllFormed}
use Rattle.transactions.specs.Steps.{translation}

-- the paper's number of each refusal
abbrev pub number : TransactionRefusal → ℕ
number (Image why) = image.number why
number IllFormed = 10

-- a number for each outcome: an address, Abort, then the misses in the order of the steps
abbrev pub outcome_number : Outcome → ℕ
outcome_number (Translated o) = 0
outcome_number Abort = 1
outcome_number (Missed Ste) = 2
outcome_number (Missed Cd) = 3
outcome_number (Missed Stage1) = 4
outcome_number (Missed Stage2) = 5

-- refusal 10 before anything is looked up
unfoldable pub translate : List ℕ → Transaction → Result Outcome TransactionRefusal
translate m t =
    image.checked (image.check m) (λ why. Err (Image why))
    (λ n. pick (not (well_formed t.attributes)) (Err IllFormed) (Ok (translation m t)))
