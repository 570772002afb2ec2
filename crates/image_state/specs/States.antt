-- Document 01, What goes between host and unit: the state of an image.
-- Assumes nothing.
use Rattle.std.specs.Prelude.{ℕ, zero, suc, ◌*◌, ◌/◌, ◌%◌, not, List, [], ◌∷◌, ◌++◌, eqb, length, Err, Ok, Result}
use Rattle.words.specs.Choice.{pick}
use Rattle.words.specs.Bytes.{word_at}
use Rattle.control.specs.Control as control
use Rattle.image.specs.declared.Refusal.TheVariants.{BadLength}
use Rattle.image.specs.Image.{control_of, check, checked, used_rows}
use Rattle.image_state.specs.declared.State.{State}
use Rattle.image.specs.declared.Refusal.{Refusal}

-- of a control word and so many used rows
unfoldable pub told : ℕ → ℕ → State
told w used =
    record {
      rd = control.rd w;
      wr = control.wr w;
      err = control.err w;
      active = control.active w;
      enabled = not (eqb (control.cmdqen w) 0);
      used = used;
    }

unfoldable pub state_of : List ℕ → Result State Refusal
state_of m = checked (check m) Err (λ n. Ok (told (control_of m) (used_rows m n)))

-- the first n words of some bytes
unfoldable pub words_in : List ℕ → ℕ → List ℕ
words_in bytes zero = []
words_in bytes (suc n) = words_in bytes n ++ word_at bytes (8 * n) ∷ []

-- of an image given as bytes: a broken last word is refusal 1
unfoldable pub state_in : List ℕ → Result State Refusal
state_in bytes = pick (eqb (length bytes % 8) 0) (state_of (words_in bytes (length bytes / 8))) (Err BadLength)
