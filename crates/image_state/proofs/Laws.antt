-- The state of an image, case by case, and the words in its bytes.
-- Assumes nothing.
use mathlib.Core.Path.{◌≡◌, refl, ◌∙◌}
use mathlib.Core.List.{List, [], ◌∷◌}
use Prim.Native.Nat.{ℕ, zero, suc, ◌+◌, ◌*◌, ◌/◌, ◌%◌, ◌≤◌, ◌<◌}
use native.Mathlib.Numerals.{add-one}
use native.Mathlib.Omega.{arith}
use lib.ListN.{length, take, set, length-append}
use lib.Seq.{take-suc-set}
use borrow.Author.Tests.{eq-eqb, ne_eqb}
use Rattle.words.specs.Bytes.{word_at}
use Rattle.image.specs.declared.Refusal.{Refusal}
use Rattle.image.specs.declared.Refusal.TheVariants.{BadLength}
use Rattle.std.specs.Prelude.{Err, Ok}
use Rattle.image.specs.Image.{max_rows, control_of, check, used_rows}
use Rattle.image.proofs.Checks.{Long, refuses_length, says}
use Rattle.image_state.specs.States.{told, state_of, words_in, state_in}

module _ (m : List ℕ) where
  pub refused : (why : Refusal) → check m ≡ Err why → state_of m ≡ Err why
  unfolding state_of
  refused why e = rw e

  pub is : (n : ℕ) → check m ≡ Ok n → state_of m ≡ Ok (told (control_of m) (used_rows m n))
  unfolding state_of
  is n e = rw e

  -- an accepted image has its control word and n rows
  pub has-rows : (n : ℕ) → check m ≡ Ok n → 4 * n + 1 ≤ length m
  has-rows n e = omega (arith, ((says m).accepted n e).size.words)

pub words_length : (bytes : List ℕ) (n : ℕ) → length (words_in bytes n) ≡ n
unfolding words_in
words_length bytes zero = refl
words_length bytes (suc n) = length-append (words_in bytes n) (word_at bytes (8 * n) ∷ []) ∙ rw (words_length bytes n) (omega arith)

-- one word more
pub gathered : (bytes out : List ℕ) (i : ℕ) → i < length out → take i out ≡ words_in bytes i
    → take (i + 1) (set out i (word_at bytes (8 * i))) ≡ words_in bytes (i + 1)
unfolding words_in
gathered bytes out i h e = rw (add-one i, take-suc-set out i (word_at bytes (8 * i)) h, e)

module _ (bytes : List ℕ) where
  pub broken : (length bytes ≡ 8 * (length bytes / 8) → ⊥) → state_in bytes ≡ Err BadLength
  unfolding state_in
  broken d = rw (ne_eqb (length bytes % 8) 0 (λ e. d (omega arith)))

  pub whole : length bytes ≡ 8 * (length bytes / 8) → state_in bytes ≡ state_of (words_in bytes (length bytes / 8))
  unfolding state_in
  whole e = rw (eq-eqb (length bytes % 8) 0 (omega arith))

  -- more words than any image has
  pub too_long : length bytes ≡ 8 * (length bytes / 8) → 1 + 4 * max_rows < length bytes / 8 → state_in bytes ≡ Err BadLength
  too_long e h = whole e ∙ refused (words_in bytes (length bytes / 8)) BadLength (refuses_length (words_in bytes (length bytes / 8)) never)
    where
      never : (n : ℕ) → Long (words_in bytes (length bytes / 8)) n → ⊥
      never n l = omega (arith, l.words, l.few, words_length bytes (length bytes / 8))
