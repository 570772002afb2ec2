-- What legal says, test by test and bit by bit.
-- Assumes nothing.
use mathlib.Core.Path.{◌≡◌, refl}
use mathlib.Core.Bool.{Bool, true, false, not}
use mathlib.Core.List.{List, [], ◌∷◌}
use Prim.Native.Nat.{ℕ, ◌<◌}
use Rattle.words.specs.Parts.{is_set}
use Rattle.words.specs.Ranges.{named}
use Rattle.words.proofs.Truth.{clash}
use Rattle.words.proofs.Masks.{reads, read_back}
use Rattle.commands.specs.declared.Features.{Features}
use Rattle.commands.specs.declared.Reason.{Reason}
use Rattle.commands.specs.declared.Reason.TheVariants.{UnknownCode, FeatureAbsent, ReservedBit, BadParameter}
use Rattle.commands.specs.Formats.{shape_of, named_at}
use Rattle.commands.specs.Decoding.{code_of, place_in, known_code, feature_present, clean, parameter_good, none, is_legal}

-- Reserved bits, one by one: each of the 128 bits that is set is named
pub clean_means : (f : Features) (k c : ℕ) → clean f k c ≡ true → (i : ℕ) → i < 128 → is_set i c ≡ true → named (named_at f (shape_of c) k) i ≡ true
unfolding clean
clean_means f k c e = reads (named (named_at f (shape_of c) k)) 128 c e

pub means_clean : (f : Features) (k c : ℕ) → ((i : ℕ) → i < 128 → is_set i c ≡ true → named (named_at f (shape_of c) k) i ≡ true) → clean f k c ≡ true
unfolding clean
means_clean f k c g = read_back (named (named_at f (shape_of c) k)) 128 c g

-- the four tests
pub record Tests (f : Features) (c : ℕ) : Type 0 where
  pub known : known_code c ≡ true
  pub present : feature_present f (code_of c) ≡ true
  pub spotless : clean f (place_in c) c ≡ true
  pub sound : parameter_good (code_of c) c ≡ true

-- the four, whatever they test
abbrev pub four : Bool → Bool → Bool → Bool → List (Reason × Bool)
four a b d e = (UnknownCode, not a) ∷ (FeatureAbsent, not b) ∷ (ReservedBit, not d) ∷ (BadParameter, not e) ∷ []

record All (a b d e : Bool) : Type 0 where
  first : a ≡ true
  second : b ≡ true
  third : d ≡ true
  fourth : e ≡ true

all_pass : (a b d e : Bool) → none (four a b d e) ≡ true → All a b d e
all_pass true true true true q = record { first = refl; second = refl; third = refl; fourth = refl }
all_pass true true true false q = clash q refl
all_pass true true false e q = clash q refl
all_pass true false d e q = clash q refl
all_pass false b d e q = clash q refl

module _ (f : Features) (c : ℕ) where
  pub legal-means : is_legal f c ≡ true → Tests f c
  unfolding is_legal
  legal-means q =
      let all = all_pass (known_code c) (feature_present f (code_of c)) (clean f (place_in c) c) (parameter_good (code_of c) c) q in
      record { known = all.first; present = all.second; spotless = all.third; sound = all.fourth }

  pub means-legal : Tests f c → is_legal f c ≡ true
  unfolding is_legal
  means-legal t = rw (t.known, t.present, t.spotless, t.sound)
