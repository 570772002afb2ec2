-- Document 02, T-09: decoding tells a reason exactly where its test is the first that fails, and none exactly where a command is legal.
-- Assumes nothing.
use mathlib.Core.Path.{◌≡◌, refl}
use mathlib.Core.Bool.{Bool, true, false, not, ◌&&◌}
use Prim.Native.Nat.{ℕ, ◌<◌}
use lib.Dec.{eqb}
use Rattle.words.specs.Parts.{is_set, joined}
use Rattle.words.specs.Ranges.{named}
use Rattle.words.proofs.Truth.{clash}
use Rattle.words.proofs.Masks.{spoilt}
use Rattle.commands.specs.declared.Features.{Features}
use Rattle.commands.specs.declared.Command.{Command}
use Rattle.commands.specs.declared.Reason.{Reason}
use Rattle.commands.specs.declared.Reason.TheVariants.{UnknownCode, FeatureAbsent, ReservedBit, BadParameter}
use Rattle.commands.specs.declared.Decoded.{Decoded}
use Rattle.commands.specs.declared.Decoded.TheVariants.{Legal, Illegal}
use Rattle.commands.specs.Formats.{shape_of, named_at}
use Rattle.commands.specs.Decoding.{code_of, place_in, known_code, feature_present, clean, parameter_good, command_of, none, first, is_legal, decode, reason_number}
use Rattle.commands.proofs.Legality.{four, clean_means}

-- it is told as illegal for this reason; it is told as legal
abbrev pub tells : Reason → Decoded → Bool
tells why (Legal command) = false
tells why (Illegal told) = eqb (reason_number why) (reason_number told)

abbrev pub tells_legal : Decoded → Bool
tells_legal (Legal command) = true
tells_legal (Illegal told) = false

-- by the four tests, whatever they are
unknown_first : (a b d e : Bool) (x : Command) → tells UnknownCode (first (four a b d e) (Legal x)) ≡ not a
unknown_first false b d e x = refl
unknown_first true false d e x = refl
unknown_first true true false e x = refl
unknown_first true true true false x = refl
unknown_first true true true true x = refl

absent_second : (a b d e : Bool) (x : Command) → tells FeatureAbsent (first (four a b d e) (Legal x)) ≡ (a && not b)
absent_second false b d e x = refl
absent_second true false d e x = refl
absent_second true true false e x = refl
absent_second true true true false x = refl
absent_second true true true true x = refl

reserved_third : (a b d e : Bool) (x : Command) → tells ReservedBit (first (four a b d e) (Legal x)) ≡ (a && b && not d)
reserved_third false b d e x = refl
reserved_third true false d e x = refl
reserved_third true true false e x = refl
reserved_third true true true false x = refl
reserved_third true true true true x = refl

parameter_last : (a b d e : Bool) (x : Command) → tells BadParameter (first (four a b d e) (Legal x)) ≡ (a && b && d && not e)
parameter_last false b d e x = refl
parameter_last true false d e x = refl
parameter_last true true false e x = refl
parameter_last true true true false x = refl
parameter_last true true true true x = refl

legal_else : (a b d e : Bool) (x : Command) → tells_legal (first (four a b d e) (Legal x)) ≡ (a && b && d && e)
legal_else false b d e x = refl
legal_else true false d e x = refl
legal_else true true false e x = refl
legal_else true true true false x = refl
legal_else true true true true x = refl

none-legal : (a b d e : Bool) (x : Command) → none (four a b d e) ≡ tells_legal (first (four a b d e) (Legal x))
none-legal false b d e x = refl
none-legal true false d e x = refl
none-legal true true false e x = refl
none-legal true true true false x = refl
none-legal true true true true x = refl

module _ (f : Features) (lo hi : ℕ) where
  abbrev c : ℕ
  c = joined lo hi

  abbrev known : Bool
  known = known_code c

  abbrev present : Bool
  present = feature_present f (code_of c)

  abbrev spotless : Bool
  spotless = clean f (place_in c) c

  abbrev sound : Bool
  sound = parameter_good (code_of c) c

  pub unknown-code : tells UnknownCode (decode f lo hi) ≡ not known
  unfolding decode
  unknown-code = unknown_first known present spotless sound (command_of (code_of c) c)

  pub feature-absent : tells FeatureAbsent (decode f lo hi) ≡ (known && not present)
  unfolding decode
  feature-absent = absent_second known present spotless sound (command_of (code_of c) c)

  pub reserved-bit : tells ReservedBit (decode f lo hi) ≡ (known && present && not spotless)
  unfolding decode
  reserved-bit = reserved_third known present spotless sound (command_of (code_of c) c)

  pub bad-parameter : tells BadParameter (decode f lo hi) ≡ (known && present && spotless && not sound)
  unfolding decode
  bad-parameter = parameter_last known present spotless sound (command_of (code_of c) c)

  pub legal-otherwise : tells_legal (decode f lo hi) ≡ (known && present && spotless && sound)
  unfolding decode
  legal-otherwise = legal_else known present spotless sound (command_of (code_of c) c)

  pub is-legal : is_legal f c ≡ tells_legal (decode f lo hi)
  unfolding is_legal decode
  is-legal = none-legal known present spotless sound (command_of (code_of c) c)

  -- a legal command is decoded as what its code says
  pub legal : is_legal f c ≡ true → decode f lo hi ≡ Legal (command_of (code_of c) c)
  unfolding is_legal decode
  legal q = by_tests known present spotless sound q
    where
      by_tests : (a b d e : Bool) → none (four a b d e) ≡ true → first (four a b d e) (Legal (command_of (code_of c) c)) ≡ Legal (command_of (code_of c) c)
      by_tests true true true true r = refl
      by_tests true true true false r = clash r refl
      by_tests true true false e r = clash r refl
      by_tests true false d e r = clash r refl
      by_tests false b d e r = clash r refl

-- a set bit that the code does not name
pub record Stain (f : Features) (k c : ℕ) : Type 0 where
  pub bit : ℕ
  pub within : bit < 128
  pub bit_set : is_set bit c ≡ true
  pub unnamed : named (named_at f (shape_of c) k) bit ≡ false

-- Reserved bits, one by one: the test fails exactly where there is one
module _ (f : Features) (k c : ℕ) where
  pub stained : clean f k c ≡ false → Stain f k c
  unfolding clean
  stained e = let s = spoilt (named (named_at f (shape_of c) k)) 128 c e in record { bit = s.bit; within = s.within; bit_set = s.bit_set; unnamed = s.fails }

  pub not_clean : Stain f k c → clean f k c ≡ false
  not_clean s = by_test (clean f k c) refl
    where
      by_test : (b : Bool) → clean f k c ≡ b → b ≡ false
      by_test false e = refl
      by_test true e = clash (clean_means f k c e s.bit s.within s.bit_set) s.unnamed
