-- What decoding answers after each of its four tests, from what the functions that make them say.
-- Assumes nothing.
use mathlib.Core.Path.{◌≡◌, refl, ap, ◌∙◌}
use mathlib.Core.Bool.{Bool, true, false, not}
use Prim.Native.Nat.{ℕ, ◌≤◌, ◌<◌}
use borrow.Author.Tests.{not-true, not-false, lt-ltb, le-ltb}
use Rattle.words.specs.Parts.{joined}
use Rattle.words.specs.Search.{place_of}
use Rattle.commands.specs.declared.Features.{Features}
use Rattle.commands.specs.declared.Command.{Command}
use Rattle.commands.specs.declared.Reason.TheVariants.{UnknownCode, FeatureAbsent, ReservedBit, BadParameter}
use Rattle.commands.specs.declared.Decoded.TheVariants.{Legal, Illegal}
use Rattle.commands.specs.Formats.{codes, how_many}
use Rattle.commands.specs.Decoding.{code_of, place_in, known_code, feature_present, clean, parameter_good, command_of, first, decode}
use Rattle.commands.proofs.Legality.{four}

module _ (f : Features) (lo hi : ℕ) where
  abbrev c : ℕ
  c = joined lo hi

  abbrev present : Bool
  present = feature_present f (code_of c)

  abbrev spotless : Bool
  spotless = clean f (place_in c) c

  abbrev sound : Bool
  sound = parameter_good (code_of c) c

  decided : (a b d e : Bool) → known_code c ≡ a → present ≡ b → spotless ≡ d → sound ≡ e → first (four a b d e) (Legal (command_of (code_of c) c)) ≡ decode f lo hi
  unfolding decode
  decided a b d e p q r s = rw (p, q, r, s)

  module _ (code k : ℕ) (read : code ≡ code_of c) (spot : k ≡ place_of codes code) where
    is-place : k ≡ place_in c
    is-place = spot ∙ ap (place_of codes) read

    known : k < how_many → known_code c ≡ true
    unfolding known_code
    known h = lt-ltb (place_in c) how_many (rw is-place at h)

    pub tells-unknown : how_many ≤ k → Illegal UnknownCode ≡ decode f lo hi
    unfolding known_code
    tells-unknown h = decided false present spotless sound (le-ltb (place_in c) how_many (rw is-place at h)) refl refl refl

    module _ (within : k < how_many) (x : Bool) (asked : x ≡ feature_present f code) where
      pub tells-absent : not x ≡ true → Illegal FeatureAbsent ≡ decode f lo hi
      tells-absent e = decided true false spotless sound (known within) (rw (asked, read) at (not-true x e)) refl refl

      module _ (has : not x ≡ false) (y : Bool) (looked : y ≡ clean f k c) where
        there : present ≡ true
        there = rw (asked, read) at (not-false x has)

        pub tells-reserved : not y ≡ true → Illegal ReservedBit ≡ decode f lo hi
        tells-reserved e = decided true true false sound (known within) there (rw (looked, is-place) at (not-true y e)) refl

        module _ (only : not y ≡ false) (z : Bool) (tried : z ≡ parameter_good code c) where
          clear : spotless ≡ true
          clear = rw (looked, is-place) at (not-false y only)

          pub tells-parameter : not z ≡ true → Illegal BadParameter ≡ decode f lo hi
          tells-parameter e = decided true true true false (known within) there clear (rw (tried, read) at (not-true z e))

          pub tells-legal : (r : Command) → not z ≡ false → r ≡ command_of code c → Legal r ≡ decode f lo hi
          tells-legal r e is =
              ap Legal (is ∙ ap (λ (n : ℕ). command_of n c) read) ∙ decided true true true true (known within) there clear (rw (tried, read) at (not-false z e))
