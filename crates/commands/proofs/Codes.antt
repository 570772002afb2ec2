-- Codes, as the arms of a match know them.
-- Assumes nothing.
use mathlib.Core.Path.{◌≡◌, refl, sym, ap, ◌∙◌}
use mathlib.Core.Bool.{Bool, true, false, not, ◌||◌}
use mathlib.Core.List.{List, [], ◌∷◌, map}
use Prim.Native.Nat.{ℕ, suc, ◌-◌, ◌<◌}
use lib.Dec.{eqb}
use lib.ListN.{length, take}
use borrow.Author.Tests.{eqb-true, eq-eqb, ne_eqb}
use Rattle.words.specs.Choice.{pick}
use Rattle.words.specs.Ranges.{get}
use Rattle.words.specs.Search.{place_of}
use Rattle.words.proofs.Truth.{then_true}
use Rattle.words.proofs.Table.{all-at}
use Rattle.commands.specs.declared.Features.{Features}
use Rattle.commands.specs.declared.Command.TheVariants.{DptiPa}
use Rattle.commands.specs.Formats.{dpt_page_bits, size_bits, leaf_bits, is_set_in, dpt, Format, formats, how_many, code_in, needs_in, command_in}
use Rattle.commands.specs.Decoding.{at, feature_present, command_of}

-- the last arm knows that it is none of the keys, one after the other
abbrev pub NoneOf : Type 0 → List ℕ → ℕ → Type 0
NoneOf N [] x = N
NoneOf N (k ∷ ks) x = NoneOf (N × (x ≡ k → ⊥)) ks x

before : (N : Type 0) (ks : List ℕ) (x : ℕ) → NoneOf N ks x → N
before N [] x n = n
before N (k ∷ ks) x n = (before (N × (x ≡ k → ⊥)) ks x n).0

-- so it has no place among them, and no line of the table
pub no_place : (N : Type 0) (ks : List ℕ) (x : ℕ) → NoneOf N ks x → length ks ≡ place_of ks x
no_place N [] x n = refl
no_place N (k ∷ ks) x n =
    let M = N × (x ≡ k → ⊥) in
    rw (ne_eqb x k (before M ks x n).1) (ap suc (no_place M ks x n))

pub no_line : {A : Type 0} → (column : Format → A) (last : A) (N : Type 0) (ls : List Format) (x : ℕ) → NoneOf N (map code_in ls) x → last ≡ at column last ls x
no_line column last N [] x n = refl
no_line column last N (l ∷ ls) x n =
    let M = N × (x ≡ code_in l → ⊥) in
    rw (ne_eqb x (code_in l) (before M (map code_in ls) x n).1) (no_line column last M ls x n)

-- The last arm of a match stands for the last line of the table: its code is the one that is left, or none.
abbrev pub others : List Format
others = take (how_many - 1) formats

either_way : {A : Type 0} → (b : Bool) (x : A) → x ≡ pick b x x
either_way true x = refl
either_way false x = refl

pub last-present : (f : Features) (x : ℕ) → NoneOf Unit (map code_in others) x → dpt f ≡ feature_present f x
unfolding feature_present
last-present f x n =
    either_way (eqb x 0x73) (dpt f) ∙ no_line (λ (l : Format). needs_in l f) (pick (eqb x 0x73) (dpt f) (dpt f)) Unit others x n

pub last-command : (c x : ℕ) → NoneOf Unit (map code_in others) x → DptiPa (get dpt_page_bits c) (get size_bits c) (is_set_in leaf_bits c) ≡ command_of x c
unfolding command_of
last-command c x n =
    let is = DptiPa (get dpt_page_bits c) (get size_bits c) (is_set_in leaf_bits c) in
    either_way (eqb x 0x73) is ∙ no_line (λ (l : Format). command_in l c) (pick (eqb x 0x73) is is) Unit others x n

-- The same of places: the last arm of a match on a place of the table stands for the last place.
abbrev places_before : List ℕ
places_before = 0 ∷ 1 ∷ 2 ∷ 3 ∷ 4 ∷ 5 ∷ 6 ∷ 7 ∷ 8 ∷ 9 ∷ 10 ∷ 11 ∷ 12 ∷ 13 ∷ 14 ∷ 15 ∷ 16 ∷ 17 ∷ 18 ∷ []

pub last-place : (k : ℕ) → k < how_many → NoneOf Unit places_before k → k ≡ 19
last-place k h n =
    eqb-true k 19
    (then_true (all-at how_many (λ i. not (eqb (place_of places_before i) 19) || eqb i 19) refl k h)
    (eq-eqb (place_of places_before k) 19 (sym (no_place Unit places_before k n))))
