-- Document 01, A transaction: the laws of combining.
-- Assumes nothing.
use mathlib.Core.Path.{◌≡◌, refl, sym, ap, ap₂, ◌∙◌}
use mathlib.Core.Bool.{Bool, true, false, ◌||◌}
use Prim.Native.Nat.{ℕ, ◌<◌}
use lib.Dec.{eqb}
use borrow.Author.Tests.{eqb-true}
use Rattle.words.specs.Choice.{pick}
use Rattle.words.specs.Parts.{part}
use Rattle.words.specs.Ranges.{all}
use Rattle.words.proofs.Truth.{passed}
use Rattle.words.proofs.Table.{all-at}
use Rattle.attributes.specs.declared.Attributes.{Attributes}
use Rattle.attributes.specs.Formats.{is_device, nc_nc, osh, mem_attr_formed, sh_formed}
use Rattle.attributes.specs.Settling.{settled_sh, settled}
use Rattle.combining.specs.Combining.{combine_sh, combine_mem_attr, number, mem_attr_of, sh_of, combine, combined}
use Rattle.combining.proofs.Formed.{each_sh, at-two, associates, mem_attr_lt, sh_lt}
use Rattle.combining.proofs.Numbers.{same, number_of, mem_attr_is_formed, sh_is_formed, mem_attr_of_number, sh_of_number, ranked, rank-ranked, ranked-formed, number-ranked, number_lt}

-- well-formed types and shareabilities combine to well-formed ones
pub combine-formed : (m n : ℕ) → mem_attr_formed m ≡ true → mem_attr_formed n ≡ true → mem_attr_formed (combine_mem_attr m n) ≡ true
unfolding mem_attr_formed part
combine-formed = at-two 16 mem_attr_formed mem_attr_lt (λ m n. mem_attr_formed (combine_mem_attr m n)) (passed tt)

combine-ranked : (s t : ℕ) → combine_sh (ranked s) (ranked t) ≡ combine_sh s t
combine-ranked s t = rw (rank-ranked s, rank-ranked t)

pub combine-sh_formed : (s t : ℕ) → sh_formed (combine_sh s t) ≡ true
unfolding sh_formed
combine-sh_formed s t =
    rw (← combine-ranked s t)
    (at-two 4 sh_formed sh_lt (λ x y. sh_formed (combine_sh x y)) (passed tt) (ranked s) (ranked t) (ranked-formed s) (ranked-formed t))

-- what goes in need not be consistent: a Device type or iNC-oNC may come with any SH, and its number forgets which
abbrev keeps : ℕ → ℕ → ℕ → ℕ → Bool
keeps m n s t = eqb (combine (number m s) (number n t)) (number (combine_mem_attr m n) (combine_sh s t))

-- nothing is lost by that: numbers combine to the number that the rule gives for the types and shareabilities themselves
module _ (m n s t : ℕ) (f : mem_attr_formed m ≡ true) (g : mem_attr_formed n ≡ true) where
  pub raw : combine (number m s) (number n t) ≡ number (combine_mem_attr m n) (combine_sh s t)
  unfolding mem_attr_formed sh_formed part number mem_attr_of sh_of combine
  raw =
      ap₂ combine (sym (number-ranked m s)) (sym (number-ranked n t))
      ∙ eqb-true (combine (number m (ranked s)) (number n (ranked t))) (number (combine_mem_attr m n) (combine_sh (ranked s) (ranked t)))
      (at-two 4 sh_formed sh_lt (keeps m n)
      (at-two 16 mem_attr_formed mem_attr_lt (λ k l. each_sh (λ x. each_sh (keeps k l x))) (passed tt) m n f g)
      (ranked s) (ranked t) (ranked-formed s) (ranked-formed t))
      ∙ ap (number (combine_mem_attr m n)) (combine-ranked s t)

  pub raw-mem-attr : mem_attr_of (combine (number m s) (number n t)) ≡ combine_mem_attr m n
  raw-mem-attr = ap mem_attr_of raw ∙ mem_attr_of_number (combine_mem_attr m n) (combine_sh s t) (combine-formed m n f g) (combine-sh_formed s t)

  pub raw-sh : sh_of (combine (number m s) (number n t)) ≡ settled_sh (combine_mem_attr m n) (combine_sh s t)
  raw-sh = ap sh_of raw ∙ sh_of_number (combine_mem_attr m n) (combine_sh s t) (combine-formed m n f g) (combine-sh_formed s t)

settled_twice : (m s : ℕ) → settled_sh m (settled_sh m s) ≡ settled_sh m s
unfolding settled_sh
settled_twice m s = cases (is_device m || eqb m nc_nc)
  where
    cases : (b : Bool) → pick b osh (pick b osh s) ≡ pick b osh s
    cases true = refl
    cases false = refl

-- so step 5 makes the same of what the table answers as of what the rule says
pub settled-combined : (a : Attributes) (m s : ℕ) → mem_attr_formed a.memattr ≡ true → mem_attr_formed m ≡ true
    → settled (combined a m s) ≡ settled (record { memattr = combine_mem_attr a.memattr m; sh = combine_sh a.sh s; hints = a.hints })
unfolding settled combined
settled-combined a m s f g =
    rw (raw-mem-attr a.memattr m a.sh s f g, raw-sh a.memattr m a.sh s f g, settled_twice (combine_mem_attr a.memattr m) (combine_sh a.sh s))

-- two of the 29 numbers combine to one of them
pub combine_lt : (a b : ℕ) → a < 29 → b < 29 → combine a b < 29
unfolding combine
combine_lt a b h k =
    number_lt (combine_mem_attr (mem_attr_of a) (mem_attr_of b)) (combine_sh (sh_of a) (sh_of b))
    (combine-formed (mem_attr_of a) (mem_attr_of b) (mem_attr_is_formed a h) (mem_attr_is_formed b k))

-- the order of the two stages does not matter
pub commutative : (a b : ℕ) → a < 29 → b < 29 → combine a b ≡ combine b a
unfolding part number mem_attr_of sh_of combine
commutative a b h k =
    eqb-true (combine a b) (combine b a)
    (all-at 29 (λ y. eqb (combine a y) (combine y a)) (all-at 29 (λ x. all 29 (λ y. eqb (combine x y) (combine y x))) (passed tt) a h) b k)

-- 26, iWB-oWB and NSH, yields to everything
pub unit : (c : ℕ) → c < 29 → combine 26 c ≡ c
unfolding part number mem_attr_of sh_of combine
unit = same (λ c. combine 26 c) (λ c. c) tt

-- nor does the grouping: for types and for shareabilities, so for numbers
mem_attr_associative : (m n k : ℕ) → mem_attr_formed m ≡ true → mem_attr_formed n ≡ true → mem_attr_formed k ≡ true
    → combine_mem_attr (combine_mem_attr m n) k ≡ combine_mem_attr m (combine_mem_attr n k)
unfolding mem_attr_formed part
mem_attr_associative = associates 16 mem_attr_formed mem_attr_lt combine_mem_attr tt

sh_associative : (s t u : ℕ) → sh_formed s ≡ true → sh_formed t ≡ true → sh_formed u ≡ true
    → combine_sh (combine_sh s t) u ≡ combine_sh s (combine_sh t u)
unfolding sh_formed
sh_associative = associates 4 sh_formed sh_lt combine_sh tt

module _ (a b c : ℕ) (h : a < 29) (k : b < 29) (l : c < 29) where
  pub associative : combine (combine a b) c ≡ combine a (combine b c)
  unfolding combine
  associative =
      let m = mem_attr_of a in
      let n = mem_attr_of b in
      let o = mem_attr_of c in
      let f = mem_attr_is_formed a h in
      let g = mem_attr_is_formed b k in
      let e = mem_attr_is_formed c l in
      ap (combine (combine a b)) (sym (number_of c l))
      ∙ raw (combine_mem_attr m n) o (combine_sh (sh_of a) (sh_of b)) (sh_of c) (combine-formed m n f g) e
      ∙ ap₂ number (mem_attr_associative m n o f g e) (sh_associative (sh_of a) (sh_of b) (sh_of c) (sh_is_formed a h) (sh_is_formed b k) (sh_is_formed c l))
      ∙ sym (raw m (combine_mem_attr n o) (sh_of a) (combine_sh (sh_of b) (sh_of c)) f (combine-formed n o g e))
      ∙ ap (λ (x : ℕ). combine x (combine b c)) (number_of a h)
