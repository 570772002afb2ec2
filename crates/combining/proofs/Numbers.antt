-- Document 01, A transaction: each of the 29 consistent values has one number.
-- Assumes nothing.
use mathlib.Core.Path.{◌≡◌, refl}
use mathlib.Core.Bool.{Bool, true, false}
use Prim.Native.Nat.{ℕ, ◌<◌}
use lib.Dec.{T, eqb, ltb}
use borrow.Author.Tests.{ltb-true, eqb-true}
use Rattle.words.specs.Choice.{pick}
use Rattle.words.specs.Ranges.{all}
use Rattle.words.proofs.Truth.{passed}
use Rattle.words.proofs.Table.{all-at}
use Rattle.attributes.specs.Formats.{mem_attr_formed, sh_formed}
use Rattle.attributes.specs.Settling.{settled_sh}
use Rattle.combining.specs.Combining.{rank, sh_of_rank, number, mem_attr_of, sh_of}
use Rattle.combining.proofs.Formed.{each_mem_attr, each_sh, at, mem_attr_lt, sh_lt}

-- two functions that agree at each number
pub same : (f g : ℕ → ℕ) → T (all 29 (λ c. eqb (f c) (g c))) → (c : ℕ) → c < 29 → f c ≡ g c
same f g t c h = eqb-true (f c) (g c) (all-at 29 (λ k. eqb (f k) (g k)) (passed t) c h)

-- the type and the shareability of a number have that number
pub number_of : (c : ℕ) → c < 29 → number (mem_attr_of c) (sh_of c) ≡ c
unfolding number mem_attr_of sh_of
number_of = same (λ c. number (mem_attr_of c) (sh_of c)) (λ c. c) tt

-- they are well formed
pub mem_attr_is_formed : (c : ℕ) → c < 29 → mem_attr_formed (mem_attr_of c) ≡ true
unfolding mem_attr_formed mem_attr_of
mem_attr_is_formed = all-at 29 (λ c. mem_attr_formed (mem_attr_of c)) (passed tt)

pub sh_is_formed : (c : ℕ) → c < 29 → sh_formed (sh_of c) ≡ true
unfolding sh_formed sh_of
sh_is_formed = all-at 29 (λ c. sh_formed (sh_of c)) (passed tt)

-- and settled: step 5 leaves the shareability alone
pub sh_settled : (c : ℕ) → c < 29 → settled_sh (mem_attr_of c) (sh_of c) ≡ sh_of c
unfolding settled_sh mem_attr_of sh_of
sh_settled = same (λ c. settled_sh (mem_attr_of c) (sh_of c)) sh_of tt

-- a test that passes at each well-formed pair
at_pair : (p : ℕ → ℕ → Bool) → T (each_mem_attr (λ m. each_sh (p m)))
    → (m s : ℕ) → mem_attr_formed m ≡ true → sh_formed s ≡ true → p m s ≡ true
at_pair p t m s f g = at 4 sh_formed sh_lt (p m) (at 16 mem_attr_formed mem_attr_lt (λ k. each_sh (p k)) (passed t) m f) s g

-- the other way round: a number keeps the type, and the shareability as settled
pub mem_attr_of_number : (m s : ℕ) → mem_attr_formed m ≡ true → sh_formed s ≡ true → mem_attr_of (number m s) ≡ m
unfolding mem_attr_formed sh_formed number mem_attr_of
mem_attr_of_number m s f g =
    eqb-true (mem_attr_of (number m s)) m (at_pair (λ n t. eqb (mem_attr_of (number n t)) n) tt m s f g)

pub sh_of_number : (m s : ℕ) → mem_attr_formed m ≡ true → sh_formed s ≡ true → sh_of (number m s) ≡ settled_sh m s
unfolding mem_attr_formed sh_formed number sh_of settled_sh
sh_of_number m s f g =
    eqb-true (sh_of (number m s)) (settled_sh m s) (at_pair (λ n t. eqb (sh_of (number n t)) (settled_sh n t)) tt m s f g)

-- an ill-formed SH counts as NSH, so that a number asks nothing of SH
by_rank : (p : ℕ → Type 0) → p 0 → p 1 → p 2 → (s : ℕ) → p (rank s)
by_rank p none inner outer s = cases (eqb s 2) (eqb s 3)
  where
    cases : (a b : Bool) → p (pick a 2 (pick b 1 0))
    cases true b = outer
    cases false true = inner
    cases false false = none

abbrev pub ranked : ℕ → ℕ
ranked s = sh_of_rank (rank s)

pub rank-ranked : (s : ℕ) → rank (ranked s) ≡ rank s
rank-ranked = by_rank (λ r. rank (sh_of_rank r) ≡ r) refl refl refl

pub ranked-formed : (s : ℕ) → sh_formed (ranked s) ≡ true
unfolding sh_formed
ranked-formed = by_rank (λ r. sh_formed (sh_of_rank r) ≡ true) refl refl refl

pub number-ranked : (m s : ℕ) → number m (ranked s) ≡ number m s
unfolding number
number-ranked m s = rw (rank-ranked s)

-- a number is below 29
pub number_lt : (m s : ℕ) → mem_attr_formed m ≡ true → number m s < 29
unfolding mem_attr_formed sh_formed number
number_lt m s f =
    rw (← number-ranked m s)
    (ltb-true (number m (ranked s)) 29 (at_pair (λ n t. ltb (number n t) 29) tt m (ranked s) f (ranked-formed s)))
