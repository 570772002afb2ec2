-- Tests over all that is well formed, carried to what is at hand.
-- Assumes nothing.
use mathlib.Core.Path.{◌≡◌}
use mathlib.Core.Bool.{Bool, true, not, ◌&&◌, ◌||◌}
use mathlib.Core.Logic.{⊎_elim}
use Prim.Native.Nat.{ℕ, ◌<◌}
use native.Mathlib.Omega.{arith}
use lib.Dec.{T, eqb, ltb}
use borrow.Author.Tests.{ltb-true, eqb-true}
use Rattle.words.specs.Ranges.{all}
use Rattle.words.proofs.Truth.{passed, left, either, then_true}
use Rattle.words.proofs.Table.{all-at}
use Rattle.attributes.specs.Formats.{mem_attr_formed, sh_formed}

-- each number below n that is well formed passes
abbrev pub among : ℕ → (ℕ → Bool) → (ℕ → Bool) → Bool
among n formed p = all n (λ k. not (formed k) || p k)

abbrev pub regroups : (ℕ → ℕ → ℕ) → ℕ → ℕ → ℕ → Bool
regroups op i j k = eqb (op (op i j) k) (op i (op j k))

module _ (n : ℕ) (formed : ℕ → Bool) (bound : (k : ℕ) → formed k ≡ true → k < n) where
  pub at : (p : ℕ → Bool) → among n formed p ≡ true → (k : ℕ) → formed k ≡ true → p k ≡ true
  at p e k f = then_true (all-at n (λ i. not (formed i) || p i) e k (bound k f)) f

  pub at-two : (p : ℕ → ℕ → Bool) → among n formed (λ i. among n formed (p i)) ≡ true
      → (i j : ℕ) → formed i ≡ true → formed j ≡ true → p i j ≡ true
  at-two p e i j f g = at (p i) (at (λ k. among n formed (p k)) e i f) j g

  pub associates : (op : ℕ → ℕ → ℕ) → T (among n formed (λ i. among n formed (λ j. among n formed (regroups op i j))))
      → (i j k : ℕ) → formed i ≡ true → formed j ≡ true → formed k ≡ true → op (op i j) k ≡ op i (op j k)
  associates op t i j k f g h =
      eqb-true (op (op i j) k) (op i (op j k))
      (at (regroups op i j) (at-two (λ x y. among n formed (regroups op x y)) (passed t) i j f g) k h)

pub mem_attr_lt : (m : ℕ) → mem_attr_formed m ≡ true → m < 16
unfolding mem_attr_formed
mem_attr_lt m f =
    let below = ltb m 16 in
    let no4 = not (eqb m 4) in
    let no8 = not (eqb m 8) in
    ltb-true m 16 (left below no4 (left (below && no4) no8 (left (below && no4 && no8) (not (eqb m 12)) f)))

pub sh_lt : (s : ℕ) → sh_formed s ≡ true → s < 4
unfolding sh_formed
sh_lt s f =
    ⊎_elim
    (λ e. ⊎_elim (λ n. omega (arith, eqb-true s 0 n)) (λ o. omega (arith, eqb-true s 2 o)) (either (eqb s 0) (eqb s 2) e))
    (λ i. omega (arith, eqb-true s 3 i))
    (either (eqb s 0 || eqb s 2) (eqb s 3) f)

-- each well-formed MemAttr, and each well-formed SH
abbrev pub each_mem_attr : (ℕ → Bool) → Bool
each_mem_attr p = among 16 mem_attr_formed p

abbrev pub each_sh : (ℕ → Bool) → Bool
each_sh p = among 4 sh_formed p
